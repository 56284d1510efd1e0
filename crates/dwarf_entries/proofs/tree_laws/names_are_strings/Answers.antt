use Rattle.dwarf_entries.proofs
use proofs.{All, AttributeValue, Bool, Cause, CompilationUnit, DebugInfo, DebugLineStr, DebugStr}
use proofs.{EntryNames, IfSome, IsTextOf, List, Member, None, Ok, Option, Result, Scope, Section}
use proofs.{Sections, Some, StrOffsets, Table, TextOffset, Tree, arith, bind_ok, cond, cstr_at}
use proofs.{get_or, item_at, length, names_of, optional, reading, reading-ok, same-ok, scope-at}
use proofs.{section_bytes, slice_get-get_or, text-encoded, text_at, text_in, text_of, tree-parts}
use proofs.{tree_of, ℕ, ◌+◌, ◌>>=◌, ◌≡◌}
use Rattle.dwarf_entries.proofs.tree_laws.names_are_strings.Goals as goal

-- ---- a string that is found in a section

found-encoded : (bytes : List ℕ) (at : ℕ) (found : List ℕ) → text_at bytes at ≡ Ok found
    → cstr_at bytes at ≡ Ok (found, at + length found + 1)
unfolding text_at cstr_at
found-encoded bytes at found h = grind arith

text_in-is_text : (s : Sections) (name : Section) (at : ℕ) (found : TextOffset)
    → text_in name (section_bytes s name) at ≡ Ok found → IsTextOf s found
text_in-is_text s name at found h =
    let bytes : List ℕ = section_bytes s name in
    let content = bind_ok (reading (text_at bytes at)) _ found h in
    rw (← same-ok _ found content.2) (
      content.0,
      at + length content.0 + 1,
      text-encoded bytes at content.0 _ (found-encoded bytes at content.0
          (reading-ok (text_at bytes at) content.0 content.1)),
    )

-- ---- the names of a scope

-- A property of the string that one of four reads finds.
of-text : {X : Type 0} (P : Type 0) (a b c : Bool) (x y z : Result X Cause) (r : Result ℕ Cause)
    (w : ℕ → Result X Cause) (found : X) → cond a x (cond b y (cond c z (r >>= w))) ≡ Ok found
    → (x ≡ Ok found → P) → (y ≡ Ok found → P) → (z ≡ Ok found → P)
    → ((at : ℕ) → w at ≡ Ok found → P) → P
of-text P a b c x y z r w found h one two three four = grind arith

text_of-is_text : (s : Sections) (str_offsets : Option Table) (value : AttributeValue)
    (found : TextOffset) → text_of s str_offsets value ≡ Ok found → IsTextOf s found
text_of-is_text s str_offsets value found h =
    of-text (IsTextOf s found) _ _ _ _ _ _
    (item_at StrOffsets s.debug_str_offsets str_offsets value.number)
    (text_in DebugStr s.debug_str) found h
    (text_in-is_text s DebugInfo value.number found) (text_in-is_text s DebugStr value.number found)
    (text_in-is_text s DebugLineStr value.number found) (λ at. text_in-is_text s DebugStr at found)

first-is_text : (s : Sections) (first : Option (CompilationUnit × AttributeValue))
    (found : Option TextOffset) → optional (λ at. text_of s at.0.bases.str_offsets at.1) first
    ≡ Ok found → IfSome found (IsTextOf s)
first-is_text s None found h = rw (← same-ok None found h) tt
first-is_text s (Some at) found h =
    let y = bind_ok (text_of s at.0.bases.str_offsets at.1) _ found h in
    rw (← same-ok _ found y.2) (text_of-is_text s at.0.bases.str_offsets at.1 y.0 y.1)

abbrev AreTexts : Sections → Option TextOffset → Option TextOffset → Type 0
AreTexts s name linkage_name = IfSome name (IsTextOf s) × IfSome linkage_name (IsTextOf s)

names-are_texts : (s : Sections) (units : List CompilationUnit) (m : Member) (found : EntryNames)
    → names_of s units m ≡ Ok found → AreTexts s found.name found.linkage_name
names-are_texts s units m found h = grind (arith, bind_ok, same-ok, first-is_text)

all-strings : (s : Sections) (tree : Tree) → tree_of s ≡ Ok tree
    → All (λ (scope : Scope). AreTexts s scope.name scope.linkage_name) tree.scopes
all-strings s tree h k d lt =
    let t = tree-parts s tree h in
    let at = scope-at t.1 k (get_or tree.scopes k d) (slice_get-get_or tree.scopes k d lt) in
    rw (at.name_is, at.linkage_name_is)
    (names-are_texts s t.0 at.site.member at.names at.names_are)

pub returns : goal.returns
returns c = record {
  names = λ s tree h k d lt. (all-strings s tree h k d lt).0;
  linkage_names = λ s tree h k d lt. (all-strings s tree h k d lt).1;
}
