-- Attribute lists with a memoized rest.
use Rattle.dwarf_bytes.proofs.Items.{ItemLaws.{first_step, items_from-step}, Turns.SoFar}
use Rattle.dwarf_bytes.specs.Items.{At, End, Item, Lists, Next, items_from, without_offset}
use Rattle.dwarf_bytes.specs.declared.fault.Cause.{Cause}
use Rattle.dwarf_forms.proofs.Moves.{attribute_at-advances, attributes-ok, attributes_at-lists}
use Rattle.dwarf_forms.{proofs.Moves.{found, found-again, found-twice}, specs.Tables.attribute_at}
use Rattle.dwarf_forms.specs.Tables.{attributes_at, shares_name}
use Rattle.dwarf_forms.specs.declared.attribute.AttributeSpecification.{AttributeSpecification}
use Rattle.std.proofs.Common.{Bool, Err, List, Ok, Result, [], append-nil, append_assoc, arith}
use Rattle.std.proofs.Common.{false, if◌then◌else◌, length, refl, true, ℕ, ◌++◌, ◌==◌, ◌||◌, ◌∙◌}
use Rattle.std.{proofs.{Common.{◌∷◌, ◌≡◌}, lemmas.List.Folds.list_any-append}, specs.List.list_any}
use Rattle.dwarf_bytes.specs.declared.fault.Cause.TheVariants as causes

abbrev pub named : ℕ → AttributeSpecification → Bool
named name attribute = attribute.name == name

-- an attribute is also read after other attributes if none has its name
pub attribute-again : (section : List ℕ) (before other : List AttributeSpecification) (at : ℕ)
    (x : AttributeSpecification) (next : ℕ) → attribute_at section before at ≡ Ok (Item x next)
    → list_any (named x.name) other ≡ false → attribute_at section other at ≡ Ok (Item x next)
attribute-again section before other at x next read new =
    let f = found section before at (Item x next) read in
    found-again section other at (Item x next) (f.0, (f.1.0, new))

pub end-again : (section : List ℕ) (before other : List AttributeSpecification) (at next : ℕ)
    → attribute_at section before at ≡ Ok (End next) → attribute_at section other at ≡ Ok (End next)
end-again section before other at next read =
    found-again section other at (End next) (found section before at (End next) read)

-- ---- names that two lists share, by the attributes of the second list

pub shares-cons : (own rest : List AttributeSpecification) (x : AttributeSpecification)
    → shares_name own (x ∷ rest) ≡ (list_any (named x.name) own || shares_name own rest)
shares-cons [] rest x = refl
shares-cons (a ∷ own) rest x = let others = shares-cons own rest x in grind arith

pub shares-none : (own : List AttributeSpecification) → shares_name own [] ≡ false
shares-none [] = refl
shares-none (a ∷ own) = shares-none own

-- ---- lists

-- one more attribute is refused if an attribute before the list has its name
one-more : (b c : Bool) (x : AttributeSpecification) (xs : List AttributeSpecification)
    (mid next : ℕ) (read : Result (Next AttributeSpecification) Cause)
    (items : List AttributeSpecification → ℕ → Result (List AttributeSpecification × ℕ) At)
    (before : List AttributeSpecification) (at : ℕ) → (b ≡ true → read ≡ Err causes.AttrTwice)
    → (b ≡ false → read ≡ Ok (Item x mid)) → without_offset (items (before ++ x ∷ []) mid)
    ≡ (if c then Err causes.AttrTwice else Ok (xs, next))
    → without_offset (first_step items before at read)
    ≡ (if b || c then Err causes.AttrTwice else Ok (x ∷ xs, next))
one-more b c x xs mid next read items before at twice once rest = grind (arith, twice, once, rest)

-- the result of reading a list after more attributes
lists-again : (section : List ℕ) (own before : List AttributeSpecification) (at : ℕ)
    (xs : List AttributeSpecification) (next : ℕ) → Lists (attribute_at section) before at xs next
    → without_offset (items_from (length section) (attribute_at section) (own ++ before) at)
    ≡ (if shares_name own xs then Err causes.AttrTwice else Ok (xs, next))
lists-again section own before at [] next listed = rw (
  items_from-step _ _ (attribute_at-advances section) (own ++ before) at,
  end-again section before (own ++ before) at next listed,
  shares-none own,
) refl
lists-again section own before at (x ∷ xs) next listed =
    let all = list_any-append (named x.name) own before in
    let f = found section before at (Item x listed.0) listed.1 in
    let rest = lists-again section own (before ++ x ∷ []) listed.0 xs next listed.2 in
    rw (
      items_from-step _ _ (attribute_at-advances section) (own ++ before) at,
      shares-cons own xs x,
    ) (one-more (list_any (named x.name) own) (shares_name own xs) x xs listed.0 next
    (attribute_at section (own ++ before) at)
    (items_from (length section) (attribute_at section)) (own ++ before) at
    (λ is. found-twice section before (own ++ before) at x listed.0 f (all ∙ rw is refl))
    (λ is. found-again section (own ++ before) at (Item x listed.0)
    (f.0, (f.1.0, all ∙ rw (is, f.1.1) refl))) (rw (append_assoc own before (x ∷ [])) rest))

-- the result of reading a list after other attributes
pub attributes_append : (section : List ℕ) (own : List AttributeSpecification) (at : ℕ)
    (rest : List AttributeSpecification) (next : ℕ) → attributes_at section at ≡ Ok (rest, next)
    → without_offset (items_from (length section) (attribute_at section) own at)
    ≡ (if shares_name own rest then Err causes.AttrTwice else Ok (rest, next))
attributes_append section own at rest next read =
    rw append-nil at (lists-again section own [] at rest next
    (attributes_at-lists section at (rest, next) read))

-- a list without the names of the attributes before it continues them
pub list-continues : (section : List ℕ) (first : ℕ) (own : List AttributeSpecification) (at : ℕ)
    (rest : List AttributeSpecification) (after : ℕ)
    → SoFar (length section) (attribute_at section) first own at
    → attributes_at section at ≡ Ok (rest, after) → shares_name own rest ≡ false
    → attributes_at section first ≡ Ok (own ++ rest, after)
list-continues section first own at rest after so_far read apart =
    let whole = rw apart at (attributes_append section own at rest after read) in
    attributes-ok section first (own ++ rest, after) (grind (arith, so_far, whole))
