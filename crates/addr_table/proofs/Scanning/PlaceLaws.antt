-- The frames of an address are the frames of its place.
use Rattle.std.proofs.Common.{◌≡◌, ◌∙◌, ℕ, List, [], ◌∷◌, refl, sym, ap, subst}
use Rattle.std.specs.Prelude.{Option, Some, None, Result, Ok, Err}
use Rattle.std.specs.Option.{option_map, option_map_or}
use Rattle.dwarf_bytes.specs.declared.fault.LoadFault.{LoadFault}
use Rattle.dwarf_bytes.specs.declared.fault.Section.TheVariants as names
use Rattle.dwarf_bytes.specs.Bind.{◌>>=◌, unless}
use Rattle.dwarf_bytes.specs.Refusals.{in_section}
use Rattle.dwarf_bytes.specs.Elf.{elf_fault}
use Rattle.dwarf_lines.specs.Lines.{Lines, lines_in}
use Rattle.dwarf_entries.specs.Scopes.{Scope, Tree, tree_of}
use Rattle.dwarf_entries.specs.Order.{AreInOrder}
use Rattle.dwarf_entries.proofs.Results.ScopePlaces.{scopes-in-order}
use Rattle.addr_table.specs.Rows.{row_at}
use Rattle.addr_table.specs.Chains.{chain_of}
use Rattle.addr_table.specs.Places.{last, scope_at, place_of, place_at}
use Rattle.addr_table.specs.Frames.{frames_of, scan_at, frames_at, place_chain, line_sections}
use Rattle.addr_table.specs.CrossChecks.{cross_checks_of}
use Rattle.addr_table.specs.Decoded.{Decoded, decoded, entry_sections}
use Rattle.addr_table.specs.Module.{place_in, frames_in, scan, by_decoded}
use Rattle.addr_table.proofs.FrameWalks.FrameChains.{chain-enclosing}

last-none : (chain : List Scope) → last chain ≡ None → chain ≡ []
last-none [] h = refl
last-none (s ∷ []) h = cc
last-none (s ∷ t ∷ chain) h = absurd (no (last-none (t ∷ chain) h))
  where
    no : (let f : List Scope → List Scope = λ xs. xs in f (t ∷ chain) ≡ f []) → ⊥
    no e = cc

-- the chain of an address is the chain of its last scope
chain-place_of : (a : ℕ) (scopes : List Scope) → AreInOrder scopes
    → place_chain a (scope_at scopes a) scopes ≡ chain_of a scopes
chain-place_of a scopes order = by (last (chain_of a scopes)) refl
  where
    by : (t : Option Scope) → last (chain_of a scopes) ≡ t
        → place_chain a (option_map (λ s. s.number) t) scopes ≡ chain_of a scopes
    by None is = sym (last-none (chain_of a scopes) is)
    by (Some t) is = sym (chain-enclosing a scopes t order is)

place-frames : (bytes : List ℕ) (lines : Lines) (tree : Tree) (a : ℕ) (row scope : Option ℕ)
    → option_map_or (frames_at bytes lines tree) (place_of row scope a) []
    ≡ frames_of bytes lines (place_chain a scope tree.scopes) row
unfolding frames_at
place-frames bytes lines tree a None None = refl
place-frames bytes lines tree a None (Some scope) = refl
place-frames bytes lines tree a (Some row) scope = refl

-- the rest of decoding after the entries
abbrev after_tree : Lines → Tree → Result Decoded LoadFault
after_tree lines tree = in_section names.DebugInfo (cross_checks_of lines tree)
    >>= λ _. Ok (record { lines = lines; tree = tree })

pub order-decoded : (bytes : List ℕ) (d : Decoded) → decoded bytes ≡ Ok d → AreInOrder d.tree.scopes
unfolding decoded
order-decoded bytes d is = by_elf (elf_fault bytes) is
  where
    by_joins : {Y : Type 0} (lines : Lines) (tree : Tree) (r : Result Y LoadFault)
        → (r >>= λ _. Ok (record { lines = lines; tree = tree })) ≡ Ok d → tree ≡ d.tree
    by_joins lines tree (Ok y) h = same h
      where
        same : {x : Decoded} → (let f : Decoded → Result Decoded LoadFault = λ z. Ok z in f x ≡ f d)
            → x.tree ≡ d.tree
        same h = cc
    by_joins lines tree (Err e) h = cc

    by_tree : (lines : Lines) (r : Result Tree LoadFault) → tree_of (entry_sections bytes) ≡ r
        → (r >>= after_tree lines) ≡ Ok d
        → AreInOrder d.tree.scopes
    by_tree lines (Ok tree) t h =
        subst (λ (z : Tree). AreInOrder z.scopes)
        (by_joins lines tree (in_section names.DebugInfo (cross_checks_of lines tree)) h)
        (scopes-in-order (entry_sections bytes) tree t)
    by_tree lines (Err e) t h = cc

    by_lines : (r : Result Lines LoadFault)
        → (r >>= λ lines. tree_of (entry_sections bytes) >>= after_tree lines) ≡ Ok d
        → AreInOrder d.tree.scopes
    by_lines (Ok lines) h = by_tree lines (tree_of (entry_sections bytes)) refl h
    by_lines (Err e) h = cc

    by_elf : (o : Option LoadFault)
        → (unless o bytes >>= λ _. lines_in (line_sections bytes)
        >>= λ lines. tree_of (entry_sections bytes) >>= after_tree lines) ≡ Ok d
        → AreInOrder d.tree.scopes
    by_elf None h = by_lines (lines_in (line_sections bytes)) h
    by_elf (Some e) h = cc

-- the result for an address is the result for its place
pub scan-place : (bytes : List ℕ) (a : ℕ)
    → scan bytes a ≡ option_map_or (frames_in bytes) (place_in bytes a) []
unfolding scan place_in frames_in scan_at place_at
scan-place bytes a = by (decoded bytes) refl
  where
    by : (r : Result Decoded LoadFault) → decoded bytes ≡ r
        → by_decoded [] (λ d. scan_at bytes d.lines d.tree a) r ≡ option_map_or
        (λ place. by_decoded [] (λ d. frames_at bytes d.lines d.tree place) r)
        (by_decoded None (λ d. place_at d.lines.rows d.tree.scopes a) r) []
    by (Ok d) is =
        sym (place-frames bytes d.lines d.tree a (row_at d.lines.rows a) (scope_at d.tree.scopes a)
        ∙ ap (λ (chain : List Scope). frames_of bytes d.lines chain (row_at d.lines.rows a))
        (chain-place_of a d.tree.scopes (order-decoded bytes d is)))
    by (Err e) is = refl
