-- Cross-checks between entries and line programs, scope by scope and unit by unit.
use Rattle.std.proofs.Common.{◌≡◌, ◌∙◌, ℕ, ◌+◌, ◌-◌, ◌<◌, ◌≤◌, min, ◌&&◌, Bool, List, length}
use Rattle.std.proofs.Common.{get_or, drop, arith, true, false, refl, sym}
use Rattle.std.proofs.Common.{ap, subst}
use Rattle.std.specs.Prelude.{Option, Result, Ok, Err, slice_range}
use Rattle.std.specs.List.{Contains}
use Rattle.std.proofs.lemmas.List.{get_or_default, length-take, length-drop, get_or-take}
use Rattle.std.proofs.lemmas.List.{get_or-drop}
use Rattle.dwarf_bytes.specs.declared.fault.LoadFault.{LoadFault}
use Rattle.dwarf_bytes.specs.declared.fault.Cause.TheVariants as causes
use Rattle.dwarf_bytes.specs.Items.{each}
use Rattle.dwarf_entries.specs.declared.scope.Root.{Root}
use Rattle.dwarf_entries.specs.declared.scope.Scope.{Scope as Kept}
use Rattle.dwarf_walk.specs.declared.scope_kind.ScopeKind.TheVariants.{Inlined}
use Rattle.dwarf_entries.specs.Scopes.{Scope, Own, own_of, call_file_at, Tree}
use Rattle.dwarf_entries.specs.Order.{AreInOrder, HasDataOf}
use Rattle.addr_table.specs.Chains.{is_kind}
use Rattle.dwarf_lines.specs.Lines.{Lines}
use Rattle.addr_table.specs.CrossChecks.{is_invalid_root, is_invalid_scope}
use Rattle.addr_table.specs.CrossChecks.{check_scope, check_unit, cross_checks_of, files_at}
use Rattle.addr_table.specs.CrossChecks.{RefusesAs}
use Rattle.addr_table.specs.Private.CallFiles.{is_beyond, HaveFiles, HaveStmtListOf}
use Rattle.addr_table.proofs.Chains.ChainLaws.{number-at}
use Rattle.addr_table.proofs.Decoding.EachTurns.{EachSoFar, each_none, each-more, each-invalid}
use Rattle.addr_table.proofs.Decoding.EachTurns.{each-over}

-- the scopes of a unit before a number are valid
abbrev pub ScopesSoFar : Lines → List Scope → ℕ → ℕ → ℕ → Type 0
ScopesSoFar lines scopes first past number =
    EachSoFar (check_scope lines) (slice_range scopes first past) (number - first)

pub scopes-none : (lines : Lines) (scopes : List Scope) (first past : ℕ)
    → ScopesSoFar lines scopes first past first
scopes-none lines scopes first past =
    let none : first - first ≡ 0 = omega arith in
    rw none (each_none (check_scope lines) (slice_range scopes first past))

-- a scope of the unit
pub record OfUnit (scopes : List Scope) (first past number : ℕ) : Type 0 where
  pub low : first ≤ number
  pub high : number < min past (length scopes)

number-within : (scopes : List Scope) (first past number : ℕ) → OfUnit scopes first past number
    → number - first < length (slice_range scopes first past)
number-within scopes first past number h =
    let low : first ≤ number = h.low in
    let high : number < min past (length scopes) = h.high in
    let len : length (slice_range scopes first past) ≡ min (past - first) (length scopes - first) =
    length-take (past - first) (drop first scopes)
    ∙ ap (min (past - first)) (length-drop first scopes) in
    omega arith

there : (scopes : List Scope) (first past number : ℕ) (d : Scope) → OfUnit scopes first past number
    → get_or scopes number d ≡ get_or (slice_range scopes first past) (number - first)
    (get_or scopes number d)
there scopes first past number d h =
    let low : first ≤ number = h.low in
    let high : number < min past (length scopes) = h.high in
    let s : Scope = get_or scopes number d in
    let back : first + (number - first) ≡ number = omega arith in
    get_or_default scopes number d (get_or scopes number d) (omega arith)
    ∙ (ap (λ (n : ℕ). get_or scopes n (get_or scopes number d)) (sym back)
    ∙ (sym (get_or-drop first scopes (number - first) (get_or scopes number d))
    ∙ sym (get_or-take (past - first) (drop first scopes) (number - first) (get_or scopes number d)
    (omega arith))))

pub scopes-more : (lines : Lines) (scopes : List Scope) (first past number : ℕ) (d : Scope)
    → OfUnit scopes first past number
    → ScopesSoFar lines scopes first past number → is_invalid_scope lines (get_or scopes number d)
    ≡ false
    → ScopesSoFar lines scopes first past (number + 1)
scopes-more lines scopes first past number d of h good =
    let low : first ≤ number = of.low in
    let next : number + 1 - first ≡ number - first + 1 = omega arith in
    rw next
    (each-more (check_scope lines) (slice_range scopes first past) (number - first)
    (get_or scopes number d) tt h
    (number-within scopes first past number of) (there scopes first past number d of)
    (rw good refl))

pub scopes-invalid : (lines : Lines) (scopes : List Scope) (first past number at : ℕ) (d : Scope)
    → OfUnit scopes first past number
    → ScopesSoFar lines scopes first past number → is_invalid_scope lines (get_or scopes number d)
    ≡ true
    → at ≡ (get_or scopes number d).offset
    → each (λ _ s. check_scope lines s) (slice_range scopes first past) ≡ Err (causes.CallFile, at)
scopes-invalid lines scopes first past number at d of h bad is =
    rw is
    (each-invalid (check_scope lines) (slice_range scopes first past) (number - first)
    (get_or scopes number d)
    (causes.CallFile, (get_or scopes number d).offset) h (number-within scopes first past number of)
    (there scopes first past number d of)
    (rw bad refl))

pub scopes-over : (lines : Lines) (scopes : List Scope) (first past number : ℕ)
    → ScopesSoFar lines scopes first past number
    → min past (length scopes) ≤ number → RefusesAs (Ok tt)
    (each (λ _ s. check_scope lines s) (slice_range scopes first past))
scopes-over lines scopes first past number h past_is =
    let len : length (slice_range scopes first past) ≡ min (past - first) (length scopes - first) =
    length-take (past - first) (drop first scopes)
    ∙ ap (min (past - first)) (length-drop first scopes) in
    each-over (check_scope lines) (slice_range scopes first past) (number - first) h (omega arith)

-- the number of files of the line program of a scope of the unit
pub files-there : (lines : Lines) (scopes : List Scope) (files first past number : ℕ) (d : Scope)
    → AreInOrder scopes → OfUnit scopes first past number → HaveFiles lines scopes files first past
    → files_at lines (get_or scopes number d).stmt_list ≡ files
files-there lines scopes files first past number d order of have =
    let low : first ≤ number = of.low in
    let high : number < min past (length scopes) = of.high in
    let lt : number < length scopes = omega arith in
    let at = number-at 0 (length scopes) number scopes d order.numbered lt in
    let is : (get_or scopes number d).number ≡ number = omega (arith, at.0) in
    have (get_or scopes number d)
    (number, lt, sym (get_or_default scopes number d (get_or scopes number d) lt))
    (omega (arith, is)) (omega (arith, is))

-- the same number for all scopes of the unit of a root
pub files-of-root : (lines : Lines) (scopes : List Scope) (root : Root) (files : ℕ)
    → HaveStmtListOf root scopes → files ≡ files_at lines root.stmt_list
    → HaveFiles lines scopes files root.first root.past
files-of-root lines scopes root files have is =
    λ scope within low high. ap (files_at lines) (have scope within low high) ∙ sym is

pub unit-valid : (lines : Lines) (scopes : List Scope) (root : Root)
    (outcome : Result (Unit {0}) LoadFault)
    → is_invalid_root lines root ≡ false
    → RefusesAs outcome (each (λ _ s. check_scope lines s)
    (slice_range scopes root.first root.past))
    → RefusesAs outcome (check_unit lines scopes root)
unit-valid lines scopes root outcome good h = rw good h

-- unit by unit
abbrev pub UnitsSoFar : Lines → List Scope → List Root → ℕ → Type 0
UnitsSoFar lines scopes roots i = EachSoFar (check_unit lines scopes) roots i

-- the root at an index
root-there : (tree : Tree) (roots : List Root) (i : ℕ) (d : Root) → roots ≡ tree.roots
    → i < length roots
    → (i < length tree.roots) × (get_or roots i d ≡ get_or tree.roots i (get_or roots i d))
root-there tree roots i d are lt = (
  subst (λ (rs : List Root). i < length rs) are lt,
  get_or_default roots i d (get_or roots i d) lt
      ∙ ap (λ (rs : List Root). get_or rs i (get_or roots i d)) are,
)

pub root-contained : (tree : Tree) (roots : List Root) (i : ℕ) (d : Root) → roots ≡ tree.roots
    → i < length roots → Contains tree.roots (get_or roots i d)
root-contained tree roots i d are lt =
    let t = root-there tree roots i d are lt in
    (i, t.0, sym t.1)

pub units-more : (lines : Lines) (tree : Tree) (roots : List Root) (i : ℕ) (d : Root) (u : Unit {0})
    → roots ≡ tree.roots
    → UnitsSoFar lines tree.scopes tree.roots i → i < length roots
    → RefusesAs (Ok u) (check_unit lines tree.scopes (get_or roots i d))
    → UnitsSoFar lines tree.scopes tree.roots (i + 1)
units-more lines tree roots i d u are h lt good =
    let t = root-there tree roots i d are lt in
    each-more (check_unit lines tree.scopes) tree.roots i (get_or roots i d) good.0 h t.0 t.1 good.1

pub units-invalid : (lines : Lines) (tree : Tree) (roots : List Root) (i : ℕ) (d : Root)
    (fault : LoadFault) → roots ≡ tree.roots
    → UnitsSoFar lines tree.scopes tree.roots i → i < length roots
    → RefusesAs (Err fault) (check_unit lines tree.scopes (get_or roots i d))
    → RefusesAs (Err fault) (cross_checks_of lines tree)
unfolding cross_checks_of
units-invalid lines tree roots i d fault are h lt bad =
    let t = root-there tree roots i d are lt in (
      bad.0,
      each-invalid (check_unit lines tree.scopes) tree.roots i (get_or roots i d)
          (fault.cause, fault.at) h t.0 t.1 bad.1,
    )

pub units-over : (lines : Lines) (tree : Tree) (roots : List Root) (i : ℕ) → roots ≡ tree.roots
    → UnitsSoFar lines tree.scopes tree.roots i → length roots ≤ i
    → RefusesAs (Ok tt) (cross_checks_of lines tree)
unfolding cross_checks_of
units-over lines tree roots i are h past =
    each-over (check_unit lines tree.scopes) tree.roots i h
    (subst (λ (rs : List Root). length rs ≤ i) are past)

-- ---- the data of a scope of the program

pub returned-invalid : (lines : Lines) (scopes : List Scope) (k : Kept) (s : Scope) (files : ℕ)
    (b : Bool) → HasDataOf scopes k s → files_at lines s.stmt_list ≡ files
    → b ≡ (is_kind Inlined (own_of k).kind && is_beyond files
    (call_file_at scopes (own_of k).number))
    → b ≡ is_invalid_scope lines s
unfolding is_invalid_scope
returned-invalid lines scopes k s files b tells files_are is =
    is
    ∙ (ap (λ (o : Own). is_kind Inlined o.kind && is_beyond files
    (call_file_at scopes (own_of k).number)) tells.own_is
    ∙ (ap (λ (f : Option ℕ). is_kind Inlined s.kind && is_beyond files f) tells.call_file_is
    ∙ ap (λ n. is_kind Inlined s.kind && is_beyond n s.call_file) (sym files_are)))

pub returned-offset : (scopes : List Scope) (k : Kept) (s : Scope) → HasDataOf scopes k s
    → (own_of k).offset ≡ s.offset
returned-offset scopes k s tells = ap (λ (o : Own). o.offset) tells.own_is
