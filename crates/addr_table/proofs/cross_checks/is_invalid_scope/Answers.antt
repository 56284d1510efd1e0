use Rattle.std.proofs.Common.{◌≡◌, ◌∙◌, Bool, false, ◌&&◌, sym, ap}
use Rattle.dwarf_walk.specs.declared.scope_kind.ScopeKind.{ScopeKind}
use Rattle.dwarf_walk.specs.declared.scope_kind.ScopeKind.TheVariants.{Subprogram, Inlined}
use Rattle.addr_table.specs.Chains.{is_kind}
use Rattle.addr_table.proofs.Decoding.CrossCheckLaws.{returned-invalid}
use Rattle.addr_table.proofs.cross_checks.is_invalid_scope.Goals as goal

of_subprogram : (kind : ScopeKind) (b : Bool) → kind ≡ Subprogram
    → false ≡ (is_kind Inlined kind && b)
of_subprogram kind b is = ap (λ k. is_kind Inlined k && b) (sym is)

of_inlined : (kind : ScopeKind) (b c : Bool) → kind ≡ Inlined → c ≡ b
    → c ≡ (is_kind Inlined kind && b)
of_inlined kind b c is same = same ∙ ap (λ k. is_kind Inlined k && b) (sym is)

pub returns-in-Subprogram : goal.returns-in-Subprogram
returns-in-Subprogram c = λ lines s tells files. returned-invalid lines _ _ s _ _ tells files
    (of_subprogram _ _ (sym c.kind.ensures ∙ c.in-Subprogram.is))

pub returns-in-Inlined : goal.returns-in-Inlined
returns-in-Inlined c = λ lines s tells files. returned-invalid lines _ _ s _ _ tells files
    (of_inlined _ _ _ (sym c.kind.ensures ∙ c.in-Inlined.is)
    (rw (← c.call_file.ensures) c.is_beyond.ensures))
