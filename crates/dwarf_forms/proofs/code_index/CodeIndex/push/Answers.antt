use Rattle.std.proofs.Common.{arith, inl, inr, refl}
use Rattle.dwarf_forms.proofs.CodeLaws.{code-push}
use Rattle.dwarf_forms.proofs.code_index.CodeIndex.push.Goals as goal

pub invariant_of-self-then-code-place : goal.invariant_of-self-then-code-place
invariant_of-self-then-code-place c =
    code-push c.self.inside.codes.items c.push.new.self.items c.self.inside.moved
    c.self.inside.moved c.args.code c.len-place.result (rw c.self.view_is c.requires)
    c.in_ok-push.ensures.items (omega (arith, c.len-place.ensures, c.self.inside.codes.ok.0))
    (λ _. inl (c.if-code-place.true, refl)) c.self.invariant

pub invariant_of-self-in_default : goal.invariant_of-self-in_default
invariant_of-self-in_default c =
    code-push c.self.inside.codes.items c.push.new.self.items c.self.inside.moved
    c.insert.new.self c.args.code c.len-place.result (rw c.self.view_is c.requires)
    c.in_ok-push.ensures.items (omega (arith, c.len-place.ensures, c.self.inside.codes.ok.0))
    (λ q. inr (c.in_default.ensures.updates.0 q)) c.self.invariant
