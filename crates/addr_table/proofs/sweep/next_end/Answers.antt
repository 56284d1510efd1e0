use Rattle.std.proofs.Common.{inl, inr, arith, subst, ◌≡◌, ℕ, true}
use Rattle.std.specs.Prelude.{◌==◌}
use Rattle.std.specs.List.{list_any}
use Rattle.std.proofs.lemmas.Bool.{cases_lt}
use Rattle.addr_table.proofs.sweep.next_end.Goals as goal

pub returns-in-Some-Some : goal.returns-in-Some-Some
returns-in-Some-Some c =
    let s = c.in-Some-Some.ensures in
    let e = c.in-Some-Some.ensures' in
    record {
      starts_from = λ d lt. omega (arith, s.1 d, c.min.ensures);
      ends_from = λ k d lt. omega (arith, e.0 k d lt, c.min.ensures);
      there = elim (cases_lt c.in-Some-Some.end c.in-Some-Some.start) [
        | inl lt ↦
            let same : c.in-Some-Some.end ≡ c.min.result = omega (arith, c.min.ensures, lt) in
            let A : ℕ → Type 0 = λ f. list_any (λ x. x.at == f) c.args.ends.now ≡ true in
            inr (subst A same e.1)
        | inr ge ↦ inl (s.0, λ d. omega (arith, s.1 d, c.min.ensures, ge))
      ];
    }
