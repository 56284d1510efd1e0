use Rattle.std.proofs.Common.{◌≡◌, arith, ap}
use Rattle.module_map.proofs.cache.Cache.len.Goals as goal

pub returns-in-Some-clause-within : goal.returns-in-Some-clause-within
returns-in-Some-clause-within c = let fits = c.self.invariant c.in-Some.answers c.in-Some.is in
    let capacity : c.self.inside.capacity ≡ c.args.self.now.capacity =
    ap (λ r. r.capacity) c.self.view_is in
    let count = c.len.ensures.len in
    omega arith
