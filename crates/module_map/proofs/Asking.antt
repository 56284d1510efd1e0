-- The result of an ask, and its number of comparisons.
use Rattle.std.proofs.Common.{◌≡◌, ℕ, zero, suc, ◌+◌, ◌-◌, ◌<◌, ◌≤◌, min, ◌^◌, Bool, true, false}
use Rattle.std.proofs.Common.{List, [], ◌∷◌, length, map, get_or, refl, sym, ap, ◌∙◌, subst, arith}
use Rattle.std.specs.Prelude.{Option, None, Some, position, option_map, nat_lt, ◌&&◌}
use Rattle.std.specs.Option.{option_and_then}
use Rattle.std.proofs.lemmas.Bool.{leb-true, true≢false}
use Rattle.std.proofs.lemmas.List.{length-map}
use Rattle.std.proofs.lemmas.List.Quantifiers.{position-Some}
use Rattle.addr_table.specs.Module.{place_in, segments_in}
use Rattle.addr_table.specs.Steps.{bits, counted}
use Rattle.addr_table.specs.declared.steps.Steps.{Steps}
use Rattle.addr_table.specs.declared.place.Place.{Place}
use Rattle.module_map.specs.World.{Loaded, start_of, end_of, holds}
use Rattle.module_map.specs.Answers.{asked, found_at, holder}
use Rattle.module_map.specs.Counts.{TakesCompares, least_of, segments_of}
use Rattle.module_map.specs.declared.asked.Asked.{Asked}
use Rattle.module_map.specs.declared.asked.Found.{Found}
use Rattle.module_map.specs.Private.Serials.{NumberedModule, loaded_of}
use Rattle.module_map.proofs.Positions.{position_of_map}
use Rattle.module_map.proofs.Worlds.{found_none, found_some, slice_get_map}
use Rattle.module_map.proofs.Changing.{world_of}
use Rattle.addr_table.proofs.Searching.StepLaws.{counted_all}

abbrev holding : ℕ → NumberedModule → Bool
holding address h = holds address h.loaded

pub in-list : (p : NumberedModule → Bool) (hs : List NumberedModule) (i : ℕ)
    → position p hs ≡ Some i → i < length hs
in-list p [] i e = cc
in-list p (h ∷ hs) i e = (position-Some p (h ∷ hs) i h e).0

first_of : (a b : Bool) → (a && b) ≡ true → a ≡ true
first_of true b e = refl
first_of false b e = absurd (true≢false (sym e))

pub begins-by : (hs : List NumberedModule) (address at : ℕ) → position (holding address) hs
    ≡ Some at → (d : NumberedModule)
    → start_of (get_or hs at d).loaded ≤ address
begins-by hs address at e d = leb-true (start_of (get_or hs at d).loaded) address
    (first_of _ (nat_lt address (end_of (get_or hs at d).loaded))
    (position-Some (holding address) hs at d e).1)

pub asked-none : (hs : List NumberedModule) (loads address : ℕ) → position (holding address) hs
    ≡ None
    → ◌≡◌ {A = Asked} (record { address = address; found = None })
    (asked (world_of hs loads) address)
unfolding asked
asked-none hs loads address e =
    sym (ap (λ o. let a : Asked = record
    { address = address; found = option_and_then (found_at (world_of hs loads) address) o } in
    a) (position_of_map (holds address) loaded_of hs ∙ e))

pub asked-some : (hs : List NumberedModule) (loads address at : ℕ) (d : NumberedModule)
    (place : Option Place)
    → position (holding address) hs ≡ Some at
    → place ≡ place_in (get_or hs at d).loaded.bytes (address - (get_or hs at d).loaded.base)
    → ◌≡◌ {A = Asked} (record {
      address = address;
      found =
          Some (record { at = at; place = place });
    }) (asked (world_of hs loads) address)
unfolding asked
asked-some hs loads address at d place e is =
    sym (ap (λ o. let a : Asked = record
    { address = address; found = option_and_then (found_at (world_of hs loads) address) o } in
    a) (position_of_map (holds address) loaded_of hs ∙ e)
    ∙ ap (λ (o : Option Loaded). let a : Asked =
    record {
      address = address;
      found =
          option_map (λ (m : Loaded). let f : Found =
          record { at = at; place = place_in m.bytes (address - m.base) } in f) o;
    } in a)
    (slice_get_map hs at d (in-list (holding address) hs at e))
    ∙ ap (λ (p : Option Place). let f : Found = record { at = at; place = p } in let a : Asked =
    record { address = address; found = Some f } in a) (sym is))

-- ---- counts

counted-compares : (n : ℕ) (s : Steps) → s.compares ≡ 0
    → (counted n s).compares ≡ min n (2 ^ 64 - 1)
counted-compares zero s e = e ∙ omega arith
counted-compares (suc n) s e = ap (λ k. min (k + 1) (2 ^ 64 - 1)) (counted-compares n s e)
    ∙ omega arith

takes : (o : Option Loaded) (b : ℕ) (n k : ℕ) → least_of o ≤ n → n ≤ b + 1
    → k ≤ bits (segments_of o) + 1
    → (least_of o ≤ min (n + k) (2 ^ 64 - 1))
    × (min (n + k) (2 ^ 64 - 1) ≤ b + bits (segments_of o) + 2)
takes None b n k least le_ fits = (omega arith, omega arith)
takes (Some m) b n k least le_ fits = (omega arith, omega arith)

pub takes-compares : (hs : List NumberedModule) (loads address n k : ℕ) (s t : Steps)
    → s.compares ≡ 0 → t ≡ counted (n + k) s
    → least_of (holder (world_of hs loads) address) ≤ n
    → n ≤ bits (length hs) + 1 → k ≤ bits (segments_of (holder (world_of hs loads) address)) + 1
    → TakesCompares (world_of hs loads) address t.compares
takes-compares hs loads address n k s t none is least up fits =
    let both = takes (holder (world_of hs loads) address) (bits (length hs)) n k least up fits in
    let count : t.compares ≡ min (n + k) (2 ^ 64 - 1) = ap (λ (u : Steps). u.compares) is
    ∙ counted-compares (n + k) s none in
    let long : bits (length (map loaded_of hs)) ≡ bits (length hs) = ap bits (simp length-map) in
    let lower = both.0 in let upper = both.1 in
    (rw count lower, rw (count, long) upper)

pub takes-none : (hs : List NumberedModule) (loads address n : ℕ) (s t : Steps)
    → position (holding address) hs ≡ None → s.compares ≡ 0
    → t ≡ counted n s → n ≤ bits (length hs) + 1
    → TakesCompares (world_of hs loads) address t.compares
takes-none hs loads address n s t e none is up =
    takes-compares hs loads address n 0 s t none (is ∙ ap (λ k. counted k s) (omega arith))
    (subst (λ o. least_of o ≤ n) (sym (found_none (holds address) hs e)) (omega arith)) up
    (omega arith)

pub takes-some : (hs : List NumberedModule) (loads address at n k : ℕ) (d : NumberedModule)
    (s t u : Steps)
    → position (holding address) hs ≡ Some at → s.compares ≡ 0 → t ≡ counted n s → u ≡ counted k t
    → n ≤ bits (length hs) + 1 → 2 ≤ n → k ≤ bits (length (segments_in
    (get_or hs at d).loaded.bytes)) +
    1 → TakesCompares (world_of hs loads) address u.compares
takes-some hs loads address at n k d s t u e none first then up two fits =
    let found = found_some (holds address) hs at d e in
    takes-compares hs loads address n k s u none (counted_all n k s t u first then)
    (subst (λ o. least_of o ≤ n) (sym found) two) up
    (subst (λ o. k ≤ bits (segments_of o) + 1) (sym found) fits)
