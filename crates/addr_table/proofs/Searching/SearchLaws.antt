-- The segment that contains an address, by the number of segments that start at or before it.
use Rattle.std.proofs.Common.{◌≡◌, ℕ, zero, suc, ◌+◌, ◌-◌, ◌*◌, ◌^◌, ◌<◌, ◌≤◌, List, [], ◌∷◌, true}
use Rattle.std.proofs.Common.{false, ◌&&◌, refl, ap, sym, ◌∙◌, subst, arith, length, get_or, inl}
use Rattle.std.proofs.Common.{inr}
use Rattle.std.specs.Prelude.{Option, Some, None, find, option_and_then, nat_lt, nat_le, IfSome}
use Rattle.std.proofs.lemmas.Bool.Decides.{nat_tests}
use Rattle.std.proofs.lemmas.Bool.{cases_lt}
use Rattle.std.proofs.lemmas.Nat.{mul-le, pow-add, pow_below}
use Rattle.std.proofs.lemmas.List.{get_or_default}
use Rattle.addr_table.specs.declared.place.Place.{Place}
use Rattle.addr_table.specs.Segments.{Segment, is_in, place_among, AreDisjoint}
use Rattle.addr_table.specs.Places.{place_of}
use Rattle.addr_table.specs.declared.steps.Steps.{Steps}
use Rattle.addr_table.specs.Steps.{counted}
use Rattle.addr_table.proofs.Elements.{each-at}
use Rattle.addr_table.proofs.Searching.StepLaws.{counted-one, counted-decoded}
use Rattle.addr_table.specs.Private.Segments.{CountsStarted}

pub nonempty-at : (list : List Segment) (k : ℕ) (d : Segment) → AreDisjoint list → k < length list
    → (get_or list k d).from < (get_or list k d).to
nonempty-at [] k d h lt = absurd (omega arith)
nonempty-at (c ∷ list) zero d h lt = h.0
nonempty-at (c ∷ list) (suc k) d h lt = nonempty-at list k d h.2 (omega arith)

pub found_at : (list : List Segment) (k : ℕ) (d : Segment) (a : ℕ) → AreDisjoint list
    → k < length list
    → (get_or list k d).from ≤ a
    → a < (get_or list k d).to
    → find (is_in a) list ≡ Some (get_or list k d)
found_at [] k d a h lt from to = absurd (omega arith)
found_at (c ∷ list) zero d a h lt from to =
    let held : (nat_le c.from a && nat_lt a c.to) ≡ true = grind (arith, nat_tests) in rw held refl
found_at (c ∷ list) (suc k) d a h lt from to =
    let within : k < length list = omega arith in
    let past : c.to ≤ (get_or list k d).from = each-at (λ e. c.to ≤ e.from) list k d h.1 within in
    let out : (nat_le c.from a && nat_lt a c.to) ≡ false = grind (arith, nat_tests) in
    rw out (found_at list k d a h.2 within from to)

pub none-at : (list : List Segment) (n : ℕ) (d : Segment) (a : ℕ) → AreDisjoint list
    → n ≤ length list
    → ((m : ℕ) → m + 1 ≡ n → (get_or list m d).to ≤ a)
    → (n < length list → a < (get_or list n d).from)
    → find (is_in a) list ≡ None
none-at [] n d a h le before after = refl
none-at (c ∷ list) zero d a h le before after =
    let above : a < c.from = after (omega arith) in
    let full : c.from < c.to = h.0 in
    let out : (nat_le c.from a && nat_lt a c.to) ≡ false = grind (arith, nat_tests) in
    rw out (none-at list zero d a h.2 (omega arith) (λ m none. absurd (omega arith)) (λ some.
    let past : c.to ≤ (get_or list zero d).from =
    each-at (λ e. c.to ≤ e.from) list zero d h.1 some in omega arith))
none-at (c ∷ list) (suc zero) d a h le before after =
    let past : c.to ≤ a = before zero (omega arith) in
    let out : (nat_le c.from a && nat_lt a c.to) ≡ false = grind (arith, nat_tests) in
    rw out (none-at list zero d a h.2 (omega arith) (λ m none. absurd (omega arith))
    (λ some. after (omega arith)))
none-at (c ∷ list) (suc (suc n)) d a h le before after =
    let within : n < length list = omega arith in
    let last : (get_or list n d).to ≤ a = before (suc n) (omega arith) in
    let past : c.to ≤ (get_or list n d).from = each-at (λ e. c.to ≤ e.from) list n d h.1 within in
    let full : (get_or list n d).from < (get_or list n d).to = nonempty-at list n d h.2 within in
    let out : (nat_le c.from a && nat_lt a c.to) ≡ false = grind (arith, nat_tests) in
    rw out (none-at list (suc n) d a h.2 (omega arith) (λ m is. before (suc m) (omega arith))
    (λ some. after (omega arith)))

-- After u steps from length n, length s remains.
pub record IsHalved (n s u : ℕ) : Type 0 where
  pub left : s * 2 ^ u ≤ n
  pub bits : (k : ℕ) → n < 2 ^ k → u ≤ k
  pub some : s < n → 1 ≤ u

products : (t p : ℕ) → t * (p * 2) ≡ t * 2 * p
products t p = omega arith

pow-le : (k u : ℕ) → k ≤ u → 2 ^ k ≤ 2 ^ u
pow-le k u le = elim (cases_lt k u) [
  | inl lt ↦ let less : 2 ^ k < 2 ^ u = pow_below k u lt in omega arith
  | inr ge ↦ let same : k ≡ u = omega arith in rw same (omega arith)
]

pub not-halved : (n : ℕ) → IsHalved n n 0
not-halved n = record {
  left = omega arith;
  bits = λ k lt. omega arith;
  some = λ lt. absurd (omega (arith, lt));
}

pub halved : (n s t u : ℕ) → IsHalved n s u → 0 < s → t * 2 ≤ s → IsHalved n t (u + 1)
halved n s t u h some le = record { left = left; bits = bits; some = λ _. omega arith }
  where
    left : t * 2 ^ (u + 1) ≤ n
    left =
        let whole : s * 2 ^ u ≤ n = h.left in
        let less : t * 2 * 2 ^ u ≤ s * 2 ^ u = mul-le (t * 2) (2 ^ u) s (2 ^ u) le (omega arith) in
        let power : 2 ^ (u + 1) ≡ 2 ^ u * 2 = pow-add 2 u 1 in
        let same : t * (2 ^ u * 2) ≡ t * 2 * 2 ^ u = products t (2 ^ u) in
        rw (power, same) (omega arith)

    bits : (k : ℕ) → n < 2 ^ k → u + 1 ≤ k
    bits k lt = elim (cases_lt u k) [
      | inl below ↦ omega arith
      | inr past ↦
          let whole : s * 2 ^ u ≤ n = h.left in
          let one : 1 * 2 ^ u ≤ s * 2 ^ u =
          mul-le 1 (2 ^ u) s (2 ^ u) (omega arith) (omega arith) in
          let powers : 2 ^ k ≤ 2 ^ u = pow-le k u past in
          absurd (omega arith)
    ]

-- segments before low start at or before the address; segments from high on start after it
pub record Searching (list : List Segment) (a low high : ℕ) : Type 0 where
  pub order : low ≤ high
  pub within : high ≤ length list
  pub before : (d : Segment) (m : ℕ) → m + 1 ≡ low → (get_or list m d).from ≤ a
  pub after : (d : Segment) → high < length list → a < (get_or list high d).from

pub searching-low : (list : List Segment) (a low high m : ℕ) → Searching list a low high → m < high
    → ((d : Segment) → (get_or list m d).from ≤ a)
    → Searching list a (m + 1) high
searching-low list a low high m h lt reached = record {
  order = omega arith;
  within = h.within;
  before = λ d k is. let same : m ≡ k = omega arith in let P : ℕ → Type 0 =
      λ n. (get_or list n d).from ≤ a in subst P same (reached d);
  after = h.after;
}

pub searching-high : (list : List Segment) (a low high m : ℕ) → Searching list a low high → low ≤ m
    → m < high
    → ((d : Segment) → a < (get_or list m d).from) → Searching list a low m
searching-high list a low high m h le lt beyond = record {
  order = le;
  within = let all : high ≤ length list = h.within in omega arith;
  before = h.before;
  after = λ d some. beyond d;
}

-- the number of comparisons made while n was reduced to s
abbrev pub Counted : ℕ → ℕ → Steps → Steps → Type 0
Counted n s old new = (u : ℕ) × IsHalved n s u × (new ≡ counted u old)

pub counted-none : (n : ℕ) (steps : Steps) → Counted n n steps steps
counted-none n steps = (0, not-halved n, refl)

pub counted-more : (n s t : ℕ) (old before after : Steps) → Counted n s old before → 0 < s
    → t * 2 ≤ s → after ≡ counted 1 before
    → Counted n t old after
counted-more n s t old before after h some le one =
    (h.0 + 1, halved n s t h.0 h.1 some le, counted-one h.0 old before after h.2 one)

-- the number of comparisons of a search among n segments: at least one if it returns more than 0
abbrev pub Took : ℕ → ℕ → Steps → Steps → Type 0
Took n result old new =
    (u : ℕ) × ((k : ℕ) → n < 2 ^ k → u ≤ k) × (0 < result → 1 ≤ u) × (new ≡ counted u old)

pub counted-all : (n s : ℕ) (old new : Steps) → s ≡ 0 → Counted n s old new → Took n n old new
counted-all n s old new none h =
    (h.0, h.1.bits, λ lt. h.1.some (omega (arith, none, lt)), h.2)

abbrev pub no_segment : Segment
no_segment = record { from = 0; to = 0; row = None; scope = None }

pub found-nothing : (list : List Segment) (a n : ℕ) → AreDisjoint list → CountsStarted list a n
    → ((m : ℕ) → m + 1 ≡ n → (get_or list m no_segment).to ≤ a) → place_among list a ≡ None
found-nothing list a n h started past =
    ap (λ (found : Option Segment). option_and_then
    (λ segment. place_of segment.row segment.scope a) found)
    (none-at list n no_segment a h started.within past (started.after no_segment))

pub found-place : (list : List Segment) (a n m : ℕ) (d : Segment) → AreDisjoint list
    → CountsStarted list a n
    → m + 1 ≡ n → a < (get_or list m d).to
    → place_among list a ≡ place_of (get_or list m d).row (get_or list m d).scope a
found-place list a n m d h started is inside =
    let all : n ≤ length list = started.within in
    ap (λ (found : Option Segment). option_and_then
    (λ segment. place_of segment.row segment.scope a) found)
    (found_at list m d a h (omega arith) (started.before d m is) inside)

pub segment-past : (segments : List Segment) (a n : ℕ) (seg e : Segment) (r : ℕ)
    → AreDisjoint segments → CountsStarted segments a n → 0 < n
    → r ≡ seg.to → seg ≡ get_or segments (n - 1) e → r ≤ a → place_among segments a ≡ None
segment-past segments a n seg e r h started some to is past =
    found-nothing segments a n h started (λ m last.
    let same : m ≡ n - 1 = omega arith in
    let within : n ≤ length segments = started.within in
    let here : get_or segments (n - 1) no_segment ≡ seg =
    get_or_default segments (n - 1) no_segment e (omega arith) ∙ sym is in
    let P : ℕ → Type 0 = λ k. (get_or segments k no_segment).to ≤ a in
    let Q : Segment → Type 0 = λ segment. segment.to ≤ a in
    let R : ℕ → Type 0 = λ k. k ≤ a in
    subst P (sym same) (subst Q (sym here) (subst R to past)))

pub segment-found : (segments : List Segment) (a n : ℕ) (seg e : Segment) (r : ℕ)
    (row scope : Option ℕ) (placed : Option Place)
    → AreDisjoint segments → CountsStarted segments a n → 0 < n
    → r ≡ seg.to → row ≡ seg.row → scope ≡ seg.scope
    → seg ≡ get_or segments (n - 1) e → a < r
    → placed ≡ place_of row scope a → placed ≡ place_among segments a
segment-found segments a n seg e r row scope placed h started some to row_is scope-is is inside
    placed_is =
    let within : n ≤ length segments = started.within in
    let here : get_or segments (n - 1) no_segment ≡ seg =
    get_or_default segments (n - 1) no_segment e (omega arith) ∙ sym is in
    let Q : Segment → Type 0 = λ segment. a < segment.to in
    let R : ℕ → Type 0 = λ k. a < k in
    placed_is ∙ ap (λ (o : Option ℕ). place_of o scope a) row_is
    ∙ ap (λ (o : Option ℕ). place_of seg.row o a) scope-is
    ∙ ap (λ (segment : Segment). place_of segment.row segment.scope a) (sym here)
    ∙ sym (found-place segments a n (n - 1) no_segment h started (omega arith)
    (subst Q (sym here) (subst R to inside)))

-- the number of comparisons that find a place among segments
abbrev pub Finds : List Segment → Option Place → Steps → Steps → Type 0
Finds segments result old new =
    (n : ℕ) × ((k : ℕ) → length segments < 2 ^ k → n ≤ k + 1) × IfSome result (λ _. 2 ≤ n)
    × (new ≡ counted n old)

where-some : (n : ℕ) (result : Option Place) → 2 ≤ n → IfSome result (λ _. 2 ≤ n)
where-some n None least = tt
where-some n (Some place) least = least

pub took-more : (segments : List Segment) (result : Option Place) (n : ℕ) (old middle new : Steps)
    → 0 < n → Took (length segments) n old middle → new ≡ counted 1 middle
    → Finds segments result old new
took-more segments result n old middle new some t one = (
  t.0 + 1,
  λ k lt. (let few : t.0 ≤ k = t.1 k lt in omega arith),
  where-some (t.0 + 1) result (let least = t.2 some in omega (arith, least)),
  counted-one t.0 old middle new t.3 one,
)

pub took-none : (segments : List Segment) (n : ℕ) (old new : Steps) → Took
    (length segments) n old new
    → Finds segments None old new
took-none segments n old new t =
    (t.0, λ k lt. (let few : t.0 ≤ k = t.1 k lt in omega arith), tt, t.3)

pub took-decoded : (n r : ℕ) (old middle : Steps) → Took n r old middle
    → middle.decoded ≡ old.decoded
took-decoded n r old middle t = ap (λ (s : Steps). s.decoded) t.3 ∙ counted-decoded t.0 old
