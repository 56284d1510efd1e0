-- Encodings at offsets: bytes in sequence, consecutive items in both directions, for any step, and
-- lists of valid items with distinct keys.
use Rattle.dwarf_bytes.proofs.{Contents.ContentLaws.bytes-after, Items.ItemLaws.Lists-within}
use Rattle.dwarf_bytes.{proofs.Items.ItemLaws.items_from-Lists, specs.Items.{Advances, End, Item}}
use Rattle.dwarf_bytes.specs.{Items.{Lists, Next, items_from}, Numbers.IsEncodedAt}
use Rattle.dwarf_bytes.specs.declared.fault.Cause.{Cause}
use Rattle.dwarf_forms.specs.Declarations.{EncodesEach}
use Rattle.std.proofs.Common.{All, AllPairs, List, Ok, Result, [], ap, append-nil, append_assoc}
use Rattle.std.proofs.Common.{arith, drop, false, length, length-append, refl, suc, ℕ, ◌++◌, ◌+◌}
use Rattle.std.proofs.{Common.{◌-◌, ◌<◌, ◌==◌, ◌↔◌, ◌∷◌, ◌≡◌, ◌≢◌}, lemmas.List.Elements.All-push}
use Rattle.std.proofs.lemmas.List.{Folds.{list_any_at, list_any_none}, Quantifiers.all_pairs_push}
use Rattle.std.{proofs.lemmas.List.{get_or_append_left, get_or_push, take_at}, specs.List.list_any}

-- the bytes at the offset start with `front`, and `next` is the offset after it
pub record StandsAt (bytes : List ℕ) (at : ℕ) (front : List ℕ) (next : ℕ) : Type 0 where
  pub rest : List ℕ
  pub parts : drop at bytes ≡ front ++ rest
  pub next_is : next ≡ at + length front

-- the bytes of an encoding, ..
pub stands : {X : Type 0} {A : List ℕ → X → Type 0} {bytes : List ℕ} {at next : ℕ} {x : X}
    (s : IsEncodedAt A bytes at x next) → StandsAt bytes at s.front next
stands s = record { rest = s.rest; parts = s.parts; next_is = s.next_is }

-- .. and the encoding that bytes are
pub encoded : {X : Type 0} {A : List ℕ → X → Type 0} {bytes front : List ℕ} {at next : ℕ} {x : X}
    → A front x → StandsAt bytes at front next → IsEncodedAt A bytes at x next
encoded {front = front} is s = record {
  front = front;
  rest = s.rest;
  encoded = is;
  parts = s.parts;
  next_is = s.next_is;
}

-- the same bytes, as an encoding of another kind
pub again : {X Y : Type 0} {A : List ℕ → X → Type 0} {B : List ℕ → Y → Type 0} {bytes : List ℕ}
    {at next : ℕ} {x : X} {y : Y} (s : IsEncodedAt A bytes at x next) → B s.front y
    → IsEncodedAt B bytes at y next
again s is = encoded is (stands s)

module _ {bytes : List ℕ} {at : ℕ} where
  -- no bytes
  pub nothing : StandsAt bytes at [] at
  nothing = record { rest = drop at bytes; parts = refl; next_is = omega arith }

  -- consecutive bytes, ..
  pub joined : {a b : List ℕ} {mid next : ℕ} → StandsAt bytes at a mid → StandsAt bytes mid b next
      → StandsAt bytes at (a ++ b) next
  joined {a} {b} s t =
      let after = bytes-after bytes at a s.rest s.parts in record {
        rest = t.rest;
        parts = rw (s.parts, append_assoc a b t.rest, ← after, ← s.next_is, t.parts) refl;
        next_is = omega (arith, s.next_is, t.next_is, length-append a b);
      }

  -- .. and the two parts of bytes
  pub parted : {whole : List ℕ} {next : ℕ} (a b : List ℕ) → whole ≡ a ++ b
      → StandsAt bytes at whole next
      → StandsAt bytes at a (at + length a) × StandsAt bytes (at + length a) b next
  parted a b is s =
      let parts = rw (is, append_assoc a b s.rest) at s.parts in (
        record { rest = b ++ s.rest; parts = parts; next_is = refl },
        record {
          rest = s.rest;
          parts = bytes-after bytes at a (b ++ s.rest) parts;
          next_is = omega (arith, s.next_is, ap length is, length-append a b);
        },
      )

-- consecutive encodings
pub both : {X Y Z : Type 0} {A : List ℕ → X → Type 0} {B : List ℕ → Y → Type 0}
    {C : List ℕ → Z → Type 0} {bytes : List ℕ} {at mid next : ℕ} {x : X} {y : Y} {z : Z}
    (s : IsEncodedAt A bytes at x mid) (t : IsEncodedAt B bytes mid y next)
    → C (s.front ++ t.front) z → IsEncodedAt C bytes at z next
both s t is = encoded is (joined (stands s) (stands t))

-- two encodings at the start of the same bytes are equal if each of them is read
pub one-encoding : {X E : Type 0} (Encodes : List ℕ → X → Type 0)
    (read : List ℕ → ℕ → Result (X × ℕ) E)
    → ((bytes : List ℕ) (x : X) (next : ℕ) → IsEncodedAt Encodes bytes 0 x next
    → read bytes 0 ≡ Ok (x, next)) → (a b x y : List ℕ) (s t : X) → Encodes a s → Encodes b t
    → a ++ x ≡ b ++ y → (a ≡ b) × (s ≡ t)
one-encoding {X = X} Encodes read reads a b x y s t is js e =
    let first = reads (a ++ x) s (length a) (encoded is (starts a x)) in
    let second = reads (b ++ y) t (length b) (encoded js (starts b y)) in
    let both : (s ≡ t) × (length a ≡ length b) = grind (arith, first, second, e) in
    (rw (← take_at a x (length a) refl, ← take_at b y (length b) refl, e, both.1) refl, both.0)
  where
    starts : (front rest : List ℕ) → StandsAt (front ++ rest) 0 front (length front)
    starts front rest = record { rest = rest; parts = refl; next_is = omega arith }

-- ---- consecutive items

-- an encoding of the end, which has no value, is at the offset
abbrev pub EndsAt : (List ℕ → Type 0) → List ℕ → ℕ → ℕ → Type 0
EndsAt ends bytes at next = IsEncodedAt (λ front (u : Unit {0}). ends front) bytes at tt next

-- A step that is applied to a valid list returns an item if and only if an encoding of it is at the
-- offset and the list with it is valid. It returns the end if and only if an encoding of the end is
-- there.
pub record IsDecoded {X : Type 0} (encodes : List ℕ → X → Type 0) (ends : List ℕ → Type 0)
    (valid : List X → Type 0) (bytes : List ℕ) (step : List X → ℕ → Result (Next X) Cause) : Type
    0 where
  pub item : (before : List X) (at : ℕ) (x : X) (next : ℕ) → valid before
      → (step before at ≡ Ok (Item x next))
      ↔ (IsEncodedAt encodes bytes at x next × valid (before ++ x ∷ []))
  pub end : (before : List X) (at next : ℕ) → (step before at ≡ Ok (End next))
      ↔ EndsAt ends bytes at next
  pub none : valid []
  pub prefix : (xs ys : List X) → valid (xs ++ ys) → valid xs
  pub advances : Advances (length bytes) step

-- the encoded elements, followed by the encoded end
abbrev pub AreEncoded : {X : Type 0} → (List ℕ → X → Type 0) → (List ℕ → Type 0) → List ℕ → ℕ
    → List X → ℕ → Type 0
AreEncoded encodes ends bytes at xs next = (mid : ℕ)
    × IsEncodedAt (EncodesEach encodes) bytes at xs mid × EndsAt ends bytes mid next

module _ {X : Type 0} {encodes : List ℕ → X → Type 0} {ends : List ℕ → Type 0}
    {valid : List X → Type 0} {bytes : List ℕ} {step : List X → ℕ → Result (Next X) Cause}
    (decoded : IsDecoded encodes ends valid bytes step) where
  -- items that are listed are encoded and valid, ..
  listed-encoded : (before : List X) (at : ℕ) (xs : List X) (next : ℕ) → valid before
      → Lists step before at xs next
      → AreEncoded encodes ends bytes at xs next × valid (before ++ xs)
  listed-encoded before at [] next good h =
      ((at, encoded refl nothing, (decoded.end before at next).0 h), rw append-nil good)
  listed-encoded before at (x ∷ xs) next good h =
      let here = (decoded.item before at x h.0 good).0 h.1 in
      let others = listed-encoded (before ++ x ∷ []) h.0 xs next here.1 h.2 in
      let rest = others.0.1 in (
        (
          others.0.0,
          both here.0 rest (here.0.front, rest.front, refl, here.0.encoded, rest.encoded),
          others.0.2,
        ),
        rw append_assoc at others.1,
      )

  -- .. and conversely
  encoded-listed : (before : List X) (at : ℕ) (xs : List X) (next : ℕ)
      → AreEncoded encodes ends bytes at xs next → valid (before ++ xs)
      → Lists step before at xs next
  encoded-listed before at [] next s good =
      let same : at ≡ s.0 = omega (arith, s.1.next_is, ap length s.1.encoded) in
      (decoded.end before at next).1 (rw same s.2)
  encoded-listed before at (x ∷ xs) next s good =
      let e = s.1.encoded in
      let parts = parted e.0 e.1 e.2 (stands s.1) in
      let all : valid ((before ++ x ∷ []) ++ xs) = rw append_assoc good in
      let mid = at + length e.0 in (
        mid,
        (decoded.item before at x mid (decoded.prefix before (x ∷ xs) good)).1
            (encoded e.3 parts.0, decoded.prefix (before ++ x ∷ []) xs all),
        encoded-listed (before ++ x ∷ []) mid xs next (s.0, encoded e.4 parts.1, s.2) all,
      )

  -- a list is read if and only if it is encoded and valid
  pub list-decoded : (at : ℕ) (xs : List X) (next : ℕ)
      → (items_from (length bytes) step [] at ≡ Ok (xs, next))
      ↔ (AreEncoded encodes ends bytes at xs next × valid xs)
  list-decoded at xs next = (
    λ h. listed-encoded [] at xs next decoded.none
        (Lists-within (suc (length bytes - at)) step [] at xs next h),
    λ s. items_from-Lists (length bytes) step decoded.advances [] at xs next
        (encoded-listed [] at xs next s.0 s.1),
  )

-- ---- lists of valid elements with distinct keys

-- each element satisfies P, and its key differs from the keys before it
abbrev pub IsNew : {X : Type 0} → (X → Type 0) → (X → ℕ) → List X → X → Type 0
IsNew P key before x = P x × (list_any (λ y. key y == key x) before ≡ false)

-- each element satisfies P, and the keys are distinct
abbrev pub AreDistinct : {X : Type 0} → (X → Type 0) → (X → ℕ) → List X → Type 0
AreDistinct P key xs = All P xs × AllPairs (λ x y. key x ≢ key y) xs

module _ {X : Type 0} (P : X → Type 0) (key : X → ℕ) where
  pub distinct-none : AreDistinct P key []
  distinct-none = (λ k d within. absurd (omega arith), λ i j d lt within. absurd (omega arith))

  pub distinct-push : (xs : List X) (x : X) → AreDistinct P key xs → IsNew P key xs x
      → AreDistinct P key (xs ++ x ∷ [])
  distinct-push xs x all new = (
    All-push P xs x all.0 new.0,
    all_pairs_push (λ a b. key a ≢ key b) xs x all.1 (λ k d within same. grind (
      arith,
      new.1,
      list_any_at (λ (y : X). key y == key x) xs k d within,
    )),
  )

  pub distinct-front : (xs ys : List X) → AreDistinct P key (xs ++ ys) → AreDistinct P key xs
  distinct-front xs ys all =
      let longer = length-append xs ys in (
        λ k d within. rw (get_or_append_left xs ys d k within) at (all.0 k d (omega arith)),
        λ i j d lt within. rw (
          get_or_append_left xs ys d i (omega arith),
          get_or_append_left xs ys d j within,
        ) at (all.1 i j d lt (omega arith)),
      )

  pub last-new : (xs : List X) (x : X) → AreDistinct P key (xs ++ x ∷ []) → IsNew P key xs x
  last-new xs x all =
      let within : length xs < length (xs ++ x ∷ []) = omega (arith, length-append xs (x ∷ [])) in (
        rw (get_or_push xs x x (length xs) refl) at (all.0 (length xs) x within),
        list_any_none (λ (y : X). key y == key x) xs (λ k d lt. grind (
          arith,
          all.1 k (length xs) d lt within,
          get_or_append_left xs (x ∷ []) d k lt,
          get_or_push xs x d (length xs) refl,
        )),
      )
