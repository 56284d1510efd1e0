-- Contiguous ranges of bytes, and the fixed-width fields in them.
use Rattle.std.proofs.Common.{◌≡◌, ℕ, ◌+◌, ◌<◌, ◌≤◌, List, [], ◌∷◌, ◌++◌, length, take, drop, Ok}
use Rattle.std.proofs.Common.{Err, refl, sym, ap, ◌∙◌, subst, arith, append_assoc}
use Rattle.std.specs.Prelude.{nat_lt}
use Rattle.std.proofs.Math.Seq.{drop-append_seam, take-append_seam}
use Rattle.std.proofs.lemmas.List.{drop-drop, take-append-drop, length-append, length-drop}
use Rattle.std.proofs.lemmas.List.{length-take}
use Rattle.std.proofs.lemmas.Bool.{le-ltb, ltb-false}
use Rattle.dwarf_bytes.specs.declared.fault.ReadFault.{ReadFault}
use Rattle.dwarf_bytes.specs.declared.fault.ReadFault.TheVariants.{Short}
use Rattle.dwarf_bytes.specs.Numbers.{IsEncodedAt, little_endian, block_at, fixed_at, u8_at}
use Rattle.dwarf_bytes.proofs.Numbers.Advance.{after-bind, chosen}
use Rattle.dwarf_lines.proofs.Headers.BoundsLaws.{ok-is}

-- the range from at to next has the bytes front
pub record Stretch (bytes : List ℕ) (at : ℕ) (front : List ℕ) (next : ℕ) : Type 0 where
  pub parts : drop at bytes ≡ front ++ drop next bytes
  pub next_is : next ≡ at + length front

-- the bytes after the front are the rest from the next offset on
pub rest-is : (bytes : List ℕ) (at : ℕ) (front rest : List ℕ) → drop at bytes ≡ front ++ rest
    → rest ≡ drop (at + length front) bytes
rest-is bytes at front rest h =
    sym (drop-append_seam front rest) ∙ ap (drop (length front)) (sym h)
    ∙ drop-drop (length front) at bytes

pub stretch : (bytes : List ℕ) (at : ℕ) (front rest : List ℕ) (next : ℕ)
    → drop at bytes ≡ front ++ rest → next ≡ at + length front
    → Stretch bytes at front next
stretch bytes at front rest next h next_is =
    record {
      parts = h ∙ ap (λ (r : List ℕ). front ++ r)
          (rest-is bytes at front rest h ∙ ap (λ (n : ℕ). drop n bytes) (sym next_is));
      next_is =
          next_is;
    }

pub stretch-of : {X : Type 0} (S : List ℕ → X → Type 0) (bytes : List ℕ) (at : ℕ) (x : X) (next : ℕ)
    → (h : IsEncodedAt S bytes at x next)
    → Stretch bytes at h.front next
stretch-of S bytes at x next h = stretch bytes at h.front h.rest next h.parts h.next_is

pub encoded-of : {X : Type 0} (S : List ℕ → X → Type 0) (bytes : List ℕ) (at : ℕ) (x : X) (next : ℕ)
    (front : List ℕ)
    → Stretch bytes at front next → S front x → IsEncodedAt S bytes at x next
encoded-of S bytes at x next front h encoded =
    record {
      front = front;
      rest = drop next bytes;
      encoded = encoded;
      parts = h.parts;
      next_is =
          h.next_is;
    }

pub none-at : (bytes : List ℕ) (at : ℕ) → Stretch bytes at [] at
none-at bytes at = record { parts = refl; next_is = omega arith }

-- two contiguous ranges
pub join : (bytes : List ℕ) (at : ℕ) (a : List ℕ) (mid : ℕ) (b : List ℕ) (next : ℕ)
    → Stretch bytes at a mid → Stretch bytes mid b next
    → Stretch bytes at (a ++ b) next
join bytes at a mid b next h k = record {
  parts = h.parts ∙ ap (λ (r : List ℕ). a ++ r) k.parts ∙ sym (append_assoc a b (drop next bytes));
  next_is = let len = length-append a b in let first = h.next_is in let last = k.next_is in
      omega (arith, len);
}

pub first_of : (bytes : List ℕ) (at : ℕ) (a b : List ℕ) (next : ℕ) → Stretch bytes at (a ++ b) next
    → Stretch bytes at a (at + length a)
first_of bytes at a b next h = stretch bytes at a (b ++ drop next bytes) (at + length a)
    (h.parts ∙ append_assoc a b (drop next bytes)) refl

pub rest-of : (bytes : List ℕ) (at : ℕ) (a b : List ℕ) (next : ℕ) → Stretch bytes at (a ++ b) next
    → Stretch bytes (at + length a) b next
rest-of bytes at a b next h = record {
  parts = sym (rest-is bytes at a (b ++ drop next bytes)
      (h.parts ∙ append_assoc a b (drop next bytes)));
  next_is = let len = length-append a b in let last = h.next_is in omega (arith, len);
}

pub block-encoded : (n : ℕ) (bytes : List ℕ) (at : ℕ) (v : List ℕ × ℕ) → block_at n bytes at ≡ Ok v
    → Stretch bytes at v.0 v.1 × (length v.0 ≡ n)
unfolding block_at
block-encoded n bytes at v h =
    chosen (nat_lt (length bytes) (at + n)) (Err Short) (Ok (take n (drop at bytes), at + n)) (Ok v)
    h (Stretch bytes at v.0 v.1 × (length v.0 ≡ n)) (λ _ e. cc) (λ enough e.
    let same : (take n (drop at bytes), at + n) ≡ v =
    ok-is {E = ReadFault} (take n (drop at bytes), at + n) v e in
    let le = ltb-false (length bytes) (at + n) enough in
    let taken : length (take n (drop at bytes)) ≡ n = let a = length-take n (drop at bytes) in
    let b = length-drop at bytes in omega (arith, a, b, le) in
    let here : Stretch bytes at (take n (drop at bytes)) (at + n) =
    stretch bytes at (take n (drop at bytes)) (drop n (drop at bytes)) (at + n)
    (sym (take-append-drop n (drop at bytes))) (omega (arith, taken)) in
    subst (λ (p : List ℕ × ℕ). Stretch bytes at p.0 p.1 × (length p.0 ≡ n)) same (here, taken))

pub block-again : (bytes : List ℕ) (at : ℕ) (block : List ℕ) (next : ℕ) → 0 < length block
    → Stretch bytes at block next
    → block_at (length block) bytes at ≡ Ok (block, next)
unfolding block_at
block-again bytes at block next some h =
    let len = length-append block (drop next bytes) in
    let whole = length-drop at bytes in
    let sum : length (drop at bytes) ≡ length (block ++ drop next bytes) = ap length h.parts in
    let enough : at + length block ≤ length bytes = omega (arith, len, whole, sum, some) in
    let front : take (length block) (drop at bytes) ≡ block = ap (take (length block)) h.parts
    ∙ take-append_seam block (drop next bytes) in
    rw (le-ltb (length bytes) (at + length block) enough, front, ← h.next_is) refl

one_byte : (block : List ℕ) → length block ≡ 1 → block ≡ little_endian block ∷ []
one_byte [] h = absurd (omega (arith, h))
one_byte (b ∷ []) h = ap (λ (n : ℕ). n ∷ []) (omega arith)
one_byte (b ∷ c ∷ bs) h = absurd (omega (arith, h))

pub two-bytes : (block : List ℕ) → length block ≡ 2
    → (low : ℕ) × (high : ℕ) × (block ≡ low ∷ high ∷ [])
two-bytes [] h = absurd (omega (arith, h))
two-bytes (b ∷ []) h = absurd (omega (arith, h))
two-bytes (b ∷ c ∷ []) h = (b, c, refl)
two-bytes (b ∷ c ∷ d ∷ bs) h = absurd (omega (arith, h))

-- a field of n bytes is read from a range of n bytes
pub fixed-encoded : (n : ℕ) (bytes : List ℕ) (at : ℕ) (v : ℕ × ℕ) → fixed_at n bytes at ≡ Ok v
    → (block : List ℕ) × Stretch bytes at block v.1 × (length block ≡ n)
    × (v.0 ≡ little_endian block)
unfolding fixed_at
fixed-encoded n bytes at v h =
    after-bind (block_at n bytes at) _ v h
    ((block : List ℕ) × Stretch bytes at block v.1 × (length block ≡ n)
    × (v.0 ≡ little_endian block)) (λ block block_is h1.
    let same : (little_endian block.0, block.1) ≡ v =
    ok-is {E = ReadFault} (little_endian block.0, block.1) v h1 in
    let found = block-encoded n bytes at block block_is in (
      block.0,
      subst (λ (next : ℕ). Stretch bytes at block.0 next) (ap (λ (p : ℕ × ℕ). p.1) same)
          found.0,
      found.1,
      sym (ap (λ (p : ℕ × ℕ). p.0) same),
    ))

pub fixed-again : (bytes : List ℕ) (at : ℕ) (block : List ℕ) (next : ℕ) → 0 < length block
    → Stretch bytes at block next
    → fixed_at (length block) bytes at ≡ Ok (little_endian block, next)
unfolding fixed_at
fixed-again bytes at block next some h = rw (block-again bytes at block next some h) refl

pub byte-encoded : (bytes : List ℕ) (at : ℕ) (v : ℕ × ℕ) → u8_at bytes at ≡ Ok v
    → Stretch bytes at (v.0 ∷ []) v.1
byte-encoded bytes at v h =
    let found = fixed-encoded 1 bytes at v h in
    let same : found.0 ≡ v.0 ∷ [] = one_byte found.0 found.2
    ∙ ap (λ (n : ℕ). n ∷ []) (sym found.3) in
    subst (λ (front : List ℕ). Stretch bytes at front v.1) same found.1

pub byte-again : (bytes : List ℕ) (at b next : ℕ) → Stretch bytes at (b ∷ []) next
    → u8_at bytes at ≡ Ok (b, next)
byte-again bytes at b next h =
    fixed-again bytes at (b ∷ []) next (omega arith) h ∙ ap (λ (n : ℕ). Ok (n, next)) (omega arith)
