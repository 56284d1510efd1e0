-- The encoding of consecutive items and of formats, in both directions.
use Rattle.std.proofs.Common.{◌≡◌, ℕ, zero, suc, ◌+◌, ◌<◌, List, [], ◌∷◌, ◌++◌, length, Result, Ok}
use Rattle.std.proofs.Common.{refl, sym, ap, ◌∙◌, subst, arith}
use Rattle.dwarf_bytes.specs.declared.fault.Cause.{Cause}
use Rattle.dwarf_bytes.specs.Items.{reading}
use Rattle.dwarf_bytes.specs.Numbers.{IsUleb, IsEncodedAt, uleb_at}
use Rattle.dwarf_bytes.proofs.Numbers.Advance.{after-bind, reading-ok}
use Rattle.dwarf_bytes.proofs.Numbers.LebEncodings.{uleb-encoded, uleb-again}
use Rattle.dwarf_lines.specs.declared.formats.Field.{Field}
use Rattle.dwarf_lines.specs.Entries.{repeated_at, format_at}
use Rattle.dwarf_lines.specs.HeaderEncodings.{EncodesEach, EncodesField}
use Rattle.dwarf_lines.proofs.Headers.BoundsLaws.{ok-is}
use Rattle.dwarf_lines.proofs.Lists.Spans.{Stretch, stretch-of, encoded-of, none-at, join, first_of}
use Rattle.dwarf_lines.proofs.Lists.Spans.{rest-of}

-- if an item is read at an offset, an encoding of it is there
abbrev pub ReadsAreEncoded : {X : Type 0} → (ℕ → List ℕ → X → Type 0)
    → (List ℕ → ℕ → Result (X × ℕ) Cause)
    → List ℕ → Type 0
ReadsAreEncoded {X = X} encodes item bytes = (at : ℕ) (x : X) (next : ℕ) → item bytes at
    ≡ Ok (x, next)
    → IsEncodedAt (encodes at) bytes at x next

abbrev pub IsRead : {X : Type 0} → (ℕ → List ℕ → X → Type 0) → (List ℕ → ℕ → Result (X × ℕ) Cause)
    → List ℕ → Type 0
IsRead {X = X} encodes item bytes = (at : ℕ) (x : X) (next : ℕ)
    → IsEncodedAt (encodes at) bytes at x next → item bytes at ≡ Ok (x, next)

pub each-encoded : {X : Type 0} (encodes : ℕ → List ℕ → X → Type 0)
    (item : List ℕ → ℕ → Result (X × ℕ) Cause) (bytes : List ℕ) (count at : ℕ) (xs : List X)
    (next : ℕ) → (0 < count → ReadsAreEncoded encodes item bytes) → repeated_at item count bytes at
    ≡ Ok (xs, next)
    → IsEncodedAt (EncodesEach encodes at) bytes at xs next × (length xs ≡ count)
unfolding repeated_at
each-encoded {X = X} encodes item bytes zero at xs next are_encoded h =
    subst (λ (p : List X × ℕ). IsEncodedAt (EncodesEach encodes at) bytes at p.0 p.1
    × (length p.0 ≡ 0))
    (ok-is {E = Cause} ([], at) (xs, next) h)
    (encoded-of (EncodesEach encodes at) bytes at [] at [] (none-at bytes at) refl, refl)
each-encoded {X = X} encodes item bytes (suc count) at xs next are_encoded h =
    let P : Type 0 = IsEncodedAt (EncodesEach encodes at) bytes at xs next
    × (length xs ≡ suc count) in
    after-bind (item bytes at) _ (xs, next) h P (λ first first_is h1.
    after-bind (repeated_at item count bytes first.1) _ (xs, next) h1 P (λ rest rest-is h2.
    let every = are_encoded (omega arith) in
    let here = every at first.0 first.1 first_is in
    let others = each-encoded encodes item bytes count first.1 rest.0 rest.1 (λ some. every)
    rest-is in
    let both = join bytes at here.front first.1 others.0.front rest.1
    (stretch-of (encodes at) bytes at first.0 first.1 here)
    (stretch-of (EncodesEach encodes first.1) bytes first.1 rest.0 rest.1 others.0) in
    let last = subst (λ (n : ℕ). EncodesEach encodes n others.0.front rest.0) here.next_is
    others.0.encoded in
    subst (λ (p : List X × ℕ). IsEncodedAt (EncodesEach encodes at) bytes at p.0 p.1
    × (length p.0 ≡ suc count)) (ok-is {E = Cause} (first.0 ∷ rest.0, rest.1) (xs, next) h2) (
      encoded-of (EncodesEach encodes at) bytes at (first.0 ∷ rest.0) rest.1
          (here.front ++ others.0.front) both
          (here.front, others.0.front, refl, here.encoded, last),
      ap suc others.1,
    )))

pub each-again : {X : Type 0} (encodes : ℕ → List ℕ → X → Type 0)
    (item : List ℕ → ℕ → Result (X × ℕ) Cause) (bytes : List ℕ) (at : ℕ) (front : List ℕ)
    (xs : List X) (next : ℕ) → (0 < length xs → IsRead encodes item bytes)
    → Stretch bytes at front next → EncodesEach encodes at front xs
    → repeated_at item (length xs) bytes at ≡ Ok (xs, next)
unfolding repeated_at
each-again encodes item bytes at front [] next again there none =
    ap (λ (n : ℕ). Ok ([], n)) (omega (arith, there.next_is, ap length none))
each-again encodes item bytes at front (x ∷ xs) next again there some =
    let every = again (omega arith) in
    let all = subst (λ (b : List ℕ). Stretch bytes at b next) some.2 there in
    let mid = at + length some.0 in
    let here = every at x mid (encoded-of (encodes at) bytes at x mid some.0
    (first_of bytes at some.0 some.1 next all) some.3) in
    rw (
      here,
      each-again encodes item bytes mid some.1 xs next (λ more. every)
          (rest-of bytes at some.0 some.1 next all) some.4,
    ) refl

-- ---- formats

field-encoded : (bytes : List ℕ) → ReadsAreEncoded EncodesField format_at bytes
unfolding format_at
field-encoded bytes at field next h =
    let P : Type 0 = IsEncodedAt (EncodesField at) bytes at field next in
    after-bind (reading (uleb_at bytes at)) _ (field, next) h P (λ content content_is h1.
    after-bind (reading (uleb_at bytes content.1)) _ (field, next) h1 P (λ form form_is h2.
    let a = uleb-encoded bytes at content.0 content.1
    (reading-ok (uleb_at bytes at) content content_is) in
    let b = uleb-encoded bytes content.1 form.0 form.1
    (reading-ok (uleb_at bytes content.1) form form_is) in
    let both = join bytes at a.front content.1 b.front form.1
    (stretch-of IsUleb bytes at content.0 content.1 a)
    (stretch-of IsUleb bytes content.1 form.0 form.1 b) in
    let it : Field = record { content = content.0; form = form.0 } in
    subst (λ (p : Field × ℕ). IsEncodedAt (EncodesField at) bytes at p.0 p.1)
    (ok-is {E = Cause} (it, form.1) (field, next) h2)
    (encoded-of (EncodesField at) bytes at it form.1 (a.front ++ b.front) both
    (record {
      content = a.front;
      form = b.front;
      whole = refl;
      content_is = a.encoded;
      form_is =
          b.encoded;
    }))))

field-again : (bytes : List ℕ) → IsRead EncodesField format_at bytes
unfolding format_at
field-again bytes at field next s =
    let f = s.encoded in
    let all = subst (λ (b : List ℕ). Stretch bytes at b next) f.whole
    (stretch-of (EncodesField at) bytes at field next s) in
    let mid = at + length f.content in
    let content = uleb-again bytes at field.content mid
    (encoded-of IsUleb bytes at field.content mid f.content
    (first_of bytes at f.content f.form next all) f.content_is) in
    let form = uleb-again bytes mid field.form next
    (encoded-of IsUleb bytes mid field.form next f.form
    (rest-of bytes at f.content f.form next all) f.form_is) in
    rw (content, form) refl

pub format-encoded : (count : ℕ) (bytes : List ℕ) (at : ℕ) (fields : List Field) (next : ℕ)
    → repeated_at format_at count bytes at ≡ Ok (fields, next)
    → IsEncodedAt (EncodesEach EncodesField at) bytes at fields next × (length fields ≡ count)
format-encoded count bytes at fields next h =
    each-encoded EncodesField format_at bytes count at fields next (λ some. field-encoded bytes) h

pub format-again : (count : ℕ) (bytes : List ℕ) (at : ℕ) (fields : List Field) (next : ℕ)
    → IsEncodedAt (EncodesEach EncodesField at) bytes at fields next × (length fields ≡ count)
    → repeated_at format_at count bytes at ≡ Ok (fields, next)
format-again count bytes at fields next s =
    ap (λ (n : ℕ). repeated_at format_at n bytes at) (sym s.1)
    ∙ each-again EncodesField format_at bytes at s.0.front fields next (λ some. field-again bytes)
    (stretch-of (EncodesEach EncodesField at) bytes at fields next s.0) s.0.encoded
