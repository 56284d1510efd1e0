-- An encoded content is read, in each layout.
use Rattle.std.proofs.Common.{◌≡◌, ℕ, ◌+◌, ◌<◌, ◌≤◌, List, [], ◌∷◌, ◌++◌, length, drop, Ok, ap, sym}
use Rattle.std.proofs.Common.{◌∙◌, arith, length-append, length-drop}
use Rattle.dwarf_bytes.specs.declared.format.Format.{Format}
use Rattle.dwarf_bytes.specs.declared.format.Format.TheVariants.{Dwarf32, Dwarf64}
use Rattle.dwarf_bytes.specs.declared.form.ValueLayout.{ValueLayout}
use Rattle.dwarf_bytes.specs.declared.form.ValueLayout.TheVariants as layouts
use Rattle.dwarf_bytes.specs.declared.form.Width.{Width}
use Rattle.dwarf_bytes.specs.declared.form.Width.TheVariants.{One, Two, Three, Four, Eight}
use Rattle.dwarf_bytes.specs.Bind.{◌>>=◌}
use Rattle.dwarf_bytes.specs.Forms.{byte_len}
use Rattle.dwarf_bytes.specs.Numbers.{IsLeb, IsFixed, IsUleb, IsEncodedAt, block_at, fixed_at}
use Rattle.dwarf_bytes.specs.Numbers.{uleb_at, sleb_at, cstr_at}
use Rattle.dwarf_bytes.specs.Contents.{Content, Number, Signed, Bytes, EncodesContent, content_at}
use Rattle.dwarf_bytes.proofs.Numbers.LebEncodings.{uleb-again, sleb-again}
use Rattle.dwarf_bytes.proofs.Numbers.AtOffsets.{IsBlock, block-of, fixed-again}
use Rattle.dwarf_bytes.proofs.Strings.StringLaws.{text-again}
use Rattle.dwarf_bytes.proofs.Contents.ContentLaws.{standing-as, read_again, counted-again}
use Rattle.dwarf_bytes.proofs.Contents.ContentLaws.{counted-as}

block-again : (n : ℕ) (bytes : List ℕ) (at : ℕ) (block : List ℕ) (next : ℕ) → at ≤ length bytes
    → IsEncodedAt (IsBlock n) bytes at block next → block_at n bytes at ≡ Ok (block, next)
block-again n bytes at block next within s =
    ap (λ (m : ℕ). block_at m bytes at) (sym s.encoded.0) ∙ block-of bytes at s.front s.rest within
    s.parts
    ∙ ap (λ (b : List ℕ). Ok (b, at + length s.front)) (sym s.encoded.1)
    ∙ ap (λ (m : ℕ). Ok (block, m)) (sym s.next_is)

-- an encoding of a content of this kind is an encoding of its value
as-it-is : {X : Type 0} (S : List ℕ → X → Type 0) (T : List ℕ → Content → Type 0) (bytes : List ℕ)
    (at : ℕ) (x : X)
    (c : Content) (next : ℕ) → ((front : List ℕ) → T front c → S front x)
    → IsEncodedAt T bytes at c next
    → IsEncodedAt S bytes at x next
as-it-is S T bytes at x c next is s = standing-as T S bytes at c x next is s

-- an encoding of at least one byte starts before the end of the bytes
pub front-within : (bytes : List ℕ) (at : ℕ) (front rest : List ℕ) → drop at bytes ≡ front ++ rest
    → 0 < length front
    → at ≤ length bytes
front-within bytes at front rest parts some =
    omega (arith, length-drop at bytes, ap length parts, length-append front rest)

some-bytes : (width : Width) → 0 < byte_len width
some-bytes One = omega arith
some-bytes Two = omega arith
some-bytes Three = omega arith
some-bytes Four = omega arith
some-bytes Eight = omega arith

some-leb : (bytes : List ℕ) → IsLeb bytes → 0 < length bytes
some-leb [] h = absurd h
some-leb (b ∷ bytes) h = omega arith

fixed-content : (width : Width) (format : Format) (bytes : List ℕ) (at : ℕ) (content : Content)
    (next : ℕ)
    → IsEncodedAt (EncodesContent (layouts.Fixed width) format) bytes at content next
    → content_at (layouts.Fixed width) format bytes at ≡ Ok (content, next)
unfolding content_at
fixed-content width format bytes at (Number v) next s =
    let within = front-within bytes at s.front s.rest s.parts
    (omega (arith, s.encoded.0, some-bytes width)) in
    read_again Number (fixed_at (byte_len width) bytes at) v next
    (fixed-again (byte_len width) bytes at v next within
    (as-it-is _ _ bytes at v (Number v) next (λ front h. h) s))
fixed-content width format bytes at (Signed v) next s = absurd s.encoded
fixed-content width format bytes at (Bytes v) next s = absurd s.encoded

offset-content : (format : Format) (bytes : List ℕ) (at : ℕ) (content : Content) (next : ℕ)
    → IsEncodedAt (EncodesContent layouts.Offset format) bytes at content next
    → content_at layouts.Offset format bytes at ≡ Ok (content, next)
unfolding content_at
offset-content Dwarf32 bytes at (Number v) next s =
    let within = front-within bytes at s.front s.rest s.parts (omega (arith, s.encoded.0)) in
    read_again Number (fixed_at 4 bytes at) v next (fixed-again 4 bytes at v next within
    (as-it-is _ _ bytes at v (Number v) next (λ front h. h) s))
offset-content Dwarf64 bytes at (Number v) next s =
    let within = front-within bytes at s.front s.rest s.parts (omega (arith, s.encoded.0)) in
    read_again Number (fixed_at 8 bytes at) v next (fixed-again 8 bytes at v next within
    (as-it-is _ _ bytes at v (Number v) next (λ front h. h) s))
offset-content format bytes at (Signed v) next s = absurd s.encoded
offset-content format bytes at (Bytes v) next s = absurd s.encoded

present-content : (format : Format) (bytes : List ℕ) (at : ℕ) (content : Content) (next : ℕ)
    → IsEncodedAt (EncodesContent layouts.Present format) bytes at content next
    → content_at layouts.Present format bytes at ≡ Ok (content, next)
unfolding content_at
present-content format bytes at (Number v) next s =
    let end : at ≡ next = omega (arith, s.next_is, ap length s.encoded.0) in
    ap (λ (n : ℕ). Ok (Number n, at)) (sym s.encoded.1) ∙ ap (λ (n : ℕ). Ok (Number v, n)) end
present-content format bytes at (Signed v) next s = absurd s.encoded
present-content format bytes at (Bytes v) next s = absurd s.encoded

signed-content : (format : Format) (bytes : List ℕ) (at : ℕ) (content : Content) (next : ℕ)
    → IsEncodedAt (EncodesContent layouts.Signed format) bytes at content next
    → content_at layouts.Signed format bytes at ≡ Ok (content, next)
unfolding content_at
signed-content format bytes at (Signed v) next s =
    read_again Signed (sleb_at bytes at) v next (sleb-again bytes at v next
    (as-it-is _ _ bytes at v (Signed v) next (λ front h. h) s))
signed-content format bytes at (Number v) next s = absurd s.encoded
signed-content format bytes at (Bytes v) next s = absurd s.encoded

unsigned-content : (format : Format) (bytes : List ℕ) (at : ℕ) (content : Content) (next : ℕ)
    → IsEncodedAt (EncodesContent layouts.Unsigned format) bytes at content next
    → content_at layouts.Unsigned format bytes at ≡ Ok (content, next)
unfolding content_at
unsigned-content format bytes at (Number v) next s =
    read_again Number (uleb_at bytes at) v next (uleb-again bytes at v next
    (as-it-is _ _ bytes at v (Number v) next (λ front h. h) s))
unsigned-content format bytes at (Signed v) next s = absurd s.encoded
unsigned-content format bytes at (Bytes v) next s = absurd s.encoded

text-content : (format : Format) (bytes : List ℕ) (at : ℕ) (content : Content) (next : ℕ)
    → IsEncodedAt (EncodesContent layouts.Text format) bytes at content next
    → content_at layouts.Text format bytes at ≡ Ok (content, next)
unfolding content_at
text-content format bytes at (Bytes v) next s =
    read_again Bytes (cstr_at bytes at) v next (text-again bytes at v next
    (as-it-is _ _ bytes at v (Bytes v) next (λ front h. h) s))
text-content format bytes at (Signed v) next s = absurd s.encoded
text-content format bytes at (Number v) next s = absurd s.encoded

sixteen-content : (format : Format) (bytes : List ℕ) (at : ℕ) (content : Content) (next : ℕ)
    → IsEncodedAt (EncodesContent layouts.Sixteen format) bytes at content next
    → content_at layouts.Sixteen format bytes at ≡ Ok (content, next)
unfolding content_at
sixteen-content format bytes at (Bytes v) next s =
    let within = front-within bytes at s.front s.rest s.parts (omega (arith, s.encoded.0)) in
    read_again Bytes (block_at 16 bytes at) v next (block-again 16 bytes at v next within
    (as-it-is _ _ bytes at v (Bytes v) next (λ front h. h) s))
sixteen-content format bytes at (Signed v) next s = absurd s.encoded
sixteen-content format bytes at (Number v) next s = absurd s.encoded

block-content : (width : Width) (format : Format) (bytes : List ℕ) (at : ℕ) (content : Content)
    (next : ℕ)
    → IsEncodedAt (EncodesContent (layouts.Block width) format) bytes at content next
    → content_at (layouts.Block width) format bytes at ≡ Ok (content, next)
unfolding content_at
block-content width format bytes at (Bytes v) next s =
    let within = front-within bytes at s.front s.rest s.parts
    (omega (
      arith,
      ap length s.encoded.1,
      length-append s.encoded.0 v,
      s.encoded.2.0,
      some-bytes width,
    )) in
    counted-as bytes (fixed_at (byte_len width) bytes at)
    ∙ read_again Bytes (fixed_at (byte_len width) bytes at >>= λ len. block_at len.0 bytes len.1) v
    next
    (counted-again (IsFixed (byte_len width)) bytes at v next (fixed_at (byte_len width) bytes at)
    within
    (λ x n h. fixed-again (byte_len width) bytes at x n within h)
    (as-it-is _ _ bytes at v (Bytes v) next (λ front h. h) s))
block-content width format bytes at (Signed v) next s = absurd s.encoded
block-content width format bytes at (Number v) next s = absurd s.encoded

long-content : (format : Format) (bytes : List ℕ) (at : ℕ) (content : Content) (next : ℕ)
    → IsEncodedAt (EncodesContent layouts.LongBlock format) bytes at content next
    → content_at layouts.LongBlock format bytes at ≡ Ok (content, next)
unfolding content_at
long-content format bytes at (Bytes v) next s =
    let within = front-within bytes at s.front s.rest s.parts
    (omega (
      arith,
      ap length s.encoded.1,
      length-append s.encoded.0 v,
      some-leb s.encoded.0 s.encoded.2.leb,
    )) in
    counted-as bytes (uleb_at bytes at)
    ∙ read_again Bytes (uleb_at bytes at >>= λ len. block_at len.0 bytes len.1) v next
    (counted-again IsUleb bytes at v next (uleb_at bytes at) within
    (λ x n h. uleb-again bytes at x n h)
    (as-it-is _ _ bytes at v (Bytes v) next (λ front h. h) s))
long-content format bytes at (Signed v) next s = absurd s.encoded
long-content format bytes at (Number v) next s = absurd s.encoded

pub content-again : (layout : ValueLayout) (format : Format) (bytes : List ℕ) (at : ℕ)
    (content : Content) (next : ℕ)
    → IsEncodedAt (EncodesContent layout format) bytes at content next
    → content_at layout format bytes at ≡ Ok (content, next)
content-again (layouts.Fixed width) format bytes at content next s =
    fixed-content width format bytes at content next s
content-again layouts.Offset format bytes at content next s =
    offset-content format bytes at content next s
content-again layouts.Present format bytes at content next s =
    present-content format bytes at content next s
content-again layouts.Signed format bytes at content next s =
    signed-content format bytes at content next s
content-again layouts.Unsigned format bytes at content next s =
    unsigned-content format bytes at content next s
content-again layouts.Text format bytes at content next s =
    text-content format bytes at content next s
content-again layouts.Sixteen format bytes at content next s =
    sixteen-content format bytes at content next s
content-again (layouts.Block width) format bytes at content next s =
    block-content width format bytes at content next s
content-again layouts.LongBlock format bytes at content next s =
    long-content format bytes at content next s
