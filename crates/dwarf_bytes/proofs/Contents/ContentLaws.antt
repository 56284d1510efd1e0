-- A value is read if and only if an encoding of it in its layout is at the offset.
use Rattle.std.proofs.Common.{◌≡◌, ℕ, ◌+◌, ◌≤◌, List, [], ◌++◌, length, drop, Result, Ok, Err, ap}
use Rattle.std.proofs.Common.{sym, refl, subst, ◌∙◌, arith, length-append, length-drop}
use Rattle.std.proofs.Common.{append_assoc}
use Rattle.std.proofs.lemmas.List.{drop_at, drop-drop}
use Rattle.dwarf_bytes.specs.declared.fault.ReadFault.{ReadFault}
use Rattle.dwarf_bytes.specs.declared.format.Format.{Format}
use Rattle.dwarf_bytes.specs.declared.format.Format.TheVariants.{Dwarf32, Dwarf64}
use Rattle.dwarf_bytes.specs.declared.form.ValueLayout.{ValueLayout}
use Rattle.dwarf_bytes.specs.declared.form.ValueLayout.TheVariants as layouts
use Rattle.dwarf_bytes.specs.Bind.{◌>>=◌}
use Rattle.dwarf_bytes.specs.Forms.{byte_len}
use Rattle.dwarf_bytes.specs.Numbers.{IsFixed, IsText, IsUleb, IsSleb, IsEncodedAt, block_at}
use Rattle.dwarf_bytes.specs.Numbers.{fixed_at, uleb_at, sleb_at, cstr_at}
use Rattle.dwarf_bytes.specs.Contents.{Content, Number, Signed, Bytes, EncodesContent, read_as}
use Rattle.dwarf_bytes.specs.Contents.{content_at}
use Rattle.dwarf_bytes.proofs.Numbers.LebEncodings.{bind_ok, uleb-encoded, sleb-encoded}
use Rattle.dwarf_bytes.proofs.Numbers.AtOffsets.{IsBlock, block-encoded, block-of, fixed-encoded}
use Rattle.dwarf_bytes.proofs.Strings.StringLaws.{text-encoded}

same-content : (x y : Content × ℕ) → (let f : Content × ℕ → Result (Content × ℕ) ReadFault =
    λ z. Ok z in f x ≡ f y)
    → x ≡ y
same-content x y h = cc

-- converts between two encoding relations for the bytes at an offset
pub standing-as : {X Y : Type 0} (S : List ℕ → X → Type 0) (T : List ℕ → Y → Type 0)
    (bytes : List ℕ)
    (at : ℕ) (x : X)
    (y : Y) (next : ℕ) → ((front : List ℕ) → S front x → T front y) → IsEncodedAt S bytes at x next
    → IsEncodedAt T bytes at y next
standing-as S T bytes at x y next as_other s =
    record {
      front = s.front;
      rest = s.rest;
      encoded = as_other s.front s.encoded;
      parts = s.parts;
      next_is = s.next_is;
    }

-- if a value is read as a content, an encoding of the content is at the offset
read-encoded : {X : Type 0} (S : List ℕ → X → Type 0) (T : List ℕ → Content → Type 0)
    (make : X → Content)
    (bytes : List ℕ) (at : ℕ) (content : Content) (next : ℕ)
    → ((front : List ℕ) (x : X) → S front x → T front (make x)) → (read : Result (X × ℕ) ReadFault)
    → ((x : X) (n : ℕ) → read ≡ Ok (x, n) → IsEncodedAt S bytes at x n)
    → read_as make read ≡ Ok (content, next)
    → IsEncodedAt T bytes at content next
read-encoded {X = X} S T make bytes at content next as_content read is_encoded e =
    let r = bind_ok read (λ x. Ok (make x.0, x.1)) (content, next) e in
    let pairs = same-content (make r.0.0, r.0.1) (content, next) r.2 in
    let here = standing-as S T bytes at r.0.0 (make r.0.0) r.0.1
    (λ front s. as_content front r.0.0 s)
    (is_encoded r.0.0 r.0.1 r.1) in
    let whole : IsEncodedAt T bytes at (make r.0.0) next =
    subst (λ (n : ℕ). IsEncodedAt T bytes at (make r.0.0) n) (ap (λ (p : Content × ℕ). p.1) pairs)
    here in
    subst (λ (c : Content). IsEncodedAt T bytes at c next) (ap (λ (p : Content × ℕ). p.0) pairs)
    whole

-- a value that is read is also read as a content
pub read_again : {X : Type 0} (make : X → Content) (read : Result (X × ℕ) ReadFault) (x : X)
    (next : ℕ)
    → read ≡ Ok (x, next) → read_as make read ≡ Ok (make x, next)
read_again make read x next is = rw is refl

-- ---- a length, followed by that many bytes

-- the bytes after the encoding at an offset
pub bytes-after : (bytes : List ℕ) (at : ℕ) (front rest : List ℕ) → drop at bytes ≡ front ++ rest
    → drop (at + length front) bytes ≡ rest
bytes-after bytes at front rest parts =
    sym (drop-drop (length front) at bytes) ∙ ap (drop (length front)) parts
    ∙ drop_at front rest (length front) refl

-- a block preceded by the encoding of its length
abbrev IsCounted : (List ℕ → ℕ → Type 0) → List ℕ → List ℕ → Type 0
IsCounted L bytes block = (len : List ℕ) × (bytes ≡ len ++ block) × L len (length block)

counted-encoded : (L : List ℕ → ℕ → Type 0) (bytes : List ℕ) (at : ℕ) (block : List ℕ) (next : ℕ)
    (read : Result (ℕ × ℕ) ReadFault) → ((x n : ℕ) → read ≡ Ok (x, n) → IsEncodedAt L bytes at x n)
    → (read >>= λ len. block_at len.0 bytes len.1) ≡ Ok (block, next)
    → IsEncodedAt (IsCounted L) bytes at block next
counted-encoded L bytes at block next read is_encoded e =
    let r = bind_ok read (λ len. block_at len.0 bytes len.1) (block, next) e in
    let s = is_encoded r.0.0 r.0.1 r.1 in
    let b = block-encoded r.0.0 bytes r.0.1 block next r.2 in
    let rest-is : s.rest ≡ b.front ++ b.rest =
    sym (bytes-after bytes at s.front s.rest s.parts) ∙ ap (λ (n : ℕ). drop n bytes) (sym s.next_is)
    ∙ b.parts in
    let size : length block ≡ r.0.0 = ap length b.encoded.1 ∙ b.encoded.0 in
    record {
      front = s.front ++ b.front;
      rest = b.rest;
      encoded = (
        s.front,
        ap (λ (t : List ℕ). s.front ++ t) (sym b.encoded.1),
        subst (L s.front) (sym size) s.encoded,
      );
      parts = s.parts ∙ ap (λ (t : List ℕ). s.front ++ t) rest-is
          ∙ sym (append_assoc s.front b.front b.rest);
      next_is = omega (arith, b.next_is, s.next_is, length-append s.front b.front);
    }

pub counted-again : (L : List ℕ → ℕ → Type 0) (bytes : List ℕ) (at : ℕ) (block : List ℕ) (next : ℕ)
    (read : Result (ℕ × ℕ) ReadFault) → at ≤ length bytes
    → ((x n : ℕ) → IsEncodedAt L bytes at x n → read ≡ Ok (x, n))
    → IsEncodedAt (IsCounted L) bytes at block next → (read >>= λ len. block_at len.0 bytes len.1)
    ≡ Ok (block, next)
counted-again L bytes at block next read within again s =
    let len = s.encoded.0 in
    let parts : drop at bytes ≡ len ++ (block ++ s.rest) =
    s.parts ∙ ap (λ (t : List ℕ). t ++ s.rest) s.encoded.1 ∙ append_assoc len block s.rest in
    let counted = again (length block) (at + length len)
    (record {
      front = len;
      rest = block ++ s.rest;
      encoded = s.encoded.2;
      parts = parts;
      next_is =
          refl;
    }) in
    let left = length-drop at bytes in
    let all = ap length parts ∙ length-append len (block ++ s.rest) in
    let blocked = block-of bytes (at + length len) block s.rest (omega (arith, left, all))
    (bytes-after bytes at len (block ++ s.rest) parts) in
    let end : at + length len + length block ≡ next =
    omega (arith, s.next_is, ap length s.encoded.1, length-append len block) in
    rw (counted, blocked) (ap (λ (n : ℕ). Ok (block, n)) end)

-- the content of a block with a length
pub counted-as : (bytes : List ℕ) (read : Result (ℕ × ℕ) ReadFault)
    → (read >>= λ len. read_as Bytes (block_at len.0 bytes len.1)) ≡ read_as Bytes
    (read >>= λ len. block_at len.0 bytes len.1)
counted-as bytes (Ok len) = refl
counted-as bytes (Err e) = refl

-- ---- each layout

pub content-encoded : (layout : ValueLayout) (format : Format) (bytes : List ℕ) (at : ℕ)
    (content : Content) (next : ℕ)
    → content_at layout format bytes at ≡ Ok (content, next)
    → IsEncodedAt (EncodesContent layout format) bytes at content next
unfolding content_at
content-encoded (layouts.Fixed width) format bytes at content next e =
    read-encoded (IsFixed (byte_len width)) _ Number bytes at content next (λ front x s. s)
    (fixed_at (byte_len width) bytes at) (λ x n h. fixed-encoded (byte_len width) bytes at x n h) e
content-encoded layouts.Offset Dwarf32 bytes at content next e =
    read-encoded (IsFixed 4) _ Number bytes at content next (λ front x s. s) (fixed_at 4 bytes at)
    (λ x n h. fixed-encoded 4 bytes at x n h) e
content-encoded layouts.Offset Dwarf64 bytes at content next e =
    read-encoded (IsFixed 8) _ Number bytes at content next (λ front x s. s) (fixed_at 8 bytes at)
    (λ x n h. fixed-encoded 8 bytes at x n h) e
content-encoded layouts.Present format bytes at content next e =
    let pairs = same-content (Number 1, at) (content, next) e in
    let here : IsEncodedAt (EncodesContent layouts.Present format) bytes at (Number 1) at =
    record {
      front = [];
      rest = drop at bytes;
      encoded = (refl, refl);
      parts = refl;
      next_is =
          omega arith;
    } in
    let whole = subst (λ (n : ℕ). IsEncodedAt (EncodesContent layouts.Present format) bytes at
    (Number 1) n)
    (ap (λ (p : Content × ℕ). p.1) pairs) here in
    subst (λ (c : Content). IsEncodedAt (EncodesContent layouts.Present format) bytes at c next)
    (ap (λ (p : Content × ℕ). p.0) pairs) whole
content-encoded layouts.Signed format bytes at content next e =
    read-encoded IsSleb _ Signed bytes at content next (λ front x s. s) (sleb_at bytes at)
    (λ x n h. sleb-encoded bytes at x n h) e
content-encoded layouts.Unsigned format bytes at content next e =
    read-encoded IsUleb _ Number bytes at content next (λ front x s. s) (uleb_at bytes at)
    (λ x n h. uleb-encoded bytes at x n h) e
content-encoded layouts.Text format bytes at content next e =
    read-encoded IsText _ Bytes bytes at content next (λ front x s. s) (cstr_at bytes at)
    (λ x n h. text-encoded bytes at x n h) e
content-encoded layouts.Sixteen format bytes at content next e =
    read-encoded (IsBlock 16) _ Bytes bytes at content next (λ front x s. s) (block_at 16 bytes at)
    (λ x n h. block-encoded 16 bytes at x n h) e
content-encoded (layouts.Block width) format bytes at content next e =
    read-encoded (IsCounted (IsFixed (byte_len width))) _ Bytes bytes at content next
    (λ front x s. s)
    (fixed_at (byte_len width) bytes at >>= λ len. block_at len.0 bytes len.1)
    (λ x n h. counted-encoded (IsFixed (byte_len width)) bytes at x n
    (fixed_at (byte_len width) bytes at)
    (λ y m g. fixed-encoded (byte_len width) bytes at y m g) h)
    (sym (counted-as bytes (fixed_at (byte_len width) bytes at)) ∙ e)
content-encoded layouts.LongBlock format bytes at content next e =
    read-encoded (IsCounted IsUleb) _ Bytes bytes at content next (λ front x s. s)
    (uleb_at bytes at >>= λ len. block_at len.0 bytes len.1)
    (λ x n h. counted-encoded IsUleb bytes at x n (uleb_at bytes at)
    (λ y m g. uleb-encoded bytes at y m g) h)
    (sym (counted-as bytes (uleb_at bytes at)) ∙ e)
