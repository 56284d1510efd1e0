-- The contents of values (DWARF 5, 7.5.5 and 7.5.6): how each layout encodes a value, and how it is
-- read.
use Rattle.std.specs.Prelude.{◌≡◌, ℕ, ℤ, List, [], ◌++◌, length, Result, Ok}
use Rattle.dwarf_bytes.specs.declared.fault.ReadFault.{ReadFault}
use Rattle.dwarf_bytes.specs.declared.format.Format.{Format}
use Rattle.dwarf_bytes.specs.declared.form.ValueLayout.{ValueLayout}
use Rattle.dwarf_bytes.specs.declared.form.ValueLayout.TheVariants as layouts
use Rattle.dwarf_bytes.specs.declared.content.Content.{Content as Lent}
use Rattle.dwarf_bytes.specs.declared.content.Content.TheVariants as lent
use Rattle.dwarf_bytes.specs.Bind.{◌>>=◌}
use Rattle.dwarf_bytes.specs.Numbers.{block_at, fixed_at, offset_len, offset_at, uleb_at, sleb_at}
use Rattle.dwarf_bytes.specs.Numbers.{cstr_at, IsFixed, IsText, IsUleb, IsSleb}
use Rattle.dwarf_bytes.specs.Forms.{byte_len}

-- a value, independent of where its bytes are stored
pub data Content : Type 0 where
  Number : ℕ → Content
  Signed : ℤ → Content
  Bytes : List ℕ → Content

-- the model of a content of the program
abbrev pub content_of : Lent → Content
content_of (lent.Number n) = Number n
content_of (lent.Signed z) = Signed z
content_of (lent.Bytes b) = Bytes b.now

-- the bytes of a content
abbrev pub block_in : Content → List ℕ
block_in (Bytes b) = b
block_in content = []

-- The bytes encode the content in this layout.
abbrev pub EncodesContent : ValueLayout → Format → List ℕ → Content → Type 0
EncodesContent (layouts.Fixed width) format bytes (Number v) = IsFixed (byte_len width) bytes v
EncodesContent layouts.Offset format bytes (Number v) = IsFixed (offset_len format) bytes v
EncodesContent layouts.Present format bytes (Number v) = (bytes ≡ []) × (v ≡ 1)
EncodesContent layouts.Signed format bytes (Signed v) = IsSleb bytes v
EncodesContent layouts.Unsigned format bytes (Number v) = IsUleb bytes v
EncodesContent layouts.Text format bytes (Bytes text) = IsText bytes text
EncodesContent layouts.Sixteen format bytes (Bytes block) = (length bytes ≡ 16) × (block ≡ bytes)
EncodesContent (layouts.Block width) format bytes (Bytes block) =
    (len : List ℕ) × (bytes ≡ len ++ block) × IsFixed (byte_len width) len (length block)
EncodesContent layouts.LongBlock format bytes (Bytes block) =
    (len : List ℕ) × (bytes ≡ len ++ block) × IsUleb len (length block)
EncodesContent layout format bytes content = ⊥

-- converts the value of a read into a content
abbrev pub read_as : {X : Type 0} → (X → Content) → Result (X × ℕ) ReadFault
    → Result (Content × ℕ) ReadFault
read_as content read = read >>= λ x. Ok (content x.0, x.1)

-- the content in a layout at an offset, and the offset after it
unfoldable pub content_at : ValueLayout → Format → List ℕ → ℕ → Result (Content × ℕ) ReadFault
content_at (layouts.Fixed width) format bytes at =
    read_as Number (fixed_at (byte_len width) bytes at)
content_at layouts.Offset format bytes at = read_as Number (offset_at format bytes at)
content_at layouts.Present format bytes at = Ok (Number 1, at)
content_at layouts.Signed format bytes at = read_as Signed (sleb_at bytes at)
content_at layouts.Unsigned format bytes at = read_as Number (uleb_at bytes at)
content_at layouts.Text format bytes at = read_as Bytes (cstr_at bytes at)
content_at layouts.Sixteen format bytes at = read_as Bytes (block_at 16 bytes at)
content_at (layouts.Block width) format bytes at =
    fixed_at (byte_len width) bytes at >>= λ len. read_as Bytes (block_at len.0 bytes len.1)
content_at layouts.LongBlock format bytes at =
    uleb_at bytes at >>= λ len. read_as Bytes (block_at len.0 bytes len.1)
