-- Attribute values (DWARF 5, 7.5.5 and 7.5.6): how a form encodes a value, and how it is read.
use Rattle.dwarf_bytes.specs.{Bind.◌>>=◌, Contents.{Content, EncodesContent, Signed, content_at}}
use Rattle.dwarf_bytes.specs.{Contents.content_of, Forms.form_of, Numbers.{IsUleb, uleb_at}}
use Rattle.dwarf_bytes.specs.{Position.Position, declared.fault.ReadFault.ReadFault}
use Rattle.dwarf_bytes.specs.declared.form.Form.TheVariants.{Direct, ImplicitConst, Indirect}
use Rattle.dwarf_bytes.specs.declared.{form.ValueLayout.ValueLayout, format.Format.Format}
use Rattle.dwarf_forms.specs.declared.values.ValueFault.{TheVariants.{Form, Read}, ValueFault}
use Rattle.std.specs.Prelude.{Err, List, None, Ok, Option, Result, Some, [], ℕ, ℤ, ◌++◌, ◌≡◌}
use Rattle.dwarf_forms.specs.declared.values.Value.{Value as Lent}

-- a value with its form, independent of where its bytes are stored
pub record Value : Type 0 where
  pub form : ℕ
  pub content : Content

-- the model of a value of the program
abbrev pub value_of : Lent → Value
value_of value = record { form = value.form; content = content_of value.content }

-- The bytes encode the value in this form, which is neither indirect nor one whose value is in the
-- declaration.
abbrev pub SpellsDirectly : ℕ → Format → List ℕ → Value → Type 0
SpellsDirectly form format bytes value =
    (layout : ValueLayout) × (form_of form ≡ Some (Direct layout))
    × EncodesContent layout format bytes value.content × (value.form ≡ form)

-- The bytes encode a form, followed by a value in that form.
pub record SpellsIndirectly (format : Format) (bytes : List ℕ) (value : Value) : Type 0 where
  pub front : List ℕ
  pub rest : List ℕ
  pub whole : bytes ≡ front ++ rest
  pub form_is : IsUleb front value.form
  pub value_is : SpellsDirectly value.form format rest value

-- The bytes encode the value in this form, in a unit of the format; the constant is that of the
-- declaration.
abbrev pub Spells : ℕ → Format → Option ℤ → List ℕ → Value → Type 0
Spells form format constant bytes value = elim (form_of form) [
  | None ↦ ⊥
  | Some (Direct layout) ↦ SpellsDirectly form format bytes value
  | Some ImplicitConst ↦ (c : ℤ) × (constant ≡ Some c) × (bytes ≡ [])
      × (value ≡ record { form = form; content = Signed c })
  | Some Indirect ↦ SpellsIndirectly format bytes value
]

-- a read whose fault is converted into one of a value
abbrev pub reading_value : {X : Type 0} → Result X ReadFault → Result X ValueFault
reading_value (Ok x) = Ok x
reading_value (Err fault) = Err (Read fault)

-- the value at an offset in a form that is neither indirect nor one whose value is in the
-- declaration
unfoldable pub direct_at : ℕ → Format → List ℕ → ℕ → Result (Value × ℕ) ValueFault
direct_at form format bytes at = elim (form_of form) [
  | None ↦ Err Form
  | Some (Direct layout) ↦ reading_value (content_at layout format bytes at)
      >>= λ read. Ok (record { form = form; content = read.0 }, read.1)
  | Some ImplicitConst ↦ Err Form
  | Some Indirect ↦ Err Form
]

-- the value at an offset, and the offset after it
unfoldable pub value_at : ℕ → Format → Option ℤ → List ℕ → ℕ → Result (Value × ℕ) ValueFault
value_at form format constant bytes at = elim (form_of form) [
  | None ↦ Err Form
  | Some (Direct layout) ↦ direct_at form format bytes at
  | Some ImplicitConst ↦ (elim constant [
    | None ↦ Err Form
    | Some c ↦ Ok
        (record { form = form; content = Signed c }, at)
  ])
  | Some Indirect ↦ reading_value (uleb_at bytes at)
      >>= λ inner. direct_at inner.0 format bytes inner.1
]

-- The result of a call is the value read at the cursor's offset, and the cursor moves after it. On
-- a fault the cursor does not move.
abbrev pub ReadsValue : Result Lent ValueFault → (List ℕ → ℕ → Result (Value × ℕ) ValueFault)
    → Position → Position → Type 0
ReadsValue (Ok value) read old new =
    (read old.bytes old.place ≡ Ok (value_of value, new.place)) × (new.bytes ≡ old.bytes)
ReadsValue (Err fault) read old new = (read old.bytes old.place ≡ Err fault) × (new ≡ old)
