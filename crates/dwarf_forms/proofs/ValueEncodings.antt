-- Values are read if and only if they are encoded, in both directions.
use Rattle.dwarf_bytes.proofs.Contents.{ContentEncodings.content-again, ContentLaws.content-encoded}
use Rattle.dwarf_bytes.{proofs.Numbers.LebEncodings.{uleb-again, uleb-encoded}, specs.Bind.◌>>=◌}
use Rattle.dwarf_bytes.specs.{Contents.{Signed, content_at}, Forms.form_of}
use Rattle.dwarf_bytes.specs.{Numbers.{IsEncodedAt, uleb_at}, declared.form.Form.Form as Shape}
use Rattle.dwarf_bytes.specs.declared.form.Form.TheVariants.{Direct, ImplicitConst, Indirect}
use Rattle.dwarf_bytes.specs.{declared.form.ValueLayout.ValueLayout, declared.format.Format.Format}
use Rattle.dwarf_forms.specs.Values.{SpellsDirectly, SpellsIndirectly, Value, direct_at}
use Rattle.dwarf_forms.specs.{Values.reading_value, declared.values.ValueFault.ValueFault}
use Rattle.dwarf_forms.specs.declared.values.ValueFault.TheVariants.{Form}
use Rattle.std.proofs.Common.{Err, List, None, Ok, Option, Result, Some, [], ap, arith, length}
use Rattle.std.proofs.Common.{refl, subst, sym, ℕ, ℤ, ◌++◌, ◌+◌, ◌↔◌, ◌≡◌}
use Rattle.dwarf_forms.proofs.Encodings.{again, both, encoded, nothing, parted, stands}

module _ (format : Format) (bytes : List ℕ) (at : ℕ) (value : Value) (next : ℕ) where
  -- the layout of the form, and the read of the content
  direct-parts : (f : Option Shape) (form : ℕ)
      → (elim f as (λ _. Result (Value × ℕ) ValueFault) [
        | None ↦ Err Form
        | Some (Direct layout) ↦ reading_value (content_at layout format bytes at)
            >>= λ read. Ok (record { form = form; content = read.0 }, read.1)
        | Some ImplicitConst ↦ Err Form
        | Some Indirect ↦ Err Form
      ]) ≡ Ok (value, next) → (layout : ValueLayout) × (f ≡ Some (Direct layout))
      × (content_at layout format bytes at ≡ Ok (value.content, next)) × (value.form ≡ form)
  direct-parts f form h = grind arith

  direct-decoded : (form : ℕ) → (direct_at form format bytes at ≡ Ok (value, next))
      ↔ IsEncodedAt (SpellsDirectly form format) bytes at value next
  unfolding direct_at
  direct-decoded form = (
    λ h. let p = direct-parts (form_of form) form h in
        let s = content-encoded p.0 format bytes at value.content next p.2 in
        again s (p.0, p.1, s.encoded, p.3),
    λ s. let content = content-again s.encoded.0 format bytes at value.content next
        (again s s.encoded.2) in
        rw (s.encoded.1, direct_at, content, ← s.encoded.3) refl,
  )

module _ (form : ℕ) (format : Format) where
  -- the encoding of a value, by what its form is, ..
  abbrev Spells_by : Option Shape → Option ℤ → List ℕ → Value → Type 0
  Spells_by f constant front value = elim f [
    | None ↦ ⊥
    | Some (Direct layout) ↦ SpellsDirectly form format front value
    | Some ImplicitConst ↦ (c : ℤ) × (constant ≡ Some c) × (front ≡ [])
        × (value ≡ record { form = form; content = Signed c })
    | Some Indirect ↦ SpellsIndirectly format front value
  ]

  -- .. and the read of one
  abbrev Value_read : Option Shape → Option ℤ → List ℕ → ℕ → Result (Value × ℕ) ValueFault
  Value_read f constant bytes at = elim f [
    | None ↦ Err Form
    | Some (Direct layout) ↦ direct_at form format bytes at
    | Some ImplicitConst ↦ (elim constant [
      | None ↦ Err Form
      | Some c ↦ Ok
          (record { form = form; content = Signed c }, at)
    ])
    | Some Indirect ↦ reading_value (uleb_at bytes at)
        >>= λ inner. direct_at inner.0 format bytes inner.1
  ]

  -- a value is read if and only if it is encoded
  pub value-decoded : (f : Option Shape) (constant : Option ℤ) (bytes : List ℕ) (at : ℕ)
      (value : Value) (next : ℕ) → (Value_read f constant bytes at ≡ Ok (value, next))
      ↔ IsEncodedAt (Spells_by f constant) bytes at value next
  value-decoded None constant bytes at value next = (λ h. cc, λ s. absurd s.encoded)
  value-decoded (Some (Direct layout)) constant bytes at value next =
      direct-decoded format bytes at value next form
  value-decoded (Some ImplicitConst) None bytes at value next = (λ h. cc, λ s. cc (s.encoded.1))
  value-decoded (Some ImplicitConst) (Some c) bytes at value next = (
    λ h. let same : (value ≡ record { form = form; content = Signed c }) × (at ≡ next) =
        grind (arith, h) in
        rw (← same.1) (encoded (c, refl, refl, same.0) nothing),
    λ s. let place : at ≡ next = omega (arith, s.next_is, ap length s.encoded.2) in
        rw (s.encoded.3, place) (cc (s.encoded.1)),
  )
  value-decoded (Some Indirect) constant bytes at value next = (
    λ h. let p : (inner : ℕ) × (mid : ℕ) × (uleb_at bytes at ≡ Ok (inner, mid))
        × (direct_at inner format bytes mid ≡ Ok (value, next)) = grind (arith, h) in
        let inner = uleb-encoded bytes at p.0 p.1 p.2 in
        let direct = (direct-decoded format bytes p.1 value next p.0).0 p.3 in
        both inner direct (record {
          front = inner.front;
          rest = direct.front;
          whole = refl {a = inner.front ++ direct.front};
          form_is = rw direct.encoded.3 inner.encoded;
          value_is = subst (λ (f : ℕ). SpellsDirectly f format direct.front value)
              (sym direct.encoded.3) direct.encoded;
        }),
    λ s. let e = s.encoded in
        let parts = parted e.front e.rest e.whole (stands s) in
        let mid = at + length e.front in
        rw (
          uleb-again bytes at value.form mid (encoded e.form_is parts.0),
          (direct-decoded format bytes mid value next value.form).1 (encoded e.value_is parts.1),
        ) refl,
  )
