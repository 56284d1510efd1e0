-- Reading attributes in runs is reading them one by one.
use Rattle.dwarf_units.proofs.Common
use Common.{Attribute, AttributeSpecification, Bool, Cause, Checked, Format, List, None}
use Common.{Ok, Option, Result, Some, Unchecked, UsedName, UsedPosition, ValueLayout, [], all_at}
use Common.{append-nil, append_assoc, arith, attribute_at, attribute_in, attributes_at}
use Common.{attributes_in, block_at, cond, content_at, end_of, fixed_len, is_used, last_at, length}
use Common.{named_by, nat_le, number_in, number_of, option_and_then_some, option_map, option_map_or}
use Common.{option_to_list, reading, refl, run_before, runs_from, runs_of, same_Some}
use Common.{stored_attributes, stored_attributes_at, stretch_at, sym, then_read, true}
use Common.{unchecked_layout, used_after, used_among, used_attributes_at, used_name, used_position}
use Common.{used_value, ℕ, ◌++◌, ◌+◌, ◌>>=◌, ◌∙◌, ◌∷◌, ◌≡◌, ◌≤◌}
use Rattle.dwarf_units.proofs.{EntryAdvances.attributes-stay, FixedValues.{after_bytes, fixed-at}}
use Rattle.dwarf_units.proofs.{FixedValues.{unchecked-read, with_number}, SlotLaws.among-append}
use Rattle.dwarf_units.proofs.{SlotLaws.{some-used, used-none, used-some}, StoredReads.one-read}
use Rattle.dwarf_units.proofs.StoredReads.{stored-append, used_both}
use Rattle.dwarf_units.specs.declared.used_position.UsedValue.{UsedValue}
use Rattle.std.{proofs.lemmas.List.map-append, specs.Prelude.option_and_then}

-- ---- two reads

-- n bytes, and an attribute of m bytes.
fixed-step : (n m : ℕ) (bytes : List ℕ) (at : ℕ) (front here : List Attribute)
    (next : ℕ → Result (List Attribute × ℕ) Cause)
    → (at + n ≤ length bytes → next (at + n) ≡ after_bytes m bytes (at + n) (λ k. Ok (here, k)))
    → after_bytes (n + m) bytes at (λ k. Ok (front ++ here, k))
    ≡ then_read (after_bytes n bytes at (λ k. Ok (front, k))) next
unfolding block_at
fixed-step n m bytes at front here next is = grind (arith, is)

then-same : (r : Result (List Attribute × ℕ) Cause) (next other : ℕ → Result (List Attribute × ℕ)
    Cause) → ((x : List Attribute × ℕ) → r ≡ Ok x → next x.1 ≡ other x.1)
    → then_read r next ≡ then_read r other
then-same r next other same = grind (arith, same)

-- ---- the attributes of a declaration

module _ (keep : Bool) (format : Format) (bytes : List ℕ) where
  abbrev stored : List AttributeSpecification → ℕ → Result (List Attribute × ℕ) Cause
  stored declared at = stored_attributes_at keep format declared bytes at

  abbrev stretch : ℕ → List UsedPosition → ℕ → Result (List Attribute × ℕ) Cause
  stretch n used at = stretch_at keep (record { len = n; used = used }) bytes at

  -- A stretch, and the attribute after it.
  abbrev then_one : ℕ → List UsedPosition → AttributeSpecification → ℕ
      → Result (List Attribute × ℕ) Cause
  then_one n used s at = then_read (stretch n used at) (stored (s ∷ []))

  -- The attributes at these positions if they are stored, otherwise none.
  abbrev kept_in : ℕ → List UsedPosition → List Attribute
  kept_in first used = cond keep (attributes_in bytes first used) []

  kept-append : (first : ℕ) (used more : List UsedPosition)
      → kept_in first (used ++ more) ≡ kept_in first used ++ kept_in first more
  kept-append first used more =
      grind (arith, map-append (attribute_in bytes first) used more)

  -- The attribute with a number, if it is stored.
  abbrev here_in : AttributeSpecification → ℕ → List Attribute
  here_in s number = stored_attributes keep (record {
    name = s.name;
    value = record { form = s.form; number = number };
  } ∷ [])

  here-named : (s : AttributeSpecification) (number : ℕ) (found : Option UsedName)
      → used_name s.name ≡ found → here_in s number
      ≡ cond keep (named_by found (record { form = s.form; number = number })) []
  here-named s number None is = rw (used-none s.name is) refl
  here-named s number (Some name) is = rw (used-some _ name is) refl

  -- The attribute is at its position.
  here-kept : (s : AttributeSpecification) (first n number : ℕ) → (is_used s.name ≡ true
      → option_map (number_in bytes first) (used_value format n s) ≡ Some number)
      → (found : Option UsedName) → used_name s.name ≡ found → here_in s number
      ≡ kept_in first (option_to_list (option_and_then (λ name. option_map
      (λ value. record { name = name; form = s.form; value = value }) (used_value format n s))
      found))
  here-kept s first n number place None is = rw (used-none s.name is) refl
  here-kept s first n number place (Some name) is =
      by_value (used_value format n s) (place (some-used s.name name is))
    where
      by_value : (value : Option UsedValue) → option_map (number_in bytes first) value
          ≡ Some number → here_in s number ≡ kept_in first (option_to_list
          (option_map (λ v. record { name = name; form = s.form; value = v }) value))
      by_value None none = cc
      by_value (Some v) some =
          rw (
            here-named s number (Some name) is,
            same_Some (number_in bytes first v) number some,
          ) refl

  stored-one : {X : Type 0} (s : AttributeSpecification) (at : ℕ) (r : Result X Cause)
      (number end : X → ℕ)
      → attribute_at format s bytes at ≡ (r >>= λ x. with_number s (number x) (end x))
      → stored (s ∷ []) at ≡ (r >>= λ x. Ok (here_in s (number x), end x))
  stored-one s at r number end is =
      rw (one-read keep format s bytes at _ is) (grind arith)

  fixed-one : (n m : ℕ) (used : List UsedPosition) (s : AttributeSpecification) (at : ℕ)
      → fixed_len format s ≡ Some m
      → stretch (n + m) (used ++ option_to_list (used_position format n s)) at
      ≡ then_one n used s at
  fixed-one n m used s at len =
      rw (kept-append at used (option_to_list (used_position format n s)))
      (fixed-step n m bytes at (kept_in at used)
      (kept_in at (option_to_list (used_position format n s))) (stored (s ∷ []))
      (λ le.
      let is = fixed-at format s bytes at n m len le in
      rw (← here-kept s at n is.number is.place (used_name s.name) refl)
      (stored-one s (at + n) (reading (block_at m bytes (at + n))) (λ _. is.number)
      (λ block. block.1) is.read)))

  last-read : (name : Option UsedName) (form : ℕ) (layout : ValueLayout) (at : ℕ)
      (here : ℕ → List Attribute) → ((number : ℕ) → here number
      ≡ cond keep (named_by name (record { form = form; number = number })) [])
      → last_at keep format (Unchecked name form layout) bytes at
      ≡ (reading (content_at layout format bytes at) >>= λ c. Ok (here (number_of c.0 c.1), c.1))
  last-read name form layout at here is = grind (arith, is)

  last-one : (s : AttributeSpecification) (at : ℕ) (found : Option ValueLayout)
      → unchecked_layout s ≡ found → last_at keep format (option_map_or
      (λ layout. Unchecked (used_name s.name) s.form layout) found (Checked s)) bytes at
      ≡ stored (s ∷ []) at
  last-one s at None checked = refl
  last-one s at (Some layout) unchecked = last-read (used_name s.name) s.form layout at (here_in s)
      (λ number. here-named s number (used_name s.name) refl)
      ∙ sym (stored-one s at (reading (content_at layout format bytes at))
      (λ c. number_of c.0 c.1) (λ c. c.1) (unchecked-read format s bytes layout at unchecked))

  stored-within : (declared : List AttributeSpecification) (at : ℕ) (x : List Attribute × ℕ)
      → at ≤ length bytes → stored declared at ≡ Ok x → x.1 ≤ length bytes
  stored-within declared at x le is = grind (arith, attributes-stay format declared bytes at)

  no-stretch : (at : ℕ) → at ≤ length bytes → stretch 0 [] at ≡ stored [] at
  unfolding block_at attributes_at
  no-stretch at le = grind (arith, le)

  -- The attributes of a stretch, and the one after it.
  one-more : (done : List AttributeSpecification) (n : ℕ) (used : List UsedPosition)
      (s : AttributeSpecification) (at : ℕ) → stretch n used at ≡ stored done at
      → then_one n used s at ≡ stored (done ++ s ∷ []) at
  one-more done n used s at is = rw (is, stored-append) refl

  -- `done` are the attributes of the stretch so far.
  have-runs : (done : List AttributeSpecification) (n : ℕ) (used : List UsedPosition)
      (declared : List AttributeSpecification) (at : ℕ) → stretch n used at ≡ stored done at
      → at ≤ length bytes → all_at keep format (runs_from format n used declared) bytes at
      ≡ stored (done ++ declared) at
  unfolding runs_from
  have-runs done n used [] at is le = rw (append-nil done) is
  have-runs done n used (s ∷ ss) at is le =
      rw (← append_assoc done (s ∷ []) ss)
      (by_end (end_of format n s) refl (λ end more. have-runs (done ++ s ∷ []) end more ss at)
      (λ k within. have-runs [] 0 [] ss k (no-stretch k within) within))
    where
      position : List UsedPosition
      position = option_to_list (used_position format n s)

      by_end : (end : Option ℕ) → end_of format n s ≡ end
          → ((k : ℕ) (more : List UsedPosition) → stretch k more at ≡ stored (done ++ s ∷ []) at
          → at ≤ length bytes → all_at keep format (runs_from format k more ss) bytes at
          ≡ stored ((done ++ s ∷ []) ++ ss) at)
          → ((k : ℕ) → k ≤ length bytes → all_at keep format (runs_from format 0 [] ss) bytes k
          ≡ stored ss k) → all_at keep format
          (option_map_or (λ end. runs_from format end (used ++ position) ss) end
          (let others = runs_from format 0 [] ss in
          record others { runs = run_before n used s ∷ others.runs })) bytes at
          ≡ stored ((done ++ s ∷ []) ++ ss) at
      by_end None none more rest = rw (
        then-same (stretch n used at) _ (stored (s ∷ []))
            (λ x _. last-one s x.1 (unchecked_layout s) refl),
        one-more done n used s at is,
        stored-append keep format (done ++ s ∷ []) ss bytes at,
      )
          (then-same (stored (done ++ s ∷ []) at) _ (stored ss)
          (λ x found. rest x.1 (stored-within (done ++ s ∷ []) at x le found)))
      by_end (Some end) some more rest =
          option_and_then_some (λ m. cond (nat_le (n + m) 65535) (Some (n + m)) None)
          (fixed_len format s) end some (λ m len small.
          let same : n + m ≡ end = grind (arith, small) in
          rw (← same) (more (n + m) (used ++ position)
          (fixed-one n m used s at len ∙ one-more done n used s at is) le))

  pub runs-read : (declared : List AttributeSpecification) (at : ℕ) → at ≤ length bytes
      → all_at keep format (runs_of format declared) bytes at ≡ stored declared at
  runs-read declared at le = have-runs [] 0 [] declared at (no-stretch at le) le

-- ---- an entry

-- The runs of the unshared attributes and then the shared attributes give all of a declaration.
pub own-rest : (keep : Bool) (format : Format) (own rest : List AttributeSpecification)
    (bytes : List ℕ) (at : ℕ) → at ≤ length bytes
    → used_attributes_at keep format (own ++ rest) bytes at ≡ used_after (used_among [])
    (then_read (all_at keep format (runs_of format own) bytes at)
    (λ place. stored_attributes_at keep format rest bytes place))
own-rest keep format own rest bytes at le =
    rw (runs-read keep format bytes own at le, ← stored-append keep format own rest bytes at)
    (grind (arith, among-append []))

-- What the read of all attributes needs.
pub ruleset all_reads = (own-rest, used_both)

-- What the read of unshared attributes needs.
pub ruleset own_reads = (runs-read, append-nil)
