-- Attribute lists by their first attributes and the rest.
use Rattle.abbreviation_memo.specs.Lists.{IsListAt, first_of, list_at, list_from, listed}
use Rattle.dwarf_bytes.proofs.Items.ItemLaws.{Lists-within, first_step, items_from-Lists}
use Rattle.dwarf_bytes.proofs.Items.{ItemLaws.{items_from-step, with_front}, Turns.SoFar}
use Rattle.dwarf_bytes.proofs.{Items.Turns.{so-far-item, so-far-none}, Numbers.Moves.same-item}
use Rattle.dwarf_bytes.specs.Items.{At, End, Item, Lists, items_from, without_offset}
use Rattle.dwarf_bytes.specs.{Position.Position, Refusals.ReadsNext, declared.fault.Cause.Cause}
use Rattle.dwarf_forms.proofs.Moves.{attribute_at-advances, attribute_at-ends, attributes-ok}
use Rattle.dwarf_forms.proofs.Moves.{attributes_at-lists, attributes_at-moves, found, with-offset}
use Rattle.dwarf_forms.proofs.SuffixLists.{attribute-again, end-again, list-continues, named}
use Rattle.dwarf_forms.specs.Tables.{attribute_at, attributes_at}
use Rattle.dwarf_forms.specs.declared.attribute.AttributeSpecification.{AttributeSpecification}
use Rattle.std.proofs.Common.{Err, IfSome, List, None, Ok, Option, Result, Some, [], ap, append-nil}
use Rattle.std.proofs.Common.{append_assoc, arith, false, length, refl, suc, sym, ℕ, ◌++◌, ◌-◌, ◌<◌}
use Rattle.std.proofs.{Common.{◌==◌, ◌∙◌, ◌∷◌, ◌≡◌, ◌≤◌}, lemmas.List.Folds.list_any-append}
use Rattle.std.specs.List.{list_any}

pub list-read : (section : List ℕ) (at : ℕ) (xs : List AttributeSpecification) (after : ℕ)
    → attributes_at section at ≡ Ok (xs, after) → list_at section at ≡ xs
list-read section at xs after read = ap listed read

-- a list, by its first attribute
attributes-step : (section : List ℕ) (at : ℕ) → attributes_at section at ≡ without_offset
    (first_step (items_from (length section) (attribute_at section)) [] at
    (attribute_at section [] at))
unfolding attributes_at
attributes-step section at =
    ap without_offset (items_from-step _ _ (attribute_at-advances section) [] at)

pub attribute-before : (section : List ℕ) (place at after : ℕ) (x : AttributeSpecification)
    (rest : List AttributeSpecification) → attribute_at section [] place ≡ Ok (Item x at)
    → attributes_at section at ≡ Ok (rest, after)
    → list_any (λ other. other.name == x.name) rest ≡ false
    → attributes_at section place ≡ Ok (x ∷ rest, after)
attribute-before section place at after x rest first read new =
    let so_far = so-far-item _ _ (attribute_at-advances section) place [] place x at
    (so-far-none _ _ place) first in
    list-continues section place (x ∷ []) at rest after so_far read (rw new refl)

pub list-ends : (section : List ℕ) (at after : ℕ) → attribute_at section [] at ≡ Ok (End after)
    → attributes_at section at ≡ Ok ([], after)
list-ends section at after ends = rw (attributes-step section at, ends) refl

-- ---- the first attribute of a valid list

-- a list that is read after other attributes is also read without them
lists-alone : (section : List ℕ) (own before : List AttributeSpecification) (at : ℕ)
    (xs : List AttributeSpecification) (next : ℕ)
    → Lists (attribute_at section) (own ++ before) at xs next
    → Lists (attribute_at section) before at xs next
lists-alone section own before at [] next listed =
    end-again section (own ++ before) before at next listed
lists-alone section own before at (x ∷ xs) next listed =
    let new : list_any (named x.name) before ≡ false = grind (
      arith,
      list_any-append (named x.name) own before,
      (found section (own ++ before) at (Item x listed.0) listed.1).1.1,
    ) in (
      listed.0,
      attribute-again section (own ++ before) before at x listed.0 listed.1 new,
      lists-alone section own (before ++ x ∷ []) listed.0 xs next
          (rw (append_assoc own before (x ∷ [])) at listed.2),
    )

-- the attributes of a valid list after its first ones
others-listed : (section : List ℕ) (place : ℕ) (first : List AttributeSpecification) (at : ℕ)
    → SoFar (length section) (attribute_at section) place first at → IsListAt section place
    → (xs : List AttributeSpecification) × (end : ℕ) × Lists (attribute_at section) first at xs end
    × (list_at section place ≡ first ++ xs)
unfolding attributes_at
others-listed section place first at so_far is =
    by_rest (items_from (length section) (attribute_at section) first at) refl
    (so_far ∙ with-offset _ _ is.1)
  where
    by_rest : (r : Result (List AttributeSpecification × ℕ) At)
        → items_from (length section) (attribute_at section) first at ≡ r
        → with_front first r ≡ Ok (list_at section place, is.0)
        → (xs : List AttributeSpecification) × (end : ℕ)
        × Lists (attribute_at section) first at xs end × (list_at section place ≡ first ++ xs)
    by_rest (Ok (xs, end)) read whole = (
      xs,
      end,
      Lists-within (suc (length section - at)) _ first at xs end read,
      grind (arith, whole),
    )
    by_rest (Err e) read whole = absurd (grind (arith, whole))

-- the attributes of a valid list from an offset on are a valid list
pub rest-valid : (section : List ℕ) (place : ℕ) (first : List AttributeSpecification) (at : ℕ)
    → SoFar (length section) (attribute_at section) place first at → IsListAt section place
    → (list_at section place ≡ first ++ list_at section at) × IsListAt section at
rest-valid section place first at so_far is =
    let (xs, end, listed, whole) = others-listed section place first at so_far is in
    let others : attributes_at section at ≡ Ok (xs, end) = attributes-ok section at (xs, end)
    (items_from-Lists _ _ (attribute_at-advances section) [] at xs end
    (lists-alone section first [] at xs end (rw (append-nil first) listed))) in
    (rw others whole, (end, rw others refl))

-- the list at an offset, by its first attribute
pub record StartsAt (section : List ℕ) (place : ℕ) (first : Option AttributeSpecification)
    (rest : ℕ) : Type 0 where
  pub list : list_at section place ≡ list_from section first rest
  pub after : IfSome first (λ _. (place < rest) × IsListAt section rest)

pub starts-at : (section : List ℕ) (place : ℕ) (first : Option AttributeSpecification) (rest : ℕ)
    → IsListAt section place → attribute_at section [] place ≡ Ok (first_of first rest)
    → StartsAt section place first rest
starts-at section place None rest is read = record {
  list = list-read section place [] rest (list-ends section place rest read);
  after = tt;
}
starts-at section place (Some x) rest is read = by_list (list_at section place) refl
    (attributes_at-lists section place (list_at section place, is.0) is.1)
  where
    by_list : (xs : List AttributeSpecification) → list_at section place ≡ xs
        → Lists (attribute_at section) [] place xs is.0 → StartsAt section place (Some x) rest
    by_list [] list listed = cc
    by_list (y ∷ ys) list listed =
        let same = same-item x y rest listed.0 (sym read ∙ listed.1) in
        let others : attributes_at section rest ≡ Ok (ys, is.0) =
        attributes-ok section rest (ys, is.0)
        (items_from-Lists _ _ (attribute_at-advances section) [] rest ys is.0
        (lists-alone section (y ∷ []) [] rest ys is.0 (rw (← same.1) at listed.2))) in
        record {
          list = rw (list, ← same.0, others) refl;
          after = (
            (attribute_at-advances section [] place x rest read).0,
            (is.0, rw others refl),
          );
        }

-- ---- reading the start of a list

pub start-later : (section : List ℕ) (place : ℕ) (old new : Position)
    (found : Option AttributeSpecification) → old ≡ record { bytes = section; place = place }
    → ReadsNext (Ok found) (λ bytes. attribute_at bytes []) old new
    → (place < new.place) × (new.place ≤ length section)
start-later section place old new None start read =
    attribute_at-ends section [] place new.place (rw start at read.0)
start-later section place old new (Some x) start read =
    attribute_at-advances section [] place x new.place (rw start at read.0)

-- a valid list has a valid start
pub start-valid : {X : Type 0} (section : List ℕ) (place : ℕ) (cause : Cause)
    → IsListAt section place → attribute_at section [] place ≡ Err cause → X
start-valid section place cause is fault =
    let read = rw (attributes-step section place, fault) at is.1 in cc

pub list-within : (section : List ℕ) (place : ℕ) → IsListAt section place → place < length section
list-within section place is =
    let moved = attributes_at-moves section place (list_at section place, is.0) is.1 in
    omega (arith, moved.0, moved.1)
