-- The index of the first NULs of blocks, and the lookup of strings in it.
use Rattle.std.proofs.Common.{◌≡◌, ℕ, zero, suc, ◌+◌, ◌-◌, ◌*◌, ◌/◌, ◌<◌, ◌≤◌, ◌⊎◌, inl, inr, List}
use Rattle.std.proofs.Common.{[], ◌∷◌, ◌++◌, length, take, drop, get_or, reverse, refl, ap, sym}
use Rattle.std.proofs.Common.{◌∙◌, arith}
use Rattle.std.specs.Prelude.{Option, Some, None, option_map, Ok, Err, position, slice_get}
use Rattle.std.specs.Prelude.{unwrap_or, ok_or, Result}
use Rattle.std.specs.Option.{option_map_or, option_or}
use Rattle.std.proofs.lemmas.Option.{slice_get_cases}
use Rattle.std.proofs.lemmas.List.{drop_all, reverse-append}
use Rattle.dwarf_bytes.specs.declared.fault.ReadFault.{ReadFault}
use Rattle.dwarf_bytes.specs.declared.fault.ReadFault.TheVariants.{Unterminated}
use Rattle.dwarf_bytes.specs.Numbers.{text_front, text_at}
use Rattle.dwarf_bytes.specs.Private.Nuls.{nul_from, block_len, nuls_from, AreNuls}
use Rattle.dwarf_bytes.proofs.Strings.FirstNuls.{is_nul, nul-after, nul-in-block, none-in-block}
use Rattle.dwarf_bytes.proofs.Strings.FirstNuls.{nul-outside}

-- ---- the index

nuls-length : (section : List ℕ) (block count : ℕ) → length (nuls_from section block count) ≡ count
nuls-length section block zero = refl
nuls-length section block (suc count) = ap (λ (n : ℕ). suc n)
    (nuls-length section (block + 1) count)

nuls-get : (section : List ℕ) (block count i : ℕ) (found : Option ℕ)
    → slice_get (nuls_from section block count) i ≡ Some found
    → found ≡ nul_from section (block_len * (block + i))
nuls-get section block zero i found h = absurd (never h)
  where
    never : None ≡ (let f : Option ℕ → Option (Option ℕ) = λ z. Some z in f found) → ⊥
    never h = cc
nuls-get section block (suc count) zero found h =
    sym (same h) ∙ ap (λ (k : ℕ). nul_from section (block_len * k)) (omega arith)
  where
    same : {x y : Option ℕ} → (let f : Option ℕ → Option (Option ℕ) = λ z. Some z in f x ≡ f y)
        → x ≡ y
    same h = cc
nuls-get section block (suc count) (suc i) found h =
    nuls-get section (block + 1) count i found h ∙ ap (λ (k : ℕ). nul_from section (block_len * k))
    (omega arith)

-- the next block starts at most block_len bytes after an offset
block-bounds : (at : ℕ) → (at < block_len * (at / block_len + 1))
    × (block_len * (at / block_len + 1) ≤ at + block_len)
block-bounds at = (omega arith, omega arith)

-- without a NUL in the next block_len bytes, the index contains the first one
pub nul-indexed : (section : List ℕ) (nuls : List (Option ℕ)) (at : ℕ) (found : Option ℕ)
    → AreNuls section nuls
    → position is_nul (take block_len (drop at section)) ≡ None
    → slice_get nuls (at / block_len + 1) ≡ Some found
    → found ≡ nul_from section at
nul-indexed section nuls at found are none there =
    let block : ℕ = at / block_len + 1 in
    let bounds = block-bounds at in
    let j : ℕ = block_len * block - at in
    let place : at + j ≡ block_len * (0 + block) = omega (arith, bounds.0) in
    let indexed = nuls-get section 0 are.count block found
    (ap (λ (ns : List (Option ℕ)). slice_get ns block) (sym are.nuls_are) ∙ there) in
    indexed ∙ sym (nul-after section at j (omega (arith, bounds.1)) none
    ∙ ap (λ (k : ℕ). nul_from section k) place)

pub nul-unindexed : (section : List ℕ) (nuls : List (Option ℕ)) (at : ℕ) → AreNuls section nuls
    → position is_nul (take block_len (drop at section)) ≡ None → length nuls ≤ at / block_len + 1
    → None ≡ nul_from section at
nul-unindexed section nuls at are none past =
    let block : ℕ = at / block_len + 1 in
    let bounds = block-bounds at in
    let j : ℕ = block_len * block - at in
    let place : at + j ≡ block_len * block = omega (arith, bounds.0) in
    let sizes : length nuls ≡ are.count =
    ap (λ (ns : List (Option ℕ)). length ns) are.nuls_are ∙ nuls-length section 0 are.count in
    let beyond : length section ≤ at + j = omega (arith, place, are.all, sizes, past) in
    sym (nul-after section at j (omega (arith, bounds.1)) none
    ∙ nul-outside section (at + j) beyond)

-- without a NUL in the next block_len bytes, the index entry is the first NUL, if there is one
pub nul-from-index : (section : List ℕ) (nuls : List (Option ℕ)) (at : ℕ) → AreNuls section nuls
    → None ≡ option_map (λ n. at + n) (position is_nul (take block_len (drop at section)))
    → unwrap_or (slice_get nuls (at / block_len + 1)) None ≡ nul_from section at
nul-from-index section nuls at are h =
    by_found (slice_get nuls (at / block_len + 1)) refl
    ((slice_get_cases nuls (at / block_len + 1)).1)
  where
    by_found : (found : Option (Option ℕ)) → slice_get nuls (at / block_len + 1) ≡ found
        → ((x : Option ℕ) × (at / block_len + 1 < length nuls)
        × (slice_get nuls (at / block_len + 1) ≡ Some x)
        × (get_or nuls (at / block_len + 1) x ≡ x)) ⊎
        ((length nuls ≤ at / block_len + 1) × (slice_get nuls (at / block_len + 1) ≡ None))
        → unwrap_or found None ≡ nul_from section at
    by_found (Some found) is cases =
        nul-indexed section nuls at found are (none-in-block section at h)
        is
    by_found None is (inr past) =
        nul-unindexed section nuls at are (none-in-block section at h) past.0
    by_found None is (inl there) = absurd (never (sym is ∙ there.2))
      where
        never : None ≡ (let f : Option ℕ → Option (Option ℕ) = λ z. Some z in f there.0) → ⊥
        never h = cc

-- ---- the loop that builds the index, from the last block to the first

pub record BuiltNuls (section : List ℕ) (nuls : List (Option ℕ)) (block : ℕ)
    (later : Option ℕ) : Type 0 where
  pub count : ℕ
  pub all : length section ≤ block_len * count
  pub needed : block_len * count < length section + block_len
  pub few : block ≤ count
  pub later_is : later ≡ nul_from section (block_len * block)
  pub built : reverse nuls ≡ nuls_from section block (count - block)

nul-or : (section : List ℕ) (at after : ℕ) (own later : Option ℕ)
    → own ≡ option_map (λ n. at + n) (position is_nul (take block_len (drop at section)))
    → later ≡ nul_from section after → after ≡ at + block_len
    → option_or own later ≡ nul_from section at
nul-or section at after (Some nul) later own_is later_is next =
    nul-in-block section at nul own_is
nul-or section at after None later own_is later_is next =
    later_is ∙ (ap (λ (k : ℕ). nul_from section k) next
    ∙ sym (nul-after section at block_len (omega arith) (none-in-block section at own_is)))

pub nuls-next : (section : List ℕ) (nuls : List (Option ℕ)) (block at : ℕ) (later own : Option ℕ)
    → BuiltNuls section nuls block later → 0 < block → at ≡ (block - 1) * block_len
    → own ≡ option_map (λ n. at + n) (position is_nul (take block_len (drop at section)))
    → BuiltNuls section (nuls ++ option_or own later ∷ []) (block - 1) (option_or own later)
nuls-next section nuls block at later own so_far some at_is own_is =
    let place : at ≡ block_len * (block - 1) = omega (arith, at_is) in
    let next : block_len * block ≡ at + block_len = omega (arith, place, some) in
    let here : option_or own later ≡ nul_from section (block_len * (block - 1)) =
    nul-or section at (block_len * block) own later own_is so_far.later_is next
    ∙ ap (λ (k : ℕ). nul_from section k) place in
    let size : suc (so_far.count - block) ≡ so_far.count - (block - 1) =
    omega (arith, some, so_far.few) in
    let block_is : block ≡ block - 1 + 1 = omega (arith, some) in
    let front : nul_from section (block_len * (block - 1)) ∷ nuls_from section (block - 1 + 1)
    (so_far.count - block) ≡ nuls_from section (block - 1) (so_far.count - (block - 1)) =
    ap (λ (k : ℕ). nuls_from section (block - 1) k) size in
    record {
      count = so_far.count;
      all = so_far.all;
      needed = so_far.needed;
      few = omega (arith, so_far.few);
      later_is = here;
      built = reverse-append nuls (option_or own later ∷ [])
          ∙ (ap (λ (ns : List (Option ℕ)). option_or own later ∷ ns)
          (so_far.built ∙ ap (λ (k : ℕ). nuls_from section k (so_far.count - block)) block_is)
          ∙ (ap (λ (o : Option ℕ). o ∷ nuls_from section (block - 1 + 1) (so_far.count - block))
          here ∙ front));
    }

-- ---- the string at an offset

pub text-ended : (section : List ℕ) (offset nul : ℕ) → nul_from section offset ≡ Some nul
    → text_at section offset ≡ Ok (take (nul - offset) (drop offset section))
unfolding text_at text_front
text-ended section offset nul h = by_found (position is_nul (drop offset section)) h
  where
    by_found : (o : Option ℕ) → option_map (λ n. offset + n) o ≡ Some nul
        → option_map_or (λ (text : List ℕ). Ok text)
        (option_map (λ n. take n (drop offset section)) o)
        (Err Unterminated) ≡ Ok (take (nul - offset) (drop offset section))
    by_found None h = cc
    by_found (Some n) h =
        let place : offset + n ≡ nul = same h in
        let size : n ≡ nul - offset = omega (arith, place) in
        ap (λ (k : ℕ). Ok (take k (drop offset section))) size
      where
        same : {x y : ℕ} → (let f : ℕ → Option ℕ = λ z. Some z in f x ≡ f y) → x ≡ y
        same h = cc

pub text-endless : (section : List ℕ) (offset : ℕ) → nul_from section offset ≡ None
    → text_at section offset ≡ Err Unterminated
unfolding text_at text_front
text-endless section offset h = by_found (position is_nul (drop offset section)) h
  where
    by_found : (o : Option ℕ) → option_map (λ n. offset + n) o ≡ None
        → option_map_or (λ (text : List ℕ). Ok text)
        (option_map (λ n. take n (drop offset section)) o)
        (Err Unterminated) ≡ Err Unterminated
    by_found None h = refl
    by_found (Some n) h = cc

-- the same, by the result of a search
pub text-found : (section : List ℕ) (offset nul : ℕ) (found : Option ℕ)
    → found ≡ nul_from section offset
    → Ok nul ≡ ok_or found Unterminated → text_at section offset
    ≡ Ok (take (nul - offset) (drop offset section))
text-found section offset nul None found_is h = cc
text-found section offset nul (Some n) found_is h =
    text-ended section offset nul (sym found_is ∙ ap (λ (k : ℕ). Some k) (sym (same h)))
  where
    same : {x y : ℕ} → (let f : ℕ → Result ℕ ReadFault = λ z. Ok z in f x ≡ f y) → x ≡ y
    same h = cc

pub text-lost : (section : List ℕ) (offset : ℕ) (fault : ReadFault) (found : Option ℕ)
    → found ≡ nul_from section offset → Err fault
    ≡ (let r : Result ℕ ReadFault = ok_or found Unterminated in r)
    → text_at section offset ≡ Err fault
text-lost section offset fault None found_is h = text-endless section offset (sym found_is) ∙ same h
  where
    same : (let f : ReadFault → Result ℕ ReadFault = λ z. Err z in f fault ≡ f Unterminated)
        → (let f : ReadFault → Result (List ℕ) ReadFault = λ z. Err z in f Unterminated ≡ f fault)
    same h = cc
text-lost section offset fault (Some n) found_is h = cc
