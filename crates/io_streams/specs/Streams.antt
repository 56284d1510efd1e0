-- How a read, a write, a flush and a fetch change the bytes and the failure counts of a device.
use Rattle.std.specs.Prelude.{◌≡◌, ℕ, ◌+◌, ◌-◌, ◌^◌, min, List, ◌++◌, length, Option, None, Some}
use Rattle.std.specs.Prelude.{Result, Ok, Err, Vec, if◌then◌else◌, ◌==◌, ⊤}
use Rattle.std.specs.Io.KnownBytes.{Appends}

-- a reader or writer, the number of reads of at least one byte that it may still do, and its number
-- of failures
pub record DeviceState (T : Type 0) : Type 0 where
  pub inner : T
  pub reads_left : ℕ
  pub failures : ℕ

-- one more, up to the greatest u64
abbrev pub one_more : ℕ → ℕ
one_more n = min (n + 1) (2 ^ 64 - 1)

-- an error adds one failure, and any other result none
abbrev pub failures_after : {T E : Type 0} → ℕ → Result T E → ℕ
failures_after n (Ok x) = n
failures_after n (Err e) = one_more n

-- a write that accepts no byte of a nonempty buffer is a failure too
abbrev pub write_failures : {E : Type 0} → ℕ → List ℕ → Result ℕ E → ℕ
write_failures n bytes (Ok taken) =
    if taken == 0 then (if length bytes == 0 then n else one_more n) else n
write_failures n bytes (Err e) = one_more n

-- the result of a source: the bytes of an object, or the reason for their absence
abbrev pub fetched_of : {A E : Type 0} → Result (Vec ℕ A) E → Result (List ℕ) E
fetched_of (Ok object) = Ok object.items
fetched_of (Err fault) = Err fault

-- the first list is a prefix of the second
abbrev pub IsBeginning : List ℕ → List ℕ → Type 0
IsBeginning part whole = (rest : List ℕ) × (part ++ rest ≡ whole)

-- the items that a contract can name are unchanged, followed by these
abbrev pub Grows : {X : Type 0} → Option (List X) → Option (List X) → List X → Type 0
Grows None new items = ⊤
Grows (Some xs) None items = ⊥
Grows (Some xs) (Some ys) items = ys ≡ xs ++ items

-- the whole string was appended, or a prefix of it if there was an error
abbrev pub Writes : {E : Type 0} → Option (List ℕ) → Option (List ℕ) → Result (Unit {0}) E → List ℕ
    → Type 0
Writes old new (Ok done) text = Appends old new text
Writes old new (Err fault) text = (part : List ℕ) × IsBeginning part text × Appends old new part
