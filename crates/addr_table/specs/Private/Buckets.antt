-- The table of buckets: the number of segments that start in lower buckets.
use Rattle.std.specs.Prelude.{◌≡◌, ℕ, ◌+◌, ◌-◌, ◌/◌, ◌^◌, ◌<◌, ◌≤◌, List, length}
use Rattle.std.specs.Prelude.{slice_index, slice_index_or}
use Rattle.addr_table.specs.Segments.{Segment}

-- Bucket n has the 2 ^ shift addresses from low + n * 2 ^ shift on. Lower addresses are in
-- bucket 0.
abbrev pub bucket_of : ℕ → ℕ → ℕ → ℕ
bucket_of low shift a = (a - low) / 2 ^ shift

-- Count b is the number of segments that start in buckets below b. The first n segments start in
-- buckets that have a count.
pub record AreBuckets (list : List Segment) (low shift n : ℕ) (counts : List ℕ) : Type 0 where
  pub before : (b m : ℕ) (d : Segment) → b < length counts → m < slice_index counts b
      → bucket_of low shift (slice_index_or list m d).from < b
  pub after : (b m : ℕ) (d : Segment) → b < length counts → slice_index counts b ≤ m
      → m < length list
      → b ≤ bucket_of low shift (slice_index_or list m d).from
  pub within : (b : ℕ) → b < length counts → slice_index counts b ≤ n
  pub all : (m : ℕ) (d : Segment) → m < n
      → bucket_of low shift (slice_index_or list m d).from < length counts

-- counts with the same number for each further bucket up to one
pub record Fills (counts counts' : List ℕ) (bucket index : ℕ) : Type 0 where
  pub old : (b : ℕ) → b < length counts → slice_index counts' b ≡ slice_index counts b
  pub new : (b : ℕ) → length counts ≤ b → b < length counts' → slice_index counts' b ≡ index
  pub upto : (b : ℕ) → length counts ≤ b → b < length counts' → b ≤ bucket
  pub longer : length counts ≤ length counts'

-- The number of segments that start at or before the address is from low to high, and at least one
-- segment is between these bounds if there can be one.
pub record AreBounds (list : List Segment) (a low high : ℕ) : Type 0 where
  pub order : low ≤ high
  pub within : high ≤ length list
  pub before : (d : Segment) (m : ℕ) → m + 1 ≡ low → (slice_index_or list m d).from ≤ a
  pub after : (d : Segment) → high < length list → a < (slice_index_or list high d).from
  pub some : 0 < high → low < high
