-- The iterations of the loop that skips operands.
use Rattle.std.proofs.Common.{rules, ◌≡◌, ℕ, suc, ◌-◌, ◌+◌, ◌≤◌, ◌<◌, List, length, take, drop}
use Rattle.std.proofs.Common.{Result, Ok, Err, refl, sym, ◌∙◌, arith}
use Rattle.std.proofs.lemmas.List.{take_all, length-drop}
use Rattle.dwarf_bytes.specs.Numbers.{uleb_at, u64_at, fixed_at, block_at, little_endian}
use Rattle.dwarf_bytes.specs.Position.{Position}
use Rattle.dwarf_bytes.specs.Words.{cause_of}
use Rattle.dwarf_bytes.specs.declared.fault.Cause.{Cause}
use Rattle.dwarf_bytes.specs.declared.fault.ReadFault.{ReadFault}
use Rattle.dwarf_lines.specs.Instructions.{after_ulebs}

pub goes_on : (count i : ℕ) (bytes : List ℕ) (place value after : ℕ) (total : Result ℕ Cause)
    → i < count
    → uleb_at bytes place ≡ Ok (value, after)
    → after_ulebs (count - i) bytes place ≡ total → after_ulebs (count - (i + 1)) bytes after
    ≡ total
unfolding after_ulebs
goes_on count i bytes place value after total lt h so_far =
    let k : count - i ≡ suc (count - (i + 1)) = omega arith in
    let one : after_ulebs (count - i) bytes place ≡ after_ulebs (count - (i + 1)) bytes after =
    rw (k, h) refl in
    sym one ∙ so_far

pub ends : (count i : ℕ) (bytes : List ℕ) (place : ℕ) (fault : ReadFault) (total : Result ℕ Cause)
    → i < count
    → uleb_at bytes place ≡ Err fault
    → after_ulebs (count - i) bytes place ≡ total → total ≡ Err (cause_of fault)
unfolding after_ulebs
ends count i bytes place fault total lt h so_far =
    let k : count - i ≡ suc (count - (i + 1)) = omega arith in
    let one : after_ulebs (count - i) bytes place ≡ Err (cause_of fault) = rw (k, h) refl in
    sym so_far ∙ one

pub is-done : (count i : ℕ) (bytes : List ℕ) (place : ℕ) (total : Result ℕ Cause) → count ≤ i
    → after_ulebs (count - i) bytes place ≡ total
    → total ≡ Ok place
unfolding after_ulebs
is-done count i bytes place total le so_far =
    let k : count - i ≡ 0 = omega arith in
    let one : after_ulebs (count - i) bytes place ≡ Ok place = rw k refl in
    sym so_far ∙ one

-- the address of DW_LNE_set_address, which is all that follows its opcode
pub whole-address : (body : List ℕ) (p : Position) → length body ≡ 9
    → p ≡ record { bytes = take (length body - 1) (drop 1 body); place = 0 }
    → u64_at p.bytes p.place ≡ Ok (little_endian (drop 1 body), 8)
unfolding fixed_at block_at
whole-address body p nine is =
    let eight : length (drop 1 body) ≡ 8 = rw (length-drop 1 body, nine) refl in
    let all : take 8 (drop 1 body) ≡ drop 1 body =
    take_all 8 (drop 1 body) (rw eight (search rules)) in
    rw (is, nine, all, eight, all) refl
