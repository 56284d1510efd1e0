-- The address range of the load segments, header by header, for the contracts of the steps.
use Rattle.std.specs.Prelude.{ℕ, ◌+◌, ◌*◌, ◌-◌, ◌^◌, List, map, cond, Option, Some, None, Result}
use Rattle.std.specs.Prelude.{Ok, Err, min, max, nat_le}
use Rattle.std.specs.List.{range_with_len}
use Rattle.dwarf_bytes.specs.declared.fault.LoadFault.{LoadFault}
use Rattle.dwarf_bytes.specs.declared.fault.Section.TheVariants as sections
use Rattle.dwarf_bytes.specs.declared.fault.Cause.TheVariants as causes
use Rattle.dwarf_bytes.specs.declared.headers.ProgramHeader.{ProgramHeader}
use Rattle.dwarf_bytes.specs.Headers.{is_load, load_end, file_header, program_header}

-- the address range extended by one load segment
abbrev pub with_segment : Option (ℕ × ℕ) → ProgramHeader → Option (ℕ × ℕ)
with_segment None header = Some (header.vaddr, load_end header)
with_segment (Some e) header = Some (min e.0 header.vaddr, max e.1 (load_end header))

-- the address range extended by one program header, or the fault of the header
abbrev pub with_program_header : Option (ℕ × ℕ) → ProgramHeader → Result (Option (ℕ × ℕ)) LoadFault
with_program_header extent header =
    cond (is_load header)
    (cond (nat_le (2 ^ 64) (load_end header))
    (Err (record { section = sections.Elf; cause = causes.Range; at = header.at }))
    (Ok (with_segment extent header)))
    (Ok extent)

-- the program headers from the k-th on
unfoldable pub headers_from : List ℕ → ℕ → List ProgramHeader
headers_from bytes k =
    let header = file_header bytes in
    map (λ i. program_header bytes (header.phoff + 56 * i)) (range_with_len k (header.phnum - k))
