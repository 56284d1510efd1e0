-- One pass over the program headers returns the first fault of the load segments, or their address
-- range.
use Rattle.std.proofs.Common.{◌<◌, ◌≤◌, ◌*◌, ◌-◌, ◌≡◌, ℕ, suc, ◌+◌, ◌^◌, Bool, true, false, List}
use Rattle.std.proofs.Common.{[], ◌∷◌, ◌++◌, Option, Some, None, Result, Ok, Err, refl, sym, ap}
use Rattle.std.proofs.Common.{subst, ◌∙◌, arith, min, max, nat_le}
use Rattle.std.specs.Prelude.{map, filter, unwrap_or, MatchResult}
use Rattle.std.specs.List.{fold, reduce, range_with_len}
use Rattle.std.specs.Option.{option_or, ok_or}
use Rattle.dwarf_bytes.specs.declared.fault.LoadFault.{LoadFault}
use Rattle.dwarf_bytes.specs.declared.fault.Section.{Section}
use Rattle.dwarf_bytes.specs.declared.fault.Section.TheVariants as sections
use Rattle.dwarf_bytes.specs.declared.fault.Cause.TheVariants as causes
use Rattle.dwarf_bytes.specs.declared.headers.FileHeader.{FileHeader}
use Rattle.dwarf_bytes.specs.declared.headers.ProgramHeader.{ProgramHeader}
use Rattle.dwarf_bytes.specs.Bind.{◌>>=◌, try_fold, unless}
use Rattle.dwarf_bytes.specs.Faults.{Item, item_fault, first_fault}
use Rattle.dwarf_bytes.specs.Headers.{is_load, load_end, file_header, program_header}
use Rattle.dwarf_bytes.specs.Elf.{is_empty, load_item, no_load_item, load_items, loads, low, high}
use Rattle.dwarf_bytes.specs.Elf.{program_headers}
use Rattle.dwarf_bytes.specs.Private.Extents.{with_segment, with_program_header, headers_from}

extents-at : (extent : Option (ℕ × ℕ)) (header : ProgramHeader) (headers : List ProgramHeader)
    (load over : Bool)
    → ((e : Option (ℕ × ℕ)) → try_fold with_program_header e headers ≡ unless
    (first_fault sections.Elf (map load_item (filter is_load headers)))
    (fold with_segment e (filter is_load headers)))
    → is_load header ≡ load → nat_le (2 ^ 64) (load_end header) ≡ over
    → try_fold with_program_header extent (header ∷ headers) ≡ unless
    (first_fault sections.Elf (map load_item (filter is_load (header ∷ headers))))
    (fold with_segment extent (filter is_load (header ∷ headers)))
extents-at extent header headers false over more is range = rw is (more extent)
extents-at extent header headers true true more is range = rw (is, range) refl
extents-at extent header headers true false more is range =
    rw (is, range) (more (with_segment extent header))

pub extents : (headers : List ProgramHeader) (extent : Option (ℕ × ℕ))
    → try_fold with_program_header extent headers ≡ unless
    (first_fault sections.Elf (map load_item (filter is_load headers)))
    (fold with_segment extent (filter is_load headers))
extents [] extent = refl
extents (header ∷ headers) extent =
    extents-at extent header headers (is_load header) (nat_le (2 ^ 64) (load_end header))
    (extents headers) refl refl

-- folding joined over the headers gives the minimum and the maximum
pub segments-extent : (headers : List ProgramHeader) (low high : ℕ)
    → fold with_segment (Some (low, high)) headers ≡ Some (
      fold min low (map (λ h. h.vaddr) headers),
      fold max high
          (map load_end headers),
    )
segments-extent [] low high = refl
segments-extent (h ∷ headers) low high =
    segments-extent headers (min low h.vaddr) (max high (load_end h))

-- ---- the pass over all load segments

unless-ok : {X E : Type 0} (f : Option E) (x y : X) → unless f x ≡ Ok y → (f ≡ None) × (x ≡ y)
unless-ok None x y e = (refl, cc)
unless-ok (Some f) x y e = absurd cc

unless-err : {X E : Type 0} (f : Option E) (x : X) (g : E) → unless f x ≡ Err g → f ≡ Some g
unless-err None x g e = absurd cc
unless-err (Some f) x g e = cc

pub first_fault-append : (section : Section) (xs ys : List Item)
    → first_fault section (xs ++ ys) ≡ option_or (first_fault section xs) (first_fault section ys)
first_fault-append section [] ys = refl
first_fault-append section (x ∷ xs) ys =
    ap (option_or (item_fault section x)) (first_fault-append section xs ys)
    ∙ option_or-assoc (item_fault section x) (first_fault section xs) (first_fault section ys)
  where
    option_or-assoc : {X : Type 0} (a b c : Option X) → option_or a (option_or b c)
        ≡ option_or (option_or a b) c
    option_or-assoc None b c = refl
    option_or-assoc (Some x) b c = refl

parts : (hs : List ProgramHeader) (e : ℕ × ℕ) → fold with_segment None hs ≡ Some e
    → (is_empty hs ≡ false)
    × (e.0 ≡ unwrap_or (reduce min (map (λ h. h.vaddr) hs)) 0)
    × (e.1 ≡ unwrap_or (reduce max (map load_end hs)) 0)
parts [] e h = absurd cc
parts (x ∷ hs) e h =
    let all = sym (segments-extent hs x.vaddr (load_end x)) ∙ h in (
      refl,
      ap (λ (o : Option (ℕ × ℕ)). (unwrap_or o (0, 0)).0) (sym all),
      ap
          (λ (o : Option (ℕ × ℕ)). (unwrap_or o (0, 0)).1) (sym all),
    )

none : (hs : List ProgramHeader) → fold with_segment None hs ≡ None → is_empty hs ≡ true
none [] h = refl
none (x ∷ hs) h = let all = sym (segments-extent hs x.vaddr (load_end x)) ∙ h in absurd cc

pub extent-found : (bytes : List ℕ) (e : ℕ × ℕ) → try_fold with_program_header None
    (program_headers bytes)
    ≡ Ok (Some e)
    → (first_fault sections.Elf (load_items bytes) ≡ None) × (e.0 ≡ low bytes) × (e.1 ≡ high bytes)
unfolding load_items loads low high
extent-found bytes e h =
    let all = unless-ok _ _ _ (sym (extents (program_headers bytes) None) ∙ h) in
    let p = parts (filter is_load (program_headers bytes)) e all.1 in (
      first_fault-append sections.Elf (map load_item (loads bytes)) (no_load_item bytes ∷ [])
          ∙ rw (all.0, p.0) refl,
      p.1,
      p.2,
    )

pub extent-none : (bytes : List ℕ) → try_fold with_program_header None (program_headers bytes)
    ≡ Ok None
    → first_fault sections.Elf (load_items bytes) ≡ Some
    (record { section = sections.Elf; cause = causes.NoLoad; at = 0 })
unfolding load_items loads
extent-none bytes h =
    let all = unless-ok _ _ _ (sym (extents (program_headers bytes) None) ∙ h) in
    let p = none (filter is_load (program_headers bytes)) all.1 in
    first_fault-append sections.Elf (map load_item (loads bytes)) (no_load_item bytes ∷ [])
    ∙ rw (all.0, p) refl

pub extent-invalid : (bytes : List ℕ) (f : LoadFault) → try_fold with_program_header None
    (program_headers bytes)
    ≡ Err f
    → first_fault sections.Elf (load_items bytes) ≡ Some f
unfolding load_items loads
extent-invalid bytes f h =
    let all = unless-err _ _ _ (sym (extents (program_headers bytes) None) ∙ h) in
    first_fault-append sections.Elf (map load_item (loads bytes)) (no_load_item bytes ∷ [])
    ∙ rw all refl

-- ---- the pass, header by header

pub headers-all : (bytes : List ℕ) → headers_from bytes 0 ≡ program_headers bytes
unfolding headers_from program_headers
headers-all bytes =
    ap (λ (n : ℕ). map (λ (k : ℕ). program_header bytes ((file_header bytes).phoff + 56 * k))
    (range_with_len 0 n))
    (omega arith)

pub headers-next : (bytes : List ℕ) (k : ℕ) → k < (file_header bytes).phnum
    → headers_from bytes k ≡ program_header bytes ((file_header bytes).phoff + 56 * k)
    ∷ headers_from bytes (k + 1)
unfolding headers_from
headers-next bytes k lt =
    let more : (file_header bytes).phnum - k ≡ suc ((file_header bytes).phnum - (k + 1)) =
    omega arith in
    rw more refl

pub headers-end : (bytes : List ℕ) (k : ℕ) → (file_header bytes).phnum ≤ k
    → headers_from bytes k ≡ []
unfolding headers_from
headers-end bytes k le =
    let done : (file_header bytes).phnum - k ≡ 0 = omega arith in
    rw done refl

-- the current header is the first of the remaining ones
here : (bytes : List ℕ) (header : FileHeader) (k : ℕ) (entry : ProgramHeader)
    → header ≡ file_header bytes
    → k < header.phnum → entry ≡ program_header bytes (header.phoff + 56 * k)
    → headers_from bytes k ≡ entry ∷ headers_from bytes (k + 1)
here bytes header k entry same lt is =
    let below : k < (file_header bytes).phnum = subst (λ (h : FileHeader). k < h.phnum) same lt in
    headers-next bytes k below ∙ ap (λ (e : ProgramHeader). e ∷ headers_from bytes (k + 1))
    (sym (is ∙ ap (λ (h : FileHeader). program_header bytes (h.phoff + 56 * k)) same))

pub walk-on : (bytes : List ℕ) (header : FileHeader) (k : ℕ) (entry : ProgramHeader)
    (extent after : Option (ℕ × ℕ))
    (all : Result (Option (ℕ × ℕ)) LoadFault) → header ≡ file_header bytes → k < header.phnum
    → entry ≡ program_header bytes (header.phoff + 56 * k) → with_program_header extent entry
    ≡ Ok after
    → try_fold with_program_header extent (headers_from bytes k) ≡ all
    → try_fold with_program_header after (headers_from bytes (k + 1)) ≡ all
walk-on bytes header k entry extent after all same lt is step so_far =
    ap (λ (r : Result (Option (ℕ × ℕ)) LoadFault). r
    >>= λ t. try_fold with_program_header t (headers_from bytes (k + 1)))
    (sym step)
    ∙ ap (try_fold with_program_header extent) (sym (here bytes header k entry same lt is)) ∙ so_far

pub walk-stops : (bytes : List ℕ) (header : FileHeader) (k : ℕ) (entry : ProgramHeader)
    (extent : Option (ℕ × ℕ))
    (fault : LoadFault) (all : Result (Option (ℕ × ℕ)) LoadFault) → header ≡ file_header bytes
    → k < header.phnum
    → entry ≡ program_header bytes (header.phoff + 56 * k) → with_program_header extent entry
    ≡ Err fault
    → try_fold with_program_header extent (headers_from bytes k) ≡ all → all ≡ Err fault
walk-stops bytes header k entry extent fault all same lt is step so_far =
    sym so_far ∙ ap (try_fold with_program_header extent) (here bytes header k entry same lt is)
    ∙ ap (λ (r : Result (Option (ℕ × ℕ)) LoadFault). r
    >>= λ t. try_fold with_program_header t (headers_from bytes (k + 1))) step

pub walk-ends : (bytes : List ℕ) (header : FileHeader) (k : ℕ) (extent : Option (ℕ × ℕ))
    (all : Result (Option (ℕ × ℕ)) LoadFault) → header ≡ file_header bytes → header.phnum ≤ k
    → try_fold with_program_header extent (headers_from bytes k) ≡ all → all ≡ Ok extent
walk-ends bytes header k extent all same le so_far =
    sym so_far ∙ ap (try_fold with_program_header extent)
    (headers-end bytes k (subst (λ (h : FileHeader). h.phnum ≤ k) same le))

-- the result of the pass
abbrev pub IsExtent : List ℕ → Result (ℕ × ℕ) LoadFault → Type 0
IsExtent bytes result =
    MatchResult result (λ e. (first_fault sections.Elf (load_items bytes) ≡ None)
    × (e.0 ≡ low bytes)
    × (e.1 ≡ high bytes)) (λ f. first_fault sections.Elf (load_items bytes) ≡ Some f)

pub extent-of : (bytes : List ℕ) (extent : Option (ℕ × ℕ)) (fault : LoadFault)
    → fault ≡ record { section = sections.Elf; cause = causes.NoLoad; at = 0 }
    → try_fold with_program_header None (program_headers bytes) ≡ Ok extent
    → IsExtent bytes (ok_or extent fault)
extent-of bytes None fault is h = extent-none bytes h ∙ ap (λ (f : LoadFault). Some f) (sym is)
extent-of bytes (Some e) fault is h = extent-found bytes e h
