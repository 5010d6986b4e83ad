-- The checks of a program file, in their order, and what is read of it.
use Rattle.std.specs.Prelude.{ℕ, zero, suc, ◌+◌, ◌*◌, ◌%◌, ◌==◌, Bool, not, ◌&&◌, ◌||◌, nat_le, nat_lt, nat_eq, if◌then◌else◌, List, [], ◌∷◌, ◌++◌, length, Option, Some, None, Result, Ok, Err}
use Rattle.std.specs.Cmp.Lexicographic.{pointwise}
use Rattle.std.specs.List.{list_all}
use Rattle.machine_state.specs.Memory.{page_size}
use Rattle.elf_image.specs.declared.kinds.Segment.{Segment}
use Rattle.elf_image.specs.declared.kinds.Image.{Image}
use Rattle.elf_image.specs.declared.kinds.ImageFault.{ImageFault}
use Rattle.elf_image.specs.Fields.{ei_mag, ei_class, ei_data, ei_version, e_type, e_machine, e_version, e_phentsize, e_phnum, p_type, p_offset, p_filesz, p_memsz, file_header_size, header_size, header_place, magic, elfclass64, elfdata2lsb, ev_current, et_exec, et_dyn, em_x86_64, pt_interp}
use Rattle.elf_image.specs.Segments.{is_load, takes_memory, segment_at, first_page, end_page, page_sum, segments_before, segments_of, image_of, lowest_address, highest_address, stack_pages, longest_file}

-- a check: its number and place, by which a refusal names it, and whether the file passes it
pub record Check : Type 0 where
  pub number : ℕ
  pub place : ℕ
  pub passes : Bool

abbrev pub check : (number place : ℕ) → Bool → Check
check number place passes = record { number = number; place = place; passes = passes }

-- the refusal by the first check that isn't passed, if there is one
abbrev pub first_fault : List Check → Option ImageFault
first_fault [] = None
first_fault (check ∷ rest) = if check.passes then first_fault rest else Some (record { number = check.number; place = check.place })

-- the file's length and its identification: the magic number, 64 bits, little-endian, version 1
unfoldable pub identity_checks : List ℕ → List Check
identity_checks bytes =
    check 1 (length bytes) (nat_le file_header_size (length bytes))
    ∷ check 1 longest_file (nat_le (length bytes) longest_file)
    ∷ check 2 0 (pointwise nat_eq (ei_mag bytes) magic)
    ∷ check 3 4 (ei_class bytes == elfclass64)
    ∷ check 4 5 (ei_data bytes == elfdata2lsb)
    ∷ check 5 6 (ei_version bytes == ev_current)
    ∷ []

-- the file header: version 1, an executable for x86-64, 1 to 64 program headers of 56 bytes each, all in the file
unfoldable pub file_checks : List ℕ → List Check
file_checks bytes =
    check 5 20 (e_version bytes == ev_current)
    ∷ check 6 16 (e_type bytes == et_exec || e_type bytes == et_dyn)
    ∷ check 7 18 (e_machine bytes == em_x86_64)
    ∷ check 8 54 (e_phentsize bytes == header_size)
    ∷ check 9 56 (nat_le 1 (e_phnum bytes) && nat_le (e_phnum bytes) 64)
    ∷ check 10 32 (nat_le (header_place bytes (e_phnum bytes)) (length bytes))
    ∷ []

-- a load header's bytes in the file are no more than in memory, and don't pass the file's end
unfoldable pub fits_file : List ℕ → ℕ → Bool
fits_file bytes header =
    nat_le (p_filesz bytes header) (p_memsz bytes header)
    && nat_le (p_offset bytes header + p_filesz bytes header) (length bytes)

-- a segment has one place in a page, in file and in memory; it stands between the lowest and the highest address; and its first
-- page is above all pages of the segments before it
unfoldable pub is_placed : List Segment → Segment → Bool
is_placed earlier segment =
    (segment.addr % page_size == segment.file_at % page_size)
    && nat_le lowest_address (page_size * first_page segment)
    && nat_le (segment.addr + segment.mem_len) highest_address
    && list_all (λ before. nat_le (end_page before) (first_page segment)) earlier

-- the checks of a program header, behind headers with some segments: it names no interpreter; a load header fits the file; and
-- one with bytes in memory is placed
unfoldable pub header_checks : List ℕ → List Segment → ℕ → List Check
header_checks bytes earlier header =
    check 11 header (not (p_type bytes header == pt_interp))
    ∷ check 12 (header + 32) (not (is_load bytes header) || fits_file bytes header)
    ∷ check 13 (header + 16) (not (takes_memory bytes header) || is_placed earlier (segment_at bytes header))
    ∷ []

-- those of the first so many program headers, one header after the other
unfoldable pub program_checks : List ℕ → ℕ → List Check
program_checks bytes zero = []
program_checks bytes (suc number) =
    program_checks bytes number ++ header_checks bytes (segments_before bytes number) (header_place bytes number)

-- there is a segment, and the pages of all segments and of the stack are no more than a guest may have
unfoldable pub has_room : List Segment → ℕ → Bool
has_room segments pages = nat_lt 0 (length segments) && nat_le (page_sum segments + stack_pages) pages

-- all checks of a program file, for a guest with so many pages
unfoldable pub checks : List ℕ → ℕ → List Check
checks bytes pages =
    identity_checks bytes ++ file_checks bytes ++ program_checks bytes (e_phnum bytes)
    ++ check 14 56 (has_room (segments_of bytes) pages) ∷ []

-- what is read: the image, or the first refusal
abbrev pub image_or : List ℕ → Option ImageFault → Result Image ImageFault
image_or bytes None = Ok (image_of bytes)
image_or bytes (Some fault) = Err fault

unfoldable pub image_read : List ℕ → ℕ → Result Image ImageFault
image_read bytes pages = image_or bytes (first_fault (checks bytes pages))
