-- The segments of an image, and the image that a file gives.
use Rattle.std.specs.Prelude.{ℕ, zero, suc, ◌≡◌, ◌≤◌, ◌<◌, ◌+◌, ◌-◌, ◌*◌, ◌/◌, ◌%◌, ◌^◌, ◌==◌, Bool, ◌&&◌, nat_le, nat_lt, if◌then◌else◌, List, [], ◌∷◌, ◌++◌, length, All, sum_by}
use Rattle.std.specs.Int.RustNames.{bit_or}
use Rattle.gpr_flags.specs.Numbers.{has_bit}
use Rattle.machine_state.specs.Memory.{page_size}
use Rattle.elf_image.specs.declared.kinds.Segment.{Segment}
use Rattle.elf_image.specs.declared.kinds.Image.{Image}
use Rattle.elf_image.specs.Fields.{e_type, e_entry, e_phoff, e_phnum, p_type, p_flags, p_offset, p_vaddr, p_filesz, p_memsz, header_place, et_dyn, pt_load}

-- where an image that can stand at any address is moved to (this program's own; Linux without address randomisation does the same)
abbrev pub base_of : List ℕ → ℕ
base_of bytes = if e_type bytes == et_dyn then 0x555555554000 else 0

-- whether a program header is of a segment that is loaded, and has bytes in memory
abbrev pub is_load : List ℕ → ℕ → Bool
is_load bytes header = p_type bytes header == pt_load

abbrev pub takes_memory : List ℕ → ℕ → Bool
takes_memory bytes header = is_load bytes header && nat_lt 0 (p_memsz bytes header)

-- permissions as page permissions: PF_R, PF_W and PF_X are bits 2, 1 and 0 (ELF-64, segment permissions)
unfoldable pub perms_of : ℕ → ℕ
perms_of flags = bit_or (bit_or (if has_bit flags 2 then 1 else 0) (if has_bit flags 1 then 2 else 0)) (if has_bit flags 0 then 4 else 0)

-- the segment of a program header; its address is a whole number, and may pass 2^64
unfoldable pub segment_at : List ℕ → ℕ → Segment
segment_at bytes header = record {
  addr = p_vaddr bytes header + base_of bytes;
  file_at = p_offset bytes header;
  file_len = p_filesz bytes header;
  mem_len = p_memsz bytes header;
  perms = record { 0 = perms_of (p_flags bytes header) };
}

-- a segment's first page, the page behind its last, and how many it has
abbrev pub first_page : Segment → ℕ
first_page segment = segment.addr / page_size

abbrev pub end_page : Segment → ℕ
end_page segment = (segment.addr + segment.mem_len + (page_size - 1)) / page_size

abbrev pub page_count : Segment → ℕ
page_count segment = end_page segment - first_page segment

-- how many pages some segments have in all
abbrev pub page_sum : List Segment → ℕ
page_sum segments = sum_by page_count segments

-- the segments of the first so many program headers, in their order
unfoldable pub segments_before : List ℕ → ℕ → List Segment
segments_before bytes zero = []
segments_before bytes (suc number) =
    segments_before bytes number
    ++ (if takes_memory bytes (header_place bytes number) then segment_at bytes (header_place bytes number) ∷ [] else [])

-- the segments of an image
abbrev pub segments_of : List ℕ → List Segment
segments_of bytes = segments_before bytes (e_phnum bytes)

-- whether a segment has all program headers from the file
abbrev pub has_headers : List ℕ → Segment → Bool
has_headers bytes segment =
    nat_le segment.file_at (e_phoff bytes) && nat_le (header_place bytes (e_phnum bytes)) (segment.file_at + segment.file_len)

-- where the program headers are in memory: in the first segment that has them all, and 0 where none has
unfoldable pub headers_at : List ℕ → List Segment → ℕ
headers_at bytes [] = 0
headers_at bytes (segment ∷ rest) =
    if has_headers bytes segment then segment.addr + (e_phoff bytes - segment.file_at) else headers_at bytes rest

-- the page behind the last of some segments; 0 where there is none
abbrev pub page_behind : List Segment → ℕ
page_behind [] = 0
page_behind (segment ∷ []) = end_page segment
page_behind (segment ∷ (next ∷ rest)) = page_behind (next ∷ rest)

-- the image of a file: the heap starts at the first page above the last segment (this program's own)
unfoldable pub image_of : List ℕ → Image
image_of bytes = record {
  entry = (e_entry bytes + base_of bytes) % 2 ^ 64;
  phdr = headers_at bytes (segments_of bytes);
  phnum = e_phnum bytes;
  heap = page_size * page_behind (segments_of bytes);
  segments = record { items = segments_of bytes };
}

-- the lowest address of a segment's first page, and the highest address where a segment may end (this program's own)
abbrev pub lowest_address : ℕ
lowest_address = 0x10000

abbrev pub highest_address : ℕ
highest_address = 0x7FFF00000000

-- how many pages the stack has, and the most bytes of a program file (this program's own)
abbrev pub stack_pages : ℕ
stack_pages = 256

abbrev pub longest_file : ℕ
longest_file = 67108864

-- a segment that ends at the highest address at most
abbrev pub EndsLow : Segment → Type 0
EndsLow segment = segment.addr + segment.mem_len ≤ highest_address

-- a segment as it is in an accepted image, of a file of so many bytes
pub record IsSegment (len : ℕ) (segment : Segment) : Type 0 where
  pub some : 0 < segment.mem_len
  pub shorter : segment.file_len ≤ segment.mem_len
  pub within : segment.file_at + segment.file_len ≤ len
  pub congruent : segment.addr % page_size ≡ segment.file_at % page_size
  pub low : lowest_address ≤ page_size * first_page segment
  pub high : page_size * end_page segment ≤ highest_address
  pub perms : segment.perms.0 < 8

-- segments of which each lies on pages below those of the segments behind it
abbrev pub AreAscending : List Segment → Type 0
AreAscending [] = Unit {0}
AreAscending (segment ∷ rest) = All (λ next. end_page segment ≤ first_page next) rest × AreAscending rest

-- an accepted image, of a file of so many bytes, for a guest with so many pages
pub record IsImage (len pages : ℕ) (image : Image) : Type 0 where
  pub some : 0 < length image.segments.items
  pub most : length image.segments.items ≤ 64
  pub each : All (IsSegment len) image.segments.items
  pub ascending : AreAscending image.segments.items
  pub few : page_sum image.segments.items + stack_pages ≤ pages
  pub behind : All (λ segment. page_size * end_page segment ≤ image.heap) image.segments.items
  pub heap : image.heap % page_size ≡ 0
  pub heap_high : image.heap ≤ highest_address
  pub short : len ≤ longest_file
