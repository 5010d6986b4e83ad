-- What a contract sees of the pages, and the memory that they stand for.
use Rattle.std.specs.Prelude.{ℕ, Bool, false, ◌+◌, ◌/◌, ◌%◌, ◌==◌, if◌then◌else◌, List, [], ◌∷◌, Option, Some, None, is_some, count_by, slice_set}
use Rattle.std.specs.Option.{option_map, option_and_then}
use Rattle.machine_state.specs.Memory.{page_size, Memory, Swap}
use Rattle.guest_pages.specs.declared.entry.Entry.{Entry}
use Rattle.guest_pages.specs.declared.entry.Mark.{Mark}
use Rattle.guest_pages.specs.Entry.{is_resident, is_in_frame, is_on_swap, mark_in, place_byte, entry_with}
use Rattle.guest_pages.specs.Table.{Mapped, Table, perms_in}

-- the number of frames, the slots, each of which holds a mapped page or none, and the slots of the pages that are in frames,
-- the one brought last first
pub record PagesValue : Type 0 where
  pub frames : ℕ
  pub slots : List (Option Entry)
  pub recent : List ℕ

-- a page with the slot that holds it
pub record Seat : Type 0 where
  pub slot : ℕ
  pub entry : Entry

-- the seat of a page among slots that are numbered from some number up
abbrev pub seek : ℕ → List (Option Entry) → ℕ → Option Seat
seek n [] page = None
seek n (None ∷ slots) page = seek (n + 1) slots page
seek n (Some entry ∷ slots) page = if page == entry.page then Some (record { slot = n; entry = entry }) else seek (n + 1) slots page

abbrev pub mapped_of : Seat → Mapped
mapped_of seat = record { slot = seat.slot; perms = seat.entry.perms.0; resident = is_resident seat.entry.place }

-- the table of the mapped pages
unfoldable pub table_of : PagesValue → Table
table_of pages page = option_map mapped_of (seek 0 pages.slots page)

abbrev pub seat_byte : Swap → Option Seat → ℕ → ℕ
seat_byte swap None at = 0
seat_byte swap (Some seat) at = place_byte (swap seat.slot) seat.entry.place at

-- the byte at an address, 0 where no page is mapped; a page on the swap stands there at the number of its slot
unfoldable pub byte_of : PagesValue → Swap → ℕ → ℕ
byte_of pages swap addr = seat_byte swap (seek 0 pages.slots (addr / page_size)) (addr % page_size)

-- the memory that pages and a swap stand for
unfoldable pub memory_of : PagesValue → Swap → Memory
memory_of pages swap = record { perms = perms_in (table_of pages); byte = byte_of pages swap }

-- the marks of the mapped pages that are in frames, by page number
unfoldable pub mark_of : PagesValue → ℕ → Option Mark
mark_of pages page = option_and_then (λ seat. mark_in seat.entry.place) (seek 0 pages.slots page)

abbrev pub seat_swapped : Option Seat → Bool
seat_swapped None = false
seat_swapped (Some seat) = is_on_swap seat.entry.place

-- whether a page is mapped and away on the swap
unfoldable pub is_swapped : PagesValue → ℕ → Bool
is_swapped pages page = seat_swapped (seek 0 pages.slots page)

-- how many pages are mapped
unfoldable pub mapped_count : PagesValue → ℕ
mapped_count pages = count_by is_some pages.slots

-- how many pages are in frames
unfoldable pub resident_count : PagesValue → ℕ
resident_count pages = count_by is_in_frame pages.slots

abbrev pub slots_with : List (Option Entry) → Option Seat → ℕ → List ℕ → List (Option Entry)
slots_with slots None at other = slots
slots_with slots (Some seat) at other = slice_set slots seat.slot (Some (entry_with seat.entry at other))

-- the pages where a page in a frame has other bytes from an address on, and counts as written
unfoldable pub lent : PagesValue → ℕ → List ℕ → PagesValue
lent pages addr other = record pages { slots = slots_with pages.slots (seek 0 pages.slots (addr / page_size)) (addr % page_size) other }
