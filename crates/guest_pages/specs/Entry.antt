-- A mapped page, and where its bytes are.
use Rattle.std.specs.Prelude.{ℕ, List, Bool, true, false, Option, Some, None, slice_index, slice_range, length, ◌+◌, ◌==◌, ◌≡◌, if◌then◌else◌}
use Rattle.machine_state.specs.Memory.{page_size, permits}
use Rattle.machine_state.specs.declared.kinds.Kind.{Kind}
use Rattle.machine_state.specs.declared.permissions.Perms.{Perms}
use Rattle.guest_pages.specs.Bytes.{put_at}
use Rattle.guest_pages.specs.declared.entry.Entry.{Entry}
use Rattle.guest_pages.specs.declared.entry.Mark.{Mark}
use Rattle.guest_pages.specs.declared.entry.Mark.TheVariants.{Fresh, Saved, Written}
use Rattle.guest_pages.specs.declared.entry.Place.{Place}
use Rattle.guest_pages.specs.declared.entry.Place.TheVariants.{Resident, Zeros, Swapped}

-- whether a page is in a frame
abbrev pub is_resident : Place → Bool
is_resident (Resident bytes mark) = true
is_resident Zeros = false
is_resident Swapped = false

-- whether a page is away on the swap
abbrev pub is_on_swap : Place → Bool
is_on_swap (Resident bytes mark) = false
is_on_swap Zeros = false
is_on_swap Swapped = true

-- a byte of a page, by its index; a page on the swap has what the swap holds for it
abbrev pub place_byte : List ℕ → Place → ℕ → ℕ
place_byte swapped (Resident bytes mark) at = slice_index bytes at
place_byte swapped Zeros at = 0
place_byte swapped Swapped at = slice_index swapped at

-- the mark of a page that is in a frame
abbrev pub mark_in : Place → Option Mark
mark_in (Resident bytes mark) = Some mark
mark_in Zeros = None
mark_in Swapped = None

-- a page that counts as written
abbrev pub place_marked : Place → Place
place_marked (Resident bytes mark) = Resident bytes Written
place_marked Zeros = Zeros
place_marked Swapped = Swapped

-- a page with other bytes from an index on
abbrev pub place_with : Place → ℕ → List ℕ → Place
place_with (Resident bytes mark) at other = Resident (put_at bytes at other) mark
place_with Zeros at other = Zeros
place_with Swapped at other = Swapped

-- a page with other bytes from an index on, which counts as written
abbrev pub entry_with : Entry → ℕ → List ℕ → Entry
entry_with entry at other = record entry { place = place_with (place_marked entry.place) at other }

abbrev pub slot_with : Option Entry → ℕ → List ℕ → Option Entry
slot_with None at other = None
slot_with (Some entry) at other = Some (entry_with entry at other)

-- whether a slot holds a page
abbrev pub holds_page : Option Entry → ℕ → Bool
holds_page None page = false
holds_page (Some entry) page = page == entry.page

-- whether a slot holds a page with permissions for an access
abbrev pub slot_permits : Option Entry → Kind → Bool
slot_permits None kind = false
slot_permits (Some entry) kind = permits kind entry.perms.0

-- whether a slot holds a page that is in a frame
abbrev pub is_in_frame : Option Entry → Bool
is_in_frame None = false
is_in_frame (Some entry) = is_resident entry.place

-- the bytes of a page that is in a frame
abbrev pub place_frame : Place → Option (List ℕ)
place_frame (Resident bytes mark) = Some bytes
place_frame Zeros = None
place_frame Swapped = None

-- the bytes of a slot's page, where it is in a frame
abbrev pub slot_frame : Option Entry → Option (List ℕ)
slot_frame None = None
slot_frame (Some entry) = place_frame entry.place

-- a part of a whole page's bytes
pub record IsLent (at len : ℕ) (part bytes : List ℕ) : Type 0 where
  pub whole : length bytes ≡ page_size
  pub is : part ≡ slice_range bytes at (at + len)

-- the slot of a page that isn't in a frame
abbrev pub away_slot_of : Option Entry → ℕ → Option ℕ
away_slot_of slot k = if is_in_frame slot then None else Some k

-- a slot whose page has other permissions
abbrev pub slot_protected : Option Entry → Perms → Option Entry
slot_protected None perms = None
slot_protected (Some entry) perms = Some (record entry { perms = perms })

-- the bytes of a page that was written since it was put or mapped
abbrev pub place_unsaved : Place → Option (List ℕ)
place_unsaved (Resident bytes Fresh) = None
place_unsaved (Resident bytes Saved) = None
place_unsaved (Resident bytes Written) = Some bytes
place_unsaved Zeros = None
place_unsaved Swapped = None

abbrev pub slot_unsaved : Option Entry → Option (List ℕ)
slot_unsaved None = None
slot_unsaved (Some entry) = place_unsaved entry.place

-- where a page's bytes are once it gave its frame up
abbrev pub place_left : Place → Place
place_left (Resident bytes Fresh) = Zeros
place_left (Resident bytes Saved) = Swapped
place_left (Resident bytes Written) = Swapped
place_left Zeros = Zeros
place_left Swapped = Swapped

abbrev pub entry_left : Entry → Entry
entry_left entry = record entry { place = place_left entry.place }

abbrev pub slot_left : Option Entry → Option Entry
slot_left None = None
slot_left (Some entry) = Some (entry_left entry)

-- a page that was away, with its bytes in a frame
abbrev pub place_entered : List ℕ → Place → Place
place_entered bytes (Resident held mark) = Resident held mark
place_entered bytes Zeros = Resident bytes Fresh
place_entered bytes Swapped = Resident bytes Saved

abbrev pub entry_entered : List ℕ → Entry → Entry
entry_entered bytes entry = record entry { place = place_entered bytes entry.place }

abbrev pub slot_entered : List ℕ → Option Entry → Option Entry
slot_entered bytes None = None
slot_entered bytes (Some entry) = Some (entry_entered bytes entry)

-- whether a slot holds a page that is away on the swap
abbrev pub slot_swapped : Option Entry → Bool
slot_swapped None = false
slot_swapped (Some entry) = is_on_swap entry.place

-- the permissions of a slot's page
abbrev pub HasPerms : Option Entry → Perms → Type 0
HasPerms None perms = ⊥
HasPerms (Some entry) perms = perms ≡ entry.perms
