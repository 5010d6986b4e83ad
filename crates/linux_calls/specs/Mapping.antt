-- The calls on the pages of memory (Linux, mmap(2), mprotect(2), munmap(2), brk(2), madvise(2), in part).
use Rattle.std.specs.Prelude.{ℕ, zero, suc, ◌+◌, ◌-◌, ◌*◌, ◌/◌, ◌%◌, ◌==◌, Bool, false, not, ◌&&◌, ◌||◌, if◌then◌else◌, nat_lt, nat_le}
use Rattle.std.specs.Prelude.{List, [], ◌∷◌, Option, Some, None, is_none, unwrap_or}
use Rattle.std.specs.List.{list_any, range_with_len}
use Rattle.std.specs.Option.{option_map}
use Rattle.machine_state.specs.Memory.{page_size}
use Rattle.machine_state.specs.Regions.{nature_at}
use Rattle.machine_state.specs.World.{World, place_at}
use Rattle.machine_state.specs.declared.kinds.Place.{Place}
use Rattle.machine_state.specs.declared.kinds.Region.{Region}
use Rattle.machine_state.specs.declared.permissions.Perms.{Perms}
use Rattle.guest_files.specs.Checks.{first_failing, does_read, is_stream}
use Rattle.guest_files.specs.Errnos.{ebadf, eacces, einval}
use Rattle.guest_files.specs.Moves.{read_piece}
use Rattle.guest_files.specs.Open.{has_flag}
use Rattle.guest_files.specs.declared.errno.Errno.{Errno}
use Rattle.region_map.specs.Calls.{lowest_page, highest_end, pages_up, is_mapped, is_taken, heap_pages}
use Rattle.region_map.specs.Ranges.{changed_regions}
use Rattle.region_map.specs.declared.kinds.Change.{Change}
use Rattle.region_map.specs.declared.kinds.Change.TheVariants.{Map, Unmap, Protect}
use Rattle.linux_calls.specs.Errnos.{enomem, enodev}
use Rattle.linux_calls.specs.Call.{Called, gives, refuses, unless, with_bytes, is_page, low, rdi, rsi, rdx, r10, r8, r9}
use Rattle.linux_calls.specs.Parts.{files_of, passes_limits, cleared, with_change}

-- whether one of so many pages from one on passes a test
abbrev pub some_in : (ℕ → Bool) → (from count : ℕ) → Bool
some_in test from count = list_any test (range_with_len from count)

-- a page that a range has as a hole: it isn't mapped, or lies behind the last one that a guest may choose
abbrev pub is_hole : List Region → ℕ → Bool
is_hole regions page = not (is_mapped regions page) || nat_le highest_end page

-- the permissions that a call asks for: PROT_READ 1, PROT_WRITE 2, PROT_EXEC 4
abbrev pub asked_perms : ℕ → Perms
asked_perms bits = record { 0 = bits % 8 }

-- the first of two errors
abbrev pub refusal_or : Option Errno → Option Errno → Option Errno
refusal_or None other = other
refusal_or (Some errno) other = Some errno

-- ---- mprotect: rdi is the first page's address, rsi the length, rdx the permissions
-- so many pages from one on get these permissions
unfoldable pub protected : Perms → (from count : ℕ) → World → Called
protected perms from count w =
    unless (first_failing (
    (some_in (is_hole w.regions) from count, enomem)
    ∷ (passes_limits w.pages (changed_regions (Protect perms) from (from + count) w.regions), enomem)
    ∷ []
    )) w (gives 0 (with_change (Protect perms) from (from + count) w))

unfoldable pub mprotect_call : World → Called
mprotect_call w =
    let gprs = w.state.gprs in
    unless (first_failing ((not (is_page (rdi gprs)), einval) ∷ [])) w
    (if rsi gprs == 0 then gives 0 w else protected (asked_perms (rdx gprs)) (rdi gprs / page_size) (pages_up (rsi gprs)) w)

-- ---- munmap: rdi is the first page's address, rsi the length; pages that aren't mapped are no fault
unfoldable pub unmapped : (from to : ℕ) → World → Called
unmapped from to w =
    unless (first_failing ((passes_limits w.pages (changed_regions Unmap from to w.regions), enomem) ∷ [])) w
    (gives 0 (with_change Unmap from to w))

unfoldable pub munmap_call : World → Called
munmap_call w =
    let gprs = w.state.gprs in
    let from = rdi gprs / page_size in
    let to = from + pages_up (rsi gprs) in
    unless (first_failing (
    (not (is_page (rdi gprs)), einval)
    ∷ (rsi gprs == 0, einval)
    ∷ (nat_lt highest_end to, einval)
    ∷ []
    )) w (unmapped from to w)

-- ---- brk: rdi is the new break
-- the heap's end moves from one page to another
abbrev pub resized : World → (old new : ℕ) → World
resized w old new =
    if nat_lt old new then with_change heap_pages old new w
    else (if nat_lt new old then with_change Unmap new old w else w)

abbrev pub resize_passes : (pages : ℕ) → List Region → (old new : ℕ) → Bool
resize_passes pages regions old new =
    (nat_lt old new && passes_limits pages (changed_regions heap_pages old new regions))
    || (nat_lt new old && passes_limits pages (changed_regions Unmap new old regions))

-- whether the break can't be moved to an address
abbrev pub break_stays : World → ℕ → Bool
break_stays w to =
    let old = pages_up w.break_at in
    let new = pages_up to in
    nat_lt to w.heap_start || (some_in (is_taken w.regions) old (new - old) || resize_passes w.pages w.regions old new)

unfoldable pub brk_call : World → Called
brk_call w =
    let to = rdi w.state.gprs in
    if break_stays w to then gives w.break_at w
    else gives to (record (resized w (pages_up w.break_at) (pages_up to)) { break_at = to })

-- ---- madvise: rdi is the first page's address, rsi the length, rdx the advice
-- a page of a file
abbrev pub is_file_page : List Region → ℕ → Bool
is_file_page regions page = unwrap_or (option_map (λ nature. nature.file) (nature_at regions page)) false

-- MADV_DONTNEED
abbrev pub dont_need : ℕ
dont_need = 4

-- advice that changes nothing: MADV_NORMAL 0, MADV_RANDOM 1, MADV_SEQUENTIAL 2, MADV_WILLNEED 3, MADV_FREE 8,
-- MADV_HUGEPAGE 14, MADV_NOHUGEPAGE 15, MADV_DONTDUMP 16
abbrev pub is_idle_advice : ℕ → Bool
is_idle_advice advice = nat_le advice 3 || advice == 8 || advice == 14 || advice == 15 || advice == 16

-- the world with zeros in the pages from one on and below another
abbrev pub with_zeros : (from to : ℕ) → World → World
with_zeros from to w =
    record w { state = record w.state { memory = record w.state.memory { byte = cleared from to w.state.memory.byte } } }

-- so many anonymous pages from one on become zeros
unfoldable pub discarded : (from count : ℕ) → World → Called
discarded from count w =
    unless (first_failing ((some_in (is_file_page w.regions) from count, einval) ∷ [])) w (gives 0 (with_zeros from (from + count) w))

unfoldable pub madvise_call : World → Called
madvise_call w =
    let gprs = w.state.gprs in
    let from = rdi gprs / page_size in
    let count = pages_up (rsi gprs) in
    let advice = low (rdx gprs) in
    unless (first_failing ((not (is_page (rdi gprs)), einval) ∷ (some_in (is_hole w.regions) from count, enomem) ∷ [])) w
    (if advice == dont_need then discarded from count w else (if is_idle_advice advice then gives 0 w else refuses einval w))

-- ---- mmap: rdi is the address or a hint, rsi the length, rdx the permissions, r10 the flags, r8 the descriptor, r9 the offset
-- MAP_SHARED 1, MAP_PRIVATE 2: the two low bits of the flags
abbrev pub map_shared : ℕ
map_shared = 1

abbrev pub sharing_of : ℕ → ℕ
sharing_of flags = flags % 4

abbrev pub is_fixed : ℕ → Bool
is_fixed flags = has_flag flags 0x10

-- MAP_ANONYMOUS
abbrev pub is_anonymous : ℕ → Bool
is_anonymous flags = has_flag flags 0x20

-- the page behind the highest that is given where no other is asked for (this program's own)
abbrev pub given_end : ℕ
given_end = 0x7FFFF0000000 / page_size

-- so many pages from one on are free, and end at a page or below it
abbrev pub is_free : List Region → (end count page : ℕ) → Bool
is_free regions end count page = nat_le lowest_page page && nat_le (page + count) end && not (some_in (is_mapped regions) page count)

-- the highest number below another that passes a test
unfoldable pub last_below : (ℕ → Bool) → ℕ → Option ℕ
last_below test zero = None
last_below test (suc n) = if test n then Some n else last_below test n

-- the first page of the pages that a call gives where no page is asked for: the hint, where it can be had, and else the highest
abbrev pub free_page : List Region → (hint count : ℕ) → Option ℕ
free_page regions hint count =
    if is_page hint && is_free regions highest_end count (hint / page_size) then Some (hint / page_size)
    else last_below (is_free regions given_end count) given_end

-- the first page of the pages that a call maps
abbrev pub mmap_page : (gprs : List ℕ) → List Region → Option ℕ
mmap_page gprs regions =
    if is_fixed (r10 gprs) then Some (rdi gprs / page_size) else free_page regions (rdi gprs) (pages_up (rsi gprs))

-- the descriptor that pages are copied from, and whether it is a file that can be read
abbrev pub mapped_descriptor : List ℕ → ℕ
mapped_descriptor gprs = low (r8 gprs)

abbrev pub is_readable_file : Option Place → Bool
is_readable_file place = does_read place && not (is_stream place)

-- what is checked of a file that is mapped
abbrev pub file_refusal : (flags : ℕ) → Option Place → Option Errno
file_refusal flags place =
    first_failing (
    (is_none place, ebadf)
    ∷ (not (is_readable_file place), eacces)
    ∷ (sharing_of flags == map_shared, enodev)
    ∷ []
    )

-- what is checked of a fixed place
abbrev pub place_refusal : (addr count : ℕ) → Option Errno
place_refusal addr count =
    first_failing (
    (not (is_page addr), einval)
    ∷ (nat_lt (addr / page_size) lowest_page, enomem)
    ∷ (nat_lt highest_end (addr / page_size + count), enomem)
    ∷ []
    )

-- what is checked of the arguments: first the numbers, then the file where pages are of one, then the place where it is fixed
unfoldable pub mmap_refusal : (gprs : List ℕ) → List (Option Place) → Option Errno
mmap_refusal gprs places =
    let flags = r10 gprs in
    refusal_or (first_failing (
    (rsi gprs == 0, einval)
    ∷ (not (is_page (r9 gprs)), einval)
    ∷ (not (sharing_of flags == 1) && not (sharing_of flags == 2), einval)
    ∷ []
    ))
    (refusal_or (if is_anonymous flags then None else file_refusal flags (place_at places (mapped_descriptor gprs)))
    (if is_fixed flags then place_refusal (rdi gprs) (pages_up (rsi gprs)) else None))

-- the pages that are mapped: of a file or not
abbrev pub mmap_change : List ℕ → Change
mmap_change gprs = Map (asked_perms (rdx gprs)) (not (is_anonymous (r10 gprs)))

-- the file from the offset on, as many of its bytes as fit, from one of them on
abbrev pub mmap_bytes : World → (done : ℕ) → List ℕ
mmap_bytes w done =
    let gprs = w.state.gprs in
    read_piece (files_of w) (mapped_descriptor gprs) (r9 gprs + done) (pages_up (rsi gprs) * page_size - done)

-- a copy of a file into the pages from an address on, of which so many bytes are copied
unfoldable pub copy_rest : (at done : ℕ) → World → Called
copy_rest at done w = gives at (with_bytes w (at + done) (mmap_bytes w done))

-- what pages are filled with once they are mapped
unfoldable pub filled_from : (at : ℕ) → World → Called
filled_from at w = if is_anonymous (r10 w.state.gprs) then gives at w else copy_rest at 0 w

-- what is mapped from a page on
unfoldable pub mapped_at : (from : ℕ) → World → Called
mapped_at from w =
    let gprs = w.state.gprs in
    let to = from + pages_up (rsi gprs) in
    unless (first_failing ((passes_limits w.pages (changed_regions (mmap_change gprs) from to w.regions), enomem) ∷ [])) w
    (filled_from (from * page_size) (with_change (mmap_change gprs) from to w))

-- the same, if a page is found
abbrev pub mmap_at : Option ℕ → World → Called
mmap_at None w = refuses enomem w
mmap_at (Some from) w = mapped_at from w

unfoldable pub mmap_call : World → Called
mmap_call w = unless (mmap_refusal w.state.gprs w.descriptors) w (mmap_at (mmap_page w.state.gprs w.regions) w)
