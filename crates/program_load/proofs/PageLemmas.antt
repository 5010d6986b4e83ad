-- Pages while a program is loaded: why no call on them is refused, and what they hold.
use Rattle.std.proofs.Common.{◌≡◌, ℕ, zero, suc, ◌+◌, ◌-◌, ◌*◌, ◌/◌, ◌^◌, ◌<◌, ◌≤◌, Bool, true, false, cond, not, List, length, Option, Some, None, refl, sym, ◌∙◌, ap, subst, arith, ⊎_elim, get_or, drop, slice_range}
use Rattle.std.specs.Option.{option_map}
use Rattle.std.proofs.lemmas.Bool.{cases_lt, le-leb, lt-leb, lt-ltb}
use Rattle.std.proofs.lemmas.List.{get_or-take, get_or-drop}
use Rattle.machine_state.specs.declared.kinds.Kind.{Kind}
use Rattle.machine_state.specs.declared.kinds.Kind.TheVariants.{Write}
use Rattle.machine_state.specs.declared.kinds.Region.{Region}
use Rattle.machine_state.specs.declared.permissions.Perms.{Perms}
use Rattle.machine_state.specs.Memory.{page_size, Permissions, Swap, first_miss, miss_at, is_noncanonical, written}
use Rattle.machine_state.specs.Regions.{AreRegions, nature_at, page_sum, most_regions}
use Rattle.machine_state.proofs.MemoryLemmas.{first_miss-suc, first_miss-zero, written_below, written_in, written_above, below_write, in_write, above_write, length_slice}
use Rattle.guest_pages.specs.Table.{Mapped, perms_in}
use Rattle.guest_pages.specs.Pages.{PagesValue, table_of, byte_of}
use Rattle.region_map.specs.declared.kinds.Change.TheVariants.{Map, Protect}
use Rattle.region_map.specs.declared.kinds.ProtectFault.{ProtectFault}
use Rattle.region_map.specs.declared.kinds.ProtectFault.TheVariants.{Hole, Full}
use Rattle.region_map.specs.Ranges.{page_end, is_in, becomes, changed_regions, IsAfter}
use Rattle.region_map.specs.Changes.{AreChanged}
use Rattle.region_map.specs.Calls.{FitPages, PassLimits, IsProtectFault, is_mapped}
use Rattle.region_map.proofs.After.{is_after}
use Rattle.region_map.proofs.Bounds.{changed_bounds}
use Rattle.region_map.proofs.Unique.{regions_unique}
use Rattle.elf_image.specs.declared.kinds.Segment.{Segment}
use Rattle.program_load.specs.Load.{has_byte}
use Rattle.program_load.specs.Loading.{HaveRoom, with_zeros}

-- ---- why no call is refused
-- where there is room, a range can be mapped
pub room_maps : (pages : PagesValue) (regions : List Region) (perms : Perms) (file : Bool) (first end : ℕ) → AreRegions regions → perms.0 < 8
    → first < end → end ≤ page_end → HaveRoom pages regions (end - first)
    → (length (changed_regions (Map perms file) first end regions) ≤ most_regions)
    × (page_sum (changed_regions (Map perms file) first end regions) ≤ length pages.slots)
room_maps pages regions perms file first end are set lt low room =
    let after = is_after (Map perms file) first end regions (changed_regions (Map perms file) first end regions) are lt (set, low) refl in
    let bounds = changed_bounds (Map perms file) first end regions (changed_regions (Map perms file) first end regions) are (omega arith) low after in
    let few = room.few in
    let some = room.room in
    (omega (arith, bounds.0), omega (arith, bounds.1))

within_limits : (pages : PagesValue) (regions : List Region) → length regions ≤ most_regions → page_sum regions ≤ length pages.slots → PassLimits pages regions → ⊥
within_limits pages regions few room pass = ⊎_elim
    (λ (long : most_regions < length regions). omega arith)
    (λ (many : length pages.slots < page_sum regions). omega arith)
    pass

pub map_allowed : (pages : PagesValue) (regions : List Region) (perms : Perms) (file : Bool) (first end : ℕ) → FitPages pages regions → perms.0 < 8
    → first < end → end ≤ page_end → HaveRoom pages regions (end - first) → PassLimits pages (changed_regions (Map perms file) first end regions) → ⊥
map_allowed pages regions perms file first end fit set lt low room pass =
    let both = room_maps pages regions perms file first end fit.perms.listed set lt low room in
    within_limits pages (changed_regions (Map perms file) first end regions) both.0 both.1 pass

-- where all pages of a range are mapped and the limits are kept, it can be given permissions
pub protect_allowed : (pages : PagesValue) (regions : List Region) (perms : Perms) (first end from to : ℕ) (fault : ProtectFault) → from ≡ first → to ≡ end
    → ((page : ℕ) → is_in first end page ≡ true → is_mapped regions page ≡ true)
    → length (changed_regions (Protect perms) first end regions) ≤ most_regions
    → page_sum (changed_regions (Protect perms) first end regions) ≤ length pages.slots
    → IsProtectFault regions pages perms from to fault → ⊥
protect_allowed pages regions perms first end from to fault from_is to_is mapped few room is =
    not_refused fault (subst (λ (n : ℕ). IsProtectFault regions pages perms first n fault) to_is (subst (λ (n : ℕ). IsProtectFault regions pages perms n to fault) from_is is))
  where
    not_refused : (f : ProtectFault) → IsProtectFault regions pages perms first end f → ⊥
    not_refused (Hole addr) h =
        let hole = h.2 in
        let inside : is_in first end h.0 ≡ true = rw (le-leb first h.0 hole.above, lt-ltb h.0 end hole.below) refl in
        let here : not (is_mapped regions h.0) ≡ false = ap not (mapped h.0 inside) in
        let never : true ≡ false = sym hole.passes ∙ here in
        cc
    not_refused Full h = within_limits pages (changed_regions (Protect perms) first end regions) few room h.1

-- an access of which each byte is allowed
first_miss-each : (perms : Permissions) (kind : Kind) (addr len : ℕ) → ((i : ℕ) → i < len → miss_at perms kind (addr + i) ≡ None)
    → first_miss perms kind addr len ≡ None
first_miss-each perms kind addr zero each = first_miss-zero perms kind addr
first_miss-each perms kind addr (suc len) each =
    let here : miss_at perms kind addr ≡ None = (let e : addr + 0 ≡ addr = omega arith in rw e at (each 0 (omega arith))) in
    first_miss-suc perms kind addr len
    ∙ rw here (first_miss-each perms kind (addr + 1) len (λ i h. let e : addr + 1 + i ≡ addr + suc i = omega arith in rw e (each (suc i) (omega arith))))

-- bytes can be written where the pages of a range are readable and writable
range_writable : (perms : Permissions) (first end addr len : ℕ) → end ≤ page_end → page_size * first ≤ addr → addr + len ≤ page_size * end
    → ((page : ℕ) → is_in first end page ≡ true → perms page ≡ Some 3) → first_miss perms Write addr len ≡ None
range_writable perms first end addr len low above below are = first_miss-each perms Write addr len (λ i h.
    let canonical : is_noncanonical (addr + i) ≡ false = rw (lt-leb (2 ^ 47) (addr + i) (omega arith)) refl in
    let page : is_in first end ((addr + i) / page_size) ≡ true =
    rw (le-leb first ((addr + i) / page_size) (omega arith), lt-ltb ((addr + i) / page_size) end (omega arith)) refl in
    rw (canonical, are ((addr + i) / page_size) page) refl)

mapped_perms : (perms : Perms) (file : Bool) (first end : ℕ) (old new : PagesValue) → AreChanged (Map perms file) (is_in first end) old new
    → (page : ℕ) → is_in first end page ≡ true → perms_in (table_of new) page ≡ Some perms.0
mapped_perms perms file first end old new a page e =
    let fresh = a.inside page e in
    ap (option_map (λ (m : Mapped). m.perms)) fresh.table ∙ ap (λ (n : ℕ). let o : Option ℕ = Some n in o) fresh.perms_are

pub mapped_writable : (file : Bool) (first end addr len : ℕ) (old new : PagesValue) → AreChanged (Map (record { 0 = 3 }) file) (is_in first end) old new
    → end ≤ page_end → page_size * first ≤ addr → addr + len ≤ page_size * end → first_miss (perms_in (table_of new)) Write addr len ≡ None
mapped_writable file first end addr len old new a low above below =
    range_writable (perms_in (table_of new)) first end addr len low above below (mapped_perms (record { 0 = 3 }) file first end old new a)

pub now_mapped : (perms : Perms) (file : Bool) (first end : ℕ) (old new : List Region) → IsAfter (Map perms file) first end old new
    → (page : ℕ) → is_in first end page ≡ true → is_mapped new page ≡ true
now_mapped perms file first end old new after page e = rw (after.natures page, e) refl

-- ---- regions
-- a range that is mapped and then given permissions is one that is mapped with them
pub mapped_then : (perms given : Perms) (file : Bool) (first end : ℕ) (old between : List Region) → AreRegions old → first < end → end ≤ page_end → given.0 < 8
    → IsAfter (Map perms file) first end old between → changed_regions (Protect given) first end between ≡ changed_regions (Map given file) first end old
mapped_then perms given file first end old between are lt low set after =
    let two = is_after (Protect given) first end between (changed_regions (Protect given) first end between) after.listed lt set refl in
    let one = is_after (Map given file) first end old (changed_regions (Map given file) first end old) are lt (set, low) refl in
    regions_unique (changed_regions (Protect given) first end between) (changed_regions (Map given file) first end old) two.listed one.listed
    (λ page. two.natures page ∙ step page (is_in first end page) (after.natures page) ∙ sym (one.natures page))
  where
    step : (page : ℕ) (b : Bool) → nature_at between page ≡ cond b (becomes (Map perms file) (nature_at old page)) (nature_at old page)
        → cond b (becomes (Protect given) (nature_at between page)) (nature_at between page) ≡ cond b (becomes (Map given file) (nature_at old page)) (nature_at old page)
    step page true e = rw e refl
    step page false e = e

-- ---- bytes
pub mapped_bytes : (perms : Perms) (file : Bool) (first end : ℕ) (old new : PagesValue) → AreChanged (Map perms file) (is_in first end) old new
    → (swap : Swap) (addr : ℕ) → byte_of new swap addr ≡ with_zeros first end (byte_of old swap) addr
mapped_bytes perms file first end old new a swap addr = here (is_in first end (addr / page_size)) refl
  where
    here : (b : Bool) → is_in first end (addr / page_size) ≡ b → byte_of new swap addr ≡ cond b 0 (byte_of old swap addr)
    here true e = (a.inside (addr / page_size) e).bytes swap addr refl
    here false e = (a.outside (addr / page_size) e).kept.bytes swap addr refl

pub protected_bytes : (perms : Perms) (first end : ℕ) (old new : PagesValue) → AreChanged (Protect perms) (is_in first end) old new
    → (swap : Swap) (addr : ℕ) → byte_of new swap addr ≡ byte_of old swap addr
protected_bytes perms first end old new a swap addr = here (is_in first end (addr / page_size)) refl
  where
    here : (b : Bool) → is_in first end (addr / page_size) ≡ b → byte_of new swap addr ≡ byte_of old swap addr
    here true e = (a.inside (addr / page_size) e).kept.bytes swap addr refl
    here false e = (a.outside (addr / page_size) e).kept.bytes swap addr refl

-- the bytes of a segment are written
pub segment_written : (bytes : List ℕ) (segment : Segment) (byte : ℕ → ℕ) (addr : ℕ) → segment.file_at + segment.file_len ≤ length bytes
    → written byte segment.addr (slice_range bytes segment.file_at (segment.file_at + segment.file_len)) addr
    ≡ cond (has_byte segment addr) (get_or bytes (segment.file_at + (addr - segment.addr)) 0) (byte addr)
segment_written bytes segment byte addr within =
    let from = segment.file_at in
    let end = segment.file_at + segment.file_len in
    let part = slice_range bytes from end in
    let size : length part ≡ segment.file_len = length_slice bytes from end (omega arith) within ∙ omega arith in
    ⊎_elim
    (λ (low : addr < segment.addr).
    written_below byte segment.addr part addr low ∙ sym (rw (below_write segment.addr addr (segment.addr + segment.file_len) low) refl))
    (λ (high : segment.addr ≤ addr). ⊎_elim
    (λ (inside : addr < segment.addr + segment.file_len).
    written_in byte segment.addr part addr high (omega arith)
    ∙ get_or-take (end - from) (drop from bytes) (addr - segment.addr) 0 (omega arith)
    ∙ get_or-drop from bytes (addr - segment.addr) 0
    ∙ sym (rw (in_write segment.addr addr (segment.addr + segment.file_len) high inside) refl))
    (λ (past : segment.addr + segment.file_len ≤ addr).
    written_above byte segment.addr part addr (omega arith) ∙ sym (rw (above_write segment.addr addr (segment.addr + segment.file_len) high past) refl))
    (cases_lt addr (segment.addr + segment.file_len)))
    (cases_lt addr segment.addr)
