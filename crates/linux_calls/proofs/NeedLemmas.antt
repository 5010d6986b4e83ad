-- The page that a call waits for is one of the few pages of its next unit, and is away.
use Rattle.std.proofs.Common.{◌≡◌, ℕ, zero, suc, ◌+◌, ◌-◌, ◌*◌, ◌/◌, ◌%◌, ◌^◌, ◌≤◌, ◌<◌, ◌⊎◌, inl, inr, ⊎_elim, min, Bool, true, false, cond, List, [], ◌∷◌, length, Contains, Option, Some, None}
use Rattle.std.proofs.Common.{Result, Ok, Err, refl, sym, ap, ◌∙◌, subst, arith}
use Rattle.std.proofs.lemmas.Bool.{cases_lt, ne_eqb}
use Rattle.std.proofs.lemmas.List.Elements.{Contains-append_right}
use Rattle.machine_state.specs.Memory.{page_size, first_miss, or_else}
use Rattle.machine_state.specs.declared.kinds.Kind.{Kind}
use Rattle.machine_state.specs.declared.kinds.Kind.TheVariants.{Read as ReadKind, Write as WriteKind}
use Rattle.machine_state.specs.declared.kinds.Miss.{Miss}
use Rattle.machine_state.specs.declared.kinds.Miss.TheVariants.{Away}
use Rattle.machine_state.proofs.MemoryLemmas.{first_miss_never_away}
use Rattle.guest_pages.specs.Table.{Mapped, Table, away_at, blocked, first_away, perms_in}
use Rattle.guest_pages.specs.Pages.{PagesValue, table_of}
use Rattle.guest_pages.specs.Order.{IsAwayIn}
use Rattle.guest_transfers.specs.Buffers.{record_size}
use Rattle.guest_transfers.specs.Moves.{ListWaits, PathWaits, away_access, blocked_access, record_place}
use Rattle.guest_transfers.specs.Paths.{path_max}
use Rattle.guest_transfers.specs.Pieces.{first_part, part_at, pieces_from, single}
use Rattle.guest_transfers.specs.declared.kinds.Piece.{Piece}
use Rattle.guest_transfers.proofs.Along.{from_inside}
use Rattle.guest_transfers.proofs.PartLemmas.{single_part}
use Rattle.linux_calls.specs.declared.kinds.Call.{Call}
use Rattle.linux_calls.specs.declared.kinds.Call.TheVariants.{Open, Fstat, Uname, ArchPrctl, ClockGettime, Openat}
use Rattle.linux_calls.specs.declared.kinds.CallEnd.{CallEnd}
use Rattle.linux_calls.specs.declared.kinds.CallEnd.TheVariants.{Value, Exit, Need as NeedEnd, Host}
use Rattle.linux_calls.specs.declared.kinds.Halt.{Halt}
use Rattle.linux_calls.specs.declared.kinds.Halt.TheVariants.{Refused, Need, Failed}
use Rattle.linux_calls.specs.declared.kinds.Stage.{Stage}
use Rattle.linux_calls.specs.declared.kinds.Stage.TheVariants.{Start, Listing, Moving, Copying}
use Rattle.linux_calls.specs.declared.kinds.Transfer.{Transfer}
use Rattle.linux_calls.specs.Call.{negative, rax, rdi, rdx, rsi}
use Rattle.linux_calls.specs.Rest.{transfer_of}
use Rattle.linux_calls.specs.Table.{call_numbered}
use Rattle.linux_calls.specs.Transfers.{kind_of}
use Rattle.linux_calls.specs.View.{View}
use Rattle.linux_calls.specs.Following.{IsValue, Settles, answered_view}
use Rattle.linux_calls.specs.Waiting.{IsNeeded, NeedsAtStart, NeedsBy, NeedsFor, NeedsIn, NeedsPart, NeedsRecord, mapped_bytes}
use Rattle.linux_calls.specs.Units.{GoesOn, KeepsSwap, WaitsAt, WaitsFor, WaitsIn, access_pages, call_pages, first_pages, pages_from, pages_over}
use Rattle.linux_calls.specs.Units.{part_pages, stage_pages, start_pages, unit_pages}
use Rattle.linux_calls.proofs.UnitLemmas.{over_none, over_some}

-- ---- the pages of an access
length-pages_from : (first count : ℕ) → length (pages_from first count) ≡ count
unfolding pages_from
length-pages_from first zero = refl
length-pages_from first (suc count) = ap suc (length-pages_from (first + 1) count)

contains_page : (first count page : ℕ) → first ≤ page → page < first + count → Contains (pages_from first count) page
unfolding pages_from
contains_page first zero page above below = absurd (omega arith)
contains_page first (suc count) page above below = ⊎_elim
    (λ (later : first < page). Contains-append_right (first ∷ []) (pages_from (first + 1) count) page (contains_page (first + 1) count page (omega arith) (omega arith)))
    (λ (here : page ≤ first). let same : first ≡ page = omega arith in (0, omega arith, same))
    (cases_lt first page)

-- the page of each byte of an access is one of its pages
contains_byte : (addr len at : ℕ) → addr ≤ at → at < addr + len → Contains (access_pages addr len) (at / page_size)
contains_byte addr len at above below =
    let over = over_some addr len (omega arith) in
    contains_page (addr / page_size) (pages_over addr len) (at / page_size) (omega arith) (omega (arith, over, above, below))

few_pages : (addr len : ℕ) → len ≤ 390 → length (access_pages addr len) ≤ 4
few_pages addr len short = ⊎_elim
    (λ (some : 0 < len). let all = length-pages_from (addr / page_size) (pages_over addr len) in let over = over_some addr len some in omega (arith, all, over, short))
    (λ (none : len ≤ 0).
    let is : len ≡ 0 = omega arith in
    let all = length-pages_from (addr / page_size) (pages_over addr len) in
    let over : pages_over addr len ≡ 0 = rw is (over_none addr) in
    omega (arith, all, over))
    (cases_lt 0 len)

-- ---- a page of a list is away, and the list is short
record IsAmong (pages : PagesValue) (list : List ℕ) (slot : ℕ) : Type 0 where
  few : length list ≤ 4
  away : IsAwayIn pages slot
  of : Contains list away.page

away_page : (pages : PagesValue) (page slot : ℕ) → away_at (table_of pages page) ≡ Some (Away slot) → (list : List ℕ) → length list ≤ 4 → Contains list page → IsAmong pages list slot
away_page pages page slot away list few of = by_entry (table_of pages page) refl away
  where
    by_resident : (resident : Bool) (other : ℕ) → cond resident None (Some (Away other)) ≡ Some (Away slot) → (other ≡ slot) × (resident ≡ false)
    by_resident true other h = cc
    by_resident false other h = (let same : other ≡ slot = cc in same, refl)

    by_entry : (entry : Option Mapped) → table_of pages page ≡ entry → away_at entry ≡ Some (Away slot) → IsAmong pages list slot
    by_entry None is h = cc
    by_entry (Some mapped) is h =
        let is_away = by_resident mapped.resident mapped.slot h in
        record { few = few; away = record { page = page; mapped = mapped; there = record { is = is; slot_is = is_away.0 }; resident_is = is_away.1 }; of = of }

-- a byte of an access is on a page that is away, in this slot
pub record IsAwayAt (table : Table) (addr len slot : ℕ) : Type 0 where
  pub at : ℕ
  pub above : addr ≤ at
  pub below : at < addr + len
  pub away : away_at (table (at / page_size)) ≡ Some (Away slot)

-- where an access waits for a page, that is the page of one of its bytes
first_away_at : (table : Table) (addr len slot : ℕ) → first_away table addr len ≡ Some (Away slot) → IsAwayAt table addr len slot
unfolding first_away
first_away_at table addr zero slot e = cc
first_away_at table addr (suc len) slot e = by_first (away_at (table (addr / page_size))) refl (first_away_at table (addr + 1) len slot) e
  where
    by_first : (first : Option Miss) → away_at (table (addr / page_size)) ≡ first → (first_away table (addr + 1) len ≡ Some (Away slot) → IsAwayAt table (addr + 1) len slot)
        → or_else first (first_away table (addr + 1) len) ≡ Some (Away slot) → IsAwayAt table addr (suc len) slot
    by_first None is later h = let there = later h in let above = there.above in let below = there.below in record { at = there.at; above = omega arith; below = omega arith; away = there.away }
    by_first (Some miss) is later h = record { at = addr; above = omega arith; below = omega arith; away = is ∙ h }

pub blocked_at : (table : Table) (kind : Kind) (addr len slot : ℕ) → blocked table kind addr len ≡ Some (Away slot) → IsAwayAt table addr len slot
blocked_at table kind addr len slot e = by_miss (first_miss (perms_in table) kind addr len) refl e
  where
    by_miss : (miss : Option Miss) → first_miss (perms_in table) kind addr len ≡ miss → or_else miss (first_away table addr len) ≡ Some (Away slot)
        → IsAwayAt table addr len slot
    by_miss None is h = first_away_at table addr len slot h
    by_miss (Some miss) is h = absurd (first_miss_never_away (perms_in table) kind addr len slot (is ∙ h))

-- ---- the unit that waits
record_among : (pages : PagesValue) (addr len slot : ℕ) → len ≤ 390 → blocked (table_of pages) WriteKind addr len ≡ Some (Away slot) → IsAmong pages (access_pages addr len) slot
record_among pages addr len slot short e =
    let there = blocked_at (table_of pages) WriteKind addr len slot e in
    away_page pages (there.at / page_size) slot there.away (access_pages addr len) (few_pages addr len short) (contains_byte addr len there.at there.above there.below)

path_among : (pages : PagesValue) (addr slot : ℕ) → PathWaits pages addr slot → IsAmong pages (access_pages addr path_max) slot
path_among pages addr slot waits =
    let within = waits.within in
    let part = single_part ReadKind addr path_max waits.done within in
    let there = blocked_at (table_of pages) ReadKind (addr + waits.done) (min (path_max - waits.done) (page_size - (addr + waits.done) % page_size)) slot
    (ap (blocked_access (table_of pages)) (sym part) ∙ waits.away) in
    let above = there.above in
    let below = there.below in
    away_page pages (there.at / page_size) slot there.away (access_pages addr path_max) (few_pages addr path_max (omega arith)) (contains_byte addr path_max there.at (omega arith) (omega arith))

list_among : (pages : PagesValue) (addr count : ℕ) (old new : List Piece) (slot : ℕ) → ListWaits pages addr count old new slot
    → IsAmong pages (access_pages (record_place addr (length new)) record_size) slot
list_among pages addr count old new slot waits =
    let within = waits.within in
    let here = waits.here in
    let more : waits.done < record_size * count = omega arith in
    let part = single_part ReadKind addr (record_size * count) waits.done more in
    let there = blocked_at (table_of pages) ReadKind (addr + waits.done) (min (record_size * count - waits.done) (page_size - (addr + waits.done) % page_size)) slot
    (ap (blocked_access (table_of pages)) (sym part) ∙ waits.away) in
    let above = there.above in
    let below = there.below in
    let page : there.at / page_size ≡ (addr + waits.done) / page_size = omega arith in
    away_page pages ((addr + waits.done) / page_size) slot (ap (λ (p : ℕ). away_at (table_of pages p)) (sym page) ∙ there.away) (access_pages (record_place addr (length new)) record_size)
    (few_pages (record_place addr (length new)) record_size (omega arith)) (contains_byte (record_place addr (length new)) record_size (addr + waits.done) (omega arith) (omega arith))

part_among : (pages : PagesValue) (kind : Kind) (pieces : List Piece) (done slot : ℕ) → blocked_access (table_of pages) (part_at kind pieces done) ≡ Some (Away slot)
    → IsAmong pages (part_pages pieces done) slot
part_among pages kind pieces done slot e = by_pieces (pieces_from pieces done) e
  where
    by_pieces : (left : List Piece) → blocked_access (table_of pages) (first_part kind left) ≡ Some (Away slot) → IsAmong pages (first_pages left) slot
    by_pieces [] h = let there = blocked_at (table_of pages) kind 0 0 slot h in let below = there.below in absurd (omega arith)
    by_pieces (piece ∷ rest) h =
        let there = blocked_at (table_of pages) kind piece.addr (min piece.len (page_size - piece.addr % page_size)) slot h in
        let above = there.above in
        let below = there.below in
        let page : piece.addr / page_size ≡ there.at / page_size = omega arith in
        away_page pages (there.at / page_size) slot there.away (piece.addr / page_size ∷ []) (omega arith) (0, omega arith, page)

copy_among : (pages : PagesValue) (at count done slot : ℕ) → done < count → away_access (table_of pages) (part_at WriteKind (single at count) done) ≡ Some (Away slot)
    → IsAmong pages (part_pages (single at count) done) slot
copy_among pages at count done slot more e =
    let inside = from_inside (record { addr = at; len = count }) [] done more in
    let part = single_part WriteKind at count done more in
    subst (λ (list : List ℕ). IsAmong pages list slot) (sym (ap first_pages inside))
    (away_page pages ((at + done) / page_size) slot (ap (away_access (table_of pages)) (sym part) ∙ e) ((at + done) / page_size ∷ []) (omega arith) (0, omega arith, refl))

needed_for : (call : Call) (v : View) (slot : ℕ) → NeedsFor call v slot → IsAmong v.pages (call_pages call v.gprs) slot
needed_for Open v slot needs = path_among v.pages (rdi v.gprs) slot needs
needed_for Openat v slot needs = path_among v.pages (rsi v.gprs) slot needs
needed_for Fstat v slot needs = record_among v.pages (rsi v.gprs) 144 slot (omega arith) needs.1
needed_for Uname v slot needs = record_among v.pages (rdi v.gprs) 390 slot (omega arith) needs
needed_for ArchPrctl v slot needs = record_among v.pages (rsi v.gprs) 8 slot (omega arith) needs.1
needed_for ClockGettime v slot needs = record_among v.pages (rsi v.gprs) 16 slot (omega arith) needs.1
needed_for other v slot needs = absurd needs

needed_at_start : (call : Option Call) (v : View) (slot : ℕ) → NeedsAtStart call v slot → IsAmong v.pages (start_pages call v.gprs) slot
needed_at_start None v slot needs = absurd needs
needed_at_start (Some call) v slot needs = needed_for call v slot needs

needed_part : (transfer : Option Transfer) (v : View) (done slot : ℕ) → NeedsPart transfer v done slot → IsAmong v.pages (part_pages v.progress.pieces done) slot
needed_part None v done slot needs = absurd needs
needed_part (Some transfer) v done slot needs = part_among v.pages (kind_of transfer) v.progress.pieces done slot needs

needed_by : (stage : Stage) (v : View) (slot : ℕ) → NeedsBy stage v slot → IsAmong v.pages (stage_pages stage v.progress.pieces v.gprs) slot
needed_by Start v slot needs = needed_at_start (call_numbered (rax v.gprs)) v slot needs
needed_by Listing v slot needs = list_among v.pages (rsi v.gprs) (rdx v.gprs) v.progress.pieces v.progress.pieces slot needs
needed_by (Moving done) v slot needs = needed_part (transfer_of v.gprs v.files done) v done slot needs
needed_by (Copying at done) v slot needs = copy_among v.pages at (mapped_bytes v.gprs) done slot needs.0 needs.2

waits_for : (old new : View) (slot : ℕ) → GoesOn old new → IsNeeded new slot → WaitsFor old new slot
unfolding unit_pages
waits_for old new slot goes needed =
    let among = needed_by new.progress.stage new slot needed.needs in
    record { few = among.few; away = among.away; of = among.of; most = goes.most; unit = goes.unit; calls = goes.calls }

-- ---- the end of a call
by_value : (old new : View) (value : ℕ) (end : CallEnd) → IsValue end value → WaitsAt old new end
by_value old new value (Value given) is = tt
by_value old new value (Exit code) is = tt
by_value old new value (NeedEnd slot) is = absurd is
by_value old new value (Host call) is = tt

pub waits_settled : (old mid new : View) (result : Result ℕ Halt) (end : CallEnd) → WaitsIn old mid result → NeedsIn mid result → Settles result mid new end → WaitsAt old new end
waits_settled old mid new (Ok value) end waits needs settles = by_value old new value end settles.1
waits_settled old mid new (Err (Refused errno)) end waits needs settles = by_value old new (negative errno) end settles.1
waits_settled old mid new (Err (Need slot)) end waits needs settles =
    subst (λ (e : CallEnd). WaitsAt old new e) (sym settles.1) (subst (λ (v : View). WaitsFor old v slot) (sym settles.0) (waits_for old mid slot waits needs))
waits_settled old mid new (Err (Failed call)) end waits needs settles = subst (λ (e : CallEnd). WaitsAt old new e) (sym settles.1) tt

pub settled_pages : (mid new : View) (result : Result ℕ Halt) (end : CallEnd) → Settles result mid new end → new.pages ≡ mid.pages
settled_pages mid new (Ok value) end settles = ap (λ (v : View). v.pages) settles.0
settled_pages mid new (Err (Refused errno)) end settles = ap (λ (v : View). v.pages) settles.0
settled_pages mid new (Err (Need slot)) end settles = ap (λ (v : View). v.pages) settles.0
settled_pages mid new (Err (Failed call)) end settles = ap (λ (v : View). v.pages) settles.0

pub swap_settled : (old mid new : View) (result : Result ℕ Halt) (end : CallEnd) → KeepsSwap old.pages mid.pages → Settles result mid new end → KeepsSwap old.pages new.pages
swap_settled old mid new result end keeps settles = subst (λ (p : PagesValue). KeepsSwap old.pages p) (sym (settled_pages mid new result end settles)) keeps
