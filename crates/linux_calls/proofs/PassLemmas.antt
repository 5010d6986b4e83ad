-- A call that doesn't wait has passed its units.
use Rattle.std.proofs.Common.{◌≡◌, ℕ, zero, suc, ◌+◌, ◌-◌, ◌*◌, ◌/◌, ◌%◌, ◌==◌, ◌≤◌, ◌<◌, Bool, true, false, cond, ⊎_elim, List, ◌++◌, length, take, min, Option, Some, None, IsSome}
use Rattle.std.proofs.Common.{Result, Ok, Err, ℤ, refl, sym, ap, ◌∙◌, subst, arith, length-append}
use Rattle.std.specs.Int.{w64, cast_unsigned}
use Rattle.std.proofs.lemmas.Bool.{cases_lt}
use Rattle.std.proofs.lemmas.List.{length-take}
use Rattle.machine_state.specs.Memory.{bytes_at, allowed_run, first_miss, miss_at, or_else, page_size}
use Rattle.machine_state.specs.declared.kinds.Kind.{Kind}
use Rattle.machine_state.specs.declared.kinds.Kind.TheVariants.{Read as ReadKind}
use Rattle.machine_state.specs.declared.kinds.Miss.{Miss}
use Rattle.machine_state.specs.declared.kinds.Miss.TheVariants.{Away}
use Rattle.machine_state.proofs.MemoryLemmas.{first_miss_never_away, first_miss_part, first_miss-suc, length-bytes_at, or_else_none}
use Rattle.guest_pages.specs.Table.{Table, away_at, blocked, first_away, perms_in}
use Rattle.guest_pages.specs.Pages.{PagesValue, byte_of, memory_of, table_of}
use Rattle.guest_pages.proofs.Walks.{blocked_part, ready_here}
use Rattle.guest_transfers.specs.Buffers.{record_size}
use Rattle.guest_transfers.specs.Moves.{AreRead, AreReadable, IsPathReady, ListFaults, ListWaits, PathFaults, PathWaits, blocked_access, record_place}
use Rattle.guest_transfers.specs.Paths.{Path, Text, TooLong, Fault, end_of, path_at, path_in, path_max}
use Rattle.guest_transfers.specs.Pieces.{asked, most_asked, part_at, single}
use Rattle.guest_transfers.specs.declared.kinds.Piece.{Piece}
use Rattle.guest_transfers.specs.declared.kinds.Stop.{Stop}
use Rattle.guest_transfers.specs.declared.kinds.Stop.TheVariants.{Whole, Failed as FailedStop}
use Rattle.guest_transfers.specs.declared.kinds.ListRead.TheVariants.{Whole as ListWhole}
use Rattle.guest_transfers.proofs.PartLemmas.{asked-single, single_part}
use Rattle.guest_transfers.proofs.PathLemmas.{end-append, end-none, end-within, run_on}
use Rattle.linux_calls.specs.declared.kinds.CallEnd.{CallEnd}
use Rattle.linux_calls.specs.declared.kinds.CallEnd.TheVariants.{Value, Exit, Need as NeedEnd, Host}
use Rattle.linux_calls.specs.declared.kinds.Halt.{Halt}
use Rattle.linux_calls.specs.declared.kinds.Halt.TheVariants.{Refused, Need, Failed}
use Rattle.linux_calls.specs.declared.kinds.Stage.{Stage}
use Rattle.linux_calls.specs.declared.kinds.Transfer.{Transfer}
use Rattle.linux_calls.specs.Call.{negative, rdx, rsi}
use Rattle.linux_calls.specs.View.{View}
use Rattle.linux_calls.specs.Following.{IsValue, Settles}
use Rattle.linux_calls.specs.Passing.{Lists, NeverWaits, PassedAt, PassedIn, Passes, PassesBy, PassesList, PassesTransfer}
use Rattle.linux_calls.proofs.ListLemmas.{longer, no_swap}
use Rattle.linux_calls.proofs.NeedLemmas.{blocked_at, settled_pages}

-- ---- how a piece ended
pub passed_as : (P Q : Stop → Type 0) (result : Result ℕ Halt) → ((stop : Stop) → P stop → Q stop) → PassedIn P result → PassedIn Q result
passed_as P Q (Ok value) same passed = same (Whole value) passed
passed_as P Q (Err (Refused errno)) same passed = same (Whole (negative errno)) passed
passed_as P Q (Err (Need slot)) same passed = tt
passed_as P Q (Err (Failed call)) same passed = same FailedStop passed

pub passed_by : (old new : View) (stage : Stage) → old.progress.stage ≡ stage → (stop : Stop) → PassesBy stage old (table_of new.pages) stop → Passes old new stop
unfolding Passes
passed_by old new stage is stop passed = subst (λ (s : Stage). PassesBy s old (table_of new.pages) stop) (sym is) passed

-- ---- the end of a call
by_value : (P : Stop → Type 0) (value : ℕ) (end : CallEnd) → IsValue end value → P (Whole value) → PassedAt P end
by_value P value (Value given) is passed = subst (λ (n : ℕ). P (Whole n)) (sym is) passed
by_value P value (Exit code) is passed = tt
by_value P value (NeedEnd slot) is passed = tt
by_value P value (Host call) is passed = absurd is

ended : (P : Stop → Type 0) (mid new : View) (result : Result ℕ Halt) (end : CallEnd) → PassedIn P result → Settles result mid new end → PassedAt P end
ended P mid new (Ok value) end passed settles = by_value P value end settles.1 passed
ended P mid new (Err (Refused errno)) end passed settles = by_value P (negative errno) end settles.1 passed
ended P mid new (Err (Need slot)) end passed settles = subst (λ (e : CallEnd). PassedAt P e) (sym settles.1) tt
ended P mid new (Err (Failed call)) end passed settles = subst (λ (e : CallEnd). PassedAt P e) (sym settles.1) passed

pub passed_settled : (old mid new : View) (result : Result ℕ Halt) (end : CallEnd) → PassedIn (Passes old mid) result → Settles result mid new end → PassedAt (Passes old new) end
unfolding Passes
passed_settled old mid new result end passed settles =
    ended (Passes old new) mid new result end
    (passed_as (Passes old mid) (Passes old new) result
    (λ stop is. subst (λ (p : PagesValue). PassesBy old.progress.stage old (table_of p) stop) (sym (settled_pages mid new result end settles)) is) passed)
    settles

-- ---- the bytes of an access
-- each byte of an access that can be made is allowed, and its page in a frame
byte_ready : (table : Table) (kind : Kind) (addr len at : ℕ) → at < len → blocked table kind addr len ≡ None
    → (miss_at (perms_in table) kind (addr + at) ≡ None) × (away_at (table ((addr + at) / page_size)) ≡ None)
byte_ready table kind addr len at inside none = ready_here table kind (addr + at) 1 (omega arith) (blocked_part table kind addr len at 1 (omega arith) none)

-- the first byte of an access that waits for a page is allowed
first_allowed : (table : Table) (kind : Kind) (addr len slot : ℕ) → 0 < len → blocked table kind addr len ≡ Some (Away slot) → miss_at (perms_in table) kind addr ≡ None
first_allowed table kind addr zero slot some e = absurd (omega arith)
first_allowed table kind addr (suc len) slot some e = by_miss (first_miss (perms_in table) kind addr (suc len)) refl e
  where
    by_miss : (miss : Option Miss) → first_miss (perms_in table) kind addr (suc len) ≡ miss → or_else miss (first_away table addr (suc len)) ≡ Some (Away slot)
        → miss_at (perms_in table) kind addr ≡ None
    by_miss None is h = (or_else_none (miss_at (perms_in table) kind addr) (first_miss (perms_in table) kind (addr + 1) len) (sym (first_miss-suc (perms_in table) kind addr len) ∙ is)).0
    by_miss (Some miss) is h = absurd (first_miss_never_away (perms_in table) kind addr (suc len) slot (is ∙ h))

-- of a part that waits, which lies on one page, that is the page of its first byte, which is allowed
part_waits : (table : Table) (kind : Kind) (addr len done slot : ℕ) → done < len → blocked_access table (part_at kind (single addr len) done) ≡ Some (Away slot)
    → (miss_at (perms_in table) kind (addr + done) ≡ None) × (away_at (table ((addr + done) / page_size)) ≡ Some (Away slot))
part_waits table kind addr len done slot more e =
    let size = min (len - done) (page_size - (addr + done) % page_size) in
    let here : blocked table kind (addr + done) size ≡ Some (Away slot) = ap (blocked_access table) (sym (single_part kind addr len done more)) ∙ e in
    let there = blocked_at table kind (addr + done) size slot here in
    let above = there.above in
    let below = there.below in
    let page : there.at / page_size ≡ (addr + done) / page_size = omega arith in
    (first_allowed table kind (addr + done) size slot (omega arith) here, ap (λ (p : ℕ). away_at (table p)) (sym page) ∙ there.away)

never_denied : (miss : Option Miss) → miss ≡ None → IsSome miss → ⊥
never_denied miss none denied = let never : IsSome {T = Miss} None = subst (λ (o : Option Miss). IsSome o) none denied in cc

-- ---- lists
module _ (transfer : Transfer) (v : View) (old : List Piece) where
  abbrev addr : ℕ
  addr = rsi v.gprs

  abbrev count : ℕ
  count = rdx v.gprs

  abbrev table : Table
  table = table_of v.pages

  abbrev from : ℕ
  from = record_place addr (length old)

  -- the byte with which a list goes on
  record Stands (read : List Piece) (slot : ℕ) : Type 0 where
    at : ℕ
    inside : at < record_size * (count - length old)
    before : AreReadable v.pages addr old at
    allowed : miss_at (perms_in table) ReadKind (from + at) ≡ None
    away : away_at (table ((from + at) / page_size)) ≡ Some (Away slot)

  stands : (read : List Piece) (slot : ℕ) → AreRead v.pages addr old read (length read) → ListWaits v.pages addr count old read slot → Stands read slot
  stands read slot is waits =
      let le = longer v.pages addr old read is in
      let within = waits.within in
      let done_is = waits.here in
      let at = waits.done - record_size * length old in
      let there : addr + waits.done ≡ from + at = omega arith in
      let both = part_waits table ReadKind addr (record_size * count) waits.done slot (omega arith) waits.away in
      record {
        at = at;
        inside = omega arith;
        before = waits.before;
        allowed = ap (miss_at (perms_in table) ReadKind) (sym there) ∙ both.0;
        away = ap (λ (n : ℕ). away_at (table (n / page_size))) (sym there) ∙ both.1;
      }

  pub passes_whole : (new : List Piece) (stop : Stop) → Lists v old new ListWhole → (asked new ≤ most_asked → PassesTransfer (Some transfer) v new stop)
      → PassesList (Some transfer) v old stop
  passes_whole new stop came behind read = (
    λ slot waits.
        let at = stands read slot waits.0 waits.1 in
        let ready = byte_ready table ReadKind from (record_size * (count - length old)) at.at at.inside came.1 in
        let never : None ≡ Some (Away slot) = sym ready.1 ∙ at.away in cc,
    λ whole. subst (λ (ps : List Piece). asked ps ≤ most_asked → PassesTransfer (Some transfer) v ps stop) (came.0 no_swap ∙ sym (whole.0 no_swap)) behind,
  )

  never_waits : ListFaults v.pages addr count old → (read : List Piece) (slot : ℕ) → Stands read slot → ⊥
  never_waits faults read slot at = ⊎_elim
      (λ (less : at.at < faults.done).
      let ready = byte_ready table ReadKind from faults.done at.at less faults.before in
      let never : None ≡ Some (Away slot) = sym ready.1 ∙ at.away in cc)
      (λ (le : faults.done ≤ at.at). ⊎_elim
      (λ (less : faults.done < at.at).
      never_denied (miss_at (perms_in table) ReadKind (from + faults.done)) (byte_ready table ReadKind from at.at faults.done less at.before).0 faults.denied)
      (λ (ge : at.at ≤ faults.done).
      let same : from + at.at ≡ from + faults.done = omega arith in
      never_denied (miss_at (perms_in table) ReadKind (from + faults.done)) (ap (miss_at (perms_in table) ReadKind) (sym same) ∙ at.allowed) faults.denied)
      (cases_lt faults.done at.at))
      (cases_lt at.at faults.done)

  pub passes_fault : (stop : Stop) → ListFaults v.pages addr count old → PassesList (Some transfer) v old stop
  passes_fault stop faults read = (
    λ slot waits. never_waits faults read slot (stands read slot waits.0 waits.1),
    λ whole fit. absurd (
        never_denied (miss_at (perms_in table) ReadKind (from + faults.done))
        (byte_ready table ReadKind from (record_size * (count - length old)) faults.done faults.within whole.1).0 faults.denied),
  )

-- ---- paths
abbrev text_size : Path → ℕ
text_size (Text text) = length text
text_size TooLong = 0
text_size Fault = 0

no_text : (b : Bool) (text : List ℕ) → cond b TooLong Fault ≡ Text text → ⊥
no_text true text e = cc
no_text false text e = cc

-- where some bytes have no 0, the path that they begin isn't shorter
not_shorter : (bytes rest text : List ℕ) → end_of bytes ≡ None → path_in (bytes ++ rest) ≡ Text text → length bytes ≤ length text
not_shorter bytes rest text none is = by_end (end_of rest) refl
  where
    by_end : (end : Option ℕ) → end_of rest ≡ end → length bytes ≤ length text
    by_end None nowhere = absurd (no_text (length (bytes ++ rest) == path_max) text (rw (end-none bytes rest none nowhere) at is))
    by_end (Some end) at_end =
        let is_text : Text (take (length bytes + end) (bytes ++ rest)) ≡ Text text = rw (end-append bytes rest end none at_end) at is in
        let len : length (take (length bytes + end) (bytes ++ rest)) ≡ length text = ap text_size is_text in
        let size = length-take (length bytes + end) (bytes ++ rest) in
        let all = length-append bytes rest in
        let inside = (end-within rest rest end at_end).0 in
        omega (arith, len, size, all, inside)

module _ (pages : PagesValue) (addr : ℕ) where
  pub text_passes : (text : List ℕ) → path_at (memory_of pages no_swap) addr ≡ Text text → IsPathReady pages addr (length text + 1) → NeverWaits (PathWaits pages addr)
  unfolding memory_of
  text_passes text is ready slot waits =
      let within = waits.within in
      ⊎_elim
      (λ (inside : waits.done < length text + 1).
      let none = ready waits.done (omega arith) inside (omega (arith, within, asked-single addr path_max)) in
      let never : None ≡ Some (Away slot) = sym none ∙ waits.away in cc)
      (λ (past : length text + 1 ≤ waits.done).
      let bytes = bytes_at (byte_of pages no_swap) addr waits.done in
      let run = run_on (memory_of pages no_swap) addr waits.done path_max waits.readable (omega arith) in
      let le = not_shorter bytes (allowed_run (memory_of pages no_swap) ReadKind (addr + waits.done) (path_max - waits.done)) text (waits.more no_swap) (ap path_in (sym run) ∙ is) in
      let size = length-bytes_at (byte_of pages no_swap) addr waits.done in
      absurd (omega (arith, le, size, past)))
      (cases_lt waits.done (length text + 1))

  pub fault_passes : PathFaults pages addr → NeverWaits (PathWaits pages addr)
  fault_passes faults slot waits =
      let within = waits.within in
      let perms = perms_in (table_of pages) in
      let allowed = part_waits (table_of pages) ReadKind addr path_max waits.done slot within waits.away in
      ⊎_elim
      (λ (less : waits.done < faults.done).
      let none = faults.ready waits.done (omega arith) less (omega (arith, within, asked-single addr path_max)) in
      let never : None ≡ Some (Away slot) = sym none ∙ waits.away in cc)
      (λ (le : faults.done ≤ waits.done). ⊎_elim
      (λ (less : faults.done < waits.done).
      let one = first_miss_part perms ReadKind addr waits.done faults.done 1 (omega arith) waits.readable in
      let here = or_else_none (miss_at perms ReadKind (addr + faults.done)) (first_miss perms ReadKind (addr + faults.done + 1) 0) (sym (first_miss-suc perms ReadKind (addr + faults.done) 0) ∙ one) in
      never_denied (miss_at perms ReadKind (addr + faults.done)) here.0 faults.denied)
      (λ (ge : waits.done ≤ faults.done).
      let same : addr + waits.done ≡ addr + faults.done = omega arith in
      never_denied (miss_at perms ReadKind (addr + faults.done)) (ap (miss_at perms ReadKind) (sym same) ∙ allowed.0) faults.denied)
      (cases_lt faults.done waits.done))
      (cases_lt waits.done faults.done)
