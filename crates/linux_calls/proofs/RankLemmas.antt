-- A call that waits for a page has a unit left.
use Rattle.std.proofs.Common.{◌≡◌, ℕ, zero, suc, ◌+◌, ◌-◌, ◌≤◌, ◌<◌, List, [], ◌∷◌, Option, Some, None, arith}
use Rattle.std.specs.Prelude.{sum_by}
use Rattle.std.proofs.lemmas.Bool.{lt-ltb, ne_eqb}
use Rattle.std.proofs.lemmas.List.Sums.{sum_by-cons}
use Rattle.machine_state.specs.Memory.{first_miss}
use Rattle.machine_state.specs.declared.kinds.Kind.{Kind}
use Rattle.machine_state.specs.declared.kinds.Miss.{Miss}
use Rattle.machine_state.specs.declared.kinds.Miss.TheVariants.{Away}
use Rattle.guest_pages.specs.Table.{Table, blocked, first_away}
use Rattle.guest_pages.specs.Pages.{table_of}
use Rattle.guest_transfers.specs.Pieces.{first_part, part_at, pieces_from, single}
use Rattle.guest_transfers.specs.declared.kinds.Piece.{Piece}
use Rattle.linux_calls.specs.declared.kinds.Call.{Call}
use Rattle.linux_calls.specs.declared.kinds.Call.TheVariants.{Read, Write as WriteCall, Open, Close, Fstat, Lseek, Mmap, Mprotect, Munmap}
use Rattle.linux_calls.specs.declared.kinds.Call.TheVariants.{Brk, Ioctl, Pread64, Pwrite64, Readv, Writev, Madvise, Getpid, Exit, Uname}
use Rattle.linux_calls.specs.declared.kinds.Call.TheVariants.{ArchPrctl, SetTidAddress, ClockGettime, ExitGroup, Openat, Getrandom}
use Rattle.linux_calls.specs.declared.kinds.Stage.{Stage}
use Rattle.linux_calls.specs.declared.kinds.Stage.TheVariants.{Start, Listing, Moving, Copying}
use Rattle.linux_calls.specs.declared.kinds.Transfer.{Transfer}
use Rattle.linux_calls.specs.Call.{rax}
use Rattle.linux_calls.specs.Rest.{transfer_of}
use Rattle.linux_calls.specs.Table.{call_numbered}
use Rattle.linux_calls.specs.Transfers.{kind_of}
use Rattle.linux_calls.specs.Units.{pages_over, parts_left, stage_rank, start_rank, unit_rank}
use Rattle.linux_calls.specs.View.{View}
use Rattle.linux_calls.specs.Waiting.{IsNeeded, NeedsAtStart, NeedsBy, NeedsPart, mapped_bytes}

none-blocked : (table : Table) (kind : Kind) (addr len : ℕ) (miss : Miss) → blocked table kind addr len ≡ Some miss → 1 ≤ len
unfolding first_miss first_away
none-blocked table kind addr zero miss h = cc
none-blocked table kind addr (suc len) miss h = omega arith

some-over : (addr len : ℕ) → 1 ≤ len → 1 ≤ pages_over addr len
unfolding pages_over
some-over addr len some = rw (ne_eqb len 0 (λ none. omega (arith, none, some))) (omega arith)

some-parts : (pieces : List Piece) (done : ℕ) (kind : Kind) → 1 ≤ (part_at kind pieces done).len → 1 ≤ parts_left pieces done
unfolding parts_left
some-parts pieces done kind some = by_pieces (pieces_from pieces done) some
  where
    by_pieces : (left : List Piece) → 1 ≤ (first_part kind left).len → 1 ≤ sum_by (λ piece. pages_over piece.addr piece.len) left
    by_pieces [] some = omega (arith, some)
    by_pieces (piece ∷ rest) some = let over = some-over piece.addr piece.len (grind (arith, some)) in
        let sum = sum_by-cons (λ (p : Piece). pages_over p.addr p.len) piece rest in
        omega (arith, over, sum)

part-left : (transfer : Option Transfer) (v : View) (done slot : ℕ) → NeedsPart transfer v done slot → 1 ≤ parts_left v.progress.pieces done
part-left None v done slot needs = absurd needs
part-left (Some transfer) v done slot needs =
    let part = part_at (kind_of transfer) v.progress.pieces done in
    some-parts v.progress.pieces done (kind_of transfer) (none-blocked (table_of v.pages) part.kind part.addr part.len (Away slot) needs)

copy-left : (at bytes done : ℕ) → done < bytes → 1 ≤ parts_left (single at bytes) done
unfolding parts_left pieces_from
copy-left at bytes done below =
    let over = some-over (at + done) (bytes - done) (omega (arith, below)) in
    let left : Piece = record { addr = at + done; len = bytes - done } in
    let sum = sum_by-cons (λ (p : Piece). pages_over p.addr p.len) left [] in
    rw (lt-ltb done bytes below) (omega (arith, over, sum))

start-left : (call : Option Call) (v : View) (slot : ℕ) → NeedsAtStart call v slot → 1 ≤ start_rank call v.gprs
start-left None v slot needs = absurd needs
start-left (Some Read) v slot needs = absurd needs
start-left (Some WriteCall) v slot needs = absurd needs
start-left (Some Open) v slot needs = omega arith
start-left (Some Close) v slot needs = absurd needs
start-left (Some Fstat) v slot needs = omega arith
start-left (Some Lseek) v slot needs = absurd needs
start-left (Some Mmap) v slot needs = absurd needs
start-left (Some Mprotect) v slot needs = absurd needs
start-left (Some Munmap) v slot needs = absurd needs
start-left (Some Brk) v slot needs = absurd needs
start-left (Some Ioctl) v slot needs = absurd needs
start-left (Some Pread64) v slot needs = absurd needs
start-left (Some Pwrite64) v slot needs = absurd needs
start-left (Some Readv) v slot needs = absurd needs
start-left (Some Writev) v slot needs = absurd needs
start-left (Some Madvise) v slot needs = absurd needs
start-left (Some Getpid) v slot needs = absurd needs
start-left (Some Exit) v slot needs = absurd needs
start-left (Some Uname) v slot needs = omega arith
start-left (Some ArchPrctl) v slot needs = omega arith
start-left (Some SetTidAddress) v slot needs = absurd needs
start-left (Some ClockGettime) v slot needs = omega arith
start-left (Some ExitGroup) v slot needs = absurd needs
start-left (Some Openat) v slot needs = omega arith
start-left (Some Getrandom) v slot needs = absurd needs

unit-left : (stage : Stage) (v : View) (slot : ℕ) → NeedsBy stage v slot → 1 ≤ stage_rank stage v.progress.pieces v.gprs
unit-left Start v slot needs = start-left (call_numbered (rax v.gprs)) v slot needs
unit-left Listing v slot needs = omega arith
unit-left (Moving done) v slot needs = part-left (transfer_of v.gprs v.files done) v done slot needs
unit-left (Copying at done) v slot needs = copy-left at (mapped_bytes v.gprs) done needs.0

pub needs-unit : (v : View) (slot : ℕ) → IsNeeded v slot → 1 ≤ unit_rank v
unfolding unit_rank
needs-unit v slot needs = unit-left v.progress.stage v slot needs.needs
