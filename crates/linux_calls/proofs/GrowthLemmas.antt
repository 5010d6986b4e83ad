-- That what is left of a call only adds to what stands on the streams.
use Rattle.std.proofs.Common.{◌≡◌, ℕ, ◌/◌, ◌-◌, ◌*◌, ◌+◌, ◌==◌, Bool, true, false, cond, not, ◌&&◌, is_none, nat_lt, length, List, ◌∷◌, [], ◌++◌, take, drop, Option, Some, None, refl, sym, subst, take-append-drop}
use Rattle.machine_state.specs.Memory.{number_bytes, page_size}
use Rattle.machine_state.specs.World.{World, place_at}
use Rattle.machine_state.specs.declared.kinds.Kind.TheVariants.{Write as WriteKind}
use Rattle.guest_files.specs.Checks.{first_failing}
use Rattle.guest_files.specs.Errnos.{ebadf, einval}
use Rattle.guest_files.specs.Moves.{moved_to, offset_after, seek_refusal}
use Rattle.guest_files.specs.Open.{close_refusal, closed, open_refusal, opened, opened_number}
use Rattle.region_map.specs.declared.kinds.Change.TheVariants.{Protect, Unmap}
use Rattle.region_map.specs.Ranges.{changed_regions}
use Rattle.machine_state.specs.declared.permissions.Perms.{Perms}
use Rattle.std.specs.Int.{w64, cast_signed}
use Rattle.linux_calls.specs.Errnos.{efault, enomem, enotdir, enotty}
use Rattle.guest_files.specs.declared.errno.Errno.{Errno}
use Rattle.guest_transfers.specs.Paths.{Path, Text, TooLong, Fault, path_at}
use Rattle.guest_transfers.specs.Pieces.{asked, bytes_between}
use Rattle.guest_transfers.specs.declared.kinds.Piece.{Piece}
use Rattle.region_map.specs.Calls.{pages_up}
use Rattle.linux_calls.specs.declared.kinds.Call.{Call}
use Rattle.linux_calls.specs.declared.kinds.Call.TheVariants.{Read, Write, Open, Close, Fstat, Lseek, Mmap, Mprotect, Munmap, Brk, Ioctl}
use Rattle.linux_calls.specs.declared.kinds.Call.TheVariants.{Pread64, Pwrite64, Readv, Writev, Madvise, Getpid, Exit, Uname, ArchPrctl}
use Rattle.linux_calls.specs.declared.kinds.Call.TheVariants.{SetTidAddress, ClockGettime, ExitGroup, Openat, Getrandom}
use Rattle.linux_calls.specs.declared.kinds.Stage.{Stage}
use Rattle.linux_calls.specs.declared.kinds.Stage.TheVariants.{Start, Listing, Moving, Copying}
use Rattle.linux_calls.specs.declared.kinds.Transfer.{Transfer}
use Rattle.linux_calls.specs.declared.kinds.Transfer.TheVariants.{Takes, PutsOut, PutsErr, Reads, Writes, Draws}
use Rattle.linux_calls.specs.Call.{Called, allows, gives, is_page, low, r10, rax, rdi, rdx, refuses, rsi, unless, with_bytes}
use Rattle.linux_calls.specs.FileCalls.{close_call, ioctl_call, lseek_call, open_call, open_path, open_path_at, openat_call, opened_call}
use Rattle.linux_calls.specs.FileCalls.{is_absolute, opened_from, working_directory}
use Rattle.linux_calls.specs.Mapping.{asked_perms, brk_call, copy_rest, discarded, filled_from, madvise_call, mapped_at, mmap_at, mmap_call}
use Rattle.linux_calls.specs.Mapping.{break_stays, dont_need, is_anonymous, is_file_page, is_hole, is_idle_advice, some_in, with_zeros, mmap_bytes, mmap_change, mmap_page, mprotect_call, munmap_call, protected, unmapped, resized}
use Rattle.linux_calls.specs.Outside.{Grown, Standing, standing_in}
use Rattle.linux_calls.specs.Parts.{files_of, passes_limits, with_change, with_files}
use Rattle.linux_calls.specs.Records.{arch_prctl_call, base_refusal, get_fs, get_gs, set_fs, set_gs, clock_gettime_call, fstat_call, put_record, stat_bytes, time_bytes, uname_bytes}
use Rattle.linux_calls.specs.Records.{uname_call}
use Rattle.linux_calls.specs.Rest.{ProgressValue, listing_rest, moving_rest, rest_of, stage_rest, transfer_of}
use Rattle.linux_calls.specs.Table.{act, acted, call_numbered, called}
use Rattle.linux_calls.specs.Transfers.{begun, draws_rest, err_rest, getrandom_call, joined_transfer, list_rest, listed, named_piece, out_rest}
use Rattle.linux_calls.specs.Transfers.{pread64_call, pwrite64_call, read_call, read_through, readv_call, reads_rest, takes_rest}
use Rattle.linux_calls.specs.Transfers.{transfer_rest, transferred, write_call, write_through, writes_rest, writev_call}
use Rattle.linux_calls.proofs.MoveLemmas.{ends_none, extends_none}

grown_none : (on : Standing) → Grown on on
grown_none on = record { out = extends_none on.out; err = extends_none on.err; left = ends_none on.left }

record Grows (w : World) (c : Called) : Type 0 where
  grown : Grown (standing_in w) (standing_in c.world)

-- where a call leaves the streams as they are
quiet : (w : World) (c : Called) → standing_in c.world ≡ standing_in w → Grows w c
quiet w c same = record { grown = subst (λ (on : Standing). Grown (standing_in w) on) (sym same) (grown_none (standing_in w)) }

grows_unless : (o : Option Errno) (w : World) (c : Called) → Grows w c → Grows w (unless o w c)
grows_unless None w c grows = grows
grows_unless (Some errno) w c grows = record { grown = grown_none (standing_in w) }

grows_if : (b : Bool) (w : World) (c d : Called) → Grows w c → Grows w d → Grows w (cond b c d)
grows_if true w c d one two = one
grows_if false w c d one two = two

refuses_grows : (errno : Errno) (w : World) → Grows w (refuses errno w)
refuses_grows errno w = quiet w (refuses errno w) refl

-- ---- transfers
takes_grow : (pieces : List Piece) (done : ℕ) (w : World) → Grows w (takes_rest pieces done w)
unfolding takes_rest
takes_grow pieces done w = record {
  grown = record {
    out = extends_none w.out;
    err = extends_none w.err;
    left = (take (asked pieces - done) w.left, sym (take-append-drop (asked pieces - done) w.left));
  };
}

out_grows : (pieces : List Piece) (done : ℕ) (w : World) → Grows w (out_rest pieces done w)
unfolding out_rest
out_grows pieces done w = record {
  grown = record { out = (bytes_between w.state.memory.byte pieces done (asked pieces), refl); err = extends_none w.err; left = ends_none w.left };
}

err_grows : (pieces : List Piece) (done : ℕ) (w : World) → Grows w (err_rest pieces done w)
unfolding err_rest
err_grows pieces done w = record {
  grown = record { out = extends_none w.out; err = (bytes_between w.state.memory.byte pieces done (asked pieces), refl); left = ends_none w.left };
}

transfer_grows : (transfer : Transfer) (pieces : List Piece) (done : ℕ) (w : World) → Grows w (transfer_rest transfer pieces done w)
unfolding reads_rest writes_rest draws_rest
transfer_grows Takes pieces done w = takes_grow pieces done w
transfer_grows PutsOut pieces done w = out_grows pieces done w
transfer_grows PutsErr pieces done w = err_grows pieces done w
transfer_grows (Reads fd at moves) pieces done w = quiet w _ refl
transfer_grows (Writes fd at moves) pieces done w = quiet w _ refl
transfer_grows Draws pieces done w = quiet w _ refl

transferred_grows : (transfer : Transfer) (pieces : List Piece) (w : World) → Grows w (transferred transfer pieces w)
unfolding transferred
transferred_grows transfer pieces w = grows_unless _ w _ (grows_unless _ w _ (transfer_grows transfer pieces 0 w))

begun_grows : (o : Option Transfer) (pieces : List Piece) (w : World) → Grows w (begun o pieces w)
begun_grows None pieces w = quiet w _ refl
begun_grows (Some transfer) pieces w = transferred_grows transfer pieces w

list_grows : (transfer : Transfer) (pieces : List Piece) (w : World) → Grows w (list_rest transfer pieces w)
unfolding list_rest joined_transfer
list_grows transfer pieces w = grows_unless _ w _ (grows_unless _ w _ (transferred_grows transfer _ w))

listed_grows : (o : Option Transfer) (w : World) → Grows w (listed o w)
listed_grows None w = quiet w _ refl
listed_grows (Some transfer) w = grows_unless _ w _ (list_grows transfer [] w)

-- ---- pages
resized_grows : (up down : Bool) (w : World) (to : ℕ) (one two : World) → standing_in one ≡ standing_in w → standing_in two ≡ standing_in w
    → Grows w (gives to (record (cond up one (cond down two w)) { break_at = to }))
resized_grows true down w to one two e f = quiet w _ e
resized_grows false true w to one two e f = quiet w _ f
resized_grows false false w to one two e f = quiet w _ refl

filled_grows : (at : ℕ) (w : World) → Grows w (filled_from at w)
unfolding filled_from copy_rest
filled_grows at w =
    grows_if (is_anonymous (r10 w.state.gprs)) w (gives at w) (gives at (with_bytes w (at + 0) (mmap_bytes w 0))) (quiet w _ refl) (quiet w _ refl)

mapped_grows : (o : Option ℕ) (w : World) → Grows w (mmap_at o w)
unfolding mapped_at
mapped_grows None w = quiet w _ refl
mapped_grows (Some from) w =
    let change = mmap_change w.state.gprs in
    let to = from + pages_up (rsi w.state.gprs) in
    grows_unless (first_failing ((passes_limits w.pages (changed_regions change from to w.regions), enomem) ∷ [])) w
    (filled_from (from * page_size) (with_change change from to w))
    (record { grown = (filled_grows (from * page_size) (with_change change from to w)).grown })

protected_grows : (perms : Perms) (from count : ℕ) (w : World) → Grows w (protected perms from count w)
unfolding protected
protected_grows perms from count w =
    grows_unless (first_failing (
    (some_in (is_hole w.regions) from count, enomem)
    ∷ (passes_limits w.pages (changed_regions (Protect perms) from (from + count) w.regions), enomem)
    ∷ []
    )) w (gives 0 (with_change (Protect perms) from (from + count) w)) (quiet w _ refl)

unmapped_grows : (from to : ℕ) (w : World) → Grows w (unmapped from to w)
unfolding unmapped
unmapped_grows from to w =
    grows_unless (first_failing ((passes_limits w.pages (changed_regions Unmap from to w.regions), enomem) ∷ [])) w
    (gives 0 (with_change Unmap from to w)) (quiet w _ refl)

discarded_grows : (from count : ℕ) (w : World) → Grows w (discarded from count w)
unfolding discarded
discarded_grows from count w =
    grows_unless (first_failing ((some_in (is_file_page w.regions) from count, einval) ∷ [])) w (gives 0 (with_zeros from (from + count) w))
    (quiet w _ refl)

-- ---- paths
path_grows : (fd : ℕ) (path : Path) (flags : ℕ) (w : World) → Grows w (open_path fd path flags w)
unfolding opened_from opened_call
path_grows fd (Text path) flags w =
    let elsewhere = not (is_absolute path) && not (fd == working_directory) in
    grows_unless (first_failing ((elsewhere && is_none (place_at w.descriptors fd), ebadf) ∷ (elsewhere, enotdir) ∷ [])) w
    (opened_call path flags w)
    (grows_unless (open_refusal (files_of w) path flags) w
    (gives (opened_number (files_of w)) (with_files w (opened (files_of w) path flags))) (quiet w _ refl))
path_grows fd TooLong flags w = quiet w _ refl
path_grows fd Fault flags w = quiet w _ refl

-- ---- records
record_grows : (addr : ℕ) (bytes : List ℕ) (w : World) → Grows w (put_record addr bytes w)
record_grows addr bytes w =
    grows_unless (first_failing ((not (allows w.state.memory WriteKind addr (length bytes)), efault) ∷ [])) w (gives 0 (with_bytes w addr bytes))
    (quiet w _ refl)

prctl_grows : (fs gs fs_of gs_of : Bool) (w : World) → Grows w (
    let base = rsi w.state.gprs in
    cond fs (unless (base_refusal base) w (gives 0 (record w { state = record w.state { fs = base } })))
    (cond gs (unless (base_refusal base) w (gives 0 (record w { state = record w.state { gs = base } })))
    (cond fs_of (put_record base (number_bytes 8 w.state.fs) w)
    (cond gs_of (put_record base (number_bytes 8 w.state.gs) w) (refuses einval w)))))
prctl_grows true gs fs_of gs_of w = grows_unless (base_refusal (rsi w.state.gprs)) w (gives 0 (record w { state = record w.state { fs = rsi w.state.gprs } })) (quiet w _ refl)
prctl_grows false true fs_of gs_of w = grows_unless (base_refusal (rsi w.state.gprs)) w (gives 0 (record w { state = record w.state { gs = rsi w.state.gprs } })) (quiet w _ refl)
prctl_grows false false true gs_of w = record_grows (rsi w.state.gprs) (number_bytes 8 w.state.fs) w
prctl_grows false false false true w = record_grows (rsi w.state.gprs) (number_bytes 8 w.state.gs) w
prctl_grows false false false false w = quiet w _ refl

read_grows : (w : World) → Grows w (read_call w)
unfolding read_call
read_grows w = begun_grows _ _ w

write_grows : (w : World) → Grows w (write_call w)
unfolding write_call
write_grows w = begun_grows _ _ w

open_grows : (w : World) → Grows w (open_call w)
unfolding open_call open_path_at
open_grows w = path_grows _ _ _ w

close_grows : (w : World) → Grows w (close_call w)
unfolding close_call
close_grows w =
    let fd = low (rdi w.state.gprs) in
    grows_unless (close_refusal (files_of w) fd) w (gives 0 (with_files w (closed (files_of w) fd))) (quiet w _ refl)

fstat_grows : (w : World) → Grows w (fstat_call w)
unfolding fstat_call
fstat_grows w = grows_unless _ w _ (record_grows _ _ w)

lseek_grows : (w : World) → Grows w (lseek_call w)
unfolding lseek_call
lseek_grows w =
    let fd = low (rdi w.state.gprs) in
    let to = cast_signed w64 (rsi w.state.gprs) in
    let whence = low (rdx w.state.gprs) in
    let at = offset_after (files_of w) fd to whence in
    grows_unless (seek_refusal (files_of w) fd to whence) w (gives at (with_files w (moved_to (files_of w) fd at))) (quiet w _ refl)

mmap_grows : (w : World) → Grows w (mmap_call w)
unfolding mmap_call
mmap_grows w = grows_unless _ w _ (mapped_grows _ w)

mprotect_grows : (w : World) → Grows w (mprotect_call w)
unfolding mprotect_call
mprotect_grows w =
    let gprs = w.state.gprs in
    let change = protected (asked_perms (rdx gprs)) (rdi gprs / page_size) (pages_up (rsi gprs)) w in
    grows_unless (first_failing ((not (is_page (rdi gprs)), einval) ∷ [])) w (cond (rsi gprs == 0) (gives 0 w) change)
    (grows_if (rsi gprs == 0) w (gives 0 w) change (quiet w _ refl) (protected_grows (asked_perms (rdx gprs)) (rdi gprs / page_size) (pages_up (rsi gprs)) w))

munmap_grows : (w : World) → Grows w (munmap_call w)
unfolding munmap_call
munmap_grows w = grows_unless _ w _ (unmapped_grows _ _ w)

brk_grows : (w : World) → Grows w (brk_call w)
unfolding brk_call
brk_grows w =
    let to = rdi w.state.gprs in
    grows_if (break_stays w to) w (gives w.break_at w) (gives to (record (resized w (pages_up w.break_at) (pages_up to)) { break_at = to }))
    (quiet w _ refl) (resized_grows (nat_lt (pages_up w.break_at) (pages_up to)) (nat_lt (pages_up to) (pages_up w.break_at)) w to _ _ refl refl)

ioctl_grows : (w : World) → Grows w (ioctl_call w)
unfolding ioctl_call
ioctl_grows w = grows_unless _ w _ (refuses_grows enotty w)

pread64_grows : (w : World) → Grows w (pread64_call w)
unfolding pread64_call
pread64_grows w = begun_grows (Some (Reads (low (rdi w.state.gprs)) (r10 w.state.gprs) false)) (named_piece (rsi w.state.gprs) (rdx w.state.gprs)) w

pwrite64_grows : (w : World) → Grows w (pwrite64_call w)
unfolding pwrite64_call
pwrite64_grows w = begun_grows (Some (Writes (low (rdi w.state.gprs)) (r10 w.state.gprs) false)) (named_piece (rsi w.state.gprs) (rdx w.state.gprs)) w

readv_grows : (w : World) → Grows w (readv_call w)
unfolding readv_call
readv_grows w = listed_grows _ w

writev_grows : (w : World) → Grows w (writev_call w)
unfolding writev_call
writev_grows w = listed_grows _ w

madvise_grows : (w : World) → Grows w (madvise_call w)
unfolding madvise_call
madvise_grows w =
    let gprs = w.state.gprs in
    let from = rdi gprs / page_size in
    let count = pages_up (rsi gprs) in
    let advice = low (rdx gprs) in
    let other = cond (is_idle_advice advice) (gives 0 w) (refuses einval w) in
    grows_unless (first_failing ((not (is_page (rdi gprs)), einval) ∷ (some_in (is_hole w.regions) from count, enomem) ∷ [])) w
    (cond (advice == dont_need) (discarded from count w) other)
    (grows_if (advice == dont_need) w (discarded from count w) other (discarded_grows from count w)
    (grows_if (is_idle_advice advice) w (gives 0 w) (refuses einval w) (quiet w _ refl) (quiet w _ refl)))

uname_grows : (w : World) → Grows w (uname_call w)
unfolding uname_call
uname_grows w = record_grows _ _ w

arch_prctl_grows : (w : World) → Grows w (arch_prctl_call w)
unfolding arch_prctl_call
arch_prctl_grows w = prctl_grows (low (rdi w.state.gprs) == set_fs) (low (rdi w.state.gprs) == set_gs) (low (rdi w.state.gprs) == get_fs) (low (rdi w.state.gprs) == get_gs) w

clock_gettime_grows : (w : World) → Grows w (clock_gettime_call w)
unfolding clock_gettime_call
clock_gettime_grows w = grows_unless _ w _ (record_grows _ _ w)

openat_grows : (w : World) → Grows w (openat_call w)
unfolding openat_call open_path_at
openat_grows w = path_grows _ _ _ w

getrandom_grows : (w : World) → Grows w (getrandom_call w)
unfolding getrandom_call
getrandom_grows w = grows_unless _ w _ (begun_grows (Some Draws) (named_piece (rdi w.state.gprs) (rsi w.state.gprs)) w)

act_grows : (call : Call) (w : World) → Grows w (act call w)
act_grows Read w = read_grows w
act_grows Write w = write_grows w
act_grows Open w = open_grows w
act_grows Close w = close_grows w
act_grows Fstat w = fstat_grows w
act_grows Lseek w = lseek_grows w
act_grows Mmap w = mmap_grows w
act_grows Mprotect w = mprotect_grows w
act_grows Munmap w = munmap_grows w
act_grows Brk w = brk_grows w
act_grows Ioctl w = ioctl_grows w
act_grows Pread64 w = pread64_grows w
act_grows Pwrite64 w = pwrite64_grows w
act_grows Readv w = readv_grows w
act_grows Writev w = writev_grows w
act_grows Madvise w = madvise_grows w
act_grows Getpid w = quiet w _ refl
act_grows Exit w = quiet w _ refl
act_grows Uname w = uname_grows w
act_grows ArchPrctl w = arch_prctl_grows w
act_grows SetTidAddress w = quiet w _ refl
act_grows ClockGettime w = clock_gettime_grows w
act_grows ExitGroup w = quiet w _ refl
act_grows Openat w = openat_grows w
act_grows Getrandom w = getrandom_grows w

called_grows : (w : World) → Grows w (called w)
unfolding called
called_grows w = by_call (call_numbered (rax w.state.gprs))
  where
    by_call : (o : Option Call) → Grows w (acted o w)
    by_call None = quiet w _ refl
    by_call (Some call) = act_grows call w

moving_grows : (o : Option Transfer) (pieces : List Piece) (done : ℕ) (w : World) → Grows w (moving_rest o pieces done w)
moving_grows None pieces done w = called_grows w
moving_grows (Some transfer) pieces done w = transfer_grows transfer pieces done w

listing_grows : (o : Option Transfer) (pieces : List Piece) (w : World) → Grows w (listing_rest o pieces w)
listing_grows None pieces w = called_grows w
listing_grows (Some transfer) pieces w = list_grows transfer pieces w

stage_grows : (stage : Stage) (pieces : List Piece) (w : World) → Grows w (stage_rest stage pieces w)
unfolding copy_rest
stage_grows Start pieces w = called_grows w
stage_grows Listing pieces w = listing_grows _ pieces w
stage_grows (Moving done) pieces w = moving_grows _ pieces done w
stage_grows (Copying at done) pieces w = quiet w _ refl

pub rest_grows : (progress : ProgressValue) (w : World) → Grown (standing_in w) (standing_in (rest_of progress w).world)
unfolding rest_of
rest_grows progress w = (stage_grows progress.stage progress.pieces w).grown
