use Rattle.std.proofs.Common.{◌≡◌, List, [], sym, subst, Option, IsSome, false}
use Rattle.machine_state.specs.Memory.{Swap}
use Rattle.machine_state.specs.World.{place_at}
use Rattle.machine_state.specs.declared.kinds.Place.{Place}
use Rattle.guest_files.specs.Checks.{is_stream}
use Rattle.guest_pages.specs.Pages.{byte_of, table_of}
use Rattle.linux_calls.specs.View.{view_of}
use Rattle.linux_calls.proofs.FileMoves.{writes_do, writes_low, writes_places, writes_need}
use Rattle.linux_calls.proofs.AppendLemmas.{same_writes, opened_some}
use Rattle.machine_state.specs.declared.kinds.Kind.TheVariants.{Read}
use Rattle.guest_pages.proofs.Carries.{keeps_same}
use Rattle.linux_calls.proofs.AppendLemmas.{outside_writes}
use Rattle.linux_calls.proofs.WaitLemmas.{moving_waits_at}
use Rattle.linux_calls.proofs.transfers.write_on.Goals as goal

no_swap : Swap
no_swap page = []

pub finish_at-requires-clause-open : goal.finish_at-requires-clause-open
finish_at-requires-clause-open c =
    subst (λ (places : List (Option Place)). IsSome (place_at places c.args.fd)) (sym (writes_places (byte_of c.args.w.now.pages.now no_swap) c.pieces.result.now c.args.from c.args.w.now.files.now c.write_file-stop.new.files c.args.fd c.args.at c.write_file-stop.result (c.write_file-stop.ensures.writes no_swap)))
    (opened_some (place_at c.args.w.now.files.now.places c.args.fd) c.requires.can.other.0.writes)

pub finish_at-requires-clause-file : goal.finish_at-requires-clause-file
finish_at-requires-clause-file c =
    subst (λ (places : List (Option Place)). is_stream (place_at places c.args.fd) ≡ false) (sym (writes_places (byte_of c.args.w.now.pages.now no_swap) c.pieces.result.now c.args.from c.args.w.now.files.now c.write_file-stop.new.files c.args.fd c.args.at c.write_file-stop.result (c.write_file-stop.ensures.writes no_swap)))
    c.requires.can.other.0.file

pub finish_at-requires-clause-low : goal.finish_at-requires-clause-low
finish_at-requires-clause-low c =
    writes_low (byte_of c.args.w.now.pages.now no_swap) c.args.w.now.progress.now.pieces c.args.from c.args.w.now.files.now c.write_file-stop.new.files c.args.fd c.args.at c.write_file-stop.result
    c.known.ensures.cap c.requires.can.other.1 (rw c.pieces.ensures at (c.write_file-stop.ensures.writes no_swap))

pub returns-clause-does : goal.returns-clause-does
returns-clause-does c =
    writes_do (view_of c.args.w.now) c.args.fd c.args.at c.args.moves c.args.from c.write_file-stop.new.files c.write_file-stop.result (view_of c.finish_at.new.w) c.finish_at.result
    (same_writes c.args.w.now.gprs.now c.args.w.now.files.now c.write_file-stop.new.files (byte_of c.args.w.now.pages.now no_swap) c.args.w.now.progress.now.pieces c.args.from c.args.fd c.args.at c.args.moves
    c.write_file-stop.result (table_of c.args.w.now.pages.now) c.known.ensures.kept c.requires.is (rw c.pieces.ensures at c.write_file-stop.ensures.stops) (rw c.pieces.ensures at (c.write_file-stop.ensures.writes no_swap)))
    (λ swap. rw c.pieces.ensures at (c.write_file-stop.ensures.writes swap)) (rw c.pieces.ensures at c.write_file-stop.ensures.stops) c.finish_at.ensures.ends

pub returns-clause-needs : goal.returns-clause-needs
returns-clause-needs c =
    writes_need (view_of c.args.w.now) c.args.fd c.args.at c.args.moves c.args.from c.write_file-stop.new.files c.write_file-stop.result (view_of c.finish_at.new.w) c.finish_at.result
    c.requires.can
    (same_writes c.args.w.now.gprs.now c.args.w.now.files.now c.write_file-stop.new.files (byte_of c.args.w.now.pages.now no_swap) c.args.w.now.progress.now.pieces c.args.from c.args.fd c.args.at c.args.moves
    c.write_file-stop.result (table_of c.args.w.now.pages.now) c.known.ensures.kept c.requires.is (rw c.pieces.ensures at c.write_file-stop.ensures.stops) (rw c.pieces.ensures at (c.write_file-stop.ensures.writes no_swap)))
    (writes_places (byte_of c.args.w.now.pages.now no_swap) c.pieces.result.now c.args.from c.args.w.now.files.now c.write_file-stop.new.files c.args.fd c.args.at c.write_file-stop.result (c.write_file-stop.ensures.writes no_swap)) (writes_low (byte_of c.args.w.now.pages.now no_swap) c.args.w.now.progress.now.pieces c.args.from c.args.w.now.files.now c.write_file-stop.new.files c.args.fd c.args.at c.write_file-stop.result
    c.known.ensures.cap c.requires.can.other.1 (rw c.pieces.ensures at (c.write_file-stop.ensures.writes no_swap))) (rw c.pieces.ensures at c.write_file-stop.ensures.stops) c.finish_at.ensures.ends

pub returns-clause-waits : goal.returns-clause-waits
returns-clause-waits c =
    moving_waits_at (view_of c.args.w.now) c.args.w.now.pages.now c.write_file-stop.new.files c.args.w.now.random.now c.args.from Read c.requires.can.most (keeps_same c.args.w.now.pages.now)
    c.write_file-stop.result c.args.fd c.args.at c.args.moves (view_of c.finish_at.new.w) c.finish_at.result
    (outside_writes c.args.w.now.gprs.now c.args.w.now.files.now c.write_file-stop.new.files c.args.from c.args.fd c.args.at c.args.moves c.write_file-stop.result c.requires.is
    (same_writes c.args.w.now.gprs.now c.args.w.now.files.now c.write_file-stop.new.files (byte_of c.args.w.now.pages.now no_swap) c.args.w.now.progress.now.pieces c.args.from c.args.fd c.args.at c.args.moves
    c.write_file-stop.result (table_of c.args.w.now.pages.now) c.known.ensures.kept c.requires.is (rw c.pieces.ensures at c.write_file-stop.ensures.stops) (rw c.pieces.ensures at (c.write_file-stop.ensures.writes no_swap))))
    (rw c.pieces.ensures at c.write_file-stop.ensures.stops) c.finish_at.ensures.ends
