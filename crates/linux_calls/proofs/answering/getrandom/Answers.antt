use Rattle.guest_transfers.specs.declared.kinds.Piece.{Piece}
use Rattle.linux_calls.specs.Units.{moving_from}
use Rattle.std.proofs.Common.{◌≡◌, List, ap, refl, rules, nat_lt, true, false}
use Rattle.std.proofs.lemmas.Bool.{lt-ltb, le-ltb}
use Rattle.linux_calls.specs.declared.kinds.Call.TheVariants.{Getrandom}
use Rattle.linux_calls.specs.Call.{low, rdx}
use Rattle.linux_calls.specs.Transfers.{getrandom_call, random_flags}
use Rattle.linux_calls.proofs.WorkLemmas.{works_standing, works_same, works_part}
use Rattle.linux_calls.proofs.StartLemmas.{transfer_by}
use Rattle.std.proofs.Common.{◌≤◌, Some}
use Rattle.guest_transfers.specs.declared.kinds.Stop.{Stop}
use Rattle.linux_calls.specs.declared.kinds.Transfer.TheVariants.{Draws}
use Rattle.linux_calls.specs.Call.{rdi, rsi}
use Rattle.linux_calls.specs.Transfers.{named_piece}
use Rattle.linux_calls.specs.View.{view_of}
use Rattle.linux_calls.specs.Passing.{PassesTransfer}
use Rattle.linux_calls.proofs.PassLemmas.{passed_as}
use Rattle.linux_calls.proofs.answering.getrandom.Goals as goal

pub transfer_call-requires-clause-is : goal.transfer_call-requires-clause-is
transfer_call-requires-clause-is g c = transfer_by Getrandom c.args.w.now.gprs.now c.args.w.now.files.now 0 c.requires.is

pub returns-then-low-gt-RANDOM_FLAGS-clause-works : goal.returns-then-low-gt-RANDOM_FLAGS-clause-works
unfolding getrandom_call
returns-then-low-gt-RANDOM_FLAGS-clause-works g c =
    let high : nat_lt random_flags (low (rdx c.args.w.now.gprs.now)) ≡ true = lt-ltb random_flags (low (rdx c.args.w.now.gprs.now)) (rw c.rdx.ensures at (rw c.low.ensures at c.if-low-gt-RANDOM_FLAGS.true)) in
    works_part (search rules) (λ swap base. rw high refl) tt tt

pub returns-clause-works : goal.returns-clause-works
unfolding getrandom_call
returns-clause-works g c =
    let fit : nat_lt random_flags (low (rdx c.args.w.now.gprs.now)) ≡ false = le-ltb random_flags (low (rdx c.args.w.now.gprs.now)) (rw c.rdx.ensures at (rw c.low.ensures at c.if-low-gt-RANDOM_FLAGS.false)) in
    works_standing (works_same c.transfer_call.ensures.works (λ swap base. rw (fit, c.rdi.ensures, c.rsi.ensures) refl)) (ap (λ (p : List Piece). moving_from p 0) (rw (c.rdi.ensures, c.rsi.ensures) refl))

pub returns-clause-exact : goal.returns-clause-exact
returns-clause-exact g c =
    let v = view_of c.args.w.now in
    let P : Stop → Type 0 = λ stop. PassesTransfer (Some Draws) v (named_piece (rdi v.gprs) (rsi v.gprs)) stop in
    passed_as P (λ stop. low (rdx v.gprs) ≤ random_flags → P stop) c.transfer_call.result (λ stop passed fit. passed)
    (rw (c.rdi.ensures, c.rsi.ensures) at c.transfer_call.ensures.exact)
