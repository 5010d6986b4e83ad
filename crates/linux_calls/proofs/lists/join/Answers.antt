use Rattle.std.proofs.Common.{◌<◌, ◌≤◌, refl, rules, arith}
use Rattle.std.proofs.lemmas.Bool.{lt-ltb, le-ltb}
use Rattle.guest_transfers.specs.Pieces.{asked, most_asked}
use Rattle.linux_calls.specs.Transfers.{joined_transfer}
use Rattle.linux_calls.proofs.WorkLemmas.{works_same, works_part}
use Rattle.linux_calls.specs.declared.kinds.Transfer.{Transfer}
use Rattle.guest_transfers.specs.declared.kinds.Stop.{Stop}
use Rattle.std.proofs.Common.{Some}
use Rattle.linux_calls.specs.View.{view_of}
use Rattle.linux_calls.specs.Passing.{PassesTransfer}
use Rattle.linux_calls.proofs.PassLemmas.{passed_as}
use Rattle.linux_calls.proofs.lists.join.Goals as goal

pub returns-then-total_len-gt-MOST_ASKED-clause-works : goal.returns-then-total_len-gt-MOST_ASKED-clause-works
unfolding joined_transfer
returns-then-total_len-gt-MOST_ASKED-clause-works g c =
    let total = rw c.pieces.ensures at c.total_len.ensures in
    let more : most_asked < asked c.args.w.now.progress.now.pieces = omega (arith, total, c.if-total_len-gt-MOST_ASKED.true) in
    works_part (search rules) (λ swap base. rw (lt-ltb most_asked (asked c.args.w.now.progress.now.pieces) more) refl) tt tt

pub returns-clause-works : goal.returns-clause-works
unfolding joined_transfer
returns-clause-works g c =
    let total = rw c.pieces.ensures at c.total_len.ensures in
    let fit : asked c.args.w.now.progress.now.pieces ≤ most_asked = omega (arith, total, c.if-total_len-gt-MOST_ASKED.false) in
    works_same c.begin.ensures.works (λ swap base. rw (le-ltb most_asked (asked c.args.w.now.progress.now.pieces) fit) refl)

pub returns-clause-exact : goal.returns-clause-exact
returns-clause-exact g c =
    let v = view_of c.args.w.now in
    let P : Stop → Type 0 = λ stop. PassesTransfer (Some c.args.transfer) v v.progress.pieces stop in
    passed_as P (λ stop. asked v.progress.pieces ≤ most_asked → P stop) c.begin.result (λ stop passed fit. passed) c.begin.ensures.exact
