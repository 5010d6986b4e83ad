use Rattle.std.proofs.Common.{◌∙◌, refl, sym, ap, subst, rules}
use Rattle.linux_calls.specs.Rest.{ProgressValue, rest_of}
use Rattle.linux_calls.specs.Waiting.{IsNeeded}
use Rattle.linux_calls.specs.View.{view_of, with_parts}
use Rattle.linux_calls.specs.Units.{GoesOn, listing_from, standing_at}
use Rattle.linux_calls.proofs.WorkLemmas.{works_at, works_from, works_same, works_part}
use Rattle.linux_calls.proofs.ListLemmas.{list_whole, list_fault, list_away, list_needs, list_goes, list_joins}
use Rattle.std.proofs.Common.{◌≤◌, Some}
use Rattle.guest_transfers.specs.declared.kinds.Stop.TheVariants.{Whole}
use Rattle.guest_transfers.specs.Pieces.{asked, most_asked}
use Rattle.linux_calls.specs.Call.{negative}
use Rattle.linux_calls.specs.Errnos.{efault}
use Rattle.linux_calls.specs.Passing.{PassesList, PassesTransfer}
use Rattle.linux_calls.proofs.PassLemmas.{passed_as, passes_whole, passes_fault}
use Rattle.linux_calls.proofs.lists.list_on.Goals as goal

pub returns-in-Whole-clause-works : goal.returns-in-Whole-clause-works
returns-in-Whole-clause-works g c =
    let read = rw (c.rsi-addr.ensures, c.rdx-count.ensures) at c.in-Whole.ensures.reads in
    works_at (works_from c.read.new.self
    (works_same c.join.ensures.works (list_whole c.args.transfer (view_of c.args.w.now) c.args.w.now.progress.now.pieces c.read.new.self.pieces read.0 read.1))
    (record { gprs = refl; fs = refl; gs = refl; pages = refl; regions = refl; files = refl; random = refl; progress = refl; steps = refl }) refl)
    (list_joins c.args.transfer (view_of c.args.w.now) c.args.w.now.progress.now.pieces c.read.new.self.pieces (view_of c.join.new.w) c.join.result c.join.ensures.refused)

pub returns-in-Fault-clause-works : goal.returns-in-Fault-clause-works
returns-in-Fault-clause-works g c =
    let read = rw (c.rsi-addr.ensures, c.rdx-count.ensures) at c.in-Fault.ensures.reads in
    works_part (search rules) (list_fault c.args.transfer (view_of c.args.w.now) c.args.w.now.progress.now.pieces c.read.new.self.pieces read) tt tt

pub returns-in-Away-clause-works : goal.returns-in-Away-clause-works
returns-in-Away-clause-works g c =
    let read = rw (c.rsi-addr.ensures, c.rdx-count.ensures) at c.in-Away.ensures.reads in
    works_part (search rules)
    (λ swap base. ap (λ (p : ProgressValue). rest_of p (with_parts swap (view_of c.args.w.now) base)) c.wait.ensures
    ∙ list_away c.args.transfer (view_of c.args.w.now) c.args.w.now.progress.now.pieces c.read.new.self.pieces c.in-Away.slot c.requires.is read.0 read.1 swap base)
    (let P : ProgressValue → Type 0 = λ p. IsNeeded (let v = view_of c.args.w.now in record v { progress = p }) c.in-Away.slot in
    subst P (sym c.wait.ensures)
    (list_needs c.args.transfer (view_of c.args.w.now) c.args.w.now.progress.now.pieces c.read.new.self.pieces c.in-Away.slot c.requires.is c.requires.listed c.requires.most read.0 read.1))
    (let v = view_of c.args.w.now in
    subst (λ (p : ProgressValue). GoesOn (standing_at v (listing_from v.progress.pieces)) (standing_at v p)) (sym c.wait.ensures)
    (list_goes c.args.transfer v v.progress.pieces c.read.new.self.pieces c.in-Away.slot c.requires.most read.0 read.1))

pub returns-in-Whole-clause-exact : goal.returns-in-Whole-clause-exact
returns-in-Whole-clause-exact g c =
    let read = rw (c.rsi-addr.ensures, c.rdx-count.ensures) at c.in-Whole.ensures.reads in
    let v = view_of c.args.w.now in
    passed_as (λ stop. asked c.read.new.self.pieces ≤ most_asked → PassesTransfer (Some c.args.transfer) v c.read.new.self.pieces stop)
    (λ stop. PassesList (Some c.args.transfer) v v.progress.pieces stop) c.join.result
    (λ stop behind. passes_whole c.args.transfer v v.progress.pieces c.read.new.self.pieces stop read behind) c.join.ensures.exact

pub returns-in-Fault-clause-exact : goal.returns-in-Fault-clause-exact
returns-in-Fault-clause-exact g c =
    let read = rw (c.rsi-addr.ensures, c.rdx-count.ensures) at c.in-Fault.ensures.reads in
    passes_fault c.args.transfer (view_of c.args.w.now) c.args.w.now.progress.now.pieces (Whole (negative efault)) read
