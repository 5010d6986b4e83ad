use Rattle.std.proofs.Common.{◌≡◌, refl, sym, ap, arith, List, length, nat_lt, false}
use Rattle.std.proofs.lemmas.Bool.{le-ltb}
use Rattle.guest_transfers.specs.Buffers.{most_buffers}
use Rattle.guest_transfers.specs.declared.kinds.Piece.{Piece}
use Rattle.linux_calls.specs.Call.{rdx}
use Rattle.linux_calls.specs.Rest.{ProgressValue}
use Rattle.linux_calls.specs.Transfers.{list_rest}
use Rattle.linux_calls.specs.View.{view_of, with_parts}
use Rattle.linux_calls.specs.Units.{listing_from}
use Rattle.linux_calls.proofs.WorkLemmas.{works_standing, works_from, works_same}
use Rattle.std.proofs.Common.{◌≤◌, [], Option, Some, subst}
use Rattle.linux_calls.specs.declared.kinds.Transfer.{Transfer}
use Rattle.linux_calls.specs.Passing.{PassesList}
use Rattle.linux_calls.proofs.PassLemmas.{passed_as}
use Rattle.linux_calls.proofs.lists.list_call.Goals as goal

pub list_on-requires-clause-place : goal.list_on-requires-clause-place
list_on-requires-clause-place g c =
    let none : length c.clear.new.self.pieces ≡ 0 = ap (λ (p : ProgressValue). length p.pieces) c.clear.ensures in
    let addr = c.rsi.result in
    omega (arith, none, c.rsi.ensures)

pub returns-else-rdx-clause-works : goal.returns-else-rdx-clause-works
returns-else-rdx-clause-works g c =
    let fit : nat_lt most_buffers (rdx c.args.w.now.gprs.now) ≡ false = le-ltb most_buffers (rdx c.args.w.now.gprs.now) (rw c.rdx.ensures at c.if-rdx.false) in
    works_standing (works_from c.clear.new.self
    (works_same c.list_on.ensures.works (λ swap base. rw (c.in-Some.is, fit) (ap (λ (p : List Piece). list_rest c.in-Some.transfer p (with_parts swap (view_of c.args.w.now) base)) (sym (ap (λ (p : ProgressValue). p.pieces) c.clear.ensures)))))
    (record { gprs = refl; fs = refl; gs = refl; pages = refl; regions = refl; files = refl; random = refl; progress = refl; steps = refl }) refl)
    (ap (λ (p : ProgressValue). listing_from p.pieces) c.clear.ensures)

pub returns-else-rdx-clause-exact : goal.returns-else-rdx-clause-exact
returns-else-rdx-clause-exact g c =
    let v = view_of c.args.w.now in
    passed_as (λ stop. PassesList (Some c.in-Some.transfer) v c.clear.new.self.pieces stop) (λ stop. rdx v.gprs ≤ most_buffers → PassesList c.args.transfer v [] stop) c.list_on.result
    (λ stop passed few. subst (λ (t : Option Transfer). PassesList t v [] stop) (sym c.in-Some.is)
    (subst (λ (ps : List Piece). PassesList (Some c.in-Some.transfer) v ps stop) (ap (λ (p : ProgressValue). p.pieces) c.clear.ensures) passed))
    c.list_on.ensures.exact
