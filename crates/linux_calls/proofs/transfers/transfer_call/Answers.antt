use Rattle.std.proofs.Common.{List, refl, sym, ap}
use Rattle.guest_transfers.specs.declared.kinds.Piece.{Piece}
use Rattle.linux_calls.specs.Units.{moving_from}
use Rattle.linux_calls.specs.Rest.{ProgressValue}
use Rattle.linux_calls.specs.Transfers.{named_piece}
use Rattle.linux_calls.specs.View.{view_of, with_parts}
use Rattle.linux_calls.proofs.WorkLemmas.{works_standing, works_from, works_same}
use Rattle.linux_calls.proofs.StartLemmas.{begun_some, named_is}
use Rattle.linux_calls.proofs.transfers.transfer_call.Goals as goal

pub returns-in-Some-clause-works : goal.returns-in-Some-clause-works
returns-in-Some-clause-works g c =
    let named = named_is c.args.piece.addr c.args.piece.len c.min-len.result c.set.new.self.pieces c.min-len.ensures (ap (λ (p : ProgressValue). p.pieces) c.set.ensures) in
    works_standing (works_from c.set.new.self
    (works_same c.begin.ensures.works (λ swap base. begun_some c.args.transfer c.in-Some.transfer (named_piece c.args.piece.addr c.args.piece.len) c.set.new.self.pieces (with_parts swap (view_of c.args.w.now) base) c.in-Some.is named))
    (record { gprs = refl; fs = refl; gs = refl; pages = refl; regions = refl; files = refl; random = refl; progress = refl; steps = refl }) refl)
    (ap (λ (p : List Piece). moving_from p 0) (sym named))
