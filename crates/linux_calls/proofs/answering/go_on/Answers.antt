use Rattle.std.proofs.Common.{◌∙◌, sym, rules}
use Rattle.linux_calls.specs.Rest.{rest_of}
use Rattle.linux_calls.specs.Mapping.{copy_rest}
use Rattle.linux_calls.specs.declared.kinds.Stage.TheVariants.{Listing, Moving, Copying}
use Rattle.linux_calls.specs.View.{view_of}
use Rattle.linux_calls.proofs.WorkLemmas.{works_same, works_part, works_standing}
use Rattle.linux_calls.proofs.CallLemmas.{rest_begins, rest_unknown, rest_listing, rest_moves, rest_copying, part_as, stands_at, stays_on}
use Rattle.std.proofs.Common.{Option, Some, None, subst}
use Rattle.guest_transfers.specs.declared.kinds.Stop.TheVariants.{Whole}
use Rattle.guest_pages.specs.Pages.{table_of}
use Rattle.linux_calls.specs.declared.kinds.Call.{Call}
use Rattle.linux_calls.specs.declared.kinds.Transfer.{Transfer}
use Rattle.linux_calls.specs.declared.kinds.Stage.TheVariants.{Start}
use Rattle.linux_calls.specs.Passing.{Passes, PassesAtStart, PassesCopy, PassesFor, PassesList, PassesParts, PassesRest}
use Rattle.linux_calls.proofs.PassLemmas.{passed_as, passed_by}
use Rattle.linux_calls.proofs.answering.go_on.Goals as goal

pub perform-requires-clause-stays : goal.perform-requires-clause-stays
perform-requires-clause-stays g c =
    stays_on (view_of c.args.w.now) c.in-Some.call (sym c.stage.ensures ∙ c.in-Start.is) (rw c.rax.ensures at (sym c.call_numbered.ensures ∙ c.in-Some.is)) c.requires.stays

pub returns-in-Some-clause-works : goal.returns-in-Some-clause-works
returns-in-Some-clause-works g c =
    works_same c.perform.ensures.works (λ swap base. rest_begins (view_of c.args.w.now) c.in-Some.call swap base (sym c.stage.ensures ∙ c.in-Start.is) (rw c.rax.ensures at (sym c.call_numbered.ensures ∙ c.in-Some.is)))

pub returns-in-None-clause-works : goal.returns-in-None-clause-works
returns-in-None-clause-works g c = works_part (search rules) (λ swap base. rest_unknown (view_of c.args.w.now) swap base (sym c.stage.ensures ∙ c.in-Start.is) (rw c.rax.ensures at (sym c.call_numbered.ensures ∙ c.in-None.is))) tt tt

pub returns-in-Some-transfer_of-clause-works : goal.returns-in-Some-transfer_of-clause-works
returns-in-Some-transfer_of-clause-works g c =
    works_standing (works_same c.list_on.ensures.works (λ swap base. rest_listing (view_of c.args.w.now) c.in-Some-transfer_of.transfer swap base (sym c.stage.ensures ∙ c.in-Listing.is) (sym c.transfer_of.ensures ∙ c.in-Some-transfer_of.is)))
    (stands_at c.args.w.now.progress.now Listing (sym c.stage.ensures ∙ c.in-Listing.is))

pub returns-in-Some-transfer_of-2-clause-works : goal.returns-in-Some-transfer_of-2-clause-works
returns-in-Some-transfer_of-2-clause-works g c =
    works_standing (works_same c.move_on.ensures.works (λ swap base. rest_moves (view_of c.args.w.now) c.in-Moving.done c.in-Some-transfer_of-2.transfer swap base (sym c.stage.ensures ∙ c.in-Moving.is) (sym c.transfer_of-in-Moving.ensures ∙ c.in-Some-transfer_of-2.is)))
    (stands_at c.args.w.now.progress.now (Moving c.in-Moving.done) (sym c.stage.ensures ∙ c.in-Moving.is))

pub returns-in-Copying-clause-works : goal.returns-in-Copying-clause-works
returns-in-Copying-clause-works g c =
    works_standing (works_part c.copy_on.ensures.kept
    (part_as (rest_of c.args.w.now.progress.now) (copy_rest c.in-Copying.at c.in-Copying.done) (view_of c.args.w.now) (view_of c.copy_on.new.w) c.copy_on.result
    (λ swap base. rest_copying (view_of c.args.w.now) c.in-Copying.at c.in-Copying.done swap base (sym c.stage.ensures ∙ c.in-Copying.is)) c.copy_on.ensures.does)
    c.copy_on.ensures.needs c.copy_on.ensures.waits)
    (stands_at c.args.w.now.progress.now (Copying c.in-Copying.at c.in-Copying.done) (sym c.stage.ensures ∙ c.in-Copying.is))

pub returns-in-Some-clause-exact : goal.returns-in-Some-clause-exact
returns-in-Some-clause-exact g c =
    let v = view_of c.args.w.now in
    let new = view_of c.perform.new.w in
    let is = rw c.rax.ensures at (sym c.call_numbered.ensures ∙ c.in-Some.is) in
    passed_as (PassesFor c.in-Some.call v (table_of new.pages)) (Passes v new) c.perform.result
    (λ stop passed. passed_by v new Start (sym c.stage.ensures ∙ c.in-Start.is) stop
    (subst (λ (o : Option Call). PassesAtStart o v (table_of new.pages) stop) (sym is) passed)) c.perform.ensures.exact

pub returns-in-None-clause-exact : goal.returns-in-None-clause-exact
returns-in-None-clause-exact g c =
    let v = view_of c.args.w.now in
    let is = rw c.rax.ensures at (sym c.call_numbered.ensures ∙ c.in-None.is) in
    passed_by v v Start (sym c.stage.ensures ∙ c.in-Start.is) (Whole 18446744073709551578)
    (subst (λ (o : Option Call). PassesAtStart o v (table_of v.pages) (Whole 18446744073709551578)) (sym is) tt)

pub returns-in-Some-transfer_of-clause-exact : goal.returns-in-Some-transfer_of-clause-exact
returns-in-Some-transfer_of-clause-exact g c =
    let v = view_of c.args.w.now in
    let new = view_of c.list_on.new.w in
    passed_as (λ stop. PassesList (Some c.in-Some-transfer_of.transfer) v v.progress.pieces stop) (Passes v new) c.list_on.result
    (λ stop passed. passed_by v new Listing (sym c.stage.ensures ∙ c.in-Listing.is) stop
    (subst (λ (o : Option Transfer). PassesList o v v.progress.pieces stop) (sym (sym c.transfer_of.ensures ∙ c.in-Some-transfer_of.is)) passed)) c.list_on.ensures.exact

pub returns-in-Some-transfer_of-2-clause-exact : goal.returns-in-Some-transfer_of-2-clause-exact
returns-in-Some-transfer_of-2-clause-exact g c =
    let v = view_of c.args.w.now in
    let new = view_of c.move_on.new.w in
    passed_as (λ stop. PassesParts c.in-Some-transfer_of-2.transfer v v.progress.pieces c.in-Moving.done stop) (Passes v new) c.move_on.result
    (λ stop passed. passed_by v new (Moving c.in-Moving.done) (sym c.stage.ensures ∙ c.in-Moving.is) stop
    (subst (λ (o : Option Transfer). PassesRest o v v.progress.pieces c.in-Moving.done stop) (sym (sym c.transfer_of-in-Moving.ensures ∙ c.in-Some-transfer_of-2.is)) passed)) c.move_on.ensures.exact

pub returns-in-Copying-clause-exact : goal.returns-in-Copying-clause-exact
returns-in-Copying-clause-exact g c =
    let v = view_of c.args.w.now in
    let new = view_of c.copy_on.new.w in
    passed_as (λ stop. PassesCopy (table_of v.pages) v c.in-Copying.at c.in-Copying.done) (Passes v new) c.copy_on.result
    (λ stop passed. passed_by v new (Copying c.in-Copying.at c.in-Copying.done) (sym c.stage.ensures ∙ c.in-Copying.is) stop passed) c.copy_on.ensures.exact
