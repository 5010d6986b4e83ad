use Rattle.std.proofs.Common.{◌∙◌, refl, sym, ap, Option}
use Rattle.linux_calls.specs.declared.kinds.Transfer.{Transfer}
use Rattle.linux_calls.specs.declared.kinds.Call.TheVariants.{Read, Write, Pread64, Pwrite64, Readv, Writev, Getrandom}
use Rattle.linux_calls.specs.Call.{low, rdi, rsi, rdx}
use Rattle.linux_calls.specs.Transfers.{begun, listed, named_piece, read_call, write_call, pread64_call, pwrite64_call, readv_call}
use Rattle.linux_calls.specs.Transfers.{writev_call}
use Rattle.linux_calls.specs.View.{view_of, with_parts}
use Rattle.linux_calls.proofs.WorkLemmas.{works_at, works_part, works_same}
use Rattle.linux_calls.proofs.WaitLemmas.{begins_listing, begins_moving}
use Rattle.linux_calls.proofs.StartLemmas.{transfer_by}
use Rattle.linux_calls.proofs.AppendLemmas.{read_listed, write_listed}
use Rattle.linux_calls.proofs.answering.perform.Goals as goal

pub returns-in-Read-clause-works : goal.returns-in-Read-clause-works
unfolding read_call
returns-in-Read-clause-works g c =
    let is = c.transfer_of-transfer.ensures ∙ transfer_by Read c.args.w.now.gprs.now c.args.w.now.files.now 0 (rw c.in-Read.is at c.requires.is) in
    rw c.in-Read.is (works_at (works_same c.moving.ensures.works (λ swap base.
    ap (λ (o : Option Transfer). begun o (named_piece (rsi c.args.w.now.gprs.now) (rdx c.args.w.now.gprs.now)) (with_parts swap (view_of c.args.w.now) base)) (sym is)))
    (begins_moving Read (view_of c.args.w.now) (view_of c.moving.new.w) (named_piece (rsi c.args.w.now.gprs.now) (rdx c.args.w.now.gprs.now)) c.moving.result c.requires.begins (rw c.in-Read.is at c.requires.is) refl refl))

pub returns-in-Write-clause-works : goal.returns-in-Write-clause-works
unfolding write_call
returns-in-Write-clause-works g c =
    let is = c.transfer_of-transfer.ensures ∙ transfer_by Write c.args.w.now.gprs.now c.args.w.now.files.now 0 (rw c.in-Write.is at c.requires.is) in
    rw c.in-Write.is (works_at (works_same c.moving-in-Write.ensures.works (λ swap base.
    ap (λ (o : Option Transfer). begun o (named_piece (rsi c.args.w.now.gprs.now) (rdx c.args.w.now.gprs.now)) (with_parts swap (view_of c.args.w.now) base)) (sym is)))
    (begins_moving Write (view_of c.args.w.now) (view_of c.moving-in-Write.new.w) (named_piece (rsi c.args.w.now.gprs.now) (rdx c.args.w.now.gprs.now)) c.moving-in-Write.result c.requires.begins (rw c.in-Write.is at c.requires.is) refl refl))

pub returns-in-Pread64-clause-works : goal.returns-in-Pread64-clause-works
unfolding pread64_call
returns-in-Pread64-clause-works g c =
    let is = c.transfer_of-transfer.ensures ∙ transfer_by Pread64 c.args.w.now.gprs.now c.args.w.now.files.now 0 (rw c.in-Pread64.is at c.requires.is) in
    rw c.in-Pread64.is (works_at (works_same c.moving-in-Pread64.ensures.works (λ swap base.
    ap (λ (o : Option Transfer). begun o (named_piece (rsi c.args.w.now.gprs.now) (rdx c.args.w.now.gprs.now)) (with_parts swap (view_of c.args.w.now) base)) (sym is)))
    (begins_moving Pread64 (view_of c.args.w.now) (view_of c.moving-in-Pread64.new.w) (named_piece (rsi c.args.w.now.gprs.now) (rdx c.args.w.now.gprs.now)) c.moving-in-Pread64.result c.requires.begins (rw c.in-Pread64.is at c.requires.is) refl refl))

pub returns-in-Pwrite64-clause-works : goal.returns-in-Pwrite64-clause-works
unfolding pwrite64_call
returns-in-Pwrite64-clause-works g c =
    let is = c.transfer_of-transfer.ensures ∙ transfer_by Pwrite64 c.args.w.now.gprs.now c.args.w.now.files.now 0 (rw c.in-Pwrite64.is at c.requires.is) in
    rw c.in-Pwrite64.is (works_at (works_same c.moving-in-Pwrite64.ensures.works (λ swap base.
    ap (λ (o : Option Transfer). begun o (named_piece (rsi c.args.w.now.gprs.now) (rdx c.args.w.now.gprs.now)) (with_parts swap (view_of c.args.w.now) base)) (sym is)))
    (begins_moving Pwrite64 (view_of c.args.w.now) (view_of c.moving-in-Pwrite64.new.w) (named_piece (rsi c.args.w.now.gprs.now) (rdx c.args.w.now.gprs.now)) c.moving-in-Pwrite64.result c.requires.begins (rw c.in-Pwrite64.is at c.requires.is) refl refl))

pub returns-in-Readv-clause-works : goal.returns-in-Readv-clause-works
unfolding readv_call
returns-in-Readv-clause-works g c =
    let is = c.transfer_of-transfer.ensures ∙ transfer_by Readv c.args.w.now.gprs.now c.args.w.now.files.now 0 (rw c.in-Readv.is at c.requires.is) in
    rw c.in-Readv.is (works_at (works_same c.list_call.ensures.works (λ swap base. ap (λ (o : Option Transfer). listed o (with_parts swap (view_of c.args.w.now) base)) (sym is)))
    (begins_listing Readv (view_of c.args.w.now) (view_of c.list_call.new.w) c.list_call.result c.requires.begins (rw c.in-Readv.is at c.requires.is) refl refl))

pub returns-in-Writev-clause-works : goal.returns-in-Writev-clause-works
unfolding writev_call
returns-in-Writev-clause-works g c =
    let is = c.transfer_of-transfer.ensures ∙ transfer_by Writev c.args.w.now.gprs.now c.args.w.now.files.now 0 (rw c.in-Writev.is at c.requires.is) in
    rw c.in-Writev.is (works_at (works_same c.list_call-in-Writev.ensures.works (λ swap base. ap (λ (o : Option Transfer). listed o (with_parts swap (view_of c.args.w.now) base)) (sym is)))
    (begins_listing Writev (view_of c.args.w.now) (view_of c.list_call-in-Writev.new.w) c.list_call-in-Writev.result c.requires.begins (rw c.in-Writev.is at c.requires.is) refl refl))

pub list_call-requires-clause-listed : goal.list_call-requires-clause-listed
list_call-requires-clause-listed g c t e =
    let is = c.transfer_of-transfer.ensures ∙ transfer_by Readv c.args.w.now.gprs.now c.args.w.now.files.now 0 (rw c.in-Readv.is at c.requires.is) in
    read_listed c.args.w.now.files.now (low (rdi c.args.w.now.gprs.now)) t (sym is ∙ e)

pub list_call-requires-in-Writev-clause-listed : goal.list_call-requires-in-Writev-clause-listed
list_call-requires-in-Writev-clause-listed g c t e =
    let is = c.transfer_of-transfer.ensures ∙ transfer_by Writev c.args.w.now.gprs.now c.args.w.now.files.now 0 (rw c.in-Writev.is at c.requires.is) in
    write_listed c.args.w.now.files.now (low (rdi c.args.w.now.gprs.now)) 0 t (sym is ∙ e)

pub returns-in-Getrandom-clause-works : goal.returns-in-Getrandom-clause-works
returns-in-Getrandom-clause-works g c = rw c.in-Getrandom.is (works_at c.getrandom.ensures.works
    (begins_moving Getrandom (view_of c.args.w.now) (view_of c.getrandom.new.w) (named_piece (rdi c.args.w.now.gprs.now) (rsi c.args.w.now.gprs.now)) c.getrandom.result c.requires.begins (rw c.in-Getrandom.is at c.requires.is) refl refl))

pub returns-in-Open-clause-works : goal.returns-in-Open-clause-works
returns-in-Open-clause-works g c = works_part c.slow.ensures.kept c.slow.ensures.does c.slow.ensures.needs c.slow.ensures.waits

pub returns-in-Close-clause-works : goal.returns-in-Close-clause-works
returns-in-Close-clause-works g c = works_part c.quick.ensures.kept c.quick.ensures.does c.quick.ensures.needs c.quick.ensures.waits
