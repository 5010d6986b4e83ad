use Rattle.linux_calls.specs.View.{view_of}
use Rattle.linux_calls.proofs.RecordLemmas.{answered-ok, answered-err, record_put, record_missed, record_needs}
use Rattle.std.proofs.Common.{rules}
use Rattle.linux_calls.proofs.SwapLemmas.{swap_written}
use Rattle.linux_calls.proofs.records.put_record.Goals as goal

pub returns-in-Ok-clause-kept : goal.returns-in-Ok-clause-kept
returns-in-Ok-clause-kept c = record {
  parts = search rules;
  pages = search rules;
  swap = swap_written c.args.w.now.pages.now c.write.new.self c.args.addr c.args.bytes.now c.in-Ok.ensures.ok;
}

pub returns-in-Ok-clause-does : goal.returns-in-Ok-clause-does
returns-in-Ok-clause-does c =
    record_put (view_of c.args.w.now) c.args.addr c.args.bytes.now c.write.new.self (answered-ok _ c.in-Ok.ensures.answer) c.in-Ok.ensures.ok

pub returns-in-Err-clause-does : goal.returns-in-Err-clause-does
returns-in-Err-clause-does c =
    record_missed (view_of c.args.w.now) c.args.addr c.args.bytes.now c.write.new.self c.halt_of.result c.in-Err.miss c.in-Err.ensures.err c.halt_of.ensures
    (answered-err _ _ c.in-Err.ensures.answer)

pub returns-in-Err-clause-needs : goal.returns-in-Err-clause-needs
returns-in-Err-clause-needs c =
    record_needs (view_of c.args.w.now) c.args.addr c.args.bytes.now c.write.new.self c.halt_of.result c.in-Err.miss c.in-Err.ensures.err c.halt_of.ensures
    (answered-err _ _ c.in-Err.ensures.answer)
