use Rattle.std.proofs.Common.{sym}
use Rattle.linux_calls.specs.View.{view_of}
use Rattle.linux_calls.proofs.MappingLemmas.{brk_done, brk_stays}
use Rattle.linux_calls.proofs.mapping.brk.Goals as goal

pub returns-in-Ok-clause-does : goal.returns-in-Ok-clause-does
returns-in-Ok-clause-does c =
    brk_done (view_of c.args.w.now) c.rdi-to.result c.set_break.new.pages c.set_break.new.self (sym c.rdi-to.ensures)
    c.in-Ok.ensures.answer c.in-Ok.ensures.ok c.in-Ok.ensures.fit c.in-Ok.ensures.heap c.in-Ok.ensures.at

pub returns-in-Err-clause-does : goal.returns-in-Err-clause-does
returns-in-Err-clause-does c =
    brk_stays (view_of c.args.w.now) c.rdi-to.result c.set_break.new.pages c.set_break.new.self c.in-Err.field-0 c.break_at.result (sym c.rdi-to.ensures)
    c.in-Err.ensures.answer c.in-Err.ensures.err.0 c.in-Err.ensures.err.1 c.break_at.ensures.value
