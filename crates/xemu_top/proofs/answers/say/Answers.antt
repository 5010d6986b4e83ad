use Rattle.xemu_top.proofs.LineLemmas.{says-whole, says-front}
use Rattle.xemu_top.proofs.answers.say.Goals as goal

pub returns-in-Ok : goal.returns-in-Ok
returns-in-Ok g c a = says-whole _ a _ _ _ _ c.args.line.now c.in-Ok.ensures.bytes c.in-Ok.ensures.cause.kept

pub returns-in-Err : goal.returns-in-Err
returns-in-Err g c a = says-front _ a _ _ _ _ c.args.line.now c.in-Err.field-0 c.in-Err.ensures.bytes c.in-Err.ensures.cause.failed
