use Rattle.xemu_top.proofs.answers.stop.Goals as goal

pub returns : goal.returns
returns g c a = rw c.refusal_line.ensures at (c.finish.ensures a)
