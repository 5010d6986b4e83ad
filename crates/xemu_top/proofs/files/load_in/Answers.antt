use Rattle.xemu_top.proofs.files.load_in.Goals as goal

pub returns-in-Ok-clause-cause : goal.returns-in-Ok-clause-cause
returns-in-Ok-clause-cause g c rest = rw c.in-Whole.is at (c.load_file.ensures.cause c.args.place rest)

pub returns-in-Err-clause-cause : goal.returns-in-Err-clause-cause
returns-in-Err-clause-cause g c rest = rw c.in-Whole.is at (c.load_file.ensures.cause c.args.place rest)

pub returns-in-Long-clause-cause : goal.returns-in-Long-clause-cause
returns-in-Long-clause-cause g c rest = rw c.in-Long.is at (c.load_file.ensures.cause c.args.place rest)

pub returns-in-Failed-clause-cause : goal.returns-in-Failed-clause-cause
returns-in-Failed-clause-cause g c rest = rw c.in-Failed.is at (c.load_file.ensures.cause c.args.place rest)

pub returns-in-Memory-clause-cause : goal.returns-in-Memory-clause-cause
returns-in-Memory-clause-cause g c rest = rw c.in-Memory.is at (c.load_file.ensures.cause c.args.place rest)
