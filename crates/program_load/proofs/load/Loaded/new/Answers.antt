use Rattle.program_load.proofs.FillLemmas.{can_blank}
use Rattle.program_load.proofs.load.Loaded.new.Goals as goal

pub returns-clause-ready : goal.returns-clause-ready
returns-clause-ready c held opened over = record {
  fit = (let value = c.new-2.ensures.value in rw value (c.new-2.ensures.fit c.in_ok-new.field-0 c.args.frames c.args.most c.in_ok-new.ensures.blank));
  can = can_blank c.in_ok-new.field-0 c.args.frames c.args.most held opened c.in_ok-new.ensures.blank c.requires.least c.requires.fit over;
}
