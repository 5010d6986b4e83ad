use Rattle.std.proofs.Common.{◌∙◌, arith}
use Rattle.program_load.proofs.FillLemmas.{part_allowed, perms_both, bytes_on, host_both}
use Rattle.program_load.proofs.load.Loaded.write.Goals as goal

pub write_part-requires-clause-allowed : goal.write_part-requires-clause-allowed
write_part-requires-clause-allowed g c =
    part_allowed c.args.self.now.pages c.loop-done.self.pages c.args.addr c.args.bytes.now c.loop-done.done c.min-end.result (omega arith) (omega arith) c.loop-done.invariant.perms c.requires.allowed

pub loop-done-preserved : goal.loop-done-preserved
loop-done-preserved g c =
    let was = c.loop-done.invariant in
    let now = c.in-Ok.ensures in
    record {
      within = omega arith;
      perms = perms_both c.args.self.now.pages c.loop-done.self.pages c.write_part.new.self.pages was.perms now.perms;
      bytes = bytes_on c.args.self.now.pages c.loop-done.self.pages c.write_part.new.self.pages _ _ _ c.args.addr c.args.bytes.now c.loop-done.done c.min-end.result (omega arith) (omega arith) was.bytes now.bytes;
      can = now.can;
      regions = now.regions ∙ was.regions;
      host = host_both _ _ _ _ _ _ was.host now.host;
      counts = now.cause ∙ was.counts;
    }
