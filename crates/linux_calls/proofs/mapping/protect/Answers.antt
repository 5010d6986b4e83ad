use Rattle.std.proofs.Common.{◌/◌}
use Rattle.machine_state.specs.Memory.{page_size}
use Rattle.linux_calls.specs.View.{view_of}
use Rattle.linux_calls.proofs.MappingLemmas.{protected_done, protected_refused}
use Rattle.std.proofs.Common.{rules, ◌+◌}
use Rattle.region_map.specs.declared.kinds.Change.TheVariants.{Protect}
use Rattle.linux_calls.proofs.SwapLemmas.{swap_changed}
use Rattle.linux_calls.proofs.mapping.protect.Goals as goal

pub returns-in-Ok-clause-kept : goal.returns-in-Ok-clause-kept
returns-in-Ok-clause-kept c = record {
  parts = search rules;
  pages = search rules;
  swap = swap_changed (Protect c.args.perms) (c.args.start / page_size) (c.args.start / page_size + c.args.count) c.args.w.now.regions.now.regions c.protect.new.self.regions
      c.args.w.now.pages.now c.protect.new.pages c.in-Ok.ensures.ok;
}

pub returns-in-Ok-clause-does : goal.returns-in-Ok-clause-does
returns-in-Ok-clause-does c =
    protected_done (view_of c.args.w.now) c.args.perms (c.args.start / page_size) c.args.count c.requires.high c.protect.new.pages c.protect.new.self
    c.in-Ok.ensures.answer c.in-Ok.ensures.ok c.in-Ok.ensures.fit c.in-Ok.ensures.heap.0 c.in-Ok.ensures.heap.1

pub returns-in-Err-clause-does : goal.returns-in-Err-clause-does
returns-in-Err-clause-does c =
    protected_refused (view_of c.args.w.now) c.args.perms (c.args.start / page_size) c.args.count c.requires.high c.protect.new.pages c.protect.new.self
    c.in-Err.field-0 c.in-Err.ensures.answer c.in-Err.ensures.err.0 c.in-Err.ensures.err.1
