use Rattle.std.proofs.Common.{◌/◌, ◌+◌, refl}
use Rattle.machine_state.specs.Memory.{page_size}
use Rattle.linux_calls.specs.View.{view_of}
use Rattle.linux_calls.proofs.MappingLemmas.{unmapped_done, unmapped_refused}
use Rattle.std.proofs.Common.{rules}
use Rattle.region_map.specs.declared.kinds.Change.TheVariants.{Unmap}
use Rattle.linux_calls.proofs.SwapLemmas.{swap_changed}
use Rattle.linux_calls.proofs.mapping.unmap.Goals as goal

pub returns-in-Ok-clause-kept : goal.returns-in-Ok-clause-kept
returns-in-Ok-clause-kept c = record {
  parts = search rules;
  pages = search rules;
  swap = swap_changed Unmap (c.args.start / page_size) (c.args.start / page_size + c.args.count) c.args.w.now.regions.now.regions c.unmap.new.self.regions
      c.args.w.now.pages.now c.unmap.new.pages c.in-Ok.ensures.ok;
}

pub returns-in-Ok-clause-does : goal.returns-in-Ok-clause-does
returns-in-Ok-clause-does c =
    unmapped_done (view_of c.args.w.now) (c.args.start / page_size) (c.args.start / page_size + c.args.count) c.unmap.new.pages c.unmap.new.self
    (λ pass. let e = c.in-Ok.ensures.full.1 pass in cc) c.in-Ok.ensures.ok c.in-Ok.ensures.fit c.in-Ok.ensures.heap.0 c.in-Ok.ensures.heap.1

pub returns-in-Err-clause-does : goal.returns-in-Err-clause-does
returns-in-Err-clause-does c =
    unmapped_refused (view_of c.args.w.now) (c.args.start / page_size) (c.args.start / page_size + c.args.count) c.unmap.new.pages c.unmap.new.self
    (c.in-Err.ensures.full.0 refl) c.in-Err.ensures.err.0 c.in-Err.ensures.err.1
