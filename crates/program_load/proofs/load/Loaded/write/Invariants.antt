use Rattle.std.proofs.Common.{◌≡◌, ◌≤◌, ◌-◌, length, take}
use Rattle.machine_state.specs.Memory.{written}
use Rattle.host_edge.specs.Files.{Becomes}
use Rattle.swap_pager.specs.Paging.{CanPage}
use Rattle.program_load.specs.Loading.{KeepsPerms, HaveBytes, KeepsHost}
use Rattle.program_load.proofs.load.Loaded.write.Given as goal

abbrev pub invariant-loop-done : goal.invariant-loop-done
invariant-loop-done g l = record {
  within : l.done ≤ length l.bytes;
  perms : KeepsPerms l.initial.self.pages l.self.pages;
  bytes : Becomes (HaveBytes (λ byte. written byte l.addr (take l.done l.bytes)) l.initial.self.pages l.self.pages) (g.H.Host.holds l.initial.host) (g.H.Host.holds l.host);
  can : CanPage l.self.pages (g.H.Host.holds l.host) (g.H.Host.opened l.host);
  regions : l.self.regions ≡ l.initial.self.regions;
  host : KeepsHost (g.H.Host.holds l.initial.host) (g.H.Host.holds l.host) (g.H.Host.opened l.initial.host) (g.H.Host.opened l.host);
  counts : g.H.Host.faults l.host ≡ g.H.Host.faults l.initial.host;
}

abbrev pub decreases-loop-done : goal.decreases-loop-done
decreases-loop-done g l = length l.bytes - l.done
