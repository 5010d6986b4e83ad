use Rattle.std.proofs.Common.{◌≡◌, [], take}
use Rattle.std.specs.List.{fold}
use Rattle.host_edge.specs.Files.{Becomes}
use Rattle.guest_pages.specs.Changes.{KeepsSize}
use Rattle.program_load.specs.Load.{with_segment, file_byte}
use Rattle.program_load.specs.Loading.{AreReady, HaveBytes, KeepsHost}
use Rattle.program_load.proofs.load.Loaded.load_segments.Given as goal

abbrev pub invariant-loop-segment : goal.invariant-loop-segment
invariant-loop-segment g l = record {
  regions : l.self.regions.regions ≡ fold with_segment [] (take l.segment-index l.segments);
  bytes : Becomes (HaveBytes (λ byte. file_byte l.bytes (take l.segment-index l.segments)) l.initial.self.pages l.self.pages) (g.H.Host.holds l.initial.host) (g.H.Host.holds l.host);
  heap : l.self.regions.heap ≡ l.initial.self.regions.heap;
  at : l.self.regions.at ≡ l.initial.self.regions.at;
  ready : AreReady l.self.pages l.self.regions.regions (g.H.Host.holds l.host) (g.H.Host.opened l.host);
  size : KeepsSize l.initial.self.pages l.self.pages;
  host : KeepsHost (g.H.Host.holds l.initial.host) (g.H.Host.holds l.host) (g.H.Host.opened l.initial.host) (g.H.Host.opened l.host);
  counts : g.H.Host.faults l.host ≡ g.H.Host.faults l.initial.host;
}
