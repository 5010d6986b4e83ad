use Rattle.std.proofs.Common.{◌≡◌}
use Rattle.xemu_top.proofs.loading.load_file.Given as goal

abbrev pub invariant-loop-room : goal.invariant-loop-room
invariant-loop-room g l = record {
  holds : g.H.Host.holds l.host ≡ g.H.Host.holds l.initial.host;
  opened : g.H.Host.opened l.host ≡ g.H.Host.opened l.initial.host;
  faults : g.H.Host.faults l.host ≡ g.H.Host.faults l.initial.host;
}
