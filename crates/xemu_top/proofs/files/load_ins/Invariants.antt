use Rattle.std.proofs.Common.{◌≡◌, map, string_bytes, take}
use Rattle.guest_files.specs.Entries.{guest_file}
use Rattle.xemu_top.proofs.FileLemmas.{AreLoaded}
use Rattle.xemu_top.proofs.files.load_ins.Given as goal

abbrev pub invariant-loop-place : goal.invariant-loop-place
invariant-loop-place g l = record {
  loaded : AreLoaded (map string_bytes l.words) l.command (take l.place-index l.place-items) (g.H.Host.holds l.initial.host) (map guest_file l.ins.items);
  holds : g.H.Host.holds l.host ≡ g.H.Host.holds l.initial.host;
  opened : g.H.Host.opened l.host ≡ g.H.Host.opened l.initial.host;
  faults : g.H.Host.faults l.host ≡ g.H.Host.faults l.initial.host;
}
