use Rattle.std.proofs.Common.{Ok, map, string_bytes, take}
use Rattle.guest_files.specs.Entries.{guest_file}
use Rattle.guest_run.specs.Guests.{Around}
use Rattle.xemu_top.specs.Parts.{StoresFiles, with_host}
use Rattle.xemu_top.proofs.storing.store_files.Given as goal

abbrev pub invariant-loop-place : goal.invariant-loop-place
invariant-loop-place g l =
    (a : Around) → StoresFiles (map string_bytes l.words) (map guest_file l.entries) (take l.place-index l.places)
    (with_host a (g.H.Host.holds l.initial.host) (g.H.Host.opened l.initial.host) (g.H.Host.faults l.initial.host))
    (with_host a (g.H.Host.holds l.host) (g.H.Host.opened l.host) (g.H.Host.faults l.host)) (Ok tt)
