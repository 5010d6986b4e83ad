use Rattle.std.proofs.Common.{◌∙◌, ap}
use Rattle.guest_run.specs.Tally.{Tally, tally}
use Rattle.xemu_top.proofs.loading.load_file.Goals.{then-room-most+in-Long, else-room-most}
use Rattle.xemu_top.proofs.loading.load_file.Goals as goal

pub loop-room-preserved : goal.loop-room-preserved
loop-room-preserved g c =
    let h = c.loop-room.invariant in
    elim c.if-room-most.branch [
      | then-room-most+in-Long w ↦ rw w.host-is (record {
        holds = w.in-Long.ensures.holds ∙ h.holds;
        opened = w.in-Long.ensures.opened ∙ h.opened;
        faults = ap (λ (t : Tally). t.host) (w.in-Long.ensures.cause 0 (tally (g.H.Host.faults c.args.host.now) 0 0 0)) ∙ h.faults;
      })
      | else-room-most w ↦ rw w.host-is h
    ]
