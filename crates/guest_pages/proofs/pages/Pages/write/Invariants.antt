use Rattle.std.proofs.Common.{◌≤◌, ◌-◌, length, take}
use Rattle.guest_pages.specs.Changes.{IsWritten}
use Rattle.guest_pages.proofs.pages.Pages.write.Given as goal

abbrev pub invariant-loop-done : goal.invariant-loop-done
invariant-loop-done l = (l.done ≤ length l.bytes) × IsWritten l.fn.self l.self l.addr (take l.done l.bytes)

abbrev pub decreases-loop-done : goal.decreases-loop-done
decreases-loop-done l = length l.bytes - l.done
