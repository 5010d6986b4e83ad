use Rattle.std.proofs.Common.{◌≤◌, ◌-◌, length, take}
use Rattle.guest_pages.specs.Changes.{IsShown}
use Rattle.guest_pages.proofs.pages.Pages.read.Given as goal

abbrev pub invariant-loop-done : goal.invariant-loop-done
invariant-loop-done l = (l.done ≤ length l.into) × IsShown l.self l.addr l.done (take l.done l.into)

abbrev pub decreases-loop-done : goal.decreases-loop-done
decreases-loop-done l = length l.initial.into - l.done
