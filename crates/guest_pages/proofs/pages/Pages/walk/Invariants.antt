use Rattle.std.proofs.Common.{◌≡◌, drop}
use Rattle.guest_pages.specs.Pages.{table_of}
use Rattle.guest_pages.specs.Walk.{walk}
use Rattle.guest_pages.proofs.pages.Pages.walk.Given as goal

-- what stops the walk along the accesses that are left stops the whole walk
abbrev pub invariant-loop-access : goal.invariant-loop-access
invariant-loop-access l = walk (table_of l.self) (drop l.access-index l.accesses) ≡ walk (table_of l.self) l.accesses
