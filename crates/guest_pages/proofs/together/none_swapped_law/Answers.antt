use Rattle.guest_pages.proofs.Togethers.{none_blank, none_mapped, none_protected}
use Rattle.guest_pages.proofs.together.none_swapped_law.Goals as goal

pub returns-clause-blank : goal.returns-clause-blank
returns-clause-blank c = none_blank

pub returns-clause-mapped : goal.returns-clause-mapped
returns-clause-mapped c = none_mapped

pub returns-clause-protected : goal.returns-clause-protected
returns-clause-protected c = none_protected
