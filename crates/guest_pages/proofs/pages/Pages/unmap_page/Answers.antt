use Rattle.guest_pages.proofs.Tables.{table_some}
use Rattle.guest_pages.proofs.Protects.{unmapped_absent}
use Rattle.guest_pages.proofs.pages.Pages.unmap_page.Goals as goal

pub returns-in-Some-clause-absent : goal.returns-in-Some-clause-absent
returns-in-Some-clause-absent c = λ none. absurd (table_some c.args.self.now _ c.in-Some.k c.in-Some.ensures none)

pub returns-in_default-clause-unmapped : goal.returns-in_default-clause-unmapped
returns-in_default-clause-unmapped c = unmapped_absent c.args.self.now _ c.in_default.ensures
