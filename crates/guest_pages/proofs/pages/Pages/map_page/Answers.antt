use Rattle.std.proofs.lemmas.Bool.{false≢true}
use Rattle.guest_pages.proofs.Maps.{not_full}
use Rattle.guest_pages.proofs.pages.Pages.map_page.Goals as goal

pub returns-in-Some-clause-full : goal.returns-in-Some-clause-full
returns-in-Some-clause-full c = (λ h. absurd (false≢true h), λ h. absurd (not_full c.args.self.now _ c.in-Some.k c.in-Some.ensures h.0 h.1))
