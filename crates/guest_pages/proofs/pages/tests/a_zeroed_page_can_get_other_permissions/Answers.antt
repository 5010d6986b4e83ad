use Rattle.guest_pages.proofs.Togethers.{mapped_some, zeroed_stays}
use Rattle.guest_pages.proofs.pages.tests.a_zeroed_page_can_get_other_permissions.Goals as goal

pub set_perms-requires-clause-mapped : goal.set_perms-requires-clause-mapped
set_perms-requires-clause-mapped g c = zeroed_stays _ _ 2 (mapped_some _ _ 2 3 c.in_ok-map_page.ensures.ok) c.zero_page.ensures.zeroed
