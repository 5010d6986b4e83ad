use Rattle.std.proofs.Common.{arith, refl}
use Rattle.program_load.proofs.tests.load.Goals as goal

pub returns-in-Ok-load_pages : goal.returns-in-Ok-load_pages
returns-in-Ok-load_pages g c =
    let can = c.in-Ok-load_pages.ensures.can_page in
    let size = c.in-Ok-load_pages.ensures.size.1 in
    let opened = c.load_pages.ensures.opened in
    (omega arith, can.clean _ refl)
