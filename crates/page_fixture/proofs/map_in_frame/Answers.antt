use Rattle.std.proofs.Common.{◌/◌}
use Rattle.machine_state.specs.Memory.{page_size}
use Rattle.guest_pages.proofs.Togethers.{mapped_some}
use Rattle.page_fixture.proofs.Entries.{perms_some, protected_some}
use Rattle.page_fixture.proofs.map_in_frame.Goals as goal

pub set_perms-requires-clause-mapped : goal.set_perms-requires-clause-mapped
set_perms-requires-clause-mapped c =
    perms_some c.map_page.new.self c.enter_at.new.pages (c.args.addr / page_size) c.enter_at.ensures.perms
    (mapped_some c.args.pages.now c.map_page.new.self (c.args.addr / page_size) _ c.in_ok-map_page.ensures.ok)

pub returns : goal.returns
returns c =
    protected_some c.enter_at.new.pages c.set_perms.new.self (c.args.addr / page_size) c.args.perms.0 c.set_perms.ensures.protected
    (perms_some c.map_page.new.self c.enter_at.new.pages (c.args.addr / page_size) c.enter_at.ensures.perms
    (mapped_some c.args.pages.now c.map_page.new.self (c.args.addr / page_size) _ c.in_ok-map_page.ensures.ok))
