use Rattle.std.proofs.Common.{◌/◌}
use Rattle.machine_state.specs.declared.kinds.Kind.TheVariants.{Read}
use Rattle.machine_state.specs.Memory.{page_size}
use Rattle.guest_pages.proofs.Togethers.{clean_zeroed}
use Rattle.swap_pager.proofs.Trials.{allowed_mapped, zeroed_slots}
use Rattle.swap_pager.proofs.tests.make_change.Goals as goal

pub zero_page-requires-clause-mapped : goal.zero_page-requires-clause-mapped
zero_page-requires-clause-mapped c = allowed_mapped c.args.pages.now Read c.args.addr c.allowed.result c.allowed.ensures.answer c.in-Ok.is

pub returns-in-Ok-clause-clean : goal.returns-in-Ok-clause-clean
returns-in-Ok-clause-clean c = λ swap clean.
    clean_zeroed c.args.pages.now c.zero_page.new.self swap (c.args.addr / page_size) (allowed_mapped c.args.pages.now Read c.args.addr c.allowed.result c.allowed.ensures.answer c.in-Ok.is)
    c.zero_page.ensures.zeroed clean

pub returns-in-Ok-clause-slots : goal.returns-in-Ok-clause-slots
returns-in-Ok-clause-slots c =
    zeroed_slots c.args.pages.now c.zero_page.new.self (c.args.addr / page_size) (allowed_mapped c.args.pages.now Read c.args.addr c.allowed.result c.allowed.ensures.answer c.in-Ok.is) c.zero_page.ensures.zeroed
