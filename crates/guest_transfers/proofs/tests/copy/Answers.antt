use Rattle.machine_state.specs.declared.kinds.Kind.TheVariants.{Read}
use Rattle.guest_pages.specs.Pages.{table_of}
use Rattle.guest_transfers.proofs.PartLemmas.{answered_ok, mapped_range}
use Rattle.guest_transfers.proofs.tests.copy.Goals as goal

pub copy_file-requires-clause-mapped : goal.copy_file-requires-clause-mapped
copy_file-requires-clause-mapped c = mapped_range (table_of c.args.pages.now) Read c.args.addr c.args.count (answered_ok _ _ c.in-Ok.ensures.answer)
