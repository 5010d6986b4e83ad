use Rattle.guest_pages.specs.Table.{perms_in}
use Rattle.guest_pages.specs.Pages.{table_of}
use Rattle.guest_transfers.proofs.PartLemmas.{are_low, part_free, part_some, part_within, part_one_page}
use Rattle.guest_transfers.proofs.pieces.part.Goals as goal

pub part_of-requires : goal.part_of-requires
part_of-requires c = record { low = are_low c.args.pages.now c.args.kind c.args.pieces.now c.limit.ensures.memory c.requires.allowed }

pub returns-clause-some : goal.returns-clause-some
returns-clause-some c = λ h. rw c.part_of.ensures (part_some c.args.kind c.args.pieces.now c.args.done h)

pub returns-clause-within : goal.returns-clause-within
returns-clause-within c = rw c.part_of.ensures (part_within c.args.kind c.args.pieces.now c.args.done)

pub returns-clause-one_page : goal.returns-clause-one_page
returns-clause-one_page c = rw c.part_of.ensures (part_one_page c.args.kind c.args.pieces.now c.args.done)

pub returns-clause-free : goal.returns-clause-free
returns-clause-free c = rw c.part_of.ensures (part_free (perms_in (table_of c.args.pages.now)) c.args.kind c.args.pieces.now c.args.done c.requires.allowed)
