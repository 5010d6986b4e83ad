use Rattle.std.proofs.Common.{arith, add-zero}
use Rattle.machine_state.specs.declared.kinds.Kind.TheVariants.{Read}
use Rattle.guest_pages.specs.Pages.{table_of}
use Rattle.guest_pages.proofs.Walks.{blocked_part}
use Rattle.guest_transfers.specs.Buffers.{record_size}
use Rattle.guest_transfers.proofs.buffers.buffer.Goals as goal

pub load-requires-clause-ready : goal.load-requires-clause-ready
load-requires-clause-ready c = rw add-zero at (blocked_part (table_of c.args.pages.now) Read c.args.addr record_size 0 8 (omega arith) c.requires.ready)

pub load-requires-2-clause-ready : goal.load-requires-2-clause-ready
load-requires-2-clause-ready c = blocked_part (table_of c.args.pages.now) Read c.args.addr record_size 8 8 (omega arith) c.requires.ready
