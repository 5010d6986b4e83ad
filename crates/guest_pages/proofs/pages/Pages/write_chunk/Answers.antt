use Rattle.std.proofs.Common.{length, arith}
use Rattle.machine_state.specs.declared.kinds.Kind.TheVariants.{Write}
use Rattle.guest_pages.specs.Pages.{table_of}
use Rattle.guest_pages.proofs.Walks.{blocked_part}
use Rattle.guest_pages.proofs.pages.Pages.write_chunk.Goals as goal

pub lend_ready-requires-clause-ready : goal.lend_ready-requires-clause-ready
lend_ready-requires-clause-ready c =
    blocked_part (table_of c.args.self.now) Write c.args.addr (length c.args.bytes.now) c.args.done _ (omega arith) c.requires.ready
