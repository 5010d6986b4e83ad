-- What a slice holds are bytes.
use Rattle.std.proofs.Common.{arith}
use Rattle.guest_files.proofs.Bytes.{are_bytes}
use Rattle.guest_files.proofs.entries.count.Goals as goal

pub returns-clause-fit : goal.returns-clause-fit
returns-clause-fit c = are_bytes c.args.bytes.now (λ k. omega (arith, c.type_inv.bytes k))
