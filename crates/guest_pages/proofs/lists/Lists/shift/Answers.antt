use Rattle.std.proofs.Common.{arith}
use Rattle.guest_pages.proofs.Chains.{shifted}
use Rattle.guest_pages.proofs.lists.Lists.shift.Goals as goal

pub returns-clause-listed : goal.returns-clause-listed
returns-clause-listed c = λ home home_is listed.
    shifted c.args.self.now c.remove.new.self c.push.new.self home c.args.number c.args.from c.args.to home_is listed (omega arith) (omega arith) c.remove.ensures.removed c.remove.ensures.others
    c.push.ensures.pushed c.push.ensures.others (omega arith) (omega arith)
