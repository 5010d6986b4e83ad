use Rattle.std.proofs.Common.{◌≡◌, arith}
use Rattle.guest_pages.proofs.Chains.{fills_none, fills_on, fills_all}
use Rattle.guest_pages.proofs.lists.Lists.new.Goals as goal

pub loop-number-init : goal.loop-number-init
loop-number-init c = (c.in_ok-heads.ensures.len, c.in_ok-nexts.ensures.len, fills_none _ c.args.home c.in_ok-heads.ensures.none)

pub loop-number-preserved : goal.loop-number-preserved
loop-number-preserved c = (omega arith, omega arith, fills_on c.loop-number.new c.push.new.self c.args.home c.loop-number.number c.loop-number.invariant.2 c.push.ensures.pushed c.push.ensures.others)

pub returns-clause-listed : goal.returns-clause-listed
returns-clause-listed c =
    let all : c.loop-number.number ≡ c.args.numbers = omega arith in
    fills_all c.loop-number.new c.args.home c.args.numbers (rw (← all) c.loop-number.invariant.2) (omega arith)
