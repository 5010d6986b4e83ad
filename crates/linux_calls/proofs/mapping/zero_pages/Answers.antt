use Rattle.std.proofs.Common.{◌≡◌, ◌*◌, ◌/◌, arith}
use Rattle.linux_calls.proofs.ZeroLemmas.{zeroed_step}
use Rattle.linux_calls.proofs.mapping.zero_pages.Goals as goal

pub loop-page-preserved : goal.loop-page-preserved
loop-page-preserved c =
    let here : c.loop-page.page * 4096 / 4096 ≡ c.loop-page.page = omega arith in
    zeroed_step c.args.first c.loop-page.page c.args.pages.now c.loop-page.pages c.zero_page.new.self (omega arith) c.loop-page.invariant
    (c.requires.mapped c.loop-page.page (omega arith) (omega arith)) (rw here at c.zero_page.ensures.zeroed)
