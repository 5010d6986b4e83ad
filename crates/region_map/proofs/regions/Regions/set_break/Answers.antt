use Rattle.std.proofs.lemmas.Result.{err_from_is_err_and}
use Rattle.region_map.proofs.regions.Regions.set_break.Goals as goal

pub returns-in_err-check_break-clause-answer : goal.returns-in_err-check_break-clause-answer
returns-in_err-check_break-clause-answer c =
    let p = err_from_is_err_and c.from_residual.result c.from_residual.ensures.1 in
    rw (p.1, p.2) (c.in_err-check_break.ensures c.args.pages.now)
