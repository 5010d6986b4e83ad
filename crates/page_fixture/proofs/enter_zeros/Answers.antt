use Rattle.page_fixture.proofs.Entries.{entered_perms, entered_count}
use Rattle.page_fixture.proofs.enter_zeros.Goals as goal

pub returns-then-has_free-clause-perms : goal.returns-then-has_free-clause-perms
returns-then-has_free-clause-perms c = entered_perms c.args.pages.now c.enter.new.self c.args.slot _ c.requires.away c.enter.ensures.entered

pub returns-then-has_free-clause-count : goal.returns-then-has_free-clause-count
returns-then-has_free-clause-count c = entered_count c.args.pages.now c.enter.new.self c.args.slot _ c.requires.away c.enter.ensures.entered
