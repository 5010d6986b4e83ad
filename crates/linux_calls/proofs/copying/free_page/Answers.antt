use Rattle.std.proofs.Common.{◌∙◌, sym, ℕ, Option, Some, None}
use Rattle.linux_calls.proofs.CopyLemmas.{highest_is}
use Rattle.linux_calls.proofs.copying.free_page.Goals as goal

abbrev no_addr : Option ℕ
no_addr = None

pub returns-in-Some-clause-page : goal.returns-in-Some-clause-page
returns-in-Some-clause-page c =
    rw (sym c.hint_is_free.ensures ∙ c.if-hint_is_free.false) (highest_is c.args.regions.now.regions c.args.count (Some c.in-Some.addr) c.requires c.in-Some.ensures)

pub returns-in-None-clause-page : goal.returns-in-None-clause-page
returns-in-None-clause-page c =
    rw (sym c.hint_is_free.ensures ∙ c.if-hint_is_free.false) (highest_is c.args.regions.now.regions c.args.count no_addr c.requires c.in-None.ensures)
