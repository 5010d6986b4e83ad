use Rattle.std.proofs.Common.{◌≡◌, false, sym, subst}
use Rattle.guest_pages.specs.Table.{Table}
use Rattle.guest_pages.specs.Pages.{table_of}
use Rattle.linux_calls.specs.Call.{r10}
use Rattle.linux_calls.specs.Mapping.{is_anonymous}
use Rattle.linux_calls.specs.View.{view_of}
use Rattle.linux_calls.specs.Passing.{PassesCopy}
use Rattle.linux_calls.proofs.PassLemmas.{passed_as}
use Rattle.linux_calls.proofs.copying.fill.Goals as goal

pub returns-clause-exact : goal.returns-clause-exact
returns-clause-exact c =
    let v = view_of c.args.w.now in
    let new = view_of c.copy_on.new.w in
    passed_as (λ stop. PassesCopy (table_of v.pages) v c.args.at 0) (λ stop. is_anonymous (r10 v.gprs) ≡ false → PassesCopy (table_of new.pages) v c.args.at 0) c.copy_on.result
    (λ stop passed file. subst (λ (t : Table). PassesCopy t v c.args.at 0) (sym c.copy_on.ensures.table) passed) c.copy_on.ensures.exact
