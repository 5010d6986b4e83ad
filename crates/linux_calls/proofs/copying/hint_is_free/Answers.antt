use Rattle.std.proofs.Common.{◌≡◌, ◌%◌, sym, arith, true, eq-eqb}
use Rattle.machine_state.specs.Memory.{page_size}
use Rattle.linux_calls.specs.Call.{is_page}
use Rattle.linux_calls.proofs.CopyLemmas.{hint_none, hint_some}
use Rattle.linux_calls.proofs.copying.hint_is_free.Goals as goal

pub returns-in-Some : goal.returns-in-Some
returns-in-Some c =
    let page : c.args.hint % page_size ≡ 0 = omega arith in
    let is : is_page c.args.hint ≡ true = eq-eqb (c.args.hint % page_size) 0 page in
    rw is (hint_some c.args.regions.now.regions c.args.hint c.args.count c.saturating_add.result c.requires (omega arith) page (omega arith) c.in-Some.addr c.in-Some.ensures)

pub returns-in-None : goal.returns-in-None
returns-in-None c =
    let page : c.args.hint % page_size ≡ 0 = omega arith in
    let is : is_page c.args.hint ≡ true = eq-eqb (c.args.hint % page_size) 0 page in
    rw is (sym (hint_none c.args.regions.now.regions c.args.hint c.args.count c.saturating_add.result c.requires (omega arith) page (omega arith) c.in-None.ensures))
