use Rattle.std.proofs.Common.{◌∙◌}
use Rattle.machine_state.specs.declared.kinds.Kind.TheVariants.{Read}
use Rattle.guest_pages.proofs.Aways.{blocked_away}
use Rattle.guest_run.proofs.ByteLemmas.{here-brought, read-ready, told-brought, told-failed}
use Rattle.guest_run.proofs.bytes.byte_brought.Goals as goal

pub bring-requires-clause-away : goal.bring-requires-clause-away
bring-requires-clause-away g c = blocked_away c.args.guest.now.machine.pages Read c.args.addr 1 c.args.slot c.requires.away

pub returns-in-Ok : goal.returns-in-Ok
returns-in-Ok g c left out err take puts err_puts =
    let old = c.args.guest.now in
    let new = c.bring.new.guest in
    let brings = c.in-Ok.ensures.brings in
    let ready = here-brought old.machine.pages new.machine.pages c.args.addr c.args.slot brings.brought c.requires.away in
    let read = read-ready new.machine.pages c.args.addr c.byte_here.result c.byte_here.ensures ready in
    told-brought c.args.addr old new c.args.slot _ _ _ _ _ _ left out err take puts err_puts c.requires.works c.requires.away c.in-Ok.field-0 brings c.ok.result read.0
    (c.ok.ensures.value ∙ read.1) read.2

pub returns-in-Err : goal.returns-in-Err
returns-in-Err g c left out err take puts err_puts =
    told-failed c.args.addr c.args.guest.now c.bring.new.guest c.args.slot _ _ _ _ _ _ left out err take puts err_puts c.requires.works c.requires.away
    c.in-Err.call c.in-Err.ensures.brings
