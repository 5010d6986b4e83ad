use Rattle.std.proofs.Common.{Some, None, is_none, ap, sym}
use Rattle.guest_run.proofs.ByteLemmas.{allowed-here, byte-here, denied-here, no_byte-here, told-here}
use Rattle.guest_run.proofs.bytes.byte.Goals as goal

pub returns-in-Ok : goal.returns-in-Ok
returns-in-Ok g c left out err take puts err_puts =
    let pages = c.args.guest.now.machine.pages in
    let allowed = allowed-here pages c.args.addr c.in-Ok.ensures.0 in
    told-here c.args.addr c.args.guest.now _ (Some c.in-Ok.byte) c.requires.works (sym (ap is_none allowed))
    (λ swap. byte-here pages c.args.addr swap c.in-Ok.byte allowed (c.in-Ok.ensures.1 swap))

pub returns-in-Err-Unmapped : goal.returns-in-Err-Unmapped
returns-in-Err-Unmapped g c left out err take puts err_puts =
    let pages = c.args.guest.now.machine.pages in
    let denied = denied-here pages c.args.addr _ (rw c.in-Err-Unmapped.field-0-is at c.in-Err-Unmapped.ensures) (λ slot away. cc) in
    told-here c.args.addr c.args.guest.now _ None c.requires.works (sym (ap is_none denied)) (λ swap. no_byte-here pages c.args.addr swap _ denied)

pub returns-in-Err-Denied : goal.returns-in-Err-Denied
returns-in-Err-Denied g c left out err take puts err_puts =
    let pages = c.args.guest.now.machine.pages in
    let denied = denied-here pages c.args.addr _ (rw c.in-Err-Denied.field-0-is at c.in-Err-Denied.ensures) (λ slot away. cc) in
    told-here c.args.addr c.args.guest.now _ None c.requires.works (sym (ap is_none denied)) (λ swap. no_byte-here pages c.args.addr swap _ denied)

pub returns-in-Err-NonCanonical : goal.returns-in-Err-NonCanonical
returns-in-Err-NonCanonical g c left out err take puts err_puts =
    let pages = c.args.guest.now.machine.pages in
    let denied = denied-here pages c.args.addr _ (rw c.in-Err-NonCanonical.field-0-is at c.in-Err-NonCanonical.ensures) (λ slot away. cc) in
    told-here c.args.addr c.args.guest.now _ None c.requires.works (sym (ap is_none denied)) (λ swap. no_byte-here pages c.args.addr swap _ denied)
