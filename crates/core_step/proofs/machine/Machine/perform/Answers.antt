use Rattle.std.proofs.Common.{◌≡◌, ◌↔◌, ℕ, Some, subst}
use Rattle.guest_pages.specs.Pages.{table_of}
use Rattle.guest_pages.specs.Walk.{walk}
use Rattle.row_table.specs.declared.kinds.Decoded.{Decoded}
use Rattle.core_step.specs.declared.acted.Acted.TheVariants.{Need}
use Rattle.core_step.specs.Machine.{state_of, IsLocal, accesses, needed}
use Rattle.core_step.proofs.machine.Machine.perform.Goals as goal

pub returns-clause-need : goal.returns-clause-need
returns-clause-need c w slot =
    let P : Decoded → ℕ → Type 0 = λ d len.
    (c.perform_prepared.result ≡ Need slot)
    ↔ (needed (walk (table_of c.args.self.now.pages) (accesses d len (state_of c.args.self.now w))) ≡ Some slot) in
    subst (λ (d : Decoded). P d c.args.len) c.prepare.ensures.decoded
    (subst (λ (len : ℕ). P c.prepare.result.decoded len) c.prepare.ensures.len (c.perform_prepared.ensures.need w slot))

pub returns-clause-local : goal.returns-clause-local
returns-clause-local c w =
    subst (λ (d : Decoded). IsLocal d c.args.len (state_of c.args.self.now w)) c.prepare.ensures.decoded
    (subst (λ (len : ℕ). IsLocal c.prepare.result.decoded len (state_of c.args.self.now w)) c.prepare.ensures.len
    (c.perform_prepared.ensures.local w))
