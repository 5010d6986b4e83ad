use Rattle.std.proofs.Common.{true, ap, ◌∙◌, sym, subst}
use Rattle.guest_pages.specs.Pages.{table_of}
use Rattle.guest_pages.specs.Walk.{walk}
use Rattle.core_step.specs.Pages.{TouchesAtMost}
use Rattle.core_step.specs.Machine.{state_of}
use Rattle.core_step.proofs.Steps.{performed-misaligned, accesses-misaligned, walk-none, own-needs}
use Rattle.core_step.proofs.Performed.{row-performed}
use Rattle.core_step.proofs.Local.{local}
use Rattle.core_step.proofs.Frame.{framed}
use Rattle.core_step.proofs.PageCounts.{none-touch}
use Rattle.core_step.proofs.Carried.{aligned-is, carried-whole, carried-need, carried-waits, carried-defined, carried-few}
use Rattle.core_step.proofs.machine.Machine.perform_prepared.Goals as goal

-- ---- alignment is broken
pub returns-then-is_misaligned-clause-whole : goal.returns-then-is_misaligned-clause-whole
returns-then-is_misaligned-clause-whole c w =
    let s = state_of c.args.self.now w in
    sym (performed-misaligned c.args.p.now.decoded c.args.p.now.len s c.requires.prepared.row c.requires.prepared.row_is
    (aligned-is c.args.p.now c.requires.prepared s true (sym (c.is_misaligned.ensures w) ∙ c.if-is_misaligned.true)))

pub returns-then-is_misaligned-clause-need : goal.returns-then-is_misaligned-clause-need
returns-then-is_misaligned-clause-need c w slot =
    let s = state_of c.args.self.now w in
    own-needs _ (table_of c.args.self.now.pages) _ slot (λ e. cc)
    (ap (walk (table_of c.args.self.now.pages))
    (accesses-misaligned c.args.p.now.decoded c.args.p.now.len s c.requires.prepared.row c.requires.prepared.row_is
    (aligned-is c.args.p.now c.requires.prepared s true (sym (c.is_misaligned.ensures w) ∙ c.if-is_misaligned.true)))
    ∙ walk-none (table_of c.args.self.now.pages))

pub returns-then-is_misaligned-clause-few : goal.returns-then-is_misaligned-clause-few
returns-then-is_misaligned-clause-few c w =
    let s = state_of c.args.self.now w in
    subst (TouchesAtMost 4)
    (sym (accesses-misaligned c.args.p.now.decoded c.args.p.now.len s c.requires.prepared.row c.requires.prepared.row_is
    (aligned-is c.args.p.now c.requires.prepared s true (sym (c.is_misaligned.ensures w) ∙ c.if-is_misaligned.true)))) none-touch

pub returns-then-is_misaligned-clause-local : goal.returns-then-is_misaligned-clause-local
returns-then-is_misaligned-clause-local c w = local c.args.p.now.decoded c.args.p.now.len (state_of c.args.self.now w)

pub returns-then-is_misaligned-clause-framed : goal.returns-then-is_misaligned-clause-framed
returns-then-is_misaligned-clause-framed c w = framed c.args.p.now.decoded c.args.p.now.len (state_of c.args.self.now w)

pub returns-then-is_misaligned-clause-performed : goal.returns-then-is_misaligned-clause-performed
returns-then-is_misaligned-clause-performed c row is = row-performed c.args.p.now.decoded.row row is

-- ---- it is carried out
pub returns-clause-whole : goal.returns-clause-whole
returns-clause-whole c =
    carried-whole c.args.p.now c.requires.prepared c.args.self.now
    c.carry_out.new.self c.carry_out.result (λ w. sym (c.is_misaligned.ensures w) ∙ c.if-is_misaligned.false) c.carry_out.ensures

pub returns-clause-need : goal.returns-clause-need
returns-clause-need c w slot =
    carried-need c.args.p.now c.requires.prepared c.args.self.now
    c.carry_out.new.self c.carry_out.result (λ w. sym (c.is_misaligned.ensures w) ∙ c.if-is_misaligned.false) c.carry_out.ensures w slot

pub returns-clause-waits : goal.returns-clause-waits
returns-clause-waits c slot is =
    carried-waits c.args.p.now c.requires.prepared c.args.self.now
    c.carry_out.new.self c.carry_out.result (λ w. sym (c.is_misaligned.ensures w) ∙ c.if-is_misaligned.false) c.carry_out.ensures slot is

pub returns-clause-defined : goal.returns-clause-defined
returns-clause-defined c =
    carried-defined c.args.p.now c.requires.prepared c.args.self.now
    c.carry_out.new.self c.carry_out.result (λ w. sym (c.is_misaligned.ensures w) ∙ c.if-is_misaligned.false) c.carry_out.ensures

pub returns-clause-few : goal.returns-clause-few
returns-clause-few c w =
    carried-few c.args.p.now c.requires.prepared c.args.self.now
    c.carry_out.new.self c.carry_out.result (λ w. sym (c.is_misaligned.ensures w) ∙ c.if-is_misaligned.false) c.carry_out.ensures w

pub returns-clause-performed : goal.returns-clause-performed
returns-clause-performed c row is = row-performed c.args.p.now.decoded.row row is

pub returns-clause-local : goal.returns-clause-local
returns-clause-local c w = local c.args.p.now.decoded c.args.p.now.len (state_of c.args.self.now w)

pub returns-clause-framed : goal.returns-clause-framed
returns-clause-framed c w = framed c.args.p.now.decoded c.args.p.now.len (state_of c.args.self.now w)
