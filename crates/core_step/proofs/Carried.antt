-- An instruction that is carried out along its access list is performed.
use Rattle.std.proofs.Common.{[], ◌≡◌, ◌↔◌, false, Some, Option, refl, ap, ◌∙◌, sym, subst, inl, inr}
use Rattle.machine_state.specs.Memory.{Swap}
use Rattle.machine_state.specs.declared.kinds.Stop.{Stop}
use Rattle.machine_state.specs.State.{State}
use Rattle.guest_pages.specs.Changes.{KeepsTable}
use Rattle.guest_pages.specs.Pages.{table_of, byte_of, memory_of}
use Rattle.guest_pages.specs.Walk.{walk}
use Rattle.core_step.specs.declared.acted.Acted.{Acted}
use Rattle.core_step.specs.declared.acted.Acted.TheVariants.{Need}
use Rattle.core_step.specs.declared.kinds.Plan.{Plan}
use Rattle.core_step.specs.declared.machine.Machine.{Machine}
use Rattle.core_step.specs.declared.prepared.Prepared.{Prepared}
use Rattle.core_step.specs.Fits.{PlanFits}
use Rattle.core_step.specs.Alignment.{is_misaligned}
use Rattle.core_step.specs.Forms.{plan_by_form, is_misaligned_by, IsPrepared}
use Rattle.core_step.specs.Pages.{TouchesAtMost}
use Rattle.core_step.specs.Effect.{After}
use Rattle.core_step.specs.Plain.{steps_after}
use Rattle.core_step.specs.Plan.{plan_of, next_of, plan_accesses, effect_of}
use Rattle.core_step.specs.Machine.{state_of, processor_in, IsWhole, IsCarriedOut, accesses, needed}
use Rattle.core_step.proofs.Steps.{accesses-aligned, performed-stops, performed-passes, whole-stopped, whole-own, stop-needs, own-needs, stopped-counts}
use Rattle.core_step.proofs.Performed.{IsDefined, row-performed, plan-defined, miss-defined}
use Rattle.core_step.proofs.PageCounts.{plan-touch}

-- what is prepared is what the row and the fields say
pub aligned-is : (p : Prepared) (h : IsPrepared p) (s : State) (broken : _) → is_misaligned_by p.alignment (next_of p.len s) s ≡ broken
    → is_misaligned h.row p.decoded p.len s ≡ broken
aligned-is p h s broken e = sym (h.alignment p.len s) ∙ e

plan-is : (p : Prepared) (h : IsPrepared p) (s : State) (plan : Plan) → plan ≡ plan_by_form p.form p.decoded.fields (next_of p.len s) s
    → plan ≡ plan_of h.row p.decoded p.len s
unfolding plan_of
plan-is p h s plan e = e ∙ h.plan (next_of p.len s) s

-- the plan of an instruction that is prepared
abbrev pub prepared_plan : Prepared → Machine → Swap → Plan
prepared_plan p m w = plan_by_form p.form p.decoded.fields (next_of p.len (state_of m w)) (state_of m w)

module _ (p : Prepared) (h : IsPrepared p) (old new : Machine) (acted : Acted)
    (aligned : (w : Swap) → is_misaligned_by p.alignment (next_of p.len (state_of old w)) (state_of old w) ≡ false)
    (carried : IsCarriedOut (prepared_plan p old) old new acted) where
  found-is : (w : Swap) → carried.found ≡ plan_of h.row p.decoded p.len (state_of old w)
  found-is w = plan-is p h (state_of old w) carried.found (carried.is w)

  kept : (w : Swap) → is_misaligned h.row p.decoded p.len (state_of old w) ≡ false
  kept w = aligned-is p h (state_of old w) false (aligned w)

  accesses-are : (w : Swap) → accesses p.decoded p.len (state_of old w) ≡ plan_accesses carried.found (state_of old w)
  accesses-are w =
      accesses-aligned p.decoded p.len (state_of old w) h.row h.row_is (kept w)
      ∙ ap (λ (plan : Plan). plan_accesses plan (state_of old w)) (sym (found-is w))

  pub carried-whole : IsWhole p.decoded p.len old new acted
  unfolding memory_of
  carried-whole = elim carried.end as (λ _. IsWhole p.decoded p.len old new acted) [
    | inl finished ↦
        whole-own p.decoded p.len old new acted finished.left.own
        (λ w. finished.left.after w
        ∙ sym (performed-passes p.decoded p.len (state_of old w) h.row carried.found (table_of old.pages) h.row_is (kept w) (found-is w) refl
        (finished.ready w)))
    | inr stopped ↦
        let P : Machine → Acted → Type 0 = λ m a. IsWhole p.decoded p.len old m a in
        subst (λ (m : Machine). P m acted) (sym stopped.same)
        (subst (P old) (sym stopped.answer)
        (whole-stopped p.decoded p.len old stopped.stop.kind stopped.stop.miss
        (λ w denial. performed-stops p.decoded p.len (state_of old w) h.row carried.found (table_of old.pages) stopped.stop h.row_is (kept w)
        (found-is w) refl (stopped.stops w) denial)))
  ]

  pub carried-need : (w : Swap) (slot : _)
      → (acted ≡ Need slot) ↔ (needed (walk (table_of old.pages) (accesses p.decoded p.len (state_of old w))) ≡ Some slot)
  carried-need w slot =
      elim carried.end as (λ _. (acted ≡ Need slot) ↔ (needed (walk (table_of old.pages) (accesses p.decoded p.len (state_of old w))) ≡ Some slot)) [
        | inl finished ↦
            own-needs acted (table_of old.pages) (accesses p.decoded p.len (state_of old w)) slot (finished.left.own slot)
            (ap (walk (table_of old.pages)) (accesses-are w) ∙ finished.ready w)
        | inr stopped ↦
            let P : Option Stop → Acted → Type 0 = λ stop a. (a ≡ Need slot) ↔ (needed stop ≡ Some slot) in
            subst (λ (stop : Option Stop). P stop acted) (sym (ap (walk (table_of old.pages)) (accesses-are w) ∙ stopped.stops w))
            (subst (P (Some stopped.stop)) (sym stopped.answer) (stop-needs stopped.stop.kind stopped.stop.miss slot))
      ]

  pub carried-waits : (slot : _) → acted ≡ Need slot → new ≡ old
  carried-waits slot is = elim carried.end as (λ _. new ≡ old) [
    | inl finished ↦ absurd (finished.left.own slot is)
    | inr stopped ↦ stopped.same
  ]

  pub carried-pages : KeepsTable old.pages old.pages → KeepsTable old.pages new.pages
  carried-pages same = elim carried.end as (λ _. KeepsTable old.pages new.pages) [
    | inl finished ↦ finished.left.table
    | inr stopped ↦ subst (λ (m : Machine). KeepsTable old.pages m.pages) (sym stopped.same) same
  ]

  pub carried-counted : new.steps ≡ steps_after acted old.steps
  carried-counted = elim carried.end as (λ _. new.steps ≡ steps_after acted old.steps) [
    | inl finished ↦ finished.left.counted
    | inr stopped ↦
        ap (λ (m : Machine). m.steps) stopped.same ∙ sym (stopped-counts stopped.stop.kind stopped.stop.miss old.steps)
        ∙ ap (λ (a : Acted). steps_after a old.steps) (sym stopped.answer)
  ]

  pub carried-defined : IsDefined acted
  carried-defined = elim carried.end as (λ _. IsDefined acted) [
    | inl finished ↦
        let zeros : Swap = λ slot. [] in
        let byte = byte_of old.pages zeros in
        let s = state_of old zeros in
        let is : (effect_of (plan_of h.row p.decoded p.len s) (processor_in old) byte).acted ≡ acted =
        ap (λ (plan : Plan). (effect_of plan (processor_in old) byte).acted) (sym (found-is zeros))
        ∙ ap (λ (after : After). after.acted) (sym (finished.left.after zeros)) in
        subst IsDefined is (plan-defined h.row p.decoded p.len s (processor_in old) byte (row-performed _ h.row h.row_is))
    | inr stopped ↦ subst IsDefined (sym stopped.answer) (miss-defined stopped.stop.kind stopped.stop.miss)
  ]

  pub carried-few : (w : Swap) → TouchesAtMost 4 (accesses p.decoded p.len (state_of old w))
  carried-few w =
      let s = state_of old w in
      subst (TouchesAtMost 4) (sym (accesses-aligned p.decoded p.len s h.row h.row_is (kept w)))
      (plan-touch h.row p.decoded p.len s (subst PlanFits (found-is w) carried.fits))
