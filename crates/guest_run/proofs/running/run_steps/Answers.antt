use Rattle.std.proofs.Common.{◌≡◌, ◌∙◌, ◌-◌, ◌+◌, ◌<◌, ◌≤◌, ℕ, suc, None, arith}
use Rattle.guest_run.proofs.TryLemmas.{course-then}
use Rattle.guest_run.proofs.GuestLemmas.{loads-made, ran-budget, ran-ends, ran-loads, ran-loads_so_far, ran-on, ran-stopped, run-budget, run-ended, run-stopped}
use Rattle.guest_run.proofs.running.run_steps.Goals as goal

-- one step more, of those that were to be made
one-more : (now new upto : ℕ) → new ≡ now + 1 → now < upto → (upto - now ≡ suc (upto - new)) × (new ≤ upto)
one-more now new upto counted below = (omega (arith, counted, below), omega (arith, counted, below))

-- one step that isn't counted
some-more : (now upto : ℕ) → now < upto → upto - now ≡ suc (upto - now - 1)
some-more now upto below = omega (arith, below)

-- how many steps were made with the next one
made : (first now upto : ℕ) → first ≤ now → now < upto → upto - first - (upto - now) + 1 ≡ now + 1 - first
made first now upto later below = omega (arith, later, below)

pub steps-preserved : goal.steps-preserved
steps-preserved g c =
    let step = rw c.in-Ok-None.field-0-is at c.in-Ok-None.ensures in
    let more = one-more c.steps.guest.machine.steps c.step.new.guest.machine.steps c.args.upto step.counted c.steps-test.true in
    record {
      within = more.1;
      later = let later = c.steps.invariant.later in let counted = step.counted in omega (arith, later, counted);
      goes = step.end.end ∙ c.steps.invariant.goes;
      guest = record {
        between = step.between;
        works = step.end.failed ∙ c.steps.invariant.guest.works;
        signal = rw (step.end.end ∙ c.steps.invariant.goes) tt;
      };
      so_far = ran-on c.args.guest.now c.steps.guest c.step.new.guest _ _ _ _ _ _ more.0 c.steps.invariant.so_far c.steps.invariant.course step;
      course = course-then _ _ _ None c.steps.invariant.course step.course;
    }

pub returns-in-Ok-Some : goal.returns-in-Ok-Some
returns-in-Ok-Some g c =
    let end = c.in-Ok-Some.end in
    let first = c.args.guest.now.machine.steps in
    let now = c.steps.guest.machine.steps in
    let new = c.step.new.guest.machine.steps in
    let step = rw c.in-Ok-Some.field-0-is at c.in-Ok-Some.ensures in
    let more = one-more now new c.args.upto step.counted c.steps-test.true in
    let later = c.steps.invariant.later in
    let counted = step.counted in
    let count : c.args.upto - first - (c.args.upto - now) + 1 ≡ new - first = let below = c.steps-test.true in omega (arith, later, below, counted) in
    rw c.run_end.ensures
    (run-ended c.args.guest.now c.step.new.guest _ _ _ c.requires.goes end
    (ran-ends c.args.guest.now c.steps.guest c.step.new.guest _ _ _ _ _ _ more.0 c.steps.invariant.so_far c.steps.invariant.course end step)
    (loads-made c.args.guest.now c.step.new.guest _ _ _ _ count
    (ran-loads c.args.guest.now c.steps.guest c.step.new.guest _ _ _ _ _ _ more.0 c.steps.invariant.so_far c.steps.invariant.course _ step))
    (omega (arith, later, counted)) (let most = more.1 in omega (arith, later, counted, most))
    step.between (step.end.failed ∙ c.steps.invariant.guest.works) step.signal (course-then _ _ _ None c.steps.invariant.course step.course))

pub returns-in-Err : goal.returns-in-Err
returns-in-Err g c =
    let call = c.in-Err.call in
    let first = c.args.guest.now.machine.steps in
    let now = c.steps.guest.machine.steps in
    let new = c.step.new.guest.machine.steps in
    let more = some-more now c.args.upto c.steps-test.true in
    let later = c.steps.invariant.later in
    let below = c.steps-test.true in
    let counted = c.in-Err.ensures.counted in
    let count : c.args.upto - first - (c.args.upto - now) + 1 ≡ new - first + 1 = omega (arith, later, below, counted) in
    run-stopped c.args.guest.now c.step.new.guest _ _ _ c.requires.goes call
    (ran-stopped c.args.guest.now c.steps.guest c.step.new.guest _ _ _ _ _ _ more c.steps.invariant.so_far c.steps.invariant.course call c.step.new.guest.end c.in-Err.ensures)
    (loads-made c.args.guest.now c.step.new.guest _ _ _ _ count
    (ran-loads c.args.guest.now c.steps.guest c.step.new.guest _ _ _ _ _ _ more c.steps.invariant.so_far c.steps.invariant.course _ c.in-Err.ensures))
    (omega (arith, later, counted)) (omega (arith, later, counted, below))
    (course-then _ _ _ _ c.steps.invariant.course c.in-Err.ensures.course)

pub returns : goal.returns
returns g c =
    let within = c.steps.invariant.within in
    let later = c.steps.invariant.later in
    let over = c.steps-test.false in
    let none : c.args.upto - c.steps.guest.machine.steps ≡ 0 = omega (arith, over) in
    let all : c.args.upto - c.args.guest.now.machine.steps - (c.args.upto - c.steps.guest.machine.steps) ≡ c.args.upto - c.args.guest.now.machine.steps =
    omega (arith, none) in
    run-budget c.args.guest.now c.steps.guest _ _ _ c.requires.goes c.steps.invariant.goes
    (ran-budget c.args.guest.now c.steps.guest _ _ _ _ none c.steps.invariant.so_far)
    (loads-made c.args.guest.now c.steps.guest _ _ _ _ all (ran-loads_so_far c.args.guest.now c.steps.guest _ _ _ _ c.steps.invariant.so_far))
    later (omega (arith, within, over)) c.steps.invariant.guest c.steps.invariant.course
