-- From the walk and the outcome of an instruction to what is performed.
use Rattle.std.proofs.Common.{◌≡◌, ◌↔◌, ℕ, Bool, true, false, cond, List, [], ◌∷◌, Option, Some, None, refl, sym, ap, ◌∙◌, slice_get}
use Rattle.machine_state.specs.declared.kinds.Kind.{Kind}
use Rattle.machine_state.specs.declared.kinds.Miss.{Miss}
use Rattle.machine_state.specs.declared.kinds.Miss.TheVariants.{Unmapped, Denied, NonCanonical, Away}
use Rattle.gpr_flags.specs.declared.kinds.Fault.{Fault}
use Rattle.gpr_flags.specs.declared.kinds.Fault.TheVariants.{General}
use Rattle.machine_state.specs.Memory.{Memory, Swap, Permissions, first_miss, or_else}
use Rattle.machine_state.specs.State.{State}
use Rattle.machine_state.specs.declared.kinds.Access.{Access}
use Rattle.machine_state.specs.declared.kinds.Stop.{Stop}
use Rattle.guest_pages.specs.Table.{Table, perms_in, first_away}
use Rattle.guest_pages.specs.Pages.{byte_of, memory_of}
use Rattle.guest_pages.specs.Walk.{stop_or, walk}
use Rattle.guest_pages.proofs.Walks.{first_away-away}
use Rattle.row_table.specs.declared.kinds.Row.{Row}
use Rattle.row_table.specs.declared.kinds.Decoded.{Decoded}
use Rattle.row_table.specs.Rows.{rows}
use Rattle.core_step.specs.declared.acted.Acted.{Acted}
use Rattle.core_step.specs.declared.acted.Acted.TheVariants.{Done, Call, Trap, Need}
use Rattle.core_step.specs.declared.machine.Machine.{Machine}
use Rattle.gpr_flags.specs.declared.kinds.Flags.{Flags}
use Rattle.core_step.specs.declared.kinds.Outcome.{Outcome}
use Rattle.core_step.specs.declared.strings.StringPlan.{StringPlan}
use Rattle.core_step.specs.declared.kinds.Plan.{Plan}
use Rattle.core_step.specs.Fits.{ActedFits}
use Rattle.core_step.specs.Access.{access_fault, fault_or, first_fault, acted_by_miss}
use Rattle.core_step.specs.Effect.{Effect, After, processor_of, left_by}
use Rattle.core_step.specs.Plain.{steps_after}
use Rattle.core_step.specs.Strings.{is_over, passed_over, iterated, strings_effect}
use Rattle.core_step.specs.Plan.{plan_of, plan_accesses, effect_of}
use Rattle.core_step.specs.Alignment.{is_misaligned}
use Rattle.core_step.specs.Act.{trapped, unless, performed_along, performed_as, performed_row, performed}
use Rattle.core_step.specs.Machine.{after_of, state_of, processor_in, IsWhole, IsLeft, accesses, accesses_by, away_in, needed}
use Rattle.core_step.proofs.Frame.{carried-is}

-- ---- a walk stops at the first fault on whole memory, or at a page that is away
-- a miss that isn't that of a page that is away
abbrev pub IsDenial : Miss → Type 0
IsDenial miss = (slot : ℕ) → miss ≡ Away slot → ⊥

-- where one access stops the walk, it is the first fault
fault-here : (miss away : Option Miss) (kind : Kind) (rest : Option Stop) (more : Option Fault) (stop : Stop)
    → ((why : Miss) → away ≡ Some why → (slot : ℕ) × (why ≡ Away slot)) → IsDenial stop.miss
    → (rest ≡ Some stop → more ≡ Some (access_fault stop.kind stop.miss)) → stop_or kind (or_else miss away) rest ≡ Some stop
    → fault_or kind miss more ≡ Some (access_fault stop.kind stop.miss)
fault-here None None kind rest more stop tells denial later e = later e
fault-here None (Some why) kind rest more stop tells denial later e =
    let there = tells why refl in absurd (same why kind stop denial e there.0 there.1)
  where
    same : (why : Miss) (kind : Kind) (stop : Stop) → IsDenial stop.miss
        → ◌≡◌ {A = Option Stop} (Some (record { kind = kind; miss = why })) (Some stop) → IsDenial why
    same why kind stop denial e = let is : why ≡ stop.miss = cc in rw is denial
fault-here (Some why) away kind rest more stop tells denial later e =
    let is : why ≡ stop.miss = cc in let kind_is : kind ≡ stop.kind = cc in rw (is, kind_is) refl

-- where a denial stops the walk, it is the first fault
pub faults-first : (table : Table) (xs : List Access) (stop : Stop) → IsDenial stop.miss → walk table xs ≡ Some stop
    → first_fault (perms_in table) xs ≡ Some (access_fault stop.kind stop.miss)
unfolding walk first_fault
faults-first table [] stop denial e = cc
faults-first table (x ∷ xs) stop denial e =
    fault-here (first_miss (perms_in table) x.kind x.addr x.len) (first_away table x.addr x.len) x.kind (walk table xs)
    (first_fault (perms_in table) xs) stop (first_away-away table x.addr x.len) denial (faults-first table xs stop denial) e

-- where one access doesn't stop the walk, it doesn't fault
no-fault-here : (miss away : Option Miss) (kind : Kind) (rest : Option Stop) (more : Option Fault) → (rest ≡ None → more ≡ None)
    → stop_or kind (or_else miss away) rest ≡ None → fault_or kind miss more ≡ None
no-fault-here None None kind rest more later e = later e
no-fault-here None (Some why) kind rest more later e = cc
no-fault-here (Some why) away kind rest more later e = cc

-- where nothing stops the walk, no access misses on whole memory
pub no-fault : (table : Table) (xs : List Access) → walk table xs ≡ None → first_fault (perms_in table) xs ≡ None
unfolding walk first_fault
no-fault table [] e = refl
no-fault table (x ∷ xs) e =
    no-fault-here (first_miss (perms_in table) x.kind x.addr x.len) (first_away table x.addr x.len) x.kind (walk table xs)
    (first_fault (perms_in table) xs) (no-fault table xs) e

-- ---- what is performed
-- an instruction whose alignment is broken
module _ (d : Decoded) (len : ℕ) (s : State) (row : Row) (there : slice_get rows d.row ≡ Some row) where
  pub performed-misaligned : is_misaligned row d len s ≡ true → performed d len s ≡ trapped General s
  unfolding performed
  performed-misaligned broken =
      ap (λ (r : Option Row). performed_row r d len s) there
      ∙ ap (λ (b : Bool). cond b (trapped General s) (performed_as (plan_of row d len s) s)) broken

  performed-aligned : is_misaligned row d len s ≡ false → performed d len s ≡ performed_as (plan_of row d len s) s
  unfolding performed
  performed-aligned kept =
      ap (λ (r : Option Row). performed_row r d len s) there
      ∙ ap (λ (b : Bool). cond b (trapped General s) (performed_as (plan_of row d len s) s)) kept

  pub accesses-misaligned : is_misaligned row d len s ≡ true → accesses d len s ≡ []
  unfolding accesses
  accesses-misaligned broken =
      ap (λ (r : Option Row). accesses_by r d len s) there
      ∙ ap (λ (b : Bool). cond b [] (plan_accesses (plan_of row d len s) s)) broken

  pub accesses-aligned : is_misaligned row d len s ≡ false → accesses d len s ≡ plan_accesses (plan_of row d len s) s
  unfolding accesses
  accesses-aligned kept =
      ap (λ (r : Option Row). accesses_by r d len s) there
      ∙ ap (λ (b : Bool). cond b [] (plan_accesses (plan_of row d len s) s)) kept

-- an instruction performed is its first fault, or what it leaves
performed_as-is : (plan : Plan) (s : State) → performed_as plan s ≡ performed_along (plan_accesses plan s) plan s
unfolding performed_as
performed_as-is plan s = refl

performed-by : (d : Decoded) (len : ℕ) (s : State) (row : Row) (plan : Plan) (table : Table)
    → slice_get rows d.row ≡ Some row → is_misaligned row d len s ≡ false → plan ≡ plan_of row d len s → s.memory.perms ≡ perms_in table
    → performed d len s ≡ unless (first_fault (perms_in table) (plan_accesses plan s)) (plan_accesses plan s) plan s
performed-by d len s row plan table there kept is perms =
    performed-aligned d len s row there kept ∙ ap (λ (p : Plan). performed_as p s) (sym is) ∙ performed_as-is plan s
    ∙ ap (λ (p : Permissions). unless (first_fault p (plan_accesses plan s)) (plan_accesses plan s) plan s) perms

-- an instruction whose access isn't allowed
pub performed-stops : (d : Decoded) (len : ℕ) (s : State) (row : Row) (plan : Plan) (table : Table) (stop : Stop)
    → slice_get rows d.row ≡ Some row → is_misaligned row d len s ≡ false → plan ≡ plan_of row d len s → s.memory.perms ≡ perms_in table
    → walk table (plan_accesses plan s) ≡ Some stop → IsDenial stop.miss
    → performed d len s ≡ trapped (access_fault stop.kind stop.miss) s
performed-stops d len s row plan table stop there kept is perms e denial =
    performed-by d len s row plan table there kept is perms
    ∙ ap (λ (fault : Option Fault). unless fault (plan_accesses plan s) plan s) (faults-first table (plan_accesses plan s) stop denial e)

-- an instruction whose accesses can be made
pub performed-passes : (d : Decoded) (len : ℕ) (s : State) (row : Row) (plan : Plan) (table : Table)
    → slice_get rows d.row ≡ Some row → is_misaligned row d len s ≡ false → plan ≡ plan_of row d len s → s.memory.perms ≡ perms_in table
    → walk table (plan_accesses plan s) ≡ None → performed d len s ≡ left_by (effect_of plan (processor_of s) s.memory.byte) s.memory
performed-passes d len s row plan table there kept is perms e =
    performed-by d len s row plan table there kept is perms
    ∙ ap (λ (fault : Option Fault). unless fault (plan_accesses plan s) plan s) (no-fault table (plan_accesses plan s) e) ∙ carried-is plan s

-- nothing stops a walk along no accesses
pub walk-none : (table : Table) → walk table [] ≡ None
unfolding walk
walk-none table = refl

-- ---- the answers
-- an access that isn't allowed, or a page that is away
pub whole-stopped : (d : Decoded) (len : ℕ) (m : Machine) (kind : Kind) (miss : Miss)
    → ((w : Swap) → IsDenial miss → performed d len (state_of m w) ≡ trapped (access_fault kind miss) (state_of m w))
    → IsWhole d len m m (acted_by_miss kind miss)
whole-stopped d len m kind (Unmapped addr) h = λ w. sym (h w (λ slot e. cc))
whole-stopped d len m kind (Denied addr) h = λ w. sym (h w (λ slot e. cc))
whole-stopped d len m kind (NonCanonical addr) h = λ w. sym (h w (λ slot e. cc))
whole-stopped d len m kind (Away slot) h = λ w. refl

-- a stop needs a page exactly where its miss is that the page is away
pub stop-needs : (kind : Kind) (miss : Miss) (slot : ℕ) → (acted_by_miss kind miss ≡ Need slot) ↔ (away_in miss ≡ Some slot)
stop-needs kind (Unmapped addr) slot = (λ e. cc, λ e. cc)
stop-needs kind (Denied addr) slot = (λ e. cc, λ e. cc)
stop-needs kind (NonCanonical addr) slot = (λ e. cc, λ e. cc)
stop-needs kind (Away other) slot = (λ e. cc, λ e. cc)

-- a stop isn't counted
pub stopped-counts : (kind : Kind) (miss : Miss) (steps : ℕ) → steps_after (acted_by_miss kind miss) steps ≡ steps
stopped-counts kind (Unmapped addr) steps = refl
stopped-counts kind (Denied addr) steps = refl
stopped-counts kind (NonCanonical addr) steps = refl
stopped-counts kind (Away slot) steps = refl

-- an answer that needs no page
pub whole-own : (d : Decoded) (len : ℕ) (old new : Machine) (acted : Acted) → ((slot : ℕ) → acted ≡ Need slot → ⊥)
    → ((w : Swap) → after_of acted new w ≡ performed d len (state_of old w)) → IsWhole d len old new acted
whole-own d len old new Done own h = h
whole-own d len old new Call own h = h
whole-own d len old new (Trap fault) own h = h
whole-own d len old new (Need slot) own h = absurd (own slot refl)

-- an answer that needs no page, where nothing stops the walk
pub own-needs : (acted : Acted) (table : Table) (xs : List Access) (slot : ℕ) → (acted ≡ Need slot → ⊥) → walk table xs ≡ None
    → (acted ≡ Need slot) ↔ (needed (walk table xs) ≡ Some slot)
own-needs acted table xs slot own none = (λ e. absurd (own e), λ e. absurd (let clash : None ≡ Some slot = ap needed (sym none) ∙ e in cc))

-- ---- what an instruction leaves
-- what is done needs no page
pub done-own : (slot : ℕ) → ◌≡◌ {A = Acted} Done (Need slot) → ⊥
done-own slot e = cc

-- nor does an outcome
pub outcome-own : (acted : Acted) (o : Outcome) (f : Flags) → ActedFits acted o f → (slot : ℕ) → acted ≡ Need slot → ⊥
outcome-own Done o f fits slot e = cc
outcome-own Call o f fits slot e = cc
outcome-own (Trap fault) o f fits slot e = cc
outcome-own (Need other) o f fits slot e = absurd fits

-- an effect's state, by its parts
pub left-is : (e : Effect) (memory : Memory) (acted : Acted) (t : State) → acted ≡ e.acted → t.gprs ≡ e.processor.gprs
    → t.flags ≡ e.processor.flags → t.rip ≡ e.processor.rip → t.extended ≡ e.processor.extended → t.fs ≡ e.processor.fs
    → t.gs ≡ e.processor.gs → t.steps ≡ e.processor.steps → t.memory.perms ≡ memory.perms → t.memory.byte ≡ e.byte
    → (let after : After = record { acted = acted; state = t } in after) ≡ left_by e memory
left-is e memory acted t acts gprs flags rip extended fs gs steps perms byte = λ k. record {
  acted = acts k;
  state = record {
    gprs = gprs k;
    flags = flags k;
    rip = rip k;
    extended = extended k;
    fs = fs k;
    gs = gs k;
    steps = steps k;
    memory = record { perms = perms k; byte = byte k };
  };
}

-- the effect of an instruction on strings is one of two
pub left-strings : (over : Bool) (old new : Machine) (acted : Acted) (i : StringPlan) → is_over i old.gprs ≡ over
    → IsLeft old new acted (λ p byte. cond over (passed_over i p byte) (iterated i p byte)) → IsLeft old new acted (strings_effect i)
left-strings over old new acted i is left = record {
  after = λ w.
      left.after w
      ∙ ap (λ (b : Bool). left_by (cond b (passed_over i (processor_in old) (byte_of old.pages w)) (iterated i (processor_in old) (byte_of old.pages w))) (memory_of old.pages w)) (sym is);
  own = left.own;
  table = left.table;
  counted = left.counted;
}
