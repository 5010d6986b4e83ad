-- A guest before its first step stands for the first world of its program.
use Rattle.std.proofs.Common.{◌≡◌, ℕ, ◌≤◌, false, List, length, Option, Some, None, Err, refl, ap, arith}
use Rattle.std.proofs.lemmas.Bool.{le-leb}
use Rattle.machine_state.specs.State.{State}
use Rattle.machine_state.specs.World.{World, GuestFile, first_descriptors}
use Rattle.machine_state.specs.declared.kinds.Place.{Place}
use Rattle.host_edge.specs.declared.outside.HostCall.{HostCall}
use Rattle.host_edge.specs.declared.outside.HostCall.TheVariants.{Load, Store, SwapOpen, SwapGet, SwapPut, Take, PutOut, PutErr}
use Rattle.host_edge.specs.Causes.{Counts}
use Rattle.host_edge.specs.Files.{Held}
use Rattle.region_map.specs.Calls.{RegionsValue}
use Rattle.core_step.specs.Machine.{state_of}
use Rattle.start_stack.specs.Stack.{stack_size, longest_stack, random_after}
use Rattle.program_load.specs.Load.{Program, first_regions, first_state, first_world}
use Rattle.program_load.specs.Faults.{IsSwapCaused}
use Rattle.linux_calls.specs.Outside.{Standing}
use Rattle.guest_run.specs.declared.guest.Guest.{Guest}
use Rattle.guest_run.specs.declared.starting.Limits.{Limits}
use Rattle.guest_run.specs.Tally.{IsCounted, tally}
use Rattle.guest_run.specs.Starting.{IsPrepared, prepare_calls, stack_fault}

pub fault-none : (program : Program) → stack_size program.args program.env ≤ longest_stack → stack_fault program ≡ None
fault-none program fits = rw (le-leb (stack_size program.args program.env) longest_stack fits) refl

-- the regions of a program's first world, as a guest has them
abbrev pub regions_at_first : Program → RegionsValue
regions_at_first program = record { regions = first_regions program.image; heap = program.image.heap; at = program.image.heap }

pub is_prepared : (program : Program) (limits : Limits) (files : List GuestFile) (held : Option Held) (g : Guest)
    → ((told : Held) → held ≡ Some told → state_of g.machine told.page ≡ first_state program)
    → length g.machine.pages.slots ≡ limits.pages → g.files.cap ≡ limits.cap → g.files.places ≡ first_descriptors → g.files.files ≡ files
    → g.regions ≡ regions_at_first program → g.random ≡ random_after program.seed
    → g.machine.steps ≡ 0 → g.end ≡ None → g.failed ≡ false → stack_size program.args program.env ≤ longest_stack
    → IsPrepared program limits files held g
unfolding first_world
is_prepared program limits files held g state pages cap places kept regions random steps goes works fits =
    let first : Standing → World = λ on. first_world program limits.pages limits.cap files on.left on.out on.err in
    let put : Standing → State → ℕ → ℕ → List (Option Place) → List GuestFile → RegionsValue → ℕ → World =
    λ on s n c p f r x. record (first on) {
      state = s;
      pages = n;
      cap = c;
      regions = r.regions;
      heap_start = r.heap;
      break_at = r.at;
      descriptors = p;
      files = f;
      random = x;
    } in
    record {
      stands = λ told is s on tells. record {
        parts = λ i. put on (state told is i) (pages i) (cap i) (places i) (kept i) (regions i) (random i);
        streams_are = tells;
      };
      steps = steps;
      goes = goes;
      works = works;
      short = fault-none program fits;
    }

-- a call on the swap that failed while the program was loaded is one of those that are made before the first step
pub load-counted : {T : Type 0} → (swap : Option T) (call : HostCall) (old new : Counts) → IsSwapCaused (Err call) old new → (take out err : ℕ)
    → IsCounted (prepare_calls swap) (Some call) (tally old take out err) (tally new take out err)
load-counted None SwapGet old new cause take out err = ((0, omega arith, refl), cause.1, ap (λ (x : Counts). tally x take out err) cause.2)
load-counted (Some path) SwapGet old new cause take out err = ((1, omega arith, refl), cause.1, ap (λ (x : Counts). tally x take out err) cause.2)
load-counted None SwapPut old new cause take out err = ((1, omega arith, refl), cause.1, ap (λ (x : Counts). tally x take out err) cause.2)
load-counted (Some path) SwapPut old new cause take out err = ((2, omega arith, refl), cause.1, ap (λ (x : Counts). tally x take out err) cause.2)
load-counted swap (Load word) old new cause take out err = absurd cause
load-counted swap (Store word) old new cause take out err = absurd cause
load-counted swap SwapOpen old new cause take out err = absurd cause
load-counted swap Take old new cause take out err = absurd cause
load-counted swap PutOut old new cause take out err = absurd cause
load-counted swap PutErr old new cause take out err = absurd cause
