-- Calls from their beginning.
use Rattle.std.proofs.Common.{◌≡◌, ℕ, ◌%◌, ◌^◌, Bool, true, false, cond, Option, Some, None, Result, Ok, Err, refl, sym, ap, ◌∙◌, subst}
use Rattle.machine_state.specs.Memory.{Swap}
use Rattle.machine_state.specs.World.{World as Whole}
use Rattle.guest_transfers.specs.Moves.{PathWaits}
use Rattle.linux_calls.specs.declared.kinds.Call.{Call}
use Rattle.linux_calls.specs.declared.kinds.Stage.{Stage}
use Rattle.linux_calls.specs.declared.kinds.Stage.TheVariants.{Start, Listing, Moving, Copying}
use Rattle.linux_calls.specs.declared.kinds.Halt.{Halt}
use Rattle.linux_calls.specs.declared.kinds.Halt.TheVariants.{Refused, Need, Failed}
use Rattle.linux_calls.specs.Call.{Called, Exits as ExitsWith, refuses, rax, rdi}
use Rattle.linux_calls.specs.Table.{act, acted, call_numbered, called, ends_guest, exit_call}
use Rattle.linux_calls.specs.Rest.{ProgressValue, listing_rest, moving_rest, rest_of, stage_rest, transfer_of}
use Rattle.linux_calls.specs.Transfers.{list_rest, transfer_rest}
use Rattle.linux_calls.specs.Mapping.{copy_rest}
use Rattle.linux_calls.specs.Errnos.{enosys}
use Rattle.linux_calls.specs.declared.kinds.Transfer.{Transfer}
use Rattle.linux_calls.specs.View.{View, StandsFor, with_parts}
use Rattle.linux_calls.specs.Waiting.{is_start, CanGoOnBy, IsNeeded, NeedsAtStart, NeedsBy, NeedsFirst, NeedsFor, NeedsIn}
use Rattle.linux_calls.specs.Following.{Does, DoesPart, FollowsAt, KeepsAside, exit_by, exit_of}
use Rattle.linux_calls.specs.Outside.{Streams}
use Rattle.linux_calls.specs.declared.kinds.Call.TheVariants.{Exit, ExitGroup}
use Rattle.linux_calls.specs.declared.kinds.CallEnd.TheVariants.{Exit as ExitEnd}

-- a progress by its stage
pub stands_at : (progress : ProgressValue) (stage : Stage) → progress.stage ≡ stage → record { stage = stage; pieces = progress.pieces } ≡ progress
stands_at progress stage is = ap (λ (s : Stage). let at : ProgressValue = record { stage = s; pieces = progress.pieces } in at) (sym is)

-- the whole of a call is left at its beginning
pub rest_begins : (v : View) (call : Call) (swap : Swap) (base : Whole) → v.progress.stage ≡ Start → call_numbered (rax v.gprs) ≡ Some call
    → rest_of v.progress (with_parts swap v base) ≡ act call (with_parts swap v base)
unfolding rest_of called
rest_begins v call swap base begins is =
    ap (λ (stage : Stage). stage_rest stage v.progress.pieces (with_parts swap v base)) begins ∙ ap (λ (o : Option Call). acted o (with_parts swap v base)) is

pub part_of_does : (call : Call) (old new : View) (result : Result ℕ Halt) → old.progress.stage ≡ Start → call_numbered (rax old.gprs) ≡ Some call
    → Does (act call) old new result → DoesPart (act call) old new result
part_of_does call old new (Ok value) begins is does = does
part_of_does call old new (Err (Refused errno)) begins is does = does
part_of_does call old new (Err (Need slot)) begins is does = λ swap base.
    subst (λ (v : View). rest_of v.progress (with_parts swap v base) ≡ act call (with_parts swap old base)) (sym does) (rest_begins old call swap base begins is)
part_of_does call old new (Err (Failed other)) begins is does = absurd does

-- a call that waits at its beginning
waits : (call : Call) (old new : View) (slot : ℕ) → old.progress.stage ≡ Start → call_numbered (rax old.gprs) ≡ Some call → new ≡ old → NeedsFor call new slot → IsNeeded new slot
waits call old new slot begins is same needs =
    let stage : new.progress.stage ≡ Start = ap (λ (v : View). v.progress.stage) same ∙ begins in
    let number : call_numbered (rax new.gprs) ≡ Some call = ap (λ (v : View). call_numbered (rax v.gprs)) same ∙ is in
    record {
      needs = subst (λ (s : Stage). NeedsBy s new slot) (sym stage) (subst (λ (o : Option Call). NeedsAtStart o new slot) (sym number) needs);
      can_go_on = subst (λ (s : Stage). CanGoOnBy s new) (sym stage) tt;
    }

pub first_needs : (call : Call) (old new : View) (result : Result ℕ Halt) → old.progress.stage ≡ Start → call_numbered (rax old.gprs) ≡ Some call
    → Does (act call) old new result → NeedsFirst call new result → NeedsIn new result
first_needs call old new (Ok value) begins is does needs = tt
first_needs call old new (Err (Refused errno)) begins is does needs = tt
first_needs call old new (Err (Need slot)) begins is does needs = waits call old new slot begins is does needs
first_needs call old new (Err (Failed other)) begins is does needs = tt

pub rest_unknown : (v : View) (swap : Swap) (base : Whole) → v.progress.stage ≡ Start → call_numbered (rax v.gprs) ≡ None
    → rest_of v.progress (with_parts swap v base) ≡ refuses enosys (with_parts swap v base)
unfolding rest_of called
rest_unknown v swap base begins is =
    ap (λ (stage : Stage). stage_rest stage v.progress.pieces (with_parts swap v base)) begins ∙ ap (λ (o : Option Call). acted o (with_parts swap v base)) is

pub rest_listing : (v : View) (transfer : Transfer) (swap : Swap) (base : Whole) → v.progress.stage ≡ Listing → transfer_of v.gprs v.files 0 ≡ Some transfer
    → rest_of v.progress (with_parts swap v base) ≡ list_rest transfer v.progress.pieces (with_parts swap v base)
unfolding rest_of
rest_listing v transfer swap base stage is =
    ap (λ (s : Stage). stage_rest s v.progress.pieces (with_parts swap v base)) stage ∙ ap (λ (o : Option Transfer). listing_rest o v.progress.pieces (with_parts swap v base)) is

pub rest_moves : (v : View) (done : ℕ) (transfer : Transfer) (swap : Swap) (base : Whole) → v.progress.stage ≡ Moving done → transfer_of v.gprs v.files done ≡ Some transfer
    → rest_of v.progress (with_parts swap v base) ≡ transfer_rest transfer v.progress.pieces done (with_parts swap v base)
unfolding rest_of
rest_moves v done transfer swap base stage is =
    ap (λ (s : Stage). stage_rest s v.progress.pieces (with_parts swap v base)) stage ∙ ap (λ (o : Option Transfer). moving_rest o v.progress.pieces done (with_parts swap v base)) is

pub rest_copying : (v : View) (at done : ℕ) (swap : Swap) (base : Whole) → v.progress.stage ≡ Copying at done
    → rest_of v.progress (with_parts swap v base) ≡ copy_rest at done (with_parts swap v base)
unfolding rest_of
rest_copying v at done swap base stage = ap (λ (s : Stage). stage_rest s v.progress.pieces (with_parts swap v base)) stage

pub part_as : (work other : Whole → Called) (old new : View) (result : Result ℕ Halt) → ((swap : Swap) (base : Whole) → work (with_parts swap old base) ≡ other (with_parts swap old base))
    → DoesPart other old new result → DoesPart work old new result
part_as work other old new (Ok value) same does = λ swap base. same swap base ∙ does swap base
part_as work other old new (Err (Refused errno)) same does = λ swap base. same swap base ∙ does swap base
part_as work other old new (Err (Need slot)) same does = λ swap base. does swap base ∙ sym (same swap base)
part_as work other old new (Err (Failed call)) same does = does

never : (o : Option ℕ) (n : ℕ) → o ≡ None → o ≡ Some n → ⊥
never o n none some = cc

-- a call that doesn't end the guest
pub stays_on : (v : View) (call : Call) → v.progress.stage ≡ Start → call_numbered (rax v.gprs) ≡ Some call → exit_of v ≡ None → ends_guest call ≡ false
unfolding exit_of
stays_on v call begins is stays = here (ends_guest call) refl
  where
    there : (b : Bool) → ends_guest call ≡ b → exit_of v ≡ cond b (Some (rdi v.gprs % 2 ^ 8)) None
    there b e = rw (begins, is, e) refl

    here : (b : Bool) → ends_guest call ≡ b → b ≡ false
    here true e = absurd (never (exit_of v) (rdi v.gprs % 2 ^ 8) stays (there true e))
    here false e = refl

-- ---- a call that ends the guest
ends_act : (call : Call) (w : Whole) → ends_guest call ≡ true → act call w ≡ exit_call w
ends_act Exit w e = refl
ends_act ExitGroup w e = refl
ends_act other w e = cc

starts : (stage : Stage) → is_start stage ≡ true → stage ≡ Start
starts Start e = refl
starts Listing e = cc
starts (Moving done) e = cc
starts (Copying at done) e = cc

-- the call of an exit, and its status
record Exits (v : View) (code : ℕ) : Type 0 where
  begins : v.progress.stage ≡ Start
  call : Call
  is : call_numbered (rax v.gprs) ≡ Some call
  ends : ends_guest call ≡ true
  code_is : code ≡ rdi v.gprs % 2 ^ 8

exits : (v : View) (code : ℕ) → exit_of v ≡ Some code → Exits v code
unfolding exit_of
exits v code e = by_stage (is_start v.progress.stage) refl e
  where
    by_ends : (call : Call) → is_start v.progress.stage ≡ true → call_numbered (rax v.gprs) ≡ Some call → (b : Bool) → ends_guest call ≡ b → cond b (Some (rdi v.gprs % 2 ^ 8)) None ≡ Some code → Exits v code
    by_ends call begins is true ends h = record { begins = starts v.progress.stage begins; call = call; is = is; ends = ends; code_is = cc }
    by_ends call begins is false ends h = absurd (never None code refl h)

    by_call : is_start v.progress.stage ≡ true → (o : Option Call) → call_numbered (rax v.gprs) ≡ o → exit_by o v.gprs ≡ Some code → Exits v code
    by_call begins None is h = absurd (never None code refl h)
    by_call begins (Some call) is h = by_ends call begins is (ends_guest call) refl h

    by_stage : (b : Bool) → is_start v.progress.stage ≡ b → cond b (exit_by (call_numbered (rax v.gprs)) v.gprs) None ≡ Some code → Exits v code
    by_stage false begins h = absurd (never None code refl h)
    by_stage true begins h = by_call begins (call_numbered (rax v.gprs)) refl h

pub exit_begins : (v : View) (code : ℕ) → exit_of v ≡ Some code → v.progress.stage ≡ Start
exit_begins v code e = (exits v code e).begins

pub exit_follows : (v : View) (code : ℕ) (s : Streams) → exit_of v ≡ Some code → FollowsAt v v s s (ExitEnd code)
exit_follows v code s e swap from stands told =
    let x = exits v code e in
    let rest : rest_of v.progress from ≡ exit_call (with_parts swap v from) =
    ap (rest_of v.progress) (sym stands.parts) ∙ rest_begins v x.call swap from x.begins x.is ∙ ends_act x.call (with_parts swap v from) x.ends in
    let P : Called → Type 0 = λ to. (to.outcome ≡ ExitsWith code) × StandsFor swap v s to.world × KeepsAside from to.world in
    subst P (sym rest) (
      ap (λ (n : ℕ). ExitsWith n) (sym x.code_is),
      record { parts = refl; streams_are = stands.streams_are },
      record { flags = refl; rip = refl; extended = refl },
    )
