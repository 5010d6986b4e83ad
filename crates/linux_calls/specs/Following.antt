-- How a call of the code follows the written one, whatever the swap holds.
use Rattle.std.specs.Prelude.{◌≡◌, ◌+◌, ◌<◌, ◌^◌, ◌%◌, ℕ, Bool, if◌then◌else◌, List, Contains, slice_set, Option, Some, None}
use Rattle.std.specs.Prelude.{IsSome, is_some, Result, Ok, Err}
use Rattle.std.specs.Int.{w64, cast_unsigned}
use Rattle.machine_state.specs.declared.kinds.Miss.{Miss}
use Rattle.machine_state.specs.declared.kinds.Miss.TheVariants.{Unmapped, Denied, NonCanonical, Away}
use Rattle.machine_state.specs.Memory.{Swap}
use Rattle.machine_state.specs.World.{World as Whole}
use Rattle.host_edge.specs.Causes.{Rose}
use Rattle.host_edge.specs.declared.outside.HostCall.{HostCall}
use Rattle.host_edge.specs.declared.outside.HostCall.TheVariants.{Load, Store, SwapOpen, SwapGet, SwapPut, Take, PutOut, PutErr}
use Rattle.guest_pages.specs.Table.{perms_in}
use Rattle.guest_pages.specs.Pages.{PagesValue, table_of, byte_of, mapped_count}
use Rattle.guest_pages.specs.Changes.{KeepsSize}
use Rattle.linux_calls.specs.declared.world.World.{World}
use Rattle.linux_calls.specs.declared.kinds.CallEnd.{CallEnd}
use Rattle.linux_calls.specs.declared.kinds.CallEnd.TheVariants.{Value, Exit, Need as NeedEnd, Host}
use Rattle.linux_calls.specs.declared.kinds.Halt.{Halt}
use Rattle.linux_calls.specs.declared.kinds.Halt.TheVariants.{Refused, Need, Failed}
use Rattle.guest_transfers.specs.declared.kinds.Stop.{Stop}
use Rattle.guest_transfers.specs.declared.kinds.Stop.TheVariants.{Whole as StopWhole, Away as StopAway, Failed as StopFailed}
use Rattle.gpr_flags.specs.Registers.{RAX}
use Rattle.linux_calls.specs.declared.kinds.Call.{Call}
use Rattle.linux_calls.specs.declared.kinds.Stage.TheVariants.{Start, Moving}
use Rattle.linux_calls.specs.declared.kinds.Transfer.TheVariants.{Takes}
use Rattle.guest_files.specs.declared.errno.Errno.{Errno}
use Rattle.linux_calls.specs.Errnos.{efault}
use Rattle.linux_calls.specs.Call.{Called, Gives, Exits, gives, negative, refuses, rax, rdi}
use Rattle.linux_calls.specs.Parts.{cleared}
use Rattle.linux_calls.specs.Transfers.{left_at}
use Rattle.linux_calls.specs.Rest.{ProgressValue, rest_of, transfer_of, calls_in_call}
use Rattle.linux_calls.specs.Table.{call_numbered, ends_guest}
use Rattle.linux_calls.specs.Waiting.{NeedsIn, is_start}
use Rattle.linux_calls.specs.Units.{KeepsSwap, WaitsIn, standing_at}
use Rattle.linux_calls.specs.View.{View, view_of, SameParts, KeepsPages, StandsFor, with_parts}
use Rattle.linux_calls.specs.Outside.{Standing, Streams, AreTold, Grown, Between, standing_in, with_standing}

-- what a piece of a call leaves: the same references, and pages that fit and still stand with a swap
pub record Kept (old new : World) : Type 0 where
  pub parts : SameParts old new
  pub pages : KeepsPages (view_of old) (view_of new)
  pub swap : KeepsSwap (view_of old).pages (view_of new).pages

-- ---- calls that touch no stream
-- such a call comes to this: a value or an error, as the written one and with the parts that it leaves, or it waits, and then
-- nothing has changed
abbrev pub Does : (Whole → Called) → View → View → Result ℕ Halt → Type 0
Does work old new (Ok value) = (swap : Swap) (base : Whole) → work (with_parts swap old base) ≡ gives value (with_parts swap new base)
Does work old new (Err (Refused errno)) =
    (swap : Swap) (base : Whole) → work (with_parts swap old base) ≡ refuses errno (with_parts swap new base)
Does work old new (Err (Need slot)) = new ≡ old
Does work old new (Err (Failed call)) = ⊥

-- the same of a piece that never waits
abbrev pub DoesAtOnce : (Whole → Called) → View → View → Result ℕ Errno → Type 0
DoesAtOnce work old new (Ok value) = (swap : Swap) (base : Whole) → work (with_parts swap old base) ≡ gives value (with_parts swap new base)
DoesAtOnce work old new (Err errno) =
    (swap : Swap) (base : Whole) → work (with_parts swap old base) ≡ refuses errno (with_parts swap new base)

-- the same of a call that may wait with a part of it done: what is left of it then is what was left of it before
abbrev pub DoesPart : (Whole → Called) → View → View → Result ℕ Halt → Type 0
DoesPart work old new (Ok value) = (swap : Swap) (base : Whole) → work (with_parts swap old base) ≡ gives value (with_parts swap new base)
DoesPart work old new (Err (Refused errno)) =
    (swap : Swap) (base : Whole) → work (with_parts swap old base) ≡ refuses errno (with_parts swap new base)
DoesPart work old new (Err (Need slot)) =
    (swap : Swap) (base : Whole) → rest_of new.progress (with_parts swap new base) ≡ work (with_parts swap old base)
DoesPart work old new (Err (Failed call)) = ⊥

-- what a miss makes of a call: it waits for a page that is away, and else it is refused
abbrev pub halt_of : Miss → Halt
halt_of (Unmapped addr) = Refused efault
halt_of (Denied addr) = Refused efault
halt_of (NonCanonical addr) = Refused efault
halt_of (Away slot) = Need slot

-- the pages from one on and below another became zeros
pub record AreZeroed (from to : ℕ) (old new : PagesValue) : Type 0 where
  pub size : KeepsSize old new
  pub perms : (page : ℕ) → perms_in (table_of new) page ≡ perms_in (table_of old) page
  pub byte : (swap : Swap) (addr : ℕ) → byte_of new swap addr ≡ cleared from to (byte_of old swap) addr
  pub count : mapped_count new ≡ mapped_count old
  pub swap : KeepsSwap old new

-- ---- calls that may touch streams
-- a call from one world on comes to another, where this stands on the streams: it is answered, or what is left of it there is what
-- was left of it before, or a call on the outside failed
abbrev pub ComesTo : Called → Whole → Whole → ProgressValue → Result ℕ Halt → Type 0
ComesTo to from now progress (Ok value) = to ≡ gives value now
ComesTo to from now progress (Err (Refused errno)) = to ≡ refuses errno now
ComesTo to from now progress (Err (Need slot)) = (rest_of progress now ≡ to) × Grown (standing_in from) (standing_in now)
ComesTo to from now progress (Err (Failed call)) =
    Contains (calls_in_call from) call × Between (standing_in from) (standing_in to.world) (standing_in now)

-- the same from each world that parts and streams stand for, under a premise
abbrev pub Comes : (Whole → Called) → Type 0 → View → View → Streams → Streams → Result ℕ Halt → Type 0
Comes work Premise old new s s' result =
    (swap : Swap) (base : Whole) → AreTold s (standing_in base) → Premise
    → (on : Standing) × AreTold s' on
    × ComesTo (work (with_parts swap old base)) (with_parts swap old base) (with_parts swap new (with_standing base on)) new.progress result

-- the call takes input
abbrev pub TakesInput : View → Type 0
TakesInput v = transfer_of v.gprs v.files 0 ≡ Some Takes

-- ---- the whole call
-- what no part of a call holds stays
pub record KeepsAside (from now : Whole) : Type 0 where
  pub flags : now.state.flags ≡ from.state.flags
  pub rip : now.state.rip ≡ from.state.rip
  pub extended : now.state.extended ≡ from.state.extended

-- it has come to a world for which the parts stand now, and what is left of it there is this
pub record Waits (Stands : Whole → Type 0) (to : Called) (from : Whole) (progress : ProgressValue) : Type 0 where
  pub now : Whole
  pub stands : Stands now
  pub aside : KeepsAside from now
  pub rest : rest_of progress now ≡ to
  pub grown : Grown (standing_in from) (standing_in now)

-- a call on the outside failed in it: that is one of those that it makes, and something stands that may stand then
pub record Fails (Told : Standing → Type 0) (to : Called) (from : Whole) (call : HostCall) : Type 0 where
  pub on : Standing
  pub told : Told on
  pub made : Contains (calls_in_call from) call
  pub between : Between (standing_in from) (standing_in to.world) on

-- a call, or the rest of one, that stops with this answer: it answers what the written one does, and the parts stand for the world
-- that it leaves, or it waits for a page, or a call on the outside failed in it
abbrev pub Follows : (Whole → Type 0) → (Standing → Type 0) → Called → Whole → ProgressValue → CallEnd → Type 0
Follows Stands Told to from progress (Value value) =
    (to.outcome ≡ Gives (cast_unsigned w64 value)) × Stands to.world × KeepsAside from to.world
Follows Stands Told to from progress (Exit code) = (to.outcome ≡ Exits code) × Stands to.world × KeepsAside from to.world
Follows Stands Told to from progress (NeedEnd slot) = Waits Stands to from progress
Follows Stands Told to from progress (Host call) = Fails Told to from call

-- the same for every content of the swap, from each world that parts and streams stand for; where it takes input, that is told
abbrev pub FollowsAt : View → View → Streams → Streams → CallEnd → Type 0
FollowsAt old new s s' end =
    (swap : Swap) (from : Whole) → StandsFor swap old s from → (TakesInput old → IsSome s.left)
    → Follows (StandsFor swap new s') (AreTold s') (rest_of old.progress from) from new.progress end

-- ---- causes
-- the streams tell their bytes where they did
pub record StillTell (s s' : Streams) : Type 0 where
  pub left : is_some s'.left ≡ is_some s.left
  pub out : is_some s'.out ≡ is_some s.out
  pub err : is_some s'.err ≡ is_some s.err

-- how often the calls on the streams have failed
pub record Faults : Type 0 where
  pub take : ℕ
  pub out : ℕ
  pub err : ℕ

abbrev pub faults : (take out err : ℕ) → Faults
faults take out err = record { take = take; out = out; err = err }

-- where no call failed, no count changed; a call that failed has its count, and no other changed
abbrev pub IsCaused : Option HostCall → Faults → Faults → Type 0
IsCaused None old new = new ≡ old
IsCaused (Some Take) old new = Rose old.take new.take × (new ≡ record old { take = new.take })
IsCaused (Some PutOut) old new = Rose old.out new.out × (new ≡ record old { out = new.out })
IsCaused (Some PutErr) old new = Rose old.err new.err × (new ≡ record old { err = new.err })
IsCaused (Some (Load word)) old new = ⊥
IsCaused (Some (Store word)) old new = ⊥
IsCaused (Some SwapOpen) old new = ⊥
IsCaused (Some SwapGet) old new = ⊥
IsCaused (Some SwapPut) old new = ⊥

abbrev pub failed_in : Result ℕ Halt → Option HostCall
failed_in (Ok value) = None
failed_in (Err (Refused errno)) = None
failed_in (Err (Need slot)) = None
failed_in (Err (Failed call)) = Some call

abbrev pub failed_by : CallEnd → Option HostCall
failed_by (Value value) = None
failed_by (Exit code) = None
failed_by (NeedEnd slot) = None
failed_by (Host call) = Some call

-- ---- how a transfer's stop leaves a call
abbrev pub Ends : Stop → HostCall → View → View → Result ℕ Halt → Type 0
Ends (StopWhole done) call old new result = (new ≡ old) × (result ≡ Ok done)
Ends (StopAway done slot) call old new result =
    (new ≡ record old { progress = record { stage = Moving done; pieces = old.progress.pieces } }) × (result ≡ Err (Need slot))
Ends StopFailed call old new result = (new ≡ old) × (result ≡ Err (Failed call))

-- the same of a transfer with a file, whose descriptor is left at the offset that it came to
abbrev pub EndsAt : Stop → (fd at : ℕ) → Bool → View → View → Result ℕ Halt → Type 0
EndsAt (StopWhole done) fd at moves old new result =
    (new ≡ record old { files = left_at moves old.files fd (at + done) }) × (result ≡ Ok done)
EndsAt (StopAway done slot) fd at moves old new result =
    (new ≡ record old { progress = record { stage = Moving done; pieces = old.progress.pieces } }) × (result ≡ Err (Need slot))
EndsAt StopFailed fd at moves old new result = ⊥

-- a transfer with a file stops at an offset
abbrev pub IsLowStop : Stop → (at : ℕ) → Type 0
IsLowStop (StopWhole done) at = at + done < 2 ^ 63
IsLowStop (StopAway done slot) at = at + done < 2 ^ 63
IsLowStop StopFailed at = ⊥

-- ---- all of a piece of a call, which stands at this
pub record Works (at : ProgressValue) (work : Whole → Called) (old new : World) (s s' : Streams) (f f' : Faults) (result : Result ℕ Halt)
    : Type 0 where
  pub kept : Kept old new
  pub comes : Comes work (TakesInput (view_of old) → IsSome s.left) (view_of old) (view_of new) s s' result
  pub tells : StillTell s s'
  pub needs : NeedsIn (view_of new) result
  pub waits : WaitsIn (standing_at (view_of old) at) (view_of new) result
  pub cause : IsCaused (failed_in result) f f'

-- ---- how a piece of a call becomes its end
-- the parts with an answer in rax, before the next call
abbrev pub answered_view : View → (value : ℕ) → View
answered_view v value = record v { gprs = slice_set v.gprs RAX value; progress = record { stage = Start; pieces = v.progress.pieces } }

abbrev pub IsValue : CallEnd → (value : ℕ) → Type 0
IsValue (Value given) value = cast_unsigned w64 given ≡ value
IsValue (Exit code) value = ⊥
IsValue (NeedEnd slot) value = ⊥
IsValue (Host call) value = ⊥

abbrev pub Settles : Result ℕ Halt → View → View → CallEnd → Type 0
Settles (Ok value) old new end = (new ≡ answered_view old value) × IsValue end value
Settles (Err (Refused errno)) old new end = (new ≡ answered_view old (negative errno)) × IsValue end (negative errno)
Settles (Err (Need slot)) old new end = (new ≡ old) × (end ≡ NeedEnd slot)
Settles (Err (Failed call)) old new end = (new ≡ old) × (end ≡ Host call)

-- the status with which a call ends the guest, if it does
abbrev pub exit_by : Option Call → List ℕ → Option ℕ
exit_by None gprs = None
exit_by (Some call) gprs = if ends_guest call then Some (rdi gprs % 2 ^ 8) else None

unfoldable pub exit_of : View → Option ℕ
exit_of v = if is_start v.progress.stage then exit_by (call_numbered (rax v.gprs)) v.gprs else None
