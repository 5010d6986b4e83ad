-- Transfers in parts: what each kind has in common.
use Rattle.std.proofs.Common.{◌≡◌, ℕ, ◌+◌, ◌-◌, ◌≤◌, ◌<◌, ◌⊎◌, inl, inr, true, List, [], ◌++◌, length, take, drop, Option, Some, None}
use Rattle.std.proofs.Common.{IsSome, is_some, slice_range, Contains, Result, refl, sym, ap, ◌∙◌, subst, arith, append-nil}
use Rattle.std.proofs.lemmas.List.{take_all, drop_all, drop-drop}
use Rattle.std.proofs.Math.Seq.{take-append_seam, drop-append_seam, take-add}
use Rattle.machine_state.specs.Memory.{Swap, Memory}
use Rattle.machine_state.specs.World.{World}
use Rattle.machine_state.specs.declared.kinds.Miss.TheVariants.{Away}
use Rattle.host_edge.specs.Streams.{told}
use Rattle.host_edge.specs.declared.outside.HostCall.{HostCall}
use Rattle.guest_pages.specs.Table.{Table, perms_in}
use Rattle.guest_pages.specs.Pages.{PagesValue, table_of, memory_of}
use Rattle.guest_pages.specs.Changes.{KeepsTable}
use Rattle.guest_files.specs.Files.{FilesValue}
use Rattle.region_map.proofs.Fits.{fit_kept}
use Rattle.guest_transfers.specs.Pieces.{asked, pieces_from, spread, part_at, are_allowed}
use Rattle.guest_transfers.specs.Moves.{Moved, blocked_access}
use Rattle.guest_transfers.specs.declared.kinds.Piece.{Piece}
use Rattle.linux_calls.specs.declared.kinds.Halt.{Halt}
use Rattle.linux_calls.specs.declared.kinds.Stage.TheVariants.{Moving}
use Rattle.linux_calls.specs.declared.kinds.Transfer.{Transfer}
use Rattle.linux_calls.specs.Call.{Called}
use Rattle.linux_calls.specs.Transfers.{kind_of, with_spread}
use Rattle.linux_calls.specs.Rest.{rest_of, transfer_of, moving_rest, outside_calls, calls_in_call}
use Rattle.linux_calls.specs.View.{View, FitParts, KeepsPages, with_parts}
use Rattle.linux_calls.specs.Outside.{Streams, IsTold, Extends, EndsIn}
use Rattle.linux_calls.specs.Following.{Comes}
use Rattle.linux_calls.specs.Waiting.{CanMove, CanMoveBy, HasOther, IsNeeded, NeedsIn, NeedsPart}

-- ---- views and results
pub at_end : (work : World → Called) (Premise : Type 0) (old new same : View) (s s' : Streams) (result value : Result ℕ Halt) → new ≡ same → result ≡ value
    → Comes work Premise old same s s' value → Comes work Premise old new s s' result
at_end work Premise old new same s s' result value is_new is_result comes =
    subst (λ (v : View). Comes work Premise old v s s' result) (sym is_new)
    (subst (λ (r : Result ℕ Halt). Comes work Premise old same s s' r) (sym is_result) comes)

pub needs_at_end : (new same : View) (result value : Result ℕ Halt) → new ≡ same → result ≡ value → NeedsIn same value → NeedsIn new result
needs_at_end new same result value is_new is_result needs =
    subst (λ (v : View). NeedsIn v result) (sym is_new) (subst (λ (r : Result ℕ Halt). NeedsIn same r) (sym is_result) needs)

-- ---- streams that tell
pub told_is : (o : Option (List ℕ)) (bytes : List ℕ) → IsTold o bytes → IsSome o → bytes ≡ told o
told_is None bytes is some = cc
told_is (Some xs) bytes is some = is

pub tells_itself : (o : Option (List ℕ)) → IsTold o (told o)
tells_itself None = tt
tells_itself (Some xs) = refl

-- bytes were put, where that is told
pub put_told : (o o' : Option (List ℕ)) (bytes more : List ℕ) → is_some o' ≡ is_some o → (IsSome o → told o' ≡ told o ++ more) → IsTold o bytes → IsTold o' (bytes ++ more)
put_told None None bytes more tells put is = tt
put_told None (Some ys) bytes more tells put is = cc
put_told (Some xs) None bytes more tells put is = cc
put_told (Some xs) (Some ys) bytes more tells put is = ap (λ (zs : List ℕ). zs ++ more) is ∙ sym (put refl)

pub extends_none : (xs : List ℕ) → Extends xs xs
extends_none xs = ([], sym (append-nil xs))

pub ends_none : (xs : List ℕ) → EndsIn xs xs
ends_none xs = ([], refl)

-- ---- memory
memory_moved : (old new : PagesValue) (swap : Swap) (pieces : List Piece) (from : ℕ) (bytes : List ℕ) → Moved old new pieces from bytes
    → (let memory = memory_of old swap in record memory { byte = spread memory.byte (pieces_from pieces from) bytes }) ≡ memory_of new swap
unfolding memory_of
memory_moved old new swap pieces from bytes moved =
    let table = moved.keeps.table in
    let byte = moved.byte swap in
    rw (table, byte) refl

in_place : World → Memory → ℕ → World
in_place w memory pages = record w { state = record w.state { memory = memory }; pages = pages }

-- the world with bytes along pieces of memory
pub world_moved : (v : View) (pages : PagesValue) (swap : Swap) (base : World) (pieces : List Piece) (from : ℕ) (bytes : List ℕ) → Moved v.pages pages pieces from bytes
    → with_spread (with_parts swap v base) (pieces_from pieces from) bytes ≡ with_parts swap (record v { pages = pages }) base
unfolding in_place
world_moved v pages swap base pieces from bytes moved =
    let w = with_parts swap v base in
    ap (λ (m : Memory). in_place w m (length v.pages.slots)) (memory_moved v.pages pages swap pieces from bytes moved)
    ∙ ap (λ (n : ℕ). in_place w (memory_of pages swap) n) (sym moved.keeps.size.pages)

-- pages that bytes moved to
pub keeps_moved : (v new : View) → KeepsTable v.pages new.pages → new.regions ≡ v.regions → FitParts v → KeepsPages v new
keeps_moved v new keeps same fit = record {
  fit = rw same (fit_kept v.pages new.pages v.regions.regions keeps fit);
  size = keeps.size;
}

-- ---- where a transfer waits
pub moving_needs : (transfer : Transfer) (v : View) (pages : PagesValue) (files : FilesValue) (random from done slot : ℕ)
    → CanMove transfer (perms_in (table_of v.pages)) v.files v.progress.pieces from → table_of pages ≡ table_of v.pages
    → transfer_of v.gprs files done ≡ Some transfer → HasOther transfer files v.progress.pieces done → done < asked v.progress.pieces
    → blocked_access (table_of v.pages) (part_at (kind_of transfer) v.progress.pieces done) ≡ Some (Away slot)
    → IsNeeded (record v { pages = pages; files = files; random = random; progress = record { stage = Moving done; pieces = v.progress.pieces } }) slot
moving_needs transfer v pages files random from done slot can table is other more away =
    let now = record v { pages = pages; files = files; random = random; progress = record { stage = Moving done; pieces = v.progress.pieces } } in
    let allowed : are_allowed (perms_in (table_of pages)) (kind_of transfer) v.progress.pieces ≡ true =
    subst (λ (t : Table). are_allowed (perms_in t) (kind_of transfer) v.progress.pieces ≡ true) (sym table) can.allowed in
    let there : blocked_access (table_of pages) (part_at (kind_of transfer) v.progress.pieces done) ≡ Some (Away slot) =
    subst (λ (t : Table). blocked_access t (part_at (kind_of transfer) v.progress.pieces done) ≡ Some (Away slot)) (sym table) away in
    let moves : CanMove transfer (perms_in (table_of pages)) files v.progress.pieces done = record { allowed = allowed; most = can.most; within = omega arith; other = other } in
    record {
      needs = subst (λ (t : Option Transfer). NeedsPart t now done slot) (sym is) there;
      can_go_on = subst (λ (t : Option Transfer). CanMoveBy t (perms_in (table_of pages)) files v.progress.pieces done) (sym is) moves;
    }

-- what is left of a transfer, where this is the one that the registers ask for
pub rest_moving : (done : ℕ) (pieces : List Piece) (w : World) (transfer : Transfer)
    → transfer_of w.state.gprs (record { files = w.files; places = w.descriptors; cap = w.cap }) done ≡ Some transfer
    → rest_of (record { stage = Moving done; pieces = pieces }) w ≡ moving_rest (Some transfer) pieces done w
unfolding rest_of
rest_moving done pieces w transfer is = ap (λ (t : Option Transfer). moving_rest t pieces done w) is

-- the front of some bytes and a rest that is as long as it can be
pub taken_whole : (bytes rest : List ℕ) (n : ℕ) → length bytes ≤ n → (length bytes ≡ n) ⊎ (rest ≡ []) → take n (bytes ++ rest) ≡ bytes
taken_whole bytes rest n le (inl e) = rw (← e) (take-append_seam bytes rest)
taken_whole bytes rest n le (inr e) = rw (e, append-nil bytes) (take_all n bytes le)

pub dropped_whole : (bytes rest : List ℕ) (n : ℕ) → length bytes ≤ n → (length bytes ≡ n) ⊎ (rest ≡ []) → drop n (bytes ++ rest) ≡ rest
dropped_whole bytes rest n le (inl e) = rw (← e) (drop-append_seam bytes rest)
dropped_whole bytes rest n le (inr e) = rw (e, append-nil bytes) (drop_all n bytes le)

-- a call on the outside that a transfer makes
pub calls_made : (w : World) (transfer : Transfer) (call : HostCall)
    → transfer_of w.state.gprs (record { files = w.files; places = w.descriptors; cap = w.cap }) 0 ≡ Some transfer → Contains (outside_calls (Some transfer)) call
    → Contains (calls_in_call w) call
unfolding calls_in_call
calls_made w transfer call is made = subst (λ (t : Option Transfer). Contains (outside_calls t) call) (sym is) made

-- two parts of a list, one behind the other
pub between_on : (xs : List ℕ) (from done to : ℕ) → from ≤ done → done ≤ to → slice_range xs from done ++ slice_range xs done to ≡ slice_range xs from to
between_on xs from done to after before =
    let place : done ≡ from + (done - from) = omega arith in
    let there : drop done xs ≡ drop (done - from) (drop from xs) = ap (λ (n : ℕ). drop n xs) place ∙ sym (drop-drop (done - from) from xs) in
    let sum : to - from ≡ done - from + (to - done) = omega arith in
    rw (there, sum) (sym (take-add (done - from) (to - done) (drop from xs)))
