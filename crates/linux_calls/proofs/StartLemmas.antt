-- How transfers begin.
use Rattle.std.proofs.Common.{◌≡◌, ℕ, ◌^◌, ◌-◌, ◌≤◌, true, false, min, List, [], ◌∷◌, Option, Some, None, Err, refl, sym, ap, ◌∙◌, arith}
use Rattle.machine_state.specs.Memory.{Swap}
use Rattle.machine_state.specs.World.{World}
use Rattle.guest_pages.specs.Table.{perms_in}
use Rattle.guest_pages.specs.Pages.{table_of, memory_of}
use Rattle.guest_files.specs.Files.{FilesValue}
use Rattle.guest_files.specs.declared.errno.Errno.{Errno}
use Rattle.guest_transfers.specs.Pieces.{are_allowed, asked, most_asked}
use Rattle.guest_transfers.specs.declared.kinds.Piece.{Piece}
use Rattle.linux_calls.specs.declared.kinds.Halt.TheVariants.{Refused}
use Rattle.linux_calls.specs.declared.kinds.Transfer.{Transfer}
use Rattle.linux_calls.specs.Errnos.{efault}
use Rattle.linux_calls.specs.Transfers.{begun, kind_of, named_piece, refusal_of, transfer_rest, transferred}
use Rattle.linux_calls.specs.declared.kinds.Call.{Call}
use Rattle.linux_calls.specs.Call.{rax}
use Rattle.linux_calls.specs.Table.{call_numbered}
use Rattle.linux_calls.specs.Rest.{call_transfer, transfer_of}
use Rattle.linux_calls.specs.View.{View, with_parts}
use Rattle.linux_calls.specs.Following.{DoesPart}

module _ (transfer : Transfer) (pieces : List Piece) (v : View) (count : ℕ) (most : asked pieces ≤ most_asked) (is : count ≡ min (asked pieces) (2 ^ 64 - 1)) where
  counted : count ≡ asked pieces
  counted = omega arith

  refusal_here : (o : Option Errno) → refusal_of transfer count v.files ≡ o → refusal_of transfer (asked pieces) v.files ≡ o
  refusal_here o e = ap (λ (n : ℕ). refusal_of transfer n v.files) (sym counted) ∙ e

  pub transferred_refused : (errno : Errno) → refusal_of transfer count v.files ≡ Some errno → DoesPart (transferred transfer pieces) v v (Err (Refused errno))
  unfolding transferred
  transferred_refused errno e swap base = rw (refusal_here (Some errno) e) refl

  pub transferred_fault : refusal_of transfer count v.files ≡ None → are_allowed (perms_in (table_of v.pages)) (kind_of transfer) pieces ≡ false
      → DoesPart (transferred transfer pieces) v v (Err (Refused efault))
  unfolding transferred memory_of
  transferred_fault e denied swap base = rw (refusal_here None e, denied) refl

  pub transferred_moves : refusal_of transfer count v.files ≡ None → are_allowed (perms_in (table_of v.pages)) (kind_of transfer) pieces ≡ true
      → (swap : Swap) (base : World) → transferred transfer pieces (with_parts swap v base) ≡ transfer_rest transfer pieces 0 (with_parts swap v base)
  unfolding transferred memory_of
  transferred_moves e allowed swap base = rw (refusal_here None e, allowed) refl

pub begun_some : (o : Option Transfer) (transfer : Transfer) (pieces pieces' : List Piece) (w : World) → o ≡ Some transfer → pieces ≡ pieces' → begun o pieces w ≡ transferred transfer pieces' w
begun_some o transfer pieces pieces' w is same = rw (is, same) refl

pub named_is : (addr len len' : ℕ) (pieces : List Piece) → len' ≡ min len 2147479552 → pieces ≡ record { addr = addr; len = len' } ∷ [] → named_piece addr len ≡ pieces
named_is addr len len' pieces is pieces_are = rw (pieces_are, is) refl

pub transfer_by : (call : Call) (gprs : List ℕ) (files : FilesValue) (done : ℕ) → call_numbered (rax gprs) ≡ Some call → transfer_of gprs files done ≡ call_transfer call gprs files done
unfolding transfer_of
transfer_by call gprs files done is = rw (is, transfer_of) refl
