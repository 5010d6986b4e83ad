use Rattle.std.proofs.Common.{◌-◌, ◌+◌, ◌%◌, ◌^◌, ◌≡◌, ◌≤◌, ◌<◌, ◌⊎◌, None, length}
use Rattle.machine_state.specs.Memory.{Swap, bytes_at, first_miss, page_size}
use Rattle.machine_state.specs.declared.kinds.Kind.TheVariants.{Read}
use Rattle.guest_pages.specs.Pages.{byte_of, table_of}
use Rattle.guest_pages.specs.Table.{perms_in}
use Rattle.guest_transfers.specs.Moves.{IsPathReady}
use Rattle.guest_transfers.specs.Paths.{end_of, path_max}
use Rattle.guest_transfers.proofs.paths.read_path.Given as goal

abbrev pub invariant-loop-text : goal.invariant-loop-text
invariant-loop-text l = record {
  within : length l.text.items ≤ path_max;
  bytes : (w : Swap) → l.text.items ≡ bytes_at (byte_of l.pages w) l.addr (length l.text.items);
  more : end_of l.text.items ≡ None;
  readable : first_miss (perms_in (table_of l.pages)) Read l.addr (length l.text.items) ≡ None;
  ready : IsPathReady l.pages l.addr (length l.text.items);
  begins : length l.text.items < path_max → (length l.text.items ≡ 0) ⊎ ((l.addr + length l.text.items) % page_size ≡ 0);
  low : 0 < length l.text.items → l.addr + length l.text.items ≤ 2 ^ 47;
}

abbrev pub decreases-loop-text : goal.decreases-loop-text
decreases-loop-text l = path_max - length l.text.items
