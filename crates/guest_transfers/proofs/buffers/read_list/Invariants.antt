use Rattle.std.proofs.Common.{◌-◌, ◌*◌, ◌^◌, ◌≤◌, ◌<◌, length}
use Rattle.guest_transfers.specs.Buffers.{record_size}
use Rattle.guest_transfers.specs.Moves.{AreRead, AreReadable, record_place}
use Rattle.guest_transfers.proofs.buffers.read_list.Given as goal

abbrev pub invariant-loop-list : goal.invariant-loop-list
invariant-loop-list l = record {
  after : length l.initial.list.items ≤ length l.list.items;
  within : length l.list.items ≤ l.count;
  place : record_place l.addr (length l.list.items) < 2 ^ 64;
  read : AreRead l.pages l.addr l.initial.list.items l.list.items (length l.list.items);
  before : AreReadable l.pages l.addr l.initial.list.items (record_size * (length l.list.items - length l.initial.list.items));
}

abbrev pub decreases-loop-list : goal.decreases-loop-list
decreases-loop-list l = l.count - length l.list.items
