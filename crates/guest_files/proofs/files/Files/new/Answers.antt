-- The entries are as they were given, and the descriptors the first.
use Rattle.guest_files.proofs.Keeping.{kept_at_start}
use Rattle.guest_files.proofs.files.Files.new.Goals as goal

pub invariant_of-result : goal.invariant_of-result
invariant_of-result c =
    let entries = c.reserve_all.new.entries.items in
    rw c.first_places.ensures (kept_at_start entries c.args.cap (rw c.reserve_all.ensures.files c.requires)
    (rw c.reserve_all.ensures.files c.in_ok-reserve_all.ensures.bytes) c.in_ok-reserve_all.ensures.room)
