use Rattle.std.proofs.Common.{true, ◌≡◌}
use Rattle.guest_files.specs.Entries.{guest_file}
use Rattle.xemu_top.proofs.StoreLemmas.{file-stored, file-not_stored}
use Rattle.xemu_top.proofs.storing.store_entry.Goals as goal

pub returns-in-Ok : goal.returns-in-Ok
returns-in-Ok g c a =
    let entry = c.args.entry.now in
    let there : entry.exists ≡ true = cc in
    file-stored _ c.args.place c.args.path.now (guest_file entry) a _ _ _ _ _ _ there (rw c.deref.ensures.value at c.in-Ok.ensures.files)
    c.in-Ok.ensures.opened c.in-Ok.ensures.cause c.in-Ok.ensures.others

pub returns-in-Err : goal.returns-in-Err
returns-in-Err g c a =
    let entry = c.args.entry.now in
    let there : entry.exists ≡ true = cc in
    file-not_stored _ c.args.place c.args.path.now (guest_file entry) a _ _ _ _ _ _ c.in-Err.field-0 there (rw c.deref.ensures.value at c.in-Err.ensures.files)
    c.in-Err.ensures.opened c.in-Err.ensures.cause c.in-Err.ensures.others
