use Rattle.std.proofs.Common.{map, string_bytes}
use Rattle.guest_files.specs.Entries.{guest_file}
use Rattle.xemu_top.proofs.FileLemmas.{files-fit}
use Rattle.xemu_top.proofs.files.guest_files.Goals as goal

pub new-requires : goal.new-requires
new-requires c =
    rw c.in_ok-entries.ensures
    (files-fit (map string_bytes c.args.words.now) c.args.command.now c.requires.command (map guest_file c.args.ins.items) c.requires.ins)
