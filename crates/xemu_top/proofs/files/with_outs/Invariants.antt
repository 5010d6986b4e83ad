use Rattle.std.proofs.Common.{◌≡◌, ◌++◌, map, string_bytes, take, filter}
use Rattle.std.specs.Prelude.{is_none}
use Rattle.guest_files.specs.Entries.{guest_file}
use Rattle.command_words.specs.Pairs.{name_at, place_naming}
use Rattle.xemu_top.specs.Files.{out_file}
use Rattle.xemu_top.proofs.files.with_outs.Given as goal

abbrev pub invariant-loop-place : goal.invariant-loop-place
invariant-loop-place l =
    map guest_file l.entries.items
    ≡ map guest_file l.initial.entries.items
    ++ map (out_file (map string_bytes l.words))
    (filter (λ place. is_none (place_naming (map string_bytes l.words) (name_at (map string_bytes l.words) place) l.command.ins.items)) (take l.place-index l.place-items))
