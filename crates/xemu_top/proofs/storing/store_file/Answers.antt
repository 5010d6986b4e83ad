use Rattle.std.proofs.Common.{◌≡◌, ◌∙◌, ap, sym, map, string_bytes, Some}
use Rattle.guest_files.specs.Entries.{guest_file}
use Rattle.guest_files.specs.Open.{number_of}
use Rattle.command_words.specs.Pairs.{name_at, name_in, path_in}
use Rattle.xemu_top.specs.Files.{file_named, path_at}
use Rattle.xemu_top.proofs.StoreLemmas.{named-entry}
use Rattle.xemu_top.proofs.storing.store_file.Goals as goal

pub returns-in-Some : goal.returns-in-Some
returns-in-Some g c a =
    let words = map string_bytes c.args.words.now in
    let entry = c.index-entries-number.result in
    let name : c.pair_name.result.now ≡ name_at words c.args.place = c.pair_name.ensures ∙ ap name_in c.text_at-word.ensures in
    let path : c.pair_path.result.now ≡ path_at words c.args.place = c.pair_path.ensures ∙ ap path_in c.text_at-word.ensures in
    let found : Some c.in-Some.number ≡ number_of (map guest_file c.args.entries.now) (name_at words c.args.place)
    = c.in-Some.ensures.number ∙ ap (number_of (map guest_file c.args.entries.now)) name in
    let file : guest_file entry ≡ file_named (map guest_file c.args.entries.now) (name_at words c.args.place)
    = sym (named-entry c.args.entries.now (name_at words c.args.place) c.in-Some.number entry found c.in-Some.ensures.within c.index-entries-number.is) in
    rw (path, file) at (c.store_entry.ensures a)
