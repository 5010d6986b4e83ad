use Rattle.std.proofs.Common.{◌≡◌, map, string_bytes, drop, find}
use Rattle.command_words.specs.Pairs.{place_naming}
use Rattle.command_words.proofs.PairLemmas.{has_name}
use Rattle.command_words.proofs.pairs.place_naming.Given as goal

abbrev pub invariant-loop-place : goal.invariant-loop-place
invariant-loop-place l =
    find (has_name (map string_bytes l.words) l.name) (drop l.place-index l.places) ≡ place_naming (map string_bytes l.words) l.name l.places
