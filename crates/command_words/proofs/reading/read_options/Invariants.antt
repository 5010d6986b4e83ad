use Rattle.std.proofs.Common.{◌≡◌, ◌≤◌, ◌-◌, length, map, string_bytes}
use Rattle.command_words.specs.Reading.{no_options}
use Rattle.command_words.specs.Reading.Role.{Place}
use Rattle.command_words.specs.Reading.{read_at}
use Rattle.command_words.specs.Holding.{Holds}
use Rattle.command_words.proofs.reading.read_options.Given as goal

abbrev pub invariant-loop-place : goal.invariant-loop-place
invariant-loop-place l = record {
  reads : read_at (map string_bytes l.words) no_options Place 1 ≡ read_at (map string_bytes l.words) l.given Place l.place;
  within : l.place ≤ length l.words;
  given : Holds (map string_bytes l.words) l.given l.place;
}

abbrev pub decreases-loop-place : goal.decreases-loop-place
decreases-loop-place l = length l.words - l.place
