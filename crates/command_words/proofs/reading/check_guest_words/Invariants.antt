use Rattle.std.proofs.Common.{◌≡◌, ℕ, map, string_bytes}
use Rattle.command_words.specs.declared.kinds.Given.{Given}
use Rattle.command_words.specs.Reading.Role.{Guest}
use Rattle.command_words.specs.Reading.{read_at}
use Rattle.command_words.proofs.reading.check_guest_words.Given as goal

abbrev pub invariant-loop-place : goal.invariant-loop-place
invariant-loop-place l = (given : Given) (program : ℕ)
    → read_at (map string_bytes l.words) given (Guest program) l.first ≡ read_at (map string_bytes l.words) given (Guest program) l.place
