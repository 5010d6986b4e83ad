use Rattle.guest_transfers.proofs.FileLemmas.{piece-append, written_at-append}
use Rattle.guest_transfers.proofs.Turns.{drawn_on, moved_on, put_on}
use Rattle.guest_transfers.proofs.laws.turns_law.Goals as goal

pub returns-clause-put : goal.returns-clause-put
returns-clause-put c = put_on

pub returns-clause-moved : goal.returns-clause-moved
returns-clause-moved c = moved_on

pub returns-clause-read : goal.returns-clause-read
returns-clause-read c = piece-append

pub returns-clause-written : goal.returns-clause-written
returns-clause-written c = written_at-append

pub returns-clause-drawn : goal.returns-clause-drawn
returns-clause-drawn c = drawn_on
