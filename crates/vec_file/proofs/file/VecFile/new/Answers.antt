use Rattle.machine_state.specs.State.{initial_extended}
use Rattle.machine_state.proofs.StateLemmas.{initial_is}
use Rattle.vec_file.proofs.file.VecFile.new.Goals as goal

pub invariant_of-result : goal.invariant_of-result
unfolding initial_extended
invariant_of-result c = rw (c.initial_registers.ensures, c.initial_fields.ensures) initial_is
