use Rattle.std.proofs.Common.{refl}
use Rattle.vec_file.proofs.Clearing.{cleared_is}
use Rattle.vec_file.proofs.values.cleared.Goals as goal

pub returns : goal.returns
returns c = cleared_is c.args.v.now _ _ c.args.from refl c.copy_from_slice.ensures.after
