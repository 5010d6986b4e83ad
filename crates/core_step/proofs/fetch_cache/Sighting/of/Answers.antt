use Rattle.std.proofs.Common.{None, subst, sym}
use Rattle.core_step.specs.Fetch.{IsFetchFit}
use Rattle.core_step.proofs.FetchLemmas.{outcome-fits}
use Rattle.core_step.proofs.fetch_cache.Sighting.of.Goals as goal

pub keep-requires : goal.keep-requires
keep-requires c =
    subst IsFetchFit (sym c.fetch_outcome-fetched.ensures)
    (outcome-fits _ c.decode.result None c.decode.ensures.within (λ d n e. (c.decode.ensures.instr d n).0 e))
