-- Each write takes a front of what is left, and an error leaves what was taken before it.
use Rattle.std.proofs.Common.{drop}
use Rattle.std.proofs.KnownBytes.{Keeps-refl}
use Rattle.std.proofs.lemmas.List.{take_rest}
use Rattle.host_edge.proofs.MoveLemmas.{writes_front, wrote_more}
use Rattle.host_edge.proofs.transfers.write_whole.Goals as goal

pub returns-in-Ok-eq0 : goal.returns-in-Ok-eq0
returns-in-Ok-eq0 g c =
    let count = c.in-Ok-eq0.field-0 in
    writes_front _ _ _ _ (drop count c.loop-rest.rest.now) _
    (wrote_more _ _ _ _ c.loop-rest.rest.now count c.loop-rest.invariant c.in-Ok-eq0.ensures.bytes) (Keeps-refl _)

pub loop-rest-preserved : goal.loop-rest-preserved
loop-rest-preserved g c =
    rw (take_rest c.loop-rest.rest.now c.in-Ok.count)
    (wrote_more _ _ _ _ c.loop-rest.rest.now c.in-Ok.count c.loop-rest.invariant c.in-Ok.ensures.bytes)

pub returns-in-Err : goal.returns-in-Err
returns-in-Err g c = writes_front _ _ _ _ c.loop-rest.rest.now _ c.loop-rest.invariant c.in-Err.ensures.bytes
