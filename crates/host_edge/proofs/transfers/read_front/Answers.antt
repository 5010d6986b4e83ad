-- A further part is read behind the first ones.
use Rattle.std.proofs.Common.{arith, subst, sym}
use Rattle.std.proofs.KnownBytes.{Consumes-trans}
use Rattle.std.specs.Io.KnownBytes.{Consumes}
use Rattle.host_edge.proofs.MoveLemmas.{reads_behind}
use Rattle.host_edge.proofs.transfers.read_front.Goals as goal

pub loop-count-preserved : goal.loop-count-preserved
loop-count-preserved g c =
    let both = Consumes-trans _ _ _ _ _ c.loop-count.invariant.bytes c.in_ok-more.ensures.bytes.0 in
    let behind = reads_behind c.loop-count.into c.read_part.new.into c.args.into.now c.loop-count.count c.in_ok-more.more
    c.loop-count.invariant.fits (omega (arith, c.in_ok-more.ensures.fits, c.read_part.auto.into))
    c.loop-count.invariant.rest c.in_ok-more.ensures.rest in
    record {
      fits = behind.fits;
      rest = behind.rest;
      bytes = subst (Consumes _ _) (sym behind.front) both;
    }
