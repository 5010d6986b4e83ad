use Rattle.std.proofs.Common.{arith, sym}
use Rattle.std.proofs.lemmas.List.{take_rest}
use Rattle.host_edge.proofs.LayoutLemmas.{places_in_rest}
use Rattle.host_edge.proofs.mem_files.+place_of.Goals as goal

pub returns-in-Some-clause-some : goal.returns-in-Some-clause-some
returns-in-Some-clause-some t c =
    places_in_rest c.args.entries.now _ _ c.args.buffer.now c.split_at.result.0.now c.split_at.result.1.now c.args.path.now
    c.in-Some.place (omega arith) (take_rest c.args.entries.now 1) c.split_at.ensures.by_index.0
    c.split_at.ensures.front_len (sym c.if-eq.ensures) c.in-Some.ensures.some
