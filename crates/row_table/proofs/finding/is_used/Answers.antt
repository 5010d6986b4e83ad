use Rattle.std.proofs.Common.{sym, arith}
use Rattle.row_table.proofs.Shaping.{map_used-above, used-is}
use Rattle.row_table.proofs.finding.is_used.Goals as goal

pub returns-then-map-gt3 : goal.returns-then-map-gt3
returns-then-map-gt3 c = sym (map_used-above c.args.class c.args.map c.if-map-gt3.true)

pub returns : goal.returns
returns c = used-is c.args.class c.args.map _ _ _ (omega arith) c.place_of-place.ensures c.start.ensures c.start-2.ensures
