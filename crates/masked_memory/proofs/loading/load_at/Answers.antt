use Rattle.std.proofs.Common.{◌≡◌, ◌+◌, ◌*◌, ◌/◌, ◌≤◌, ◌<◌, ℕ, min, ap, arith, ◌∙◌}
use Rattle.std.proofs.Math.Nat.{mul-le-mul_right}
use Rattle.guest_pages.specs.Table.{Table}
use Rattle.guest_pages.specs.Pages.{table_of, byte_of}
use Rattle.masked_memory.proofs.Free.{low_pages, part_free, walked_free, lane_low}
use Rattle.masked_memory.proofs.Places.{width_some}
use Rattle.masked_memory.proofs.Loads.{none_loaded, loaded_more, loaded-is}
use Rattle.masked_memory.proofs.loading.load_at.Goals as goal

pub loop-from-init : goal.loop-from-init
loop-from-init g c = record {
  within = omega arith;
  bytes = c.fits-into;
  loaded = λ s. none_loaded (byte_of c.args.pages.now s) c.args.addr g.row.W c.args.mask 0 0 c.args.into.now (λ k after before. absurd (omega arith));
}

pub load_part-requires-clause-ready : goal.load_part-requires-clause-ready
load_part-requires-clause-ready g c =
    let table : Table = table_of c.args.pages.now in
    let some : 0 < g.row.W = width_some g.row.W c.requires.width in
    let most : c.min-len.result * g.row.W ≤ c.args.lanes * g.row.W = mul-le-mul_right g.row.W (let e = c.min-len.ensures in omega arith) in
    part_free table c.args.kind c.args.addr g.row.W c.args.mask c.new-part.result.from c.new-part.result.len (c.args.lanes * g.row.W) c.new-part.result.addr
    (rw c.new-part.ensures.from c.new-part.ensures.addr) (let e = c.new-part.ensures.len in omega arith)
    (let e = c.new-part.ensures.from in let f = c.new-part.ensures.len in omega arith)
    (walked_free table c.args.kind c.args.addr g.row.W c.args.mask c.args.lanes some (low_pages c.args.pages.now c.args.kind c.limit-len.ensures.memory) c.requires.ready)

pub loop-from-preserved : goal.loop-from-preserved
loop-from-preserved g c = record {
  within = (let f = c.new-part.ensures.len in omega arith);
  bytes = c.load_part.ensures.bytes;
  loaded = λ s.
      loaded_more (byte_of c.args.pages.now s) c.args.addr g.row.W c.args.mask c.loop-from.from (c.loop-from.from + c.new-part.result.len) c.args.into.now c.loop-from.bytes c.load_part.new.bytes
      (omega arith) (c.loop-from.invariant.loaded s)
      (rw c.new-part.ensures.from at (c.load_part.ensures.loaded s c.args.addr (rw c.new-part.ensures.from c.new-part.ensures.addr)));
}

pub returns : goal.returns
returns g c s =
    let table : Table = table_of c.args.pages.now in
    let some : 0 < g.row.W = width_some g.row.W c.requires.width in
    let end : c.loop-from.from ≡ min c.args.lanes (64 / g.row.W) * g.row.W =
    let within = c.loop-from.invariant.within in (let all : c.loop-from.from ≡ c.min-len.result * g.row.W = omega arith in all ∙ ap (λ (n : ℕ). n * g.row.W) c.min-len.ensures) in
    loaded-is (byte_of c.args.pages.now s) c.args.addr g.row.W c.args.lanes c.args.mask c.args.into.now c.loop-from.bytes c.requires.width c.told-into
    c.loop-from.invariant.bytes (rw end at (c.loop-from.invariant.loaded s))
    (λ i h has.
    lane_low table c.args.kind c.args.addr g.row.W c.args.mask c.args.lanes i some (low_pages c.args.pages.now c.args.kind c.limit-len.ensures.memory)
    c.requires.ready (omega arith) has)
