use Rattle.std.proofs.Common.{◌≡◌, ◌+◌, ◌*◌, ◌<◌, ℕ, ap, sym, arith, ◌∙◌}
use Rattle.machine_state.specs.declared.kinds.Kind.TheVariants.{Write}
use Rattle.guest_pages.specs.Table.{Table}
use Rattle.guest_pages.specs.Pages.{table_of, byte_of}
use Rattle.guest_pages.proofs.Carries.{keeps_same, keeps_on}
use Rattle.masked_memory.specs.Parts.{bytes_stored}
use Rattle.masked_memory.proofs.Free.{low_pages, part_free, walked_free, lane_low}
use Rattle.masked_memory.proofs.Places.{width_some}
use Rattle.masked_memory.proofs.Stores.{none_stored, parts_stored, lanes_stored}
use Rattle.masked_memory.proofs.storing.store_at.Goals as goal

pub loop-at-init : goal.loop-at-init
loop-at-init g c = record {
  within = omega arith;
  byte = λ s. none_stored c.args.addr g.row.W c.args.mask 0 0 c.args.from.now (byte_of c.args.pages.now s) (λ k after before. absurd (omega arith));
  table = keeps_same c.args.pages.now;
}

pub store_part-requires-clause-ready : goal.store_part-requires-clause-ready
store_part-requires-clause-ready g c =
    let table : Table = table_of c.args.pages.now in
    rw c.loop-at.invariant.table.table
    (part_free table Write c.args.addr g.row.W c.args.mask c.new-part.result.from c.new-part.result.len (c.args.lanes * g.row.W) c.new-part.result.addr
    (rw c.new-part.ensures.from c.new-part.ensures.addr) (let e = c.new-part.ensures.len in omega arith)
    (let e = c.new-part.ensures.from in let f = c.new-part.ensures.len in omega arith)
    (walked_free table Write c.args.addr g.row.W c.args.mask c.args.lanes (width_some g.row.W c.requires.width)
    (low_pages c.args.pages.now Write c.limit-len.ensures.memory) c.requires.ready))

pub loop-at-preserved : goal.loop-at-preserved
loop-at-preserved g c = record {
  within = (let f = c.new-part.ensures.len in omega arith);
  byte = λ s.
      rw c.new-part.ensures.from at (c.store_part.ensures.byte s c.args.addr (omega arith) (rw c.new-part.ensures.from c.new-part.ensures.addr))
      ∙ ap (bytes_stored c.args.addr g.row.W c.args.mask c.loop-at.at (c.loop-at.at + c.new-part.result.len) c.args.from.now) (c.loop-at.invariant.byte s)
      ∙ parts_stored c.args.addr g.row.W c.args.mask c.loop-at.at (c.loop-at.at + c.new-part.result.len) c.args.from.now (byte_of c.args.pages.now s) (omega arith);
  table = keeps_on _ _ _ c.loop-at.invariant.table c.store_part.ensures.table;
}

pub returns-clause-byte : goal.returns-clause-byte
returns-clause-byte g c s =
    let table : Table = table_of c.args.pages.now in
    let some : 0 < g.row.W = width_some g.row.W c.requires.width in
    let within = c.loop-at.invariant.within in
    let end : c.loop-at.at ≡ c.args.lanes * g.row.W = omega arith in
    c.loop-at.invariant.byte s
    ∙ ap (λ (n : ℕ). bytes_stored c.args.addr g.row.W c.args.mask 0 n c.args.from.now (byte_of c.args.pages.now s)) end
    ∙ sym (lanes_stored c.args.addr g.row.W c.args.mask c.args.from.now some (omega arith) c.fits-from c.args.lanes (byte_of c.args.pages.now s)
    (omega (arith, c.told-from)) (omega (arith, c.told-from))
    (λ i h has.
    lane_low table Write c.args.addr g.row.W c.args.mask c.args.lanes i some (low_pages c.args.pages.now Write c.limit-len.ensures.memory)
    c.requires.ready h has))
