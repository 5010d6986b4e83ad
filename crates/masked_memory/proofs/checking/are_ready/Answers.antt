use Rattle.std.proofs.Common.{refl, arith, ◌*◌, ◌<◌}
use Rattle.guest_pages.specs.Table.{Table}
use Rattle.guest_pages.specs.Pages.{table_of}
use Rattle.masked_memory.proofs.Free.{low_pages, part_free, free_more, walked_free, lanes_free}
use Rattle.masked_memory.proofs.checking.are_ready.Goals as goal

pub loop-from-init : goal.loop-from-init
loop-from-init c k after before has = absurd (omega arith)

pub loop-from-preserved : goal.loop-from-preserved
loop-from-preserved c =
    free_more (table_of c.args.pages.now) c.args.kind c.args.addr c.args.width c.args.mask c.loop-from.from c.new-part.result.len
    c.loop-from.invariant
    (rw c.new-part.ensures.from at (c.if-not-is_ready.ensures.ready refl c.args.addr (rw c.new-part.ensures.from c.new-part.ensures.addr)))

pub returns-clause-ready : goal.returns-clause-ready
returns-clause-ready c _ =
    lanes_free (table_of c.args.pages.now) c.args.kind c.args.addr c.args.width c.args.mask c.args.lanes (omega arith)
    (low_pages c.args.pages.now c.args.kind c.limit.ensures.memory)
    (λ k after before has. c.loop-from.invariant k after (omega arith) has)

pub returns-then-not-is_ready-clause-blocked : goal.returns-then-not-is_ready-clause-blocked
returns-then-not-is_ready-clause-blocked c _ walked =
    let table : Table = table_of c.args.pages.now in
    let some : 0 < c.args.width = grind arith in
    c.if-not-is_ready.ensures.blocked refl
    (part_free table c.args.kind c.args.addr c.args.width c.args.mask c.new-part.result.from c.new-part.result.len (c.args.lanes * c.args.width) c.new-part.result.addr
    (rw c.new-part.ensures.from c.new-part.ensures.addr) (let e = c.new-part.ensures.len in omega arith)
    (let e = c.new-part.ensures.from in let f = c.new-part.ensures.len in omega arith)
    (walked_free table c.args.kind c.args.addr c.args.width c.args.mask c.args.lanes some (low_pages c.args.pages.now c.args.kind c.limit.ensures.memory) walked)
    (c.if-not-is_ready.ensures.lane refl))
