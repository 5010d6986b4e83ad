use Rattle.std.proofs.Common.{◌<◌, None, length, arith}
use Rattle.std.proofs.lemmas.List.{get_or_read}
use Rattle.guest_pages.proofs.Chains.{seeks_first, seeks_on, seeks_falls, seeks_bound, seeks_end, seeks_found}
use Rattle.guest_pages.proofs.lists.Lists.before.Goals as goal

pub loop-at-init : goal.loop-at-init
loop-at-init c =
    let within : c.args.list < length c.args.self.now.heads.items = omega arith in
    rw (get_or_read c.args.self.now.heads.items c.args.list c.index-at.result.now within c.index-at.ensures None)
    (seeks_first c.args.self.now.nexts.items _ c.args.number c.requires.listed.numbers c.requires.listed.is c.requires.listed.has)

pub returns-then-here-number : goal.returns-then-here-number
returns-then-here-number c =
    seeks_found c.args.self.now c.args.list c.args.number c.loop-at.before (rw (c.in-Some.is, c.if-here-number.true) at c.loop-at.invariant)

pub index-at-requires-in-Some : goal.index-at-requires-in-Some
index-at-requires-in-Some c =
    let bound : c.in-Some.here < length c.args.self.now.nexts.items = seeks_bound c.args.self.now.nexts.items _ c.args.number c.in-Some.here c.loop-at.before (rw c.in-Some.is at c.loop-at.invariant) in
    omega arith

pub loop-at-smaller : goal.loop-at-smaller
loop-at-smaller c =
    let seeks = rw c.in-Some.is at c.loop-at.invariant in
    let bound : c.in-Some.here < length c.args.self.now.nexts.items = seeks_bound c.args.self.now.nexts.items _ c.args.number c.in-Some.here c.loop-at.before seeks in
    rw (c.in-Some.is, get_or_read c.args.self.now.nexts.items c.in-Some.here c.index-at-in-Some.result.now bound c.index-at-in-Some.ensures None)
    (seeks_falls c.args.self.now.nexts.items _ c.args.number c.in-Some.here c.loop-at.before seeks)

pub loop-at-preserved : goal.loop-at-preserved
loop-at-preserved c =
    let seeks = rw c.in-Some.is at c.loop-at.invariant in
    let bound : c.in-Some.here < length c.args.self.now.nexts.items = seeks_bound c.args.self.now.nexts.items _ c.args.number c.in-Some.here c.loop-at.before seeks in
    rw (get_or_read c.args.self.now.nexts.items c.in-Some.here c.index-at-in-Some.result.now bound c.index-at-in-Some.ensures None)
    (seeks_on c.args.self.now.nexts.items _ c.args.number c.in-Some.here c.loop-at.before seeks c.if-here-number.false)

pub unreachable-requires : goal.unreachable-requires
unreachable-requires c = seeks_end c.args.self.now.nexts.items _ c.args.number c.loop-at.before (rw c.in_default.is at c.loop-at.invariant)
