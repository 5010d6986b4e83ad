use Rattle.std.proofs.Common.{◌<◌, None, length, arith, ◌++◌, ◌∷◌}
use Rattle.std.proofs.lemmas.List.{get_or_read, get_or-set_same}
use Rattle.guest_pages.proofs.Chains.{chain_below, chain_once, chain_unique, chain_past, chain_without, chain_rest, chain_set, before_among}
use Rattle.guest_pages.proofs.lists.Lists.remove.Goals as goal

pub index-next-requires : goal.index-next-requires
index-next-requires c =
    let bound : c.args.number < length c.args.self.now.nexts.items = chain_below c.args.self.now.nexts.items _ c.requires.listed.numbers c.args.number c.requires.listed.is c.requires.listed.has in
    omega arith

pub index_mut-requires : goal.index_mut-requires
index_mut-requires c =
    let there = c.in-Some.ensures in
    let bound : c.in-Some.before < length c.args.self.now.nexts.items = (chain_once c.args.self.now.nexts.items _ there.0 c.in-Some.before (c.args.number ∷ there.1) there.2).2 in
    omega arith

pub returns-in-Some-clause-removed : goal.returns-in-Some-clause-removed
returns-in-Some-clause-removed c = λ numbers chain has.
    let there = c.in-Some.ensures in
    let bound = chain_below c.args.self.now.nexts.items _ numbers c.args.number chain has in
    let read = get_or_read c.args.self.now.nexts.items c.args.number c.index-next.result.now bound c.index-next.ensures None in
    let same = chain_unique c.args.self.now.nexts.items _ numbers _ chain there.2 in
    record {
      rest = there.0 ++ c.in-Some.before ∷ there.1;
      is = rw read (chain_past c.args.self.now.nexts.items _ there.0 c.in-Some.before c.args.number there.1 there.2);
      has = λ k. rw same (chain_without c.args.self.now.nexts.items _ there.0 c.in-Some.before c.args.number there.1 k there.2);
    }

pub returns-in-Some-clause-others : goal.returns-in-Some-clause-others
returns-in-Some-clause-others c = λ other numbers mine apart chain own disjoint.
    let there = c.in-Some.ensures in
    let same = chain_unique c.args.self.now.nexts.items _ mine _ own there.2 in
    chain_set c.args.self.now.nexts.items c.in-Some.before c.index-next.result.now _ numbers
    (disjoint c.in-Some.before (rw same (before_among there.0 c.in-Some.before (c.args.number ∷ there.1)))) chain

pub returns-in-None-clause-removed : goal.returns-in-None-clause-removed
returns-in-None-clause-removed c = λ numbers chain has.
    let there = c.in-None.ensures in
    let bound = chain_below c.args.self.now.nexts.items _ numbers c.args.number chain has in
    let list : c.args.list < length c.args.self.now.heads.items = omega arith in
    let read = get_or_read c.args.self.now.nexts.items c.args.number c.index-next.result.now bound c.index-next.ensures None in
    let same = chain_unique c.args.self.now.nexts.items _ numbers (c.args.number ∷ there.0) chain there.1 in
    record {
      rest = there.0;
      is = rw (get_or-set_same c.args.self.now.heads.items c.args.list c.index-next.result.now None list, read) there.1.3;
      has = λ k. rw same (chain_rest c.args.self.now.nexts.items _ c.args.number there.0 k there.1);
    }
