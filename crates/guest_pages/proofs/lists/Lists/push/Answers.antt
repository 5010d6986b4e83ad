use Rattle.std.proofs.Common.{◌<◌, None, Some, length, arith}
use Rattle.std.proofs.lemmas.List.{get_or_read, get_or-set_same, get_or-set_other, length-set}
use Rattle.guest_pages.proofs.Chains.{chain_set}
use Rattle.guest_pages.proofs.lists.Lists.push.Goals as goal

pub returns-clause-pushed : goal.returns-clause-pushed
returns-clause-pushed c = λ numbers chain out.
    let list : c.args.list < length c.args.self.now.heads.items = omega arith in
    let number : c.args.number < length c.args.self.now.nexts.items = omega arith in
    let read = get_or_read c.args.self.now.heads.items c.args.list c.index.result.now list c.index.ensures None in (
      get_or-set_same c.args.self.now.heads.items c.args.list (Some c.args.number) None list,
      rw (length-set c.args.self.now.nexts.items c.args.number c.index.result.now) number,
      out,
      rw (get_or-set_same c.args.self.now.nexts.items c.args.number c.index.result.now None number)
          (chain_set c.args.self.now.nexts.items c.args.number c.index.result.now c.index.result.now numbers out (rw read chain)),
    )

pub returns-clause-others : goal.returns-clause-others
returns-clause-others c = λ other numbers apart chain out.
    rw (get_or-set_other c.args.self.now.heads.items c.args.list other (Some c.args.number) None apart)
    (chain_set c.args.self.now.nexts.items c.args.number c.index.result.now _ numbers out chain)
