use Rattle.std.proofs.Common.{◌≡◌, ◌+◌, List, [], ◌∷◌, ◌++◌, length, refl, sym, ap, ◌∙◌, length-append}
use Rattle.machine_state.specs.declared.kinds.Region.{Region}
use Rattle.region_map.specs.Lists.{appended}
use Rattle.region_map.proofs.Joins.{appended_last}
use Rattle.region_map.proofs.lists.append.Goals as goal

pub returns-then-joins-clause-ok : goal.returns-then-joins-clause-ok
returns-then-joins-clause-ok c =
    let e : appended c.args.list.now.items c.args.next ≡ c.pop.new.self.items ++ record c.in-Some.last { count = c.in-Some.last.count + c.args.next.count } ∷ [] =
    ap (λ (xs : List Region). appended xs c.args.next) c.in-Some.ensures.items ∙ appended_last c.pop.new.self.items c.in-Some.last c.args.next
    ∙ rw (sym c.if-joins.ensures) refl in
    rw e c.put-then-joins.ensures.ok

pub returns-then-joins-clause-full : goal.returns-then-joins-clause-full
returns-then-joins-clause-full c =
    let e : length (appended c.args.list.now.items c.args.next) ≡ length c.pop.new.self.items + 1 =
    ap (λ (xs : List Region). length (appended xs c.args.next)) c.in-Some.ensures.items ∙ ap (length {A = Region}) (appended_last c.pop.new.self.items c.in-Some.last c.args.next)
    ∙ rw (sym c.if-joins.ensures) (length-append c.pop.new.self.items (record c.in-Some.last { count = c.in-Some.last.count + c.args.next.count } ∷ [])) in
    rw e c.put-then-joins.ensures.full

pub returns-else-joins-clause-ok : goal.returns-else-joins-clause-ok
returns-else-joins-clause-ok c =
    let e : appended c.args.list.now.items c.args.next ≡ c.pop.new.self.items ++ c.in-Some.last ∷ c.args.next ∷ [] =
    ap (λ (xs : List Region). appended xs c.args.next) c.in-Some.ensures.items ∙ appended_last c.pop.new.self.items c.in-Some.last c.args.next
    ∙ rw (sym c.if-joins.ensures) refl in
    rw e c.put_both.ensures.ok

pub returns-else-joins-clause-full : goal.returns-else-joins-clause-full
returns-else-joins-clause-full c =
    let e : length (appended c.args.list.now.items c.args.next) ≡ length c.pop.new.self.items + 2 =
    ap (λ (xs : List Region). length (appended xs c.args.next)) c.in-Some.ensures.items ∙ ap (length {A = Region}) (appended_last c.pop.new.self.items c.in-Some.last c.args.next)
    ∙ rw (sym c.if-joins.ensures) (length-append c.pop.new.self.items (c.in-Some.last ∷ c.args.next ∷ [])) in
    rw e c.put_both.ensures.full
