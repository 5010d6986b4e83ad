use Rattle.linux_calls.proofs.paths.open.Goals as goal

pub returns-clause-exact : goal.returns-clause-exact
returns-clause-exact c = rw c.rdi-addr.ensures at c.open_at.ensures.exact
