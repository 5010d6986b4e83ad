use Rattle.linux_calls.proofs.paths.openat.Goals as goal

pub returns-clause-exact : goal.returns-clause-exact
returns-clause-exact c = rw c.rsi-addr.ensures at c.open_at.ensures.exact
