use Rattle.rewrite.proofs.yields.yielded.Goals as goal

pub returns-in-Literal : goal.returns-in-Literal
returns-in-Literal c = rw c.in-Literal.is (c.literal.ensures c.args.live)

pub returns-in-Branch : goal.returns-in-Branch
returns-in-Branch c = rw c.in-Branch.is (c.branch-instr.ensures c.args.live)

pub returns-in-DeadStore : goal.returns-in-DeadStore
returns-in-DeadStore c = rw c.in-DeadStore.is c.dead_store.ensures
