use Rattle.workspace.proofs.Taken.{taken_solution}
use Rattle.workspace.proofs.found.solve.Goals as goal

pub returns-clause-solved : goal.returns-clause-solved
returns-clause-solved g c =
    taken_solution
    (g.met.A.Analysis.lawful c.args.code.now)
    c.args.found.now.facts
    c.solution-found.new.facts
    (g.P.Policy.pending c.solution-found.new.policy)
    c.solution-found.result
    c.solution-found.ensures
