use Rattle.std.proofs.Common.{Ok, refl}
use Rattle.workspace.proofs.Loading.{verifies}
use Rattle.workspace.proofs.workspace.load.examine.Goals as goal

pub returns-clause-found : goal.returns-clause-found
returns-clause-found g c = (
  λ m m' h. (
    Ok c.read.new.self,
    c.in_ok-read.ensures.answer,
    verifies c.read.new.self c.read.new.self c.solve.new.found.facts m m' refl c.solve.ensures.least (c.in_ok-judge_solved.ensures c.solve.ensures.least.solution) h,
  ),
  c.solve.ensures.solved,
)
