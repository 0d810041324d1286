use Rattle.analyses.specs.Ways.{edges_are_ways}
use Rattle.analyses.proofs.laws.edges_are_ways.Goals as goal

pub returns : goal.returns
returns c = edges_are_ways
