use Rattle.std.proofs.Common.{arith}
use Rattle.rewrite.proofs.Weights.{weight_twice}
use Rattle.rewrite.proofs.laws.code_weighs_at_most_256.Goals as goal

pub returns : goal.returns
returns c = λ code low. omega (arith, weight_twice code)
