use Rattle.std.proofs.Common.{◌≡◌, pos, drop}
use Rattle.clock.specs.Sums.{summed}
use Rattle.clock.proofs.answers.sum.Given as goal

abbrev pub invariant-loop-output : goal.invariant-loop-output
invariant-loop-output l = summed l.sum (drop l.output-index l.outputs) ≡ summed (pos 0) l.outputs
