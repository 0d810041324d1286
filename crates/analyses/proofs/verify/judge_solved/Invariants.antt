use Rattle.std.proofs.Common.{◌≢◌, ℕ, ◌<◌}
use Rattle.facts.specs.declared.frame.Frame.TheVariants.{Clash}
use Rattle.dataflow.specs.Takes.{at}
use Rattle.analyses.specs.Frameworks.{types_of}
use Rattle.analyses.proofs.verify.judge_solved.Given as goal

abbrev pub invariant-loop-place : goal.invariant-loop-place
invariant-loop-place l = (p : ℕ) → p < l.place → at (types_of l.graph) l.facts p ≢ Clash
