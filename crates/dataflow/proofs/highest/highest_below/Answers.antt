use Rattle.std.proofs.Common.{◌≡◌, ◌-◌, false, inl, inr, subst, arith}
use Rattle.std.proofs.lemmas.Bool.{cases_eq}
use Rattle.dataflow.specs.Highest.{is_marked}
use Rattle.dataflow.proofs.highest.highest_below.Goals as goal

pub loop-node-init : goal.loop-node-init
loop-node-init c = λ v from below. absurd (omega (arith, from, below))

pub loop-node-preserved : goal.loop-node-preserved
loop-node-preserved c = λ v from below. elim (cases_eq v (c.loop-node.node - 1)) [
  | inl same ↦ rw same c.if-marks-node.false
  | inr other ↦ c.loop-node.invariant v (omega (arith, from, other, c.loop-node-test.true)) below
]

pub returns-then-marks-node : goal.returns-then-marks-node
returns-then-marks-node c = (
  omega (arith, c.loop-node.auto.node, c.loop-node-test.true),
  c.if-marks-node.true,
  λ v from below. c.loop-node.invariant v (omega (arith, from)) below,
)

pub returns : goal.returns
returns c = λ v from below. c.loop-node.invariant v (omega (arith, c.loop-node-test.false)) below
