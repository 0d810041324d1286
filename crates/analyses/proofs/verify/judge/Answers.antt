use Rattle.std.proofs.Common.{rules}
use Rattle.dataflow.specs.Takes.{at}
use Rattle.analyses.specs.Frameworks.{types_of}
use Rattle.analyses.proofs.Verdicts.{applicable_more, clash_more}
use Rattle.analyses.proofs.verify.judge.Goals.{in-Some+else-ne, in_default}
use Rattle.analyses.proofs.verify.judge.Goals as goal

pub loop-place-preserved : goal.loop-place-preserved
loop-place-preserved c =
    let u = c.args.graph.now in
    let f = at (types_of u) c.args.facts.now in
    let k = c.loop-place.place in
    elim c.match-reason_in.branch [
      | in-Some+else-ne w ↦ rw (w.clash-is, w.or-clash.ensures) (clash_more u f k c.loop-place.clash c.loop-place.invariant (search rules))
      | in_default w ↦ rw w.clash-is (applicable_more u f k c.loop-place.clash c.loop-place.invariant (search rules))
    ]
