use Rattle.std.proofs.Common.{rules, ◌≡◌, pos, drop, sym, ◌∙◌}
use Rattle.std.proofs.lemmas.List.{at_drop_more}
use Rattle.clock.specs.Sums.{summed}
use Rattle.clock.proofs.answers.sum.Goals as goal

pub loop-output-preserved : goal.loop-output-preserved
loop-output-preserved c =
    let outputs = c.args.outputs.now in
    let before : summed c.loop-output.sum (drop c.loop-output.output-index outputs) ≡ summed (pos 0) outputs = search rules in
    let here = at_drop_more (summed c.loop-output.sum) outputs c.loop-output.output-index (pos 0) c.loop-output-test.true in
    let after = sym here ∙ before in
    search (rules, after)
