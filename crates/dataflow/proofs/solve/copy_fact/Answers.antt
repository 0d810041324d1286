use Rattle.dataflow.proofs.Copying.{copied_up}
use Rattle.dataflow.proofs.solve.copy_fact.Goals as goal

pub returns-then-from-to : goal.returns-then-from-to
returns-then-from-to g c = λ least.
    let parts = c.split_at_mut-low.ensures in
    copied_up c.args.facts.now c.split_at_mut-low.result.0.now c.copy_from_slice.new.self c.split_at_mut-low.result.1.now c.args.from c.args.to least
    c.if-from-to.true c.requires.to parts.front parts.back c.copy_from_slice.ensures.after
