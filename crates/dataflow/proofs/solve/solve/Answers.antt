use Rattle.std.proofs.Common.{◌∙◌, arith}
use Rattle.dataflow.specs.Takes.{at, Take}
use Rattle.dataflow.proofs.Between.{potential_falls}
use Rattle.dataflow.proofs.Running.{counted_start, counted_take, counted_end, counted_between, counted_few}
use Rattle.dataflow.proofs.solve.solve.Given as given
use Rattle.dataflow.proofs.solve.solve.Goals as goal

pub loop-node-init : goal.loop-node-init
loop-node-init g c = (counted_start c.start.ensures.seeded c.start.ensures.pending, c.start.ensures.past)

-- this turn was a take
taken : (g : given.Over) (c : goal.After-facts-in-Some-1 g) →
    let M = g.A.Analysis.meaning c.args.code.now in
    Take M c.in-Some.node (at M c.loop-node.facts) (g.P.Policy.pending c.loop-node.policy) (at M c.spread.new.facts) (g.P.Policy.pending c.spread.new.policy)
taken g c =
    let B = counted_between (g.met.A.Analysis.lawful c.args.code.now) c.loop-node.invariant.0 in
    let t = c.in-Some.ensures in
    record {
      node = B.within c.in-Some.node t.0;
      pending = t.0;
      left = g.P.Policy.pending c.take.new.self;
      removed = t.1;
      others = t.2;
      spread = c.spread.ensures.spread;
    }

pub loop-node-smaller : goal.loop-node-smaller
loop-node-smaller g c =
    let L = g.met.A.Analysis.lawful c.args.code.now in
    potential_falls L (counted_between L c.loop-node.invariant.0) (taken g c)

pub loop-node-preserved : goal.loop-node-preserved
loop-node-preserved g c = (counted_take c.loop-node.invariant.0 (taken g c), c.spread.ensures.past ∙ c.loop-node.invariant.1)

pub spread-requires-clause-node : goal.spread-requires-clause-node
spread-requires-clause-node g c =
    let B = counted_between (g.met.A.Analysis.lawful c.args.code.now) c.loop-node.invariant.0 in
    B.within c.in-Some.node c.in-Some.ensures.0

pub spread-requires-clause-valid : goal.spread-requires-clause-valid
spread-requires-clause-valid g c =
    let B = counted_between (g.met.A.Analysis.lawful c.args.code.now) c.loop-node.invariant.0 in
    B.valid

pub overflow_add-takes : goal.overflow_add-takes
overflow_add-takes g c = omega (arith, counted_few (g.met.A.Analysis.lawful c.args.code.now) c.loop-node.invariant.0)

pub returns : goal.returns
returns g c =
    let none = c.in_default.ensures in
    counted_end (g.met.A.Analysis.lawful c.args.code.now) (omega (arith, c.nodes.ensures, c.if-facts-nodes.false))
    c.loop-node.invariant.0 c.loop-node.invariant.1 none.0 none.1
