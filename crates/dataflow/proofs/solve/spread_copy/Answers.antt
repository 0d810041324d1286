use Rattle.std.proofs.Common.{◌+◌, subst, arith}
use Rattle.dataflow.specs.Analysis.{NextEdge}
use Rattle.dataflow.proofs.Spreading.{following_next, following_edge, spreading_start, spreading_edge, spreading_valid, valid_read}
use Rattle.dataflow.proofs.solve.spread_copy.Goals as goal

pub loop-out-init : goal.loop-out-init
loop-out-init g c =
    let M = g.A.Analysis.meaning c.args.code.now in
    following_next (spreading_start M c.args.node c.index-facts-node.result c.args.facts.now (g.P.Policy.pending c.args.policy.now))
    (omega arith) c.first_edge-out.result c.first_edge-out.ensures

pub carry_along-requires-clause-valid : goal.carry_along-requires-clause-valid
carry_along-requires-clause-valid g c =
    let V = g.A.Analysis.valid c.args.code.now in
    let M = g.A.Analysis.meaning c.args.code.now in
    let L = g.met.A.Analysis.lawful c.args.code.now in
    let vx = valid_read V M _ c.requires.valid _ _ c.requires.node c.requires.room c.index-facts-node.is in
    let before = following_edge _ c.in-Some.is c.loop-out.invariant in
    spreading_valid L vx c.requires.valid before.0 (omega (arith, before.1))

pub loop-out-preserved : goal.loop-out-preserved
loop-out-preserved g c =
    let V = g.A.Analysis.valid c.args.code.now in
    let M = g.A.Analysis.meaning c.args.code.now in
    let L = g.met.A.Analysis.lawful c.args.code.now in
    let vx = valid_read V M _ c.requires.valid _ _ c.requires.node c.requires.room c.index-facts-node.is in
    let before = following_edge _ c.in-Some.is c.loop-out.invariant in
    let after = spreading_edge L vx c.requires.valid before.0 before.1 before.2 (omega (arith, c.requires.room, c.loop-out.auto.facts)) c.carry_along.ensures in
    following_next after (omega (arith, before.1)) c.next_edge-out.result
    (subst (λ v. NextEdge M v (c.in-Some.edge + 1) c.next_edge-out.result) before.2 c.next_edge-out.ensures)
