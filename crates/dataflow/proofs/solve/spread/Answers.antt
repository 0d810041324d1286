use Rattle.std.proofs.Common.{◌+◌, None, Some, subst, arith}
use Rattle.dataflow.specs.Analysis.{NextEdge}
use Rattle.dataflow.specs.Takes.{at, Carries}
use Rattle.dataflow.proofs.Spreading.{spreading_start, spreading_edge, spreading_spreads, following_next}
use Rattle.dataflow.proofs.solve.spread.Goals as goal

pub returns-in_default-clause-spread : goal.returns-in_default-clause-spread
returns-in_default-clause-spread g c =
    let M = g.A.Analysis.meaning c.args.code.now in
    let before = spreading_start M c.args.node (at M c.args.facts.now c.args.node) c.args.facts.now (g.P.Policy.pending c.args.policy.now) in
    spreading_spreads (following_next before (omega arith) None c.in_default.ensures).0

pub returns-in-None-clause-spread : goal.returns-in-None-clause-spread
returns-in-None-clause-spread g c =
    let M = g.A.Analysis.meaning c.args.code.now in
    let L = g.met.A.Analysis.lawful c.args.code.now in
    let xs = c.args.facts.now in
    let p = g.P.Policy.pending c.args.policy.now in
    let x = at M xs c.args.node in
    let e = c.in-Some.ensures in
    let first = following_next (spreading_start M c.args.node x xs p) (omega arith) (Some c.in-Some.edge) e in
    let carried = subst (λ v. Carries M c.in-Some.edge (at M xs v) xs p c.carry_out.new.facts (g.P.Policy.pending c.carry_out.new.policy)) e.2 c.carry_out.ensures in
    let only = spreading_edge L (c.requires.valid c.args.node c.requires.node) c.requires.valid first.0 e.1 e.2 c.requires.room carried in
    spreading_spreads (following_next only (omega (arith, e.1)) None (subst (λ v. NextEdge M v (c.in-Some.edge + 1) None) e.2 c.in-None.ensures)).0
