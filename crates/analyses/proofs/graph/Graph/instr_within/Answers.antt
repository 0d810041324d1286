use Rattle.std.proofs.Common.{◌<◌, sym, ap, ◌∙◌, arith, get_or-take}
use Rattle.bytecode.specs.declared.instr.Instr.TheVariants.{Nop}
use Rattle.analyses.specs.Edges.{instr_at}
use Rattle.analyses.proofs.graph.Graph.instr_within.Goals as goal

pub bounds-self-inside-place : goal.bounds-self-inside-place
bounds-self-inside-place c = omega (arith, c.requires, c.args.self.now.most)

pub returns : goal.returns
returns c =
    let u = c.self.inside.unit in
    let below : c.args.place < u.len = omega (arith, c.requires, ap (λ v. v.len) c.self.view_is) in
    sym (get_or-take u.len u.code c.args.place Nop below) ∙ ap (λ v. instr_at v c.args.place) c.self.view_is
