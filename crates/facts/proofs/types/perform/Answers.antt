use Rattle.std.proofs.Common.{replicate, sym, ap, ◌∙◌}
use Rattle.machine.specs.Machine.{any}
use Rattle.facts.specs.declared.cell.TypeCell.TheVariants.{Num, Flag}
use Rattle.facts.specs.Effects.{takes_of, effect}
use Rattle.facts.specs.Types.{types}
use Rattle.facts.proofs.AskedKinds.{literal_carried}
use Rattle.facts.proofs.types.perform.Goals as goal

pub returns-in-Lit : goal.returns-in-Lit
returns-in-Lit c =
    let a = c.args.cells.now in
    c.replace.ensures
    ∙ literal_carried c.args.instr a c.from.result Num
    (ap takes_of c.in-Lit.is ∙ ap (λ k. replicate k any) (sym c.from.ensures))
    (ap (λ i. effect types i a) c.in-Lit.is)

pub returns-in-LitFlag : goal.returns-in-LitFlag
returns-in-LitFlag c =
    let a = c.args.cells.now in
    c.replace-in-LitFlag.ensures
    ∙ literal_carried c.args.instr a c.from-in-LitFlag.result Flag
    (ap takes_of c.in-LitFlag.is ∙ ap (λ k. replicate k any) (sym c.from-in-LitFlag.ensures))
    (ap (λ i. effect types i a) c.in-LitFlag.is)
