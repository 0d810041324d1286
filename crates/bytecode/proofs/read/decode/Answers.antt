use Rattle.std.proofs.Common.{◌≡◌, sym, refl, ap, ◌∙◌}
use Rattle.std.proofs.lemmas.Bool.{and_parts, both_ways}
use Rattle.bytecode.specs.Instructions.{row, word, in_range, standing}
use Rattle.bytecode.specs.Layout.{encoded}
use Rattle.bytecode.proofs.Units.{one_instr}
use Rattle.bytecode.proofs.read.decode.Goals as goal

-- the bytes are those of one instruction alone, and that one may not stand
pub returns-in_default : goal.returns-in_default
returns-in_default c = (
  refl,
  λ i r.
      let stands = standing c.args.site.locals c.args.site.place c.args.site.len in
      let allowed = and_parts (in_range (row i).operands) (stands i) r.allowed in
      let same : encoded (word i) ≡ encoded (word c.in-Ok.instr) = r.same ∙ sym c.from.ensures ∙ ap encoded (sym c.in-Ok.ensures.same) in
      let e = one_instr i c.in-Ok.instr allowed.0 c.in-Ok.ensures.operands_in_range same in
      both_ways (stands i) (ap stands e ∙ sym c.if-may_stand.ensures) allowed.1,
)
