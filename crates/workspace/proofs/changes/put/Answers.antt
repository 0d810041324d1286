use Rattle.std.proofs.Common.{◌≡◌, ℕ, ◌<◌, length, true, get_or, set, arith, inl, inr, ◌∙◌}
use Rattle.std.proofs.lemmas.Bool.{cases_eq}
use Rattle.std.proofs.lemmas.List.{length-set, get_or-set_same, get_or-set_other}
use Rattle.bytecode.specs.declared.instr.Instr.{Instr}
use Rattle.bytecode.specs.declared.instr.Instr.TheVariants.{Nop}
use Rattle.bytecode.specs.declared.unit.Unit.{Unit as TheUnit}
use Rattle.bytecode.specs.Instructions.{sound}
use Rattle.workspace.proofs.changes.put.Goals as goal

rules_changed : (u : TheUnit) (p : ℕ) (i : Instr) → sound u.locals p u.len i ≡ true → p < u.len
    → (k : ℕ) → k < u.len → sound u.locals k u.len (get_or (set u.code p i) k Nop) ≡ true
rules_changed u p i stands inside k lt =
    elim (cases_eq k p) [
      | inl e ↦
          let low : p < length u.code = omega (arith, u.whole, u.most) in
          rw (e, get_or-set_same u.code p i Nop low) stands
      | inr ne ↦ rw (get_or-set_other u.code p k i Nop ne) (u.rules k lt)
    ]

pub invariant_of-unit : goal.invariant_of-unit
invariant_of-unit c =
    let u : TheUnit = c.args.unit.now in
    record {
      whole = length-set u.code c.args.place c.args.instr ∙ u.whole;
      some = u.some;
      most = u.most;
      few = u.few;
      rules = rules_changed u c.args.place c.args.instr c.requires.stands c.requires.inside;
      blank = λ k le lt. get_or-set_other u.code c.args.place k c.args.instr Nop (omega (arith, c.requires.inside)) ∙ u.blank k le lt;
    }
