-- What a rule makes lowers the weight, and may stand at its place.
use Rattle.std.proofs.Common.{◌≡◌, ℕ, ◌<◌, set, true, arith}
use Rattle.std.proofs.lemmas.Bool.{and_from}
use Rattle.bytecode.specs.declared.instr.Instr.{Instr}
use Rattle.bytecode.specs.Instructions.{row, in_range, standing, sound}
use Rattle.bytecode.specs.Files.{held}
use Rattle.bytecode.proofs.Held.{length-held}
use Rattle.rewrite.specs.Weights.{weight_of}
use Rattle.rewrite.proofs.Weights.{rule_lowers_code}
use Rattle.keep.proofs.UnitsKept.{rules_keep_units}
use Rattle.workspace.specs.Contents.{Contents}
use Rattle.workspace.specs.Stored.{IsYielded}

module _ (c : Contents) (p : ℕ) (i : Instr) (inside : p < c.unit.len) (y : IsYielded c p i) where
  pub yield_lowers : weight_of (set (held c.unit) p i) < weight_of (held c.unit)
  yield_lowers = rule_lowers_code y.0 (held c.unit) (c.constants p) (c.lives p) p i (omega (arith, length-held c.unit)) y.1

  pub yield_sound : in_range (row i).operands ≡ true → sound c.unit.locals p c.unit.len i ≡ true
  yield_sound range =
      and_from
      (in_range (row i).operands)
      (standing c.unit.locals p c.unit.len i)
      range
      (rules_keep_units y.0 c.unit c.constants c.lives p i (record { inside = inside; yields = y.1 }))
