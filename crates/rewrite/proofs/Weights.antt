-- The rules lower the weight of a code, which is at most 256.
use Rattle.std.proofs.Common.{◌≡◌, ◌≢◌, ℕ, zero, suc, ◌<◌, ◌≤◌, ◌*◌, Bool, true, false, cond, List, [], ◌∷◌, length, get_or, set, ℤ, Some, refl, arith}
use Rattle.std.proofs.lemmas.Option.{none-some}
use Rattle.bytecode.specs.declared.instr.Instr.{Instr}
use Rattle.bytecode.specs.declared.instr.Instr.TheVariants as I
use Rattle.bytecode.specs.Instructions.{row}
use Rattle.facts.specs.declared.cell.ConstCell.{ConstCell}
use Rattle.facts.specs.declared.cell.ConstCell.TheVariants.{Num, Flag, Varies}
use Rattle.facts.specs.declared.frame.Frame.{Frame}
use Rattle.rewrite.specs.declared.rule.Rule.{Rule}
use Rattle.rewrite.specs.declared.rule.Rule.TheVariants as R
use Rattle.rewrite.specs.Rules.{Folds, load, dup, opposite, sum, difference, product, quotient, equal, less, literal, Yields}
use Rattle.rewrite.specs.Weights.{weight_of}

abbrev weight : Instr → ℕ
weight i = (row i).weight

weight_not_halt : (i : Instr) → i ≢ I.Halt → 0 < weight i
weight_not_halt I.Halt ne = absurd (ne refl)
weight_not_halt i ne = omega arith

weight_folds : (i : Instr) (k : ℕ) → Folds i k → weight i ≡ 2
weight_folds _ _ (load n) = refl
weight_folds _ _ dup = refl
weight_folds _ _ opposite = refl
weight_folds _ _ sum = refl
weight_folds _ _ difference = refl
weight_folds _ _ product = refl
weight_folds _ _ quotient = refl
weight_folds _ _ equal = refl
weight_folds _ _ less = refl

weight_literal : (k : ℕ) (c : ConstCell) (new : Instr) → literal k c ≡ Some new → weight new ≡ 1
weight_literal k (Num n) new e = let is : I.Lit k n ≡ new = cc in rw (← is)
weight_literal k (Flag b) new e = let is : I.LitFlag k b ≡ new = cc in rw (← is)
weight_literal k Varies new e = absurd (none-some new e)

weight_branch : (b : Bool) (d : ℤ) → weight (cond b I.Pop (I.DropJmp d)) ≡ 1
weight_branch true d = refl
weight_branch false d = refl

weight_low : (i : Instr) → weight i ≤ 2
weight_low I.Halt = omega arith
weight_low i = omega arith

pub rule_lowers : (r : Rule) (i : Instr) (known : Frame ConstCell) (live : ℕ) (new : Instr) → Yields r i known live new → weight new < weight i
rule_lowers R.Unreached i known live new (at, other, is) = rw is (weight_not_halt i other)
rule_lowers R.Literal i known live new (k, folds, c, top, is) = omega (arith, weight_folds i k folds, weight_literal k c new is)
rule_lowers R.Branch i known live new (d, jump, b, top, is) = rw (is, jump) (omega (arith, weight_branch b d))
rule_lowers R.DeadStore i known live new (n, store, dead, is) = rw (is, store) (omega arith)

weight_set : (code : List Instr) (p : ℕ) (new : Instr) → p < length code → weight new < weight (get_or code p I.Nop) → weight_of (set code p new) < weight_of code
weight_set [] p new inside lt = omega arith
weight_set (i ∷ code) zero new inside lt = omega arith
weight_set (i ∷ code) (suc p) new inside lt = omega (arith, weight_set code p new (omega arith) lt)

pub rule_lowers_code : (r : Rule) (code : List Instr) (known : Frame ConstCell) (live p : ℕ) (new : Instr) → p < length code
    → Yields r (get_or code p I.Nop) known live new → weight_of (set code p new) < weight_of code
rule_lowers_code r code known live p new inside y = weight_set code p new inside (rule_lowers r (get_or code p I.Nop) known live new y)

pub weight_twice : (code : List Instr) → weight_of code ≤ 2 * length code
weight_twice [] = omega arith
weight_twice (i ∷ code) = omega (arith, weight_low i, weight_twice code)
