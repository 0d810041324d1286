-- What each rule makes of an instruction, by what is known before its place and what is live after it. Assumes nothing.
use Rattle.std.specs.Prelude.{◌≡◌, ◌≢◌, ℕ, Bool, false, cond, ℤ, Some, None, Option}
use Rattle.std.specs.List.{slice_get}
use Rattle.bytecode.specs.declared.instr.Instr.{Instr}
use Rattle.bytecode.specs.declared.instr.Instr.TheVariants as I
use Rattle.dataflow.specs.Mask.{has_bit}
use Rattle.facts.specs.declared.cell.ConstCell.{ConstCell}
use Rattle.facts.specs.declared.cell.ConstCell.TheVariants.{Num, Flag, Varies}
use Rattle.facts.specs.declared.frame.Frame.{Frame}
use Rattle.facts.specs.declared.frame.Frame.TheVariants.{Unreached, At, Clash}
use Rattle.facts.specs.Constants.{carry_constants}
use Rattle.rewrite.specs.declared.rule.Rule.{Rule}
use Rattle.rewrite.specs.declared.rule.Rule.TheVariants as R

abbrev pub rule_number : Rule → ℕ
rule_number R.Unreached = 1
rule_number R.Literal = 2
rule_number R.Branch = 3
rule_number R.DeadStore = 4

-- the instructions of one result that a literal may replace, and how many values they take
pub data Folds : Instr → ℕ → Type 0 where
  load : (n : ℕ) → Folds (I.Load n) 0
  dup : Folds I.Dup 0
  opposite : Folds I.Not 1
  sum : Folds I.Add 2
  difference : Folds I.Sub 2
  product : Folds I.Mul 2
  quotient : Folds I.Div 2
  equal : Folds I.Eq 2
  less : Folds I.Lt 2

-- the instruction that drops k values and pushes what is known
abbrev pub literal : ℕ → ConstCell → Option Instr
literal k (Num n) = Some (I.Lit k n)
literal k (Flag b) = Some (I.LitFlag k b)
literal k Varies = None

-- c is what is known of the top value
abbrev pub HasTop : Frame ConstCell → ConstCell → Type 0
HasTop Unreached c = ⊥
HasTop (At a) c = slice_get a.stack 0 ≡ Some c
HasTop Clash c = ⊥

-- the rule makes new of the instruction i, before which known is known and after which live is live
abbrev pub Yields : Rule → Instr → Frame ConstCell → ℕ → Instr → Type 0
Yields R.Unreached i known live new = (known ≡ Unreached) × (i ≢ I.Halt) × (new ≡ I.Halt)
Yields R.Literal i known live new = (k : ℕ) × Folds i k × (c : ConstCell) × HasTop (carry_constants i false known) c × (literal k c ≡ Some new)
Yields R.Branch i known live new = (d : ℤ) × (i ≡ I.Jf d) × (b : Bool) × HasTop known (Flag b) × (new ≡ cond b I.Pop (I.DropJmp d))
Yields R.DeadStore i known live new = (n : ℕ) × (i ≡ I.Store n) × (has_bit live n ≡ false) × (new ≡ I.Pop)
