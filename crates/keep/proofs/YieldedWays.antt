-- What a rule makes has no way that the instruction had not.
use Rattle.std.proofs.Common.{◌≡◌, ℕ, Bool, true, false, cond, ℤ, pos, None, Some, refl, sym, ◌∙◌}
use Rattle.std.proofs.lemmas.Option.{none-some, same_Some}
use Rattle.bytecode.specs.declared.instr.Instr.{Instr}
use Rattle.bytecode.specs.declared.instr.Instr.TheVariants as I
use Rattle.bytecode.specs.Instructions.{row}
use Rattle.facts.specs.declared.cell.ConstCell.{ConstCell}
use Rattle.facts.specs.declared.cell.ConstCell.TheVariants.{Num, Flag, Varies}
use Rattle.facts.specs.declared.frame.Frame.{Frame}
use Rattle.analyses.specs.Edges.{distance}
use Rattle.rewrite.specs.declared.rule.Rule.{Rule}
use Rattle.rewrite.specs.declared.rule.Rule.TheVariants as R
use Rattle.rewrite.specs.Rules.{literal, Yields}
use Rattle.keep.proofs.Equations.{Way}
use Rattle.keep.proofs.UnitsKept.{fold_falls}

-- each way of the one is a way of the other, and as far
abbrev pub FewerWays : Instr → Instr → Type 0
FewerWays new i = (j : Bool) (by : ℤ) → distance new j ≡ Some by → distance i j ≡ Some by

falling_ways : (new i : Instr) → distance new true ≡ None → distance new false ≡ Some (pos 1) → (row i).falls ≡ true → FewerWays new i
falling_ways new i none next falls true by far = absurd (none-some by (sym none ∙ far))
falling_ways new i none next falls false by far = rw falls (sym next ∙ far)

literal_ways : (i : Instr) (k : ℕ) (c : ConstCell) (new : Instr) → literal k c ≡ Some new → (row i).falls ≡ true → FewerWays new i
literal_ways i k (Num v) new made falls = rw (sym (same_Some (I.Lit k v) new made)) (falling_ways (I.Lit k v) i refl refl falls)
literal_ways i k (Flag b) new made falls = rw (sym (same_Some (I.LitFlag k b) new made)) (falling_ways (I.LitFlag k b) i refl refl falls)
literal_ways i k Varies new made falls = absurd (none-some new made)

branch_ways : (d : ℤ) (b : Bool) → FewerWays (cond b I.Pop (I.DropJmp d)) (I.Jf d)
branch_ways d true true by far = absurd (none-some by far)
branch_ways d true false by far = far
branch_ways d false true by far = far
branch_ways d false false by far = absurd (none-some by far)

-- HALT has no way on
pub halt_stops : (j : Bool) (by : ℤ) → distance I.Halt j ≡ Some by → ⊥
halt_stops true by far = none-some by far
halt_stops false by far = none-some by far

pub yield_ways : (r : Rule) (i : Instr) (known : Frame ConstCell) (live : ℕ) (new : Instr) → Yields r i known live new → FewerWays new i
yield_ways R.Unreached i known live new y = rw y.2 (λ j by far. absurd (halt_stops j by far))
yield_ways R.Literal i known live new y = literal_ways i y.0 y.2 new y.4 (fold_falls i y.0 y.1)
yield_ways R.Branch i known live new y = rw (y.1, y.4) (branch_ways y.0 y.2)
yield_ways R.DeadStore i known live new y = rw (y.1, y.3) (λ j by far. far)

pub fewer_ways : (new i : Instr) → FewerWays new i → (n p : ℕ) (j : Bool) (q : ℕ) → Way n p new j q → Way n p i j q
fewer_ways new i fewer n p j q way = record { by = way.by; far = fewer j way.by way.far; arrives = way.arrives }
