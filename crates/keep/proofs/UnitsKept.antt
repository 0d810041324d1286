-- What a rule makes may stand where the instruction stood.
use Rattle.std.proofs.Common.{◌≡◌, ℕ, ◌+◌, ◌<◌, Bool, true, false, cond, ltb, get_or, ℤ, pos, ◌+ℤ◌, is_some, Some, refl, sym}
use Rattle.std.proofs.lemmas.List.{get_or-take}
use Rattle.std.proofs.lemmas.Bool.{and_parts}
use Rattle.std.proofs.lemmas.Option.{none-some, same_Some}
use Rattle.bytecode.specs.declared.instr.Instr.{Instr}
use Rattle.bytecode.specs.declared.instr.Instr.TheVariants as I
use Rattle.bytecode.specs.declared.unit.Unit.{Unit as TheUnit}
use Rattle.bytecode.specs.Instructions.{row, inside, in_range, fitting, followed, standing}
use Rattle.facts.specs.declared.cell.ConstCell.{ConstCell}
use Rattle.facts.specs.declared.cell.ConstCell.TheVariants.{Num, Flag, Varies}
use Rattle.facts.specs.declared.frame.Frame.{Frame}
use Rattle.analyses.specs.Edges.{instr_at}
use Rattle.rewrite.specs.declared.rule.Rule.{Rule}
use Rattle.rewrite.specs.declared.rule.Rule.TheVariants as R
use Rattle.rewrite.specs.Rules.{Folds, dup, literal, Yields}
use Rattle.keep.specs.Keeps.{RulesKeepUnits}

pub standing_at : (u : TheUnit) (p : ℕ) → p < u.len → standing u.locals p u.len (instr_at u p) ≡ true
standing_at u p inside =
    rw (get_or-take u.len u.code p I.Nop inside)
    (and_parts (in_range (row (get_or u.code p I.Nop)).operands) (standing u.locals p u.len (get_or u.code p I.Nop)) (u.rules p inside)).1

pub fold_falls : (i : Instr) (k : ℕ) → Folds i k → (row i).falls ≡ true
fold_falls i k dup = refl
fold_falls i k folds = refl

module _ (L p n : ℕ) where
  -- the next place is there, where it can follow
  next_stands : (i : Instr) → (row i).falls ≡ true → standing L p n i ≡ true → ltb (p + 1) n ≡ true
  next_stands i falls stands =
      let parts = and_parts (fitting L p n (row i).operands) (followed p n (row i).falls) stands in
      rw falls at parts.1

  literal_stands : (k : ℕ) (c : ConstCell) (new : Instr) → literal k c ≡ Some new → ltb (p + 1) n ≡ true → standing L p n new ≡ true
  literal_stands k (Num v) new made next = rw (sym (same_Some (I.Lit k v) new made)) next
  literal_stands k (Flag b) new made next = rw (sym (same_Some (I.LitFlag k b) new made)) next
  literal_stands k Varies new made next = absurd (none-some new made)

  branch_stands : (d : ℤ) (b : Bool) → standing L p n (I.Jf d) ≡ true → standing L p n (cond b I.Pop (I.DropJmp d)) ≡ true
  branch_stands d true stands = next_stands (I.Jf d) refl stands
  branch_stands d false stands = let parts = and_parts (is_some (inside n (pos p +ℤ d))) (ltb (p + 1) n) stands in rw parts.0

  yield_stands : (r : Rule) (i : Instr) (known : Frame ConstCell) (live : ℕ) (new : Instr) → Yields r i known live new
      → standing L p n i ≡ true → standing L p n new ≡ true
  yield_stands R.Unreached i known live new y stands = rw y.2
  yield_stands R.Literal i known live new y stands = literal_stands y.0 y.2 new y.4 (next_stands i (fold_falls i y.0 y.1) stands)
  yield_stands R.Branch i known live new y stands = rw y.4 (branch_stands y.0 y.2 (rw y.1 at stands))
  yield_stands R.DeadStore i known live new y stands = rw y.3 (next_stands i (rw y.1) stands)

pub rules_keep_units : RulesKeepUnits
rules_keep_units r u known live p new y =
    yield_stands u.locals p u.len r (instr_at u p) (known p) (live p) new y.yields (standing_at u p y.inside)
