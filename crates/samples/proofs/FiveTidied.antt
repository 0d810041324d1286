-- LIT 0 5, STORE 0, LOAD 0, OUT, HALT is tidied in two changes: the LOAD becomes a literal, and then the STORE a POP.
use Rattle.std.proofs.Common.{◌≡◌, ℕ, zero, suc, ◌-◌, ◌<◌, Bool, true, false, List, [], ◌∷◌, pos, ℤ, inl, inr, refl, sym, ap, ◌∙◌, subst, arith}
use Rattle.std.specs.Prelude.{◌≢◌}
use Rattle.bytecode.specs.declared.instr.Instr.{Instr}
use Rattle.bytecode.specs.declared.instr.Instr.TheVariants as I
use Rattle.bytecode.specs.declared.unit.Unit.{Unit as TheUnit}
use Rattle.dataflow.specs.Mask.{has_bit}
use Rattle.dataflow.specs.Analysis.{Solution}
use Rattle.facts.specs.declared.cell.ConstCell.{ConstCell}
use Rattle.facts.specs.declared.cell.ConstCell.TheVariants.{Num}
use Rattle.facts.specs.declared.frame.Frame.{Frame}
use Rattle.facts.specs.declared.frame.Frame.TheVariants.{Unreached, At, Clash}
use Rattle.facts.specs.Live.{IsSet}
use Rattle.facts.specs.Constants.{carry_constants}
use Rattle.analyses.specs.Edges.{instr_at}
use Rattle.analyses.specs.Frameworks.{constants_of, live_of}
use Rattle.analyses.specs.Lawful.{constants_lawful, live_lawful}
use Rattle.rewrite.specs.declared.change.Change.{Change}
use Rattle.rewrite.specs.declared.rule.Rule.TheVariants as R
use Rattle.rewrite.specs.Rules.{rule_number, Folds, load, dup, opposite, sum, difference, product, quotient, equal, less, HasTop, Yields}
use Rattle.rewrite.specs.Choices.{NoRule, LowestChange, NothingToDo}
use Rattle.rewrite.proofs.Rules.{each_rule}
use Rattle.keep.specs.Keeps.{IsAccepted}
use Rattle.workspace.specs.Contents.{Contents, IsSolved}
use Rattle.samples.specs.Samples.{five, tidy_five}
use Rattle.samples.proofs.Below.{Each, each_below}
use Rattle.samples.proofs.Units.{unit_of}
use Rattle.samples.proofs.Least.{Supported, along, along_least, supported_least}
use Rattle.samples.proofs.StraightCode.{IsStraight, constants_straight}
use Rattle.samples.proofs.Small.{straight_accepted}
use Rattle.samples.proofs.Answering.{with_unit}
use Rattle.samples.proofs.Tidying.{TidiesTo, tidies_none, tidies_change}

-- ---- the unit, and what it becomes
abbrev pub five_unit : TheUnit
five_unit = unit_of 1 5 five refl (omega arith) (omega arith) (omega arith) (((((tt, refl), refl), refl), refl), refl)

abbrev folded_code : List Instr
folded_code = I.Lit 0 (pos 5) ∷ I.Store 0 ∷ I.Lit 0 (pos 5) ∷ I.Out ∷ I.Halt ∷ []

abbrev folded_unit : TheUnit
folded_unit = unit_of 1 5 folded_code refl (omega arith) (omega arith) (omega arith) (((((tt, refl), refl), refl), refl), refl)

abbrev pub tidy_unit : TheUnit
tidy_unit = unit_of 1 5 tidy_five refl (omega arith) (omega arith) (omega arith) (((((tt, refl), refl), refl), refl), refl)

pub five_accepted : IsAccepted five_unit
five_accepted = straight_accepted five_unit 4 (refl, refl) (((((tt, refl), refl), refl), refl), refl)

-- ---- instructions of which no rule makes anything
is_folded : Instr → Bool
is_folded I.Not = true
is_folded (I.Load n) = true
is_folded I.Dup = true
is_folded I.Add = true
is_folded I.Sub = true
is_folded I.Mul = true
is_folded I.Div = true
is_folded I.Eq = true
is_folded I.Lt = true
is_folded i = false

folds_folded : (i : Instr) (k : ℕ) → Folds i k → is_folded i ≡ true
unfolding is_folded
folds_folded _ _ (load n) = refl
folds_folded _ _ dup = refl
folds_folded _ _ opposite = refl
folds_folded _ _ sum = refl
folds_folded _ _ difference = refl
folds_folded _ _ product = refl
folds_folded _ _ quotient = refl
folds_folded _ _ equal = refl
folds_folded _ _ less = refl

module _ (i : Instr) (known : Frame ConstCell) (live : ℕ) where
  no_rule : (known ≡ Unreached → i ≢ I.Halt → ⊥) → is_folded i ≡ false → ((d : ℤ) → i ≡ I.Jf d → ⊥) → ((n : ℕ) → i ≡ I.Store n → has_bit live n ≡ false → ⊥)
      → NoRule i known live
  no_rule reached literal branch store r new =
      each_rule (λ r. Yields r i known live new → ⊥)
      (λ y. reached y.0 y.1)
      (λ y. let folds = folds_folded i y.0 y.1 in cc)
      (λ y. branch y.0 y.1)
      (λ y. store y.0 y.1 y.2)
      r

-- ---- what is known
reaches : Frame ConstCell → Bool
reaches Unreached = false
reaches (At a) = true
reaches Clash = true

module _ (u : TheUnit) (straight : IsStraight u 4) (codes : List (List Instr)) (d : Contents) (solved : IsSolved (with_unit u codes d)) where
  known_is : (p : ℕ) → p < u.len → d.constants p ≡ along (constants_of u) p
  known_is = along_least (constants_lawful u) (constants_straight u 4 straight) d.constants solved.constants.least

  -- a run comes to each place
  reached : Each (λ p. reaches (along (constants_of u) p) ≡ true) 5 → (p : ℕ) → p < 5 → d.constants p ≡ Unreached → ⊥
  unfolding reaches
  reached each p lt none =
      let there = each_below (λ p. reaches (along (constants_of u) p) ≡ true) 5 each p lt in
      let not : reaches (along (constants_of u) p) ≡ false = ap reaches (sym (known_is p (omega (arith, straight.0))) ∙ none) in
      cc

-- ---- what is live
live_five : ℕ → ℕ
live_five (suc zero) = 1
live_five n = 0

five_lives : Solution IsSet (live_of five_unit) live_five
unfolding live_five
five_lives = record {
  valid = each_below _ 5 (((((tt, omega arith), omega arith), omega arith), omega arith), omega arith);
  seeds = each_below _ 5 (((((tt, refl), refl), refl), refl), refl);
  flows = each_below _ 4 ((((tt, refl), refl), refl), refl);
}

five_live : (codes : List (List Instr)) (d : Contents) → IsSolved (with_unit five_unit codes d) → (p : ℕ) → p < 5 → d.lives p ≡ live_five p
unfolding live_five
five_live codes d solved =
    supported_least (live_lawful five_unit) live_five d.lives (λ p. 5 - p) five_lives solved.lives.least
    (each_below (Supported (live_of five_unit) live_five (λ p. 5 - p)) 5
    (((((tt, inl refl), inr (1, omega arith, refl, omega arith, refl)), inl refl), inl refl), inl refl))

none_lives : (u : TheUnit) → Solution IsSet (live_of u) (λ p. 0) → (codes : List (List Instr)) (d : Contents) → IsSolved (with_unit u codes d) → (p : ℕ) → p < u.len → d.lives p ≡ 0
none_lives u solves codes d solved = supported_least (live_lawful u) (λ p. 0) d.lives (λ p. p) solves solved.lives.least (λ v lt. inl refl)

folded_lives : Solution IsSet (live_of folded_unit) (λ p. 0)
folded_lives = record {
  valid = λ v lt. omega arith;
  seeds = λ v lt. refl;
  flows = each_below _ 4 ((((tt, refl), refl), refl), refl);
}

-- ---- the two changes
five_straight : IsStraight five_unit 4
five_straight = (refl, refl)

folded_straight : IsStraight folded_unit 4
folded_straight = (refl, refl)

tidy_straight : IsStraight tidy_unit 4
tidy_straight = (refl, refl)

fold_load : Change
fold_load = record { place = 2; rule = R.Literal; instr = I.Lit 0 (pos 5) }

drop_store : Change
drop_store = record { place = 1; rule = R.DeadStore; instr = I.Pop }

module _ (codes : List (List Instr)) (d : Contents) where
  module _ (solved : IsSolved (with_unit five_unit codes d)) where
    five_reached : (p : ℕ) → p < 5 → d.constants p ≡ Unreached → ⊥
    unfolding reaches
    five_reached = reached five_unit five_straight codes d solved (((((tt, refl), refl), refl), refl), refl)

    five_top : HasTop (carry_constants (I.Load 0) false (d.constants 2)) (Num (pos 5))
    five_top = rw (known_is five_unit five_straight codes d solved 2 (omega arith)) refl

    five_store_live : (n : ℕ) → I.Store 0 ≡ I.Store n → has_bit (d.lives 1) n ≡ false → ⊥
    unfolding live_five
    five_store_live n is dead =
        let zeroth : 0 ≡ n = cc in
        let gone : has_bit 1 0 ≡ false = subst (λ s. has_bit s 0 ≡ false) (five_live codes d solved 1 (omega arith)) (subst (λ k. has_bit (d.lives 1) k ≡ false) (sym zeroth) dead) in
        absurd cc

    five_lowest : LowestChange five_unit d.constants d.lives fold_load
    unfolding fold_load is_folded
    five_lowest = record {
      inside = omega arith;
      here = record {
        yields = (0, load 0, Num (pos 5), five_top, refl);
        lowest = λ lower other low. each_rule (λ r. rule_number r < 2 → Yields r (I.Load 0) (d.constants 2) (d.lives 2) other → ⊥)
            (λ _ y. five_reached 2 (omega arith) y.0)
            (λ less y. omega (arith, less))
            (λ less y. omega (arith, less))
            (λ less y. omega (arith, less))
            lower low;
      };
      below = each_below (λ p. NoRule (instr_at five_unit p) (d.constants p) (d.lives p)) 2 (
        (tt, no_rule (I.Lit 0 (pos 5)) (d.constants 0) (d.lives 0) (λ e _. five_reached 0 (omega arith) e) refl (λ z e. cc) (λ n e _. cc)),
        no_rule (I.Store 0) (d.constants 1) (d.lives 1) (λ e _. five_reached 1 (omega arith) e) refl (λ z e. cc) five_store_live,
      );
    }

  module _ (solved : IsSolved (with_unit folded_unit codes d)) where
    folded_reached : (p : ℕ) → p < 5 → d.constants p ≡ Unreached → ⊥
    unfolding reaches
    folded_reached = reached folded_unit folded_straight codes d solved (((((tt, refl), refl), refl), refl), refl)

    folded_dead : has_bit (d.lives 1) 0 ≡ false
    folded_dead = rw (none_lives folded_unit folded_lives codes d solved 1 (omega arith)) refl

    folded_lowest : LowestChange folded_unit d.constants d.lives drop_store
    unfolding drop_store is_folded
    folded_lowest = record {
      inside = omega arith;
      here = record {
        yields = (0, refl, folded_dead, refl);
        lowest = λ lower other low. each_rule (λ r. rule_number r < 4 → Yields r (I.Store 0) (d.constants 1) (d.lives 1) other → ⊥)
            (λ _ y. folded_reached 1 (omega arith) y.0)
            (λ _ y. let folds = folds_folded (I.Store 0) y.0 y.1 in cc)
            (λ _ y. let is = y.1 in cc)
            (λ less y. omega (arith, less))
            lower low;
      };
      below = each_below (λ p. NoRule (instr_at folded_unit p) (d.constants p) (d.lives p)) 1
          (tt, no_rule (I.Lit 0 (pos 5)) (d.constants 0) (d.lives 0) (λ e _. folded_reached 0 (omega arith) e) refl (λ z e. cc) (λ n e _. cc));
    }

  module _ (solved : IsSolved (with_unit tidy_unit codes d)) where
    tidy_reached : (p : ℕ) → p < 5 → d.constants p ≡ Unreached → ⊥
    unfolding reaches
    tidy_reached = reached tidy_unit tidy_straight codes d solved (((((tt, refl), refl), refl), refl), refl)

    tidy_done : NothingToDo tidy_unit d.constants d.lives
    unfolding is_folded
    tidy_done = each_below (λ p. NoRule (instr_at tidy_unit p) (d.constants p) (d.lives p)) 5 (
      (
        (
          (
            (
              tt,
              no_rule (I.Lit 0 (pos 5)) (d.constants 0) (d.lives 0) (λ e _. tidy_reached 0 (omega arith) e) refl (λ z e. cc) (λ n e _. cc),
            ),
            no_rule I.Pop (d.constants 1) (d.lives 1) (λ e _. tidy_reached 1 (omega arith) e) refl (λ z e. cc) (λ n e _. cc),
          ),
          no_rule (I.Lit 0 (pos 5)) (d.constants 2) (d.lives 2) (λ e _. tidy_reached 2 (omega arith) e) refl (λ z e. cc) (λ n e _. cc),
        ),
        no_rule I.Out (d.constants 3) (d.lives 3) (λ e _. tidy_reached 3 (omega arith) e) refl (λ z e. cc) (λ n e _. cc),
      ),
      no_rule I.Halt (d.constants 4) (d.lives 4) (λ e _. tidy_reached 4 (omega arith) e) refl (λ z e. cc) (λ n e _. cc),
    )

pub five_tidies : TidiesTo 2 five_unit tidy_unit
unfolding fold_load drop_store
five_tidies =
    tidies_change 1 five_unit folded_unit tidy_unit fold_load five_lowest (record { locals = refl; len = refl; code = refl })
    (tidies_change 0 folded_unit tidy_unit tidy_unit drop_store folded_lowest (record { locals = refl; len = refl; code = refl })
    (tidies_none tidy_unit tidy_done))
