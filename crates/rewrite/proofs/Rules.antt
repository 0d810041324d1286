-- A rule makes at most one instruction of another.
use Rattle.std.proofs.Common.{◌≡◌, ℕ, ◌≤◌, true, leb, refl, sym, ◌∙◌, arith}
use Rattle.bytecode.specs.declared.instr.Instr.{Instr}
use Rattle.bytecode.specs.declared.instr.Instr.TheVariants as I
use Rattle.facts.specs.declared.cell.ConstCell.{ConstCell}
use Rattle.facts.specs.declared.frame.Frame.{Frame}
use Rattle.facts.specs.declared.frame.Frame.TheVariants.{Unreached, At, Clash}
use Rattle.rewrite.specs.declared.rule.Rule.{Rule}
use Rattle.rewrite.specs.declared.rule.Rule.TheVariants as R
use Rattle.rewrite.specs.Rules.{rule_number, Folds, load, dup, opposite, sum, difference, product, quotient, equal, less, HasTop, Yields}

pub each_rule : (P : Rule → Type 0) → P R.Unreached → P R.Literal → P R.Branch → P R.DeadStore → (r : Rule) → P r
each_rule P a b c d R.Unreached = a
each_rule P a b c d R.Literal = b
each_rule P a b c d R.Branch = c
each_rule P a b c d R.DeadStore = d

pub number_low : (r : Rule) → rule_number r ≤ 4
number_low = each_rule (λ r. rule_number r ≤ 4) (omega arith) (omega arith) (omega arith) (omega arith)

-- no rule with a number up to n is one of these
abbrev pub NoneUpTo : (Rule → Type 0) → ℕ → Type 0
NoneUpTo P n = (r : Rule) → rule_number r ≤ n → P r → ⊥

-- how many values an instruction takes that a literal may replace
abbrev folded : Instr → ℕ
folded I.Not = 1
folded (I.Load n) = 0
folded I.Dup = 0
folded i = 2

folds_count : (i : Instr) (k : ℕ) → Folds i k → k ≡ folded i
folds_count _ _ (load n) = refl
folds_count _ _ dup = refl
folds_count _ _ opposite = refl
folds_count _ _ sum = refl
folds_count _ _ difference = refl
folds_count _ _ product = refl
folds_count _ _ quotient = refl
folds_count _ _ equal = refl
folds_count _ _ less = refl

pub folds_low : (i : Instr) (k : ℕ) → Folds i k → leb k 2 ≡ true
folds_low _ _ (load n) = refl
folds_low _ _ dup = refl
folds_low _ _ opposite = refl
folds_low _ _ sum = refl
folds_low _ _ difference = refl
folds_low _ _ product = refl
folds_low _ _ quotient = refl
folds_low _ _ equal = refl
folds_low _ _ less = refl

one_top : (f : Frame ConstCell) (c d : ConstCell) → HasTop f c → HasTop f d → c ≡ d
one_top Unreached c d h k = absurd h
one_top (At a) c d h k = cc
one_top Clash c d h k = absurd h

pub yields_one : (r : Rule) (i : Instr) (known : Frame ConstCell) (live : ℕ) (a b : Instr) → Yields r i known live a → Yields r i known live b → a ≡ b
yields_one R.Unreached i known live a b y z = cc
yields_one R.Literal i known live a b (k, folds, c, top, is) (l, folds', d, top', is') =
    let count : k ≡ l = folds_count i k folds ∙ sym (folds_count i l folds') in
    let cell : c ≡ d = one_top _ c d top top' in
    cc
yields_one R.Branch i known live a b (d, jump, flag, top, is) (d', jump', flag', top', is') =
    let cell = one_top known _ _ top top' in
    cc
yields_one R.DeadStore i known live a b y z = cc
