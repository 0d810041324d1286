-- An instruction has one lowest rule, and a unit one lowest change.
use Rattle.std.proofs.Common.{◌≡◌, ℕ, zero, suc, ◌<◌, refl, sym, ap, ◌∙◌, subst, arith}
use Rattle.bytecode.specs.declared.instr.Instr.{Instr}
use Rattle.bytecode.specs.declared.unit.Unit.{Unit as TheUnit}
use Rattle.facts.specs.declared.cell.ConstCell.{ConstCell}
use Rattle.facts.specs.declared.frame.Frame.{Frame}
use Rattle.analyses.specs.Edges.{instr_at}
use Rattle.rewrite.specs.declared.change.Change.{Change}
use Rattle.rewrite.specs.declared.rule.Rule.{Rule}
use Rattle.rewrite.specs.declared.rule.Rule.TheVariants as R
use Rattle.rewrite.specs.Rules.{rule_number, Yields}
use Rattle.rewrite.specs.Choices.{LowestRule, LowestChange}
use Rattle.rewrite.proofs.Rules.{each_rule, yields_one}

-- the rule of a number
abbrev numbered : ℕ → Rule
numbered (suc zero) = R.Unreached
numbered (suc (suc zero)) = R.Literal
numbered (suc (suc (suc zero))) = R.Branch
numbered n = R.DeadStore

numbered-rule_number : (r : Rule) → numbered (rule_number r) ≡ r
numbered-rule_number = each_rule (λ r. numbered (rule_number r) ≡ r) refl refl refl refl

one_number : (r s : Rule) → rule_number r ≡ rule_number s → r ≡ s
one_number r s e = sym (numbered-rule_number r) ∙ ap numbered e ∙ numbered-rule_number s

pub one_lowest_rule : (i : Instr) (known : Frame ConstCell) (live : ℕ) (r s : Rule) (a b : Instr)
    → LowestRule i known live r a → LowestRule i known live s b → (r ≡ s) × (a ≡ b)
one_lowest_rule i known live r s a b h k =
    let below : rule_number r < rule_number s → ⊥ = λ lt. k.lowest r a lt h.yields in
    let above : rule_number s < rule_number r → ⊥ = λ lt. h.lowest s b lt k.yields in
    let same : r ≡ s = one_number r s (omega (arith, below, above)) in
    (same, yields_one s i known live a b (subst (λ rule. Yields rule i known live a) same h.yields) k.yields)

pub one_lowest_change : (u : TheUnit) (known : ℕ → Frame ConstCell) (live : ℕ → ℕ) (c d : Change)
    → LowestChange u known live c → LowestChange u known live d → c ≡ d
one_lowest_change u known live c d h k =
    let below : c.place < d.place → ⊥ = λ lt. k.below c.place lt c.rule c.instr h.here.yields in
    let above : d.place < c.place → ⊥ = λ lt. h.below d.place lt d.rule d.instr k.here.yields in
    let place : c.place ≡ d.place = omega (arith, below, above) in
    let here = subst (λ p. LowestRule (instr_at u p) (known p) (live p) c.rule c.instr) place h.here in
    let same = one_lowest_rule _ _ _ c.rule d.rule c.instr d.instr here k.here in
    λ x. record { place = place x; rule = same.0 x; instr = same.1 x }
