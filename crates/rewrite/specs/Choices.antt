-- Which rule is applied, and where: the lowest, at the lowest place. Assumes nothing.
use Rattle.std.specs.Prelude.{◌≡◌, ℕ, ◌<◌, true, Option, MatchOption}
use Rattle.bytecode.specs.declared.instr.Instr.{Instr}
use Rattle.bytecode.specs.Instructions.{row, in_range}
use Rattle.bytecode.specs.declared.unit.Unit.{Unit as TheUnit}
use Rattle.facts.specs.declared.cell.ConstCell.{ConstCell}
use Rattle.facts.specs.declared.frame.Frame.{Frame}
use Rattle.analyses.specs.Edges.{instr_at}
use Rattle.rewrite.specs.declared.change.Change.{Change}
use Rattle.rewrite.specs.declared.rule.Rule.{Rule}
use Rattle.rewrite.specs.Rules.{rule_number, Yields}

-- the machine has the instruction
abbrev pub InRange : Instr → Type 0
InRange i = in_range (row i).operands ≡ true

-- what the rule makes of the instruction i; none where it yields nothing
abbrev pub Yielded : Rule → Instr → Frame ConstCell → ℕ → Option Instr → Type 0
Yielded r i known live made = MatchOption made ((new : Instr) → Yields r i known live new → ⊥) (λ new. Yields r i known live new × InRange new)

-- no rule yields anything
abbrev pub NoRule : Instr → Frame ConstCell → ℕ → Type 0
NoRule i known live = (r : Rule) (new : Instr) → Yields r i known live new → ⊥

-- the rule yields new, and no rule with a lower number yields anything
pub record LowestRule (i : Instr) (known : Frame ConstCell) (live : ℕ) (rule : Rule) (new : Instr) : Type 0 where
  pub yields : Yields rule i known live new
  pub lowest : (lower : Rule) (other : Instr) → rule_number lower < rule_number rule → Yields lower i known live other → ⊥

-- at no place below end does a rule yield anything
abbrev pub NothingBelow : TheUnit → (ℕ → Frame ConstCell) → (ℕ → ℕ) → ℕ → Type 0
NothingBelow u known live end = (p : ℕ) → p < end → NoRule (instr_at u p) (known p) (live p)

-- at no place does a rule yield anything
abbrev pub NothingToDo : TheUnit → (ℕ → Frame ConstCell) → (ℕ → ℕ) → Type 0
NothingToDo u known live = NothingBelow u known live u.len

-- the lowest rule that yields something at the lowest place of the unit at which one does
pub record LowestChange (u : TheUnit) (known : ℕ → Frame ConstCell) (live : ℕ → ℕ) (change : Change) : Type 0 where
  pub inside : change.place < u.len
  pub here : LowestRule (instr_at u change.place) (known change.place) (live change.place) change.rule change.instr
  pub below : NothingBelow u known live change.place
