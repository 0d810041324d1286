-- Laws of the rules. Assumes nothing.
use Rattle.std.specs.Prelude.{◌≡◌, ℕ, ◌<◌, ◌≤◌, List, length, slice_index_or, slice_set}
use Rattle.bytecode.specs.declared.instr.Instr.{Instr}
use Rattle.bytecode.specs.declared.instr.Instr.TheVariants.{Nop}
use Rattle.bytecode.specs.declared.unit.Unit.{Unit as TheUnit}
use Rattle.bytecode.specs.Instructions.{row}
use Rattle.facts.specs.declared.cell.ConstCell.{ConstCell}
use Rattle.facts.specs.declared.frame.Frame.{Frame}
use Rattle.rewrite.specs.declared.change.Change.{Change}
use Rattle.rewrite.specs.declared.rule.Rule.{Rule}
use Rattle.rewrite.specs.Rules.{Yields}
use Rattle.rewrite.specs.Choices.{LowestRule, LowestChange}
use Rattle.rewrite.specs.Weights.{weight_of}

-- a rule makes one instruction of another
abbrev pub YieldsOne : Type 0
YieldsOne = (r : Rule) (i : Instr) (known : Frame ConstCell) (live : ℕ) (a b : Instr) → Yields r i known live a → Yields r i known live b → a ≡ b

abbrev pub OneLowestRule : Type 0
OneLowestRule = (i : Instr) (known : Frame ConstCell) (live : ℕ) (r s : Rule) (a b : Instr)
    → LowestRule i known live r a → LowestRule i known live s b → (r ≡ s) × (a ≡ b)

abbrev pub OneLowestChange : Type 0
OneLowestChange = (u : TheUnit) (known : ℕ → Frame ConstCell) (live : ℕ → ℕ) (c d : Change) → LowestChange u known live c → LowestChange u known live d → c ≡ d

-- what a rule makes weighs less
abbrev pub RulesLowerWeight : Type 0
RulesLowerWeight = (r : Rule) (i : Instr) (known : Frame ConstCell) (live : ℕ) (new : Instr) → Yields r i known live new → (row new).weight < (row i).weight

-- and so does the code with it
abbrev pub RulesLowerCode : Type 0
RulesLowerCode = (r : Rule) (code : List Instr) (known : Frame ConstCell) (live p : ℕ) (new : Instr) → p < length code
    → Yields r (slice_index_or code p Nop) known live new → weight_of (slice_set code p new) < weight_of code

abbrev pub CodeWeighsAtMost256 : Type 0
CodeWeighsAtMost256 = (code : List Instr) → length code ≤ 128 → weight_of code ≤ 256
