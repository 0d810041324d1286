-- What is proposed. Assumes nothing.
use Rattle.std.specs.Prelude.{Option, Some, None}
use Rattle.rewrite.specs.declared.change.Change.{Change}
use Rattle.rewrite.specs.Choices.{NothingToDo, LowestChange}
use Rattle.workspace.specs.Contents.{Contents}

-- by the held facts: of the first place where a rule yields anything, what its first such rule yields
abbrev pub Proposed : Contents → Option Change → Type 0
Proposed c None = NothingToDo c.unit c.constants c.lives
Proposed c (Some change) = LowestChange c.unit c.constants c.lives change
