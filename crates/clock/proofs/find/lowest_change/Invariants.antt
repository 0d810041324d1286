use Rattle.std.proofs.Common.{◌≡◌, Some}
use Rattle.rewrite.specs.Choices.{NothingBelow}
use Rattle.workspace.specs.Contents.{Contents}
use Rattle.workspace.specs.Stored.{model_of}
use Rattle.clock.proofs.find.lowest_change.Given as goal

abbrev pub invariant-loop-place : goal.invariant-loop-place
invariant-loop-place l = (c : Contents) → model_of l.fn.space ≡ Some c → NothingBelow c.unit c.constants c.lives l.place
