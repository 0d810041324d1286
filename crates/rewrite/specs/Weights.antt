-- How much of a code is left for the rules to do. Assumes nothing.
use Rattle.std.specs.Prelude.{ℕ, ◌+◌, List, [], ◌∷◌}
use Rattle.bytecode.specs.declared.instr.Instr.{Instr}
use Rattle.bytecode.specs.Instructions.{row}

abbrev pub weight_of : List Instr → ℕ
weight_of [] = 0
weight_of (i ∷ is) = (row i).weight + weight_of is
