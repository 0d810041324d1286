-- The words of the command line. Assumes nothing.
use Rattle.std.specs.Prelude.{◌≡◌, ℕ, List, codes}
use Rattle.std.specs.Str.Parse.{IsNumeral, digits_value, without_leading_plus}
use Rattle.clock.specs.declared.command.Task.{Task}
use Rattle.clock.specs.declared.command.Task.TheVariants.{Load, Tidy, Abandon, Propose, Write, Run, Solve}
use Rattle.clock.specs.declared.pick.PickName.{PickName}
use Rattle.clock.specs.declared.pick.PickName.TheVariants.{FirstIn, Highest}

abbrev pub task_name : Task → List ℕ
task_name Load = codes "load"
task_name Tidy = codes "tidy"
task_name Abandon = codes "abandon"
task_name Propose = codes "propose"
task_name Write = codes "write"
task_name Run = codes "run"
task_name Solve = codes "solve"

abbrev pub pick_name : PickName → List ℕ
pick_name FirstIn = codes "first-in"
pick_name Highest = codes "highest"

-- the decimal number n, after a plus or none
abbrev pub IsNumber : List ℕ → ℕ → Type 0
IsNumber text n = IsNumeral 10 (without_leading_plus text) × (digits_value 10 (without_leading_plus text) ≡ n)
