-- Every unit can be held with its facts solved.
use Rattle.std.proofs.Common.{List}
use Rattle.bytecode.specs.declared.instr.Instr.{Instr}
use Rattle.bytecode.specs.declared.unit.Unit.{Unit as TheUnit}
use Rattle.analyses.specs.Lawful.{types_lawful, constants_lawful, live_lawful}
use Rattle.workspace.specs.Contents.{Contents, IsSolved}
use Rattle.workspace.proofs.Solvable.{solvable}

-- what a workspace can hold with the unit
pub holdable : (u : TheUnit) (codes : List (List Instr)) → (d : Contents) × IsSolved (record d { unit = u; opened = codes })
holdable u codes =
    let types = solvable (types_lawful u) in
    let constants = solvable (constants_lawful u) in
    let lives = solvable (live_lawful u) in (
      record {
        unit = u;
        types = types.0;
        constants = constants.0;
        lives = lives.0;
        takes = record { types = types.1; constants = constants.1; lives = lives.1 };
        opened = codes;
      },
      record { types = types.2; constants = constants.2; lives = lives.2 },
    )
