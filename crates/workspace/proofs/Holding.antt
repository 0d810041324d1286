-- What is solved for a unit is held with it.
use Rattle.std.proofs.Common.{◌≡◌, List, Some, refl, subst}
use Rattle.bytecode.specs.declared.instr.Instr.{Instr}
use Rattle.bytecode.specs.declared.unit.Unit.{Unit as TheUnit}
use Rattle.workspace.specs.declared.solutions.Solutions.{Solutions}
use Rattle.workspace.specs.Does.{Holds}
use Rattle.workspace.specs.Stored.{contents_of, TypesAreSolved, RestIsSolved, AreSolutions}

pub both_solved : (u : TheUnit) (s : Solutions) → TypesAreSolved u s → RestIsSolved u s → AreSolutions u s
both_solved u s types rest codes = record { types = types; constants = rest.constants; lives = rest.lives }

pub holds_solved : (g u : TheUnit) (s : Solutions) (codes now : List (List Instr)) → g ≡ u → AreSolutions g s → now ≡ codes
    → Holds u codes (Some (contents_of (record { unit = u; solutions = s; opened = now })))
holds_solved g u s codes now same solved e = record {
  contents = contents_of (record { unit = u; solutions = s; opened = now });
  is = refl;
  unit = refl;
  opened = e;
  solved = subst (λ x. AreSolutions x s) same solved now;
}
