-- A unit that the verifier accepts is loaded.
use Rattle.std.proofs.Common.{◌≡◌, List, [], Ok, refl, subst}
use Rattle.bytecode.specs.declared.unit.Unit.{Unit as TheUnit}
use Rattle.dataflow.specs.Analysis.{LeastSolution}
use Rattle.dataflow.specs.Takes.{at}
use Rattle.facts.specs.declared.cell.TypeCell.{TypeCell}
use Rattle.facts.specs.declared.frame.Frame.{Frame}
use Rattle.facts.specs.Frames.{Fitting}
use Rattle.analyses.specs.Frameworks.{types_of}
use Rattle.analyses.specs.Verdicts.{Accepts}
use Rattle.workspace.specs.Calls.{loaded}
use Rattle.workspace.specs.Does.{Model, Holds, Verifies}

pub verifies : (g u : TheUnit) (types : List (Frame TypeCell)) (m m' : Model) → g ≡ u
    → LeastSolution Fitting (types_of g) (at (types_of g) types) → Accepts g (at (types_of g) types) → Holds g [] m' → Verifies u m loaded m'
verifies g u types m m' same least accepts holds =
    record {
      types = at (types_of u) types;
      least = subst (λ x. LeastSolution Fitting (types_of x) (at (types_of x) types)) same least;
      verdict = Ok tt;
      judged = subst (λ x. Accepts x (at (types_of x) types)) same accepts;
      by = (refl, subst (λ x. Holds x [] m') same holds);
    }
