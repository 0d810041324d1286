-- Constant frames that solve the equations describe the states of runs.
use Rattle.std.proofs.Common.{◌≡◌, ℕ, List, ℤ}
use Rattle.bytecode.specs.declared.instr.Instr.{Instr}
use Rattle.bytecode.specs.declared.unit.Unit.{Unit as TheUnit}
use Rattle.bytecode.specs.Files.{held}
use Rattle.machine.specs.Machine.{State}
use Rattle.machine.specs.Laws.{Reached}
use Rattle.dataflow.specs.Analysis.{Solution}
use Rattle.facts.specs.declared.cell.ConstCell.{ConstCell}
use Rattle.facts.specs.declared.frame.Frame.{Frame}
use Rattle.facts.specs.declared.frame.Frame.TheVariants.{At}
use Rattle.facts.specs.ConstCells.{join_consts, const_laws}
use Rattle.facts.specs.Frames.{IsBelow, Fitting}
use Rattle.facts.specs.Effects.{after}
use Rattle.facts.specs.Constants.{known, constants, carry_constants}
use Rattle.facts.proofs.CarryConstants.{carry_constants_monotone}
use Rattle.analyses.specs.Frameworks.{constants_of}
use Rattle.sound.specs.Describes.{values_of}
use Rattle.sound.specs.Meaning.{ConstantsHold}
use Rattle.sound.proofs.Domains.{constants_sound}
use Rattle.sound.proofs.Steps.{Step}
use Rattle.sound.proofs.Sizes.{reached_sized}
use Rattle.sound.proofs.Ways.{place_reached}
use Rattle.sound.proofs.Above.{reached_above}
use Rattle.sound.proofs.Describing.{constants_tell}

constants_perform : (u : TheUnit) (s : State) (i : Instr) (t : State) (w : Step join_consts constants known (held u) s i t) →
    carry_constants i w.jump (At (values_of s)) ≡ At (after constants i (values_of s))
constants_perform u s i t w =
    let few = w.enough in let many = w.fits in let dead = w.alive in
    rw (few, many, dead)

module _ (u : TheUnit) (f : ℕ → Frame ConstCell) (sol : Solution Fitting (constants_of u) f) (inputs : List ℤ) (room : ℕ) where
  pub constants_above : (s : State) → Reached (held u) inputs room s → IsBelow join_consts (At (values_of s)) (f s.place)
  constants_above =
      reached_above constants const_laws carry_constants carry_constants_monotone known constants_sound u
      (λ inputs room s i t m w. constants_perform u s i t w) f sol inputs room

pub constants_hold : ConstantsHold
constants_hold u f sol inputs room s r =
    let tells = constants_tell (f s.place) (sol.valid s.place (place_reached u inputs room s r)) s (reached_sized (held u) inputs room s r) in
    tells.0 (constants_above u f sol inputs room s r)
