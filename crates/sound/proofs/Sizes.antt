-- Every state that a run comes to has at most 8 values and 16 locals.
use Rattle.std.proofs.Common.{◌≡◌, ℕ, Bool, List, length, ℤ, Option, length-set, refl, ap, ◌∙◌, arith}
use Rattle.std.proofs.lemmas.List.{length-map}
use Rattle.bytecode.specs.declared.instr.Instr.{Instr}
use Rattle.bytecode.specs.declared.instr.Instr.TheVariants as I
use Rattle.machine.specs.declared.value.Value.{Value}
use Rattle.machine.specs.Machine.{State, goes, row, turn}
use Rattle.machine.specs.Laws.{Reached, first, later}
use Rattle.machine.proofs.Arrivals.{goes_within}
use Rattle.facts.specs.declared.frame.Frame.TheVariants.{At}
use Rattle.facts.specs.Frames.{Fitting}
use Rattle.sound.specs.Describes.{held_of}
use Rattle.sound.specs.Meaning.{Sized}
use Rattle.sound.proofs.Moves.{goes_by_move}

locals_as_many : (i : Instr) (s : State) (x : Option ℤ) (room : Bool) → length (row i s x room).locals ≡ length s.locals
locals_as_many (I.Store n) s x room = length-set s.locals n _
locals_as_many i s x room = refl

goes_sized : (code : List Instr) (inputs : List ℤ) (room : ℕ) (s t : State) → turn code inputs room s ≡ goes t → length s.locals ≡ 16 → Sized t
goes_sized code inputs room s t e h =
    let m = goes_by_move code inputs room s t e in
    record {
      values = (goes_within code inputs room s t e).1;
      sixteen = ap (λ z. length z.locals) m.1.left ∙ locals_as_many m.0 s _ _ ∙ h;
    }

pub reached_sized : (code : List Instr) (inputs : List ℤ) (room : ℕ) (s : State) → Reached code inputs room s → Sized s
reached_sized code inputs room s first = record { values = omega arith; sixteen = refl }
reached_sized code inputs room s (later {s = r} {t} h e) = goes_sized code inputs room r s e (reached_sized code inputs room r h).sixteen

pub sized_fitting : {C : Type 0} (f : Value → C) (top : C) (s : State) → Sized s → Fitting (At (held_of f top s))
sized_fitting f top s z = (rw length-map z.values, rw length-map z.sixteen)
