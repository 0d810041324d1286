-- Samples of runs, joins and carries.
use Rattle.std.proofs.Common.{◌≡◌, ℕ, zero, suc, ◌+◌, ◌≤◌, Bool, false, List, [], ◌∷◌, length, ℤ, pos, ap, ◌∙◌, arith}
use Rattle.std.proofs.lemmas.Bool.{le-ltb}
use Rattle.bytecode.specs.declared.instr.Instr.TheVariants as I
use Rattle.machine.specs.declared.arith.Binary.TheVariants as B
use Rattle.machine.specs.declared.ending.Ending.TheVariants.{Running}
use Rattle.machine.specs.Machine.{Whole, start, run_from, whole_run}
use Rattle.facts.specs.declared.cell.ConstCell.{ConstCell}
use Rattle.facts.specs.declared.cell.ConstCell.TheVariants as C
use Rattle.facts.specs.declared.frame.Frame.TheVariants.{At, Clash}
use Rattle.facts.specs.Held.{Held}
use Rattle.facts.specs.Frames.{joined_frames}
use Rattle.facts.specs.Effects.{is_too_few, is_too_many}
use Rattle.facts.specs.Constants.{const_operation, constants, carry_constants}
use Rattle.samples.specs.Samples.{spin}

abbrev pub spun : ℕ → Whole
spun k = record { ending = Running; place = 0; steps = k; used = 0; outputs = [] }

spins_on : (inputs : List ℤ) (room budget done : ℕ) → run_from spin inputs room budget done start ≡ spun (done + budget)
spins_on inputs room zero done = ap spun (omega arith)
spins_on inputs room (suc budget) done = spins_on inputs room budget (done + 1) ∙ ap spun (omega arith)

pub spins : (inputs : List ℤ) (room budget : ℕ) → whole_run spin inputs room budget ≡ spun budget
spins inputs room budget = spins_on inputs room budget 0 ∙ ap spun (omega arith)

pub unlike_heights : {C : Type 0} (join : C → C → C) (a b : Held C) → length a.stack ≡ 1 → length b.stack ≡ 2
    → (joined_frames join (At a) (At b) ≡ Clash) × (joined_frames join (At b) (At a) ≡ Clash)
unlike_heights join a b one two = (rw (one, two), rw (one, two))

-- ADD is applicable to two values above at most six
carries_add : (a b : ConstCell) (below locals : List ConstCell) → length below ≤ 6 →
    carry_constants I.Add false (At (record { stack = a ∷ b ∷ below; locals = locals })) ≡ At (record { stack = const_operation B.Add b a ∷ below; locals = locals })
carries_add a b below locals few =
    let held : Held ConstCell = record { stack = a ∷ b ∷ below; locals = locals } in
    let enough : is_too_few constants I.Add held ≡ false = le-ltb (length (a ∷ b ∷ below)) 2 (omega arith) in
    let fits : is_too_many constants I.Add held ≡ false = le-ltb 8 (length (const_operation B.Add b a ∷ below)) (omega arith) in
    rw (enough, fits)

pub flag_on_three : (b : Bool) (below locals : List ConstCell) → length below ≤ 6 →
    carry_constants I.Add false (At (record { stack = C.Flag b ∷ C.Num (pos 3) ∷ below; locals = locals })) ≡ At (record { stack = C.Varies ∷ below; locals = locals })
flag_on_three b below locals few = carries_add (C.Flag b) (C.Num (pos 3)) below locals few

pub three_on_flag : (b : Bool) (below locals : List ConstCell) → length below ≤ 6 →
    carry_constants I.Add false (At (record { stack = C.Num (pos 3) ∷ C.Flag b ∷ below; locals = locals })) ≡ At (record { stack = C.Varies ∷ below; locals = locals })
three_on_flag b below locals few = carries_add (C.Num (pos 3)) (C.Flag b) below locals few
