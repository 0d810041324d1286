-- The POP or DJMP that stands for a JF on a known flag has its turn.
use Rattle.std.proofs.Common.{◌≡◌, ℕ, ◌<◌, Bool, true, false, cond, List, ◌∷◌, length, ℤ, ap}
use Rattle.std.proofs.lemmas.Option.{get_or_from_slice_get}
use Rattle.bytecode.specs.declared.instr.Instr.{Instr}
use Rattle.bytecode.specs.declared.instr.Instr.TheVariants as I
use Rattle.bytecode.specs.declared.unit.Unit.{Unit as TheUnit}
use Rattle.bytecode.specs.Files.{held}
use Rattle.machine.specs.declared.value.Value.{Value}
use Rattle.machine.specs.declared.value.Value.TheVariants as V
use Rattle.machine.specs.Machine.{State}
use Rattle.dataflow.specs.Analysis.{Solution}
use Rattle.facts.specs.declared.cell.ConstCell.{ConstCell}
use Rattle.facts.specs.declared.cell.ConstCell.TheVariants.{Flag, Varies}
use Rattle.facts.specs.declared.frame.Frame.{Frame}
use Rattle.facts.specs.declared.frame.Frame.TheVariants.{Unreached, At, Clash}
use Rattle.facts.specs.Frames.{Fitting}
use Rattle.analyses.specs.Edges.{instr_at}
use Rattle.analyses.specs.Frameworks.{constants_of}
use Rattle.sound.specs.Describes.{ConstTells, Describes}
use Rattle.rewrite.specs.declared.rule.Rule.TheVariants as R
use Rattle.rewrite.specs.Rules.{HasTop, Yields}
use Rattle.keep.specs.Keeps.{IsChanged}
use Rattle.keep.proofs.KnownValues.{value_in, top_known}
use Rattle.keep.proofs.SameTurns.{Keeps, SameTurn, described_keeps}

branch_turn : (n : ℕ) (inputs : List ℤ) (room : ℕ) (s : State) (d : ℤ) (b : Bool) (rest : List Value) → s.stack ≡ V.Flag b ∷ rest
    → SameTurn n inputs room (I.Jf d) (cond b I.Pop (I.DropJmp d)) s
branch_turn n inputs room s d true rest e = rw e
branch_turn n inputs room s d false rest e = rw e

flag_on_top : (known : Frame ConstCell) (b : Bool) (s : State) → HasTop known (Flag b) → Describes ConstTells known s
    → (rest : List Value) × (s.stack ≡ V.Flag b ∷ rest)
flag_on_top Unreached b s h t = absurd h
flag_on_top (At a) b s h t = top_known a s t (V.Flag b) (ap value_in (get_or_from_slice_get a.stack 0 (Flag b) Varies h))
flag_on_top Clash b s h t = absurd h

branch_same : (n : ℕ) (i : Instr) (known : Frame ConstCell) (live : ℕ) (new : Instr) → Yields R.Branch i known live new
    → (inputs : List ℤ) (room : ℕ) (s : State) → Describes ConstTells known s → SameTurn n inputs room i new s
branch_same n i known live new y inputs room s t =
    let was = y.1 in
    let is = y.4 in
    let top = flag_on_top known y.2 s y.3 t in
    rw (was, is) (branch_turn n inputs room s y.0 y.2 top.0 top.1)

-- a JF on a known flag may become POP or DJMP
pub branch_keeps : (u v : TheUnit) (p : ℕ) (new : Instr) → p < u.len → IsChanged u p new v
    → (known : ℕ → Frame ConstCell) → Solution Fitting (constants_of u) known → (live : ℕ) → Yields R.Branch (instr_at u p) (known p) live new
    → Keeps (held u) (held v)
branch_keeps u v p new lt changed known solved live y =
    described_keeps u v p new lt changed known solved (branch_same (length (held u)) (instr_at u p) (known p) live new y)
