-- The three analyses of a unit. Assumes nothing.
use Rattle.std.specs.Prelude.{ℕ, ◌+◌, ◌*◌, Bool, cond, ◌==◌, length, bit_or, count_ones}
use Rattle.bytecode.specs.declared.instr.Instr.{Instr}
use Rattle.bytecode.specs.declared.unit.Unit.{Unit as TheUnit}
use Rattle.dataflow.specs.Analysis.{Framework}
use Rattle.facts.specs.declared.cell.TypeCell.{TypeCell}
use Rattle.facts.specs.declared.cell.TypeCell.TheVariants.{Unusable}
use Rattle.facts.specs.declared.cell.ConstCell.{ConstCell}
use Rattle.facts.specs.declared.cell.ConstCell.TheVariants.{Varies}
use Rattle.facts.specs.declared.frame.Frame.{Frame}
use Rattle.facts.specs.declared.frame.Frame.TheVariants.{Unreached, At}
use Rattle.facts.specs.Flat.{flat_rank}
use Rattle.facts.specs.TypeCells.{same_type, join_types}
use Rattle.facts.specs.ConstCells.{same_const, join_consts}
use Rattle.facts.specs.Frames.{joined_frames, frame_rank, entry}
use Rattle.facts.specs.Types.{carry_types}
use Rattle.facts.specs.Constants.{carry_constants}
use Rattle.facts.specs.Live.{carry_live}
use Rattle.analyses.specs.Edges.{edges_of, start_of, end_of, is_jump, instr_at}

-- an analysis of frames: forward along each edge, where top is the cell that says nothing and h the highest rank of a cell
abbrev pub forward : {C : Type 0} → (C → C → C) → C → (C → ℕ) → ℕ → (Instr → Bool → Frame C → Frame C) → TheUnit → Framework (Frame C)
forward join top rank h carry u = record {
  nodes = u.len;
  edges = length (edges_of u);
  from = start_of u;
  to = end_of u;
  seed = λ p. cond (p == 0) (At (entry top)) Unreached;
  least = Unreached;
  join = joined_frames join;
  carry = λ e f. carry (instr_at u (start_of u e)) (is_jump u e) f;
  rank = frame_rank rank h;
  height = 2 + 24 * h;
}

abbrev pub types_of : TheUnit → Framework (Frame TypeCell)
types_of u = forward join_types Unusable (flat_rank same_type Unusable) 1 (λ i j f. carry_types i f) u

abbrev pub constants_of : TheUnit → Framework (Frame ConstCell)
constants_of u = forward join_consts Varies (flat_rank same_const Varies) 1 carry_constants u

-- backward: each edge is followed from its end to its start; the fact at a place is the set of the locals that are live after it
abbrev pub live_of : TheUnit → Framework ℕ
live_of u = record {
  nodes = u.len;
  edges = length (edges_of u);
  from = end_of u;
  to = start_of u;
  seed = λ p. 0;
  least = 0;
  join = bit_or;
  carry = λ e s. carry_live (instr_at u (end_of u e)) s;
  rank = count_ones;
  height = 16;
}
