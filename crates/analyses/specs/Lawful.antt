-- Why the three analyses keep the laws: each implementation of `Analysis` names its lemma. Assumes nothing.
use Rattle.std.specs.Prelude.{ℕ, ◌+◌, ◌*◌, ◌≤◌, Bool, true, false, cond, ◌==◌}
use Rattle.std.proofs.Common.{refl, arith}
use Rattle.bytecode.specs.declared.instr.Instr.{Instr}
use Rattle.bytecode.specs.declared.unit.Unit.{Unit as TheUnit}
use Rattle.dataflow.specs.Analysis.{Lawful}
use Rattle.facts.specs.declared.frame.Frame.{Frame}
use Rattle.facts.specs.declared.frame.Frame.TheVariants.{Unreached, At}
use Rattle.facts.specs.declared.cell.TypeCell.TheVariants.{Unusable}
use Rattle.facts.specs.declared.cell.ConstCell.TheVariants.{Varies}
use Rattle.facts.specs.Cell.{CellLaws}
use Rattle.facts.specs.Flat.{flat_rank}
use Rattle.facts.specs.TypeCells.{same_type, join_types, type_laws}
use Rattle.facts.specs.ConstCells.{same_const, join_consts, const_laws}
use Rattle.facts.specs.Frames.{Fitting, IsBelow, entry}
use Rattle.facts.specs.Live.{IsSet}
use Rattle.facts.proofs.Lattice.{frames_associative, frames_commutative, frames_idempotent, frames_fitting, frame_rank_low, frame_rises}
use Rattle.facts.proofs.CarryTypes.{carry_types_monotone, carry_types_fitting}
use Rattle.facts.proofs.CarryConstants.{carry_constants_monotone, carry_constants_fitting}
use Rattle.facts.proofs.LiveSets.{union_associative, union_commutative, union_idempotent, union_neutral, union_is_set, carry_live_is_set, carry_live_monotone, count_low, count_rises}
use Rattle.analyses.specs.Edges.{start_of, end_of, is_jump, instr_at}
use Rattle.facts.specs.Types.{carry_types}
use Rattle.facts.specs.Constants.{carry_constants}
use Rattle.analyses.specs.Ways.{start_inside, end_inside}
use Rattle.analyses.specs.Frameworks.{forward, types_of, constants_of, live_of}

module _ {C : Type 0} (join : C → C → C) (top : C) (rank : C → ℕ) (h : ℕ) (laws : CellLaws join top rank h)
    (carry : Instr → Bool → Frame C → Frame C)
    (monotone : (i : Instr) (j : Bool) (f g : Frame C) → Fitting f → Fitting g → IsBelow join f g → IsBelow join (carry i j f) (carry i j g))
    (fitting : (i : Instr) (j : Bool) (f : Frame C) → Fitting f → Fitting (carry i j f)) where
  seed_fitting : (b : Bool) → Fitting (cond b (At (entry top)) Unreached)
  seed_fitting true = (omega arith, refl)
  seed_fitting false = tt

  forward_lawful : 2 + 24 * h ≤ 65535 → (u : TheUnit) → Lawful Fitting (forward join top rank h carry u)
  forward_lawful low u = record {
    few_nodes = u.most;
    from_node = start_inside u;
    to_node = end_inside u;
    seed_valid = λ p lt. seed_fitting (p == 0);
    least_valid = tt;
    join_valid = frames_fitting join;
    carry_valid = λ e f lt fit. fitting (instr_at u (start_of u e)) (is_jump u e) f fit;
    associative = λ f g k _ _ _. frames_associative join top rank h laws f g k;
    commutative = λ f g _ _. frames_commutative join top rank h laws f g;
    idempotent = λ f _. frames_idempotent join top rank h laws f;
    neutral = λ f _. refl;
    monotone = λ e f g lt p q b. monotone (instr_at u (start_of u e)) (is_jump u e) f g p q b;
    low_height = low;
    low_rank = frame_rank_low join top rank h laws;
    rises = frame_rises join top rank h laws;
  }

pub types_lawful : (u : TheUnit) → Lawful Fitting (types_of u)
types_lawful = forward_lawful join_types Unusable (flat_rank same_type Unusable) 1 type_laws (λ i j f. carry_types i f) (λ i j. carry_types_monotone i) (λ i j. carry_types_fitting i) (omega arith)

pub constants_lawful : (u : TheUnit) → Lawful Fitting (constants_of u)
constants_lawful = forward_lawful join_consts Varies (flat_rank same_const Varies) 1 const_laws carry_constants carry_constants_monotone carry_constants_fitting (omega arith)

pub live_lawful : (u : TheUnit) → Lawful IsSet (live_of u)
live_lawful u = record {
  few_nodes = u.most;
  from_node = end_inside u;
  to_node = start_inside u;
  seed_valid = λ p lt. omega arith;
  least_valid = omega arith;
  join_valid = union_is_set;
  carry_valid = λ e s lt fit. carry_live_is_set (instr_at u (end_of u e)) s fit;
  associative = λ a b c _ _ _. union_associative a b c;
  commutative = λ a b _ _. union_commutative a b;
  idempotent = λ a _. union_idempotent a;
  neutral = λ a _. union_neutral a;
  monotone = λ e a b lt p q below. carry_live_monotone (instr_at u (end_of u e)) a b p q below;
  low_height = omega arith;
  low_rank = count_low;
  rises = count_rises;
}
