-- Frames of types that suit a unit: they solve its equations and leave every instruction applicable. Those of a changed unit, place by place.
use Rattle.std.proofs.Common.{◌≡◌, ℕ, ◌<◌, Bool, List, get_or, None, refl, sym, ap, ◌∙◌, subst, ⊎_elim, arith}
use Rattle.std.specs.Prelude.{◌≢◌}
use Rattle.std.proofs.lemmas.Bool.{cases_eq}
use Rattle.std.proofs.lemmas.List.{get_or-take, get_or-set_same, get_or-set_other}
use Rattle.bytecode.specs.declared.instr.Instr.{Instr}
use Rattle.bytecode.specs.declared.instr.Instr.TheVariants.{Nop}
use Rattle.bytecode.specs.declared.unit.Unit.{Unit as TheUnit}
use Rattle.dataflow.specs.Analysis.{Solution}
use Rattle.facts.specs.declared.cell.TypeCell.{TypeCell}
use Rattle.facts.specs.declared.cell.TypeCell.TheVariants.{Unusable}
use Rattle.facts.specs.declared.frame.Frame.{Frame}
use Rattle.facts.specs.declared.frame.Frame.TheVariants.{At}
use Rattle.facts.specs.TypeCells.{same_type, join_types, type_laws}
use Rattle.facts.specs.Flat.{flat_rank}
use Rattle.facts.specs.Frames.{joined_frames, IsBelow, Fitting, entry}
use Rattle.facts.specs.Types.{reason, carry_types}
use Rattle.facts.proofs.Lattice.{frames_idempotent, frames_associative}
use Rattle.analyses.specs.Edges.{instr_at}
use Rattle.analyses.specs.Frameworks.{types_of}
use Rattle.analyses.specs.Verdicts.{Accepts}
use Rattle.keep.specs.Keeps.{IsChanged, IsAccepted}
use Rattle.keep.proofs.Equations.{Way, way_from_leads, leads_from_way, instr_at-leads, leads_below, types_solve, solution_from_types}
use Rattle.keep.proofs.Lower.{applicable_below}

-- at place p of n the instruction i is applicable, and the frames are at or above what it makes
pub record Suits (n : ℕ) (g : ℕ → Frame TypeCell) (p : ℕ) (i : Instr) : Type 0 where
  pub applicable : reason i (g p) ≡ None
  pub flows : (j : Bool) (q : ℕ) → Way n p i j q → IsBelow join_types (carry_types i (g p)) (g q)

pub record Suited (u : TheUnit) (g : ℕ → Frame TypeCell) : Type 0 where
  pub valid : (p : ℕ) → p < u.len → Fitting (g p)
  pub starts : IsBelow join_types (At (entry Unusable)) (g 0)
  pub suits : (p : ℕ) → p < u.len → Suits u.len g p (instr_at u p)

pub types_reflexive : (f : Frame TypeCell) → IsBelow join_types f f
types_reflexive = frames_idempotent join_types Unusable (flat_rank same_type Unusable) 1 type_laws

pub types_transitive : (f g h : Frame TypeCell) → IsBelow join_types f g → IsBelow join_types g h → IsBelow join_types f h
types_transitive f g h p q =
    ap (joined_frames join_types f) (sym q)
    ∙ sym (frames_associative join_types Unusable (flat_rank same_type Unusable) 1 type_laws f g h)
    ∙ ap (λ x. joined_frames join_types x h) p
    ∙ q

module _ (u : TheUnit) (f : ℕ → Frame TypeCell) where
  pub suited_from_solution : Solution Fitting (types_of u) f → Accepts u f → Suited u f
  suited_from_solution s accepts =
      let e = types_solve u f s in
      record {
        valid = e.valid;
        starts = e.starts;
        suits = λ p inside. record {
          applicable = accepts p inside;
          flows = λ j q way. e.flows p (instr_at u p) j q (leads_from_way u p (instr_at u p) j q inside refl way);
        };
      }

  pub accepted_from_suited : Suited u f → IsAccepted u
  accepted_from_suited s = (
    f,
    solution_from_types u f (record {
      valid = s.valid;
      starts = s.starts;
      flows = λ p i j q leads.
          let at_place = s.suits p (leads_below u p i j q leads) in
          let suits : Suits u.len f p i = subst (Suits u.len f p) (instr_at-leads u p i j q leads) at_place in
          suits.flows j q (way_from_leads u p i j q leads);
    }),
    λ p inside. (s.suits p inside).applicable,
  )

module _ (u v : TheUnit) (p : ℕ) (new : Instr) (inside : p < u.len) (c : IsChanged u p new v) where
  pub instr_at-changed : instr_at v p ≡ new
  instr_at-changed =
      get_or-take v.len v.code p Nop (omega (arith, c.len))
      ∙ ap (λ (l : List Instr). get_or l p Nop) c.code
      ∙ get_or-set_same u.code p new Nop (omega (arith, u.whole, u.most))

  pub instr_at-others : (r : ℕ) → r < u.len → r ≢ p → instr_at v r ≡ instr_at u r
  instr_at-others r low other =
      get_or-take v.len v.code r Nop (omega (arith, c.len))
      ∙ ap (λ (l : List Instr). get_or l r Nop) c.code
      ∙ get_or-set_other u.code p r new Nop other
      ∙ sym (get_or-take u.len u.code r Nop low)

  -- frames suit the changed unit if new suits its place, and the other instructions theirs
  pub changed_accepted : (g : ℕ → Frame TypeCell) → ((r : ℕ) → r < u.len → Fitting (g r)) → IsBelow join_types (At (entry Unusable)) (g 0)
      → Suits u.len g p new → ((r : ℕ) → r < u.len → r ≢ p → Suits u.len g r (instr_at u r)) → IsAccepted v
  changed_accepted g valid starts here elsewhere = accepted_from_suited v g (record {
    valid = subst (λ (n : ℕ). (r : ℕ) → r < n → Fitting (g r)) (sym c.len) valid;
    starts = starts;
    suits = subst (λ (n : ℕ). (r : ℕ) → r < n → Suits n g r (instr_at v r)) (sym c.len) (λ r low.
        ⊎_elim
        (λ (e : r ≡ p). subst (λ (q : ℕ). Suits u.len g q (instr_at v q)) (sym e) (subst (Suits u.len g p) (sym instr_at-changed) here))
        (λ (other : r ≢ p). subst (Suits u.len g r) (sym (instr_at-others r low other)) (elsewhere r low other))
        (cases_eq r p));
  })

-- in the place of an instruction that suits stands one whose ways are among its ways, and that makes no more
pub milder_suits : (n : ℕ) (g : ℕ → Frame TypeCell) (p : ℕ) (new i : Instr) → ((j : Bool) (q : ℕ) → Way n p new j q → Way n p i j q)
    → IsBelow join_types (carry_types new (g p)) (carry_types i (g p)) → Suits n g p i → Suits n g p new
milder_suits n g p new i ways below s = record {
  applicable = applicable_below new i (g p) (g p) below s.applicable;
  flows = λ j q way. types_transitive (carry_types new (g p)) (carry_types i (g p)) (g q) below (s.flows j q (ways j q way));
}
