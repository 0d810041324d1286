-- The least frames of constants agree with all frames of types that solve the equations.
use Rattle.std.proofs.Common.{◌≡◌, ℕ, ◌<◌, Bool, true, false, cond, ◌&&◌, None, Some, Option, refl, sym, ap, subst, arith}
use Rattle.std.proofs.lemmas.Bool.{both_ways, true_from_ne_false, and_parts, and_from, cond-true, cond-false, cond_both, false≢true}
use Rattle.bytecode.specs.declared.instr.Instr.{Instr}
use Rattle.bytecode.specs.declared.unit.Unit.{Unit as TheUnit}
use Rattle.dataflow.specs.Analysis.{Solution, LeastSolution}
use Rattle.facts.specs.declared.cell.TypeCell.{TypeCell}
use Rattle.facts.specs.declared.cell.TypeCell.TheVariants.{Unusable}
use Rattle.facts.specs.declared.cell.ConstCell.{ConstCell}
use Rattle.facts.specs.declared.cell.ConstCell.TheVariants.{Varies}
use Rattle.facts.specs.declared.reason.Reason.{Reason}
use Rattle.facts.specs.declared.frame.Frame.{Frame}
use Rattle.facts.specs.declared.frame.Frame.TheVariants.{Unreached, At, Clash}
use Rattle.facts.specs.TypeCells.{join_types}
use Rattle.facts.specs.ConstCells.{join_consts}
use Rattle.facts.specs.Held.{Held}
use Rattle.facts.specs.Frames.{IsBelow, Fitting, entry}
use Rattle.facts.specs.Effects.{effect, after, is_too_few, is_too_many}
use Rattle.facts.specs.Constants.{constants, carry_constants}
use Rattle.facts.specs.Types.{types, reason_at, carry_types, unless}
use Rattle.facts.proofs.Order.{under_from_below}
use Rattle.facts.proofs.CarryTypes.{carry_types_fitting}
use Rattle.facts.proofs.CarryConstants.{carry_constants_fitting}
use Rattle.analyses.specs.Frameworks.{types_of, constants_of}
use Rattle.keep.proofs.Equations.{SolvesConstants, SolvesTypes, leads_inside, leads_below, types_solve, constants_solve, solution_from_constants}
use Rattle.keep.proofs.AgreeingCells.{agree_cells, test_from_agree, agree_from_test, Agree, cells_above, after_agrees}

-- what constants reach types reach, with as many values, and the cells agree; with Clash everything agrees
abbrev pub agree : Frame ConstCell → Frame TypeCell → Bool
agree Unreached g = true
agree (At a) Unreached = false
agree (At a) (At b) = agree_cells a.stack b.stack && agree_cells a.locals b.locals
agree (At a) Clash = true
agree Clash g = true

agree_clash : (f : Frame ConstCell) → agree f Clash ≡ true
agree_clash Unreached = refl
agree_clash (At a) = refl
agree_clash Clash = refl

module _ (a : Held ConstCell) (b : Held TypeCell) where
  agree_from : Agree a b → agree (At a) (At b) ≡ true
  agree_from h = and_from (agree_cells a.stack b.stack) (agree_cells a.locals b.locals) (test_from_agree h.stack) (test_from_agree h.locals)

  pub agree_parts : agree (At a) (At b) ≡ true → Agree a b
  agree_parts e =
      let parts = and_parts (agree_cells a.stack b.stack) (agree_cells a.locals b.locals) e in
      record { stack = agree_from_test a.stack b.stack parts.0; locals = agree_from_test a.locals b.locals parts.1 }

unless_agrees : (f : Frame ConstCell) (o : Option Reason) (g : Frame TypeCell) → agree f g ≡ true → agree f (unless o g) ≡ true
unless_agrees f None g h = h
unless_agrees f (Some r) g h = agree_clash f

-- what the tests before an instruction make of a frame of constants
pub carried_either : (i : Instr) (j : Bool) (a : Held ConstCell) (P : Frame ConstCell → Type 0) → P Clash → P Unreached → P (At (after constants i a))
    → P (carry_constants i j (At a))
carried_either i j a P clash unreached made =
    cond_both (is_too_few constants i a) _ _ P (λ e. clash)
    (λ e. cond_both (is_too_many constants i a) _ _ P (λ e. clash)
    (λ e. cond_both ((effect constants i a).is_dead j) _ _ P (λ e. unreached) (λ e. made)))

carry_agrees : (i : Instr) (j : Bool) (f : Frame ConstCell) (g : Frame TypeCell) → agree f g ≡ true → agree (carry_constants i j f) (carry_types i g) ≡ true
carry_agrees i j Unreached g h = refl
carry_agrees i j (At a) Unreached h = absurd (false≢true h)
carry_agrees i j (At a) (At b) h =
    let made = agree_from (after constants i a) (after types i b) (after_agrees a b (agree_parts a b h) i) in
    carried_either i j a (λ f. agree f (carry_types i (At b)) ≡ true) refl refl
    (unless_agrees (At (after constants i a)) (reason_at i b) (At (after types i b)) made)
carry_agrees i j (At a) Clash h = agree_clash (carry_constants i j (At a))
carry_agrees i j Clash g h = refl

-- greater frames agree too
agree_above : (a : Held ConstCell) (k : Frame ConstCell) (f g : Frame TypeCell) → Fitting (At a) → Fitting k → Fitting f → Fitting g
    → IsBelow join_consts (At a) k → IsBelow join_types f g → agree (At a) f ≡ true → agree k g ≡ true
agree_above a Unreached f g pa pk pf pg p q h = refl
agree_above a (At c) Unreached g pa pk pf pg p q h = absurd (false≢true h)
agree_above a (At c) (At b) Unreached pa pk pf pg p q h = absurd (cc)
agree_above a (At c) (At b) (At d) pa pk pf pg p q h =
    let u = under_from_below join_consts a c pa pk p in
    let v = under_from_below join_types b d pf pg q in
    let parts = agree_parts a b h in
    agree_from c d (record { stack = cells_above parts.stack u.stack v.stack; locals = cells_above parts.locals u.locals v.locals })
agree_above a (At c) (At b) Clash pa pk pf pg p q h = refl
agree_above a (At c) Clash g pa pk pf pg p q h = rw (sym q) (agree_clash (At c))
agree_above a Clash f g pa pk pf pg p q h = refl

module _ (u : TheUnit) (known : ℕ → Frame ConstCell) (f : ℕ → Frame TypeCell) where
  -- unreached where the types do not agree
  abbrev agreeing : ℕ → Frame ConstCell
  agreeing p = cond (agree (known p) (f p)) (known p) Unreached

  below_agreeing : (q : ℕ) (k : Frame ConstCell) → agree (known q) (f q) ≡ true → IsBelow join_consts k (known q) → IsBelow join_consts k (agreeing q)
  below_agreeing q k e p = subst (IsBelow join_consts k) (sym (cond-true (agree (known q) (f q)) (known q) Unreached e)) p

  module _ (s : SolvesConstants u known) (t : SolvesTypes u f) where
    lands : (q : ℕ) (k : Frame ConstCell) (g : Frame TypeCell) → q < u.len → Fitting k → Fitting g → agree k g ≡ true
        → IsBelow join_consts k (known q) → IsBelow join_types g (f q) → IsBelow join_consts k (agreeing q)
    lands q Unreached g inside pk pg h p r = refl
    lands q (At a) g inside pk pg h p r =
        below_agreeing q (At a) (agree_above a (known q) g (f q) pk (s.valid q inside) pg (t.valid q inside) p r h) p
    lands q Clash g inside pk pg h p r = below_agreeing q Clash (ap (λ (k : Frame ConstCell). agree k (f q)) (sym p)) p

    agreeing_solves : SolvesConstants u agreeing
    agreeing_solves = record {
      valid = λ p inside. cond_both (agree (known p) (f p)) (known p) Unreached Fitting (λ e. s.valid p inside) (λ e. tt);
      starts = lands 0 (At (entry Varies)) (At (entry Unusable)) u.some (omega arith, refl) (omega arith, refl) refl s.starts t.starts;
      flows = λ p i j q leads.
          let low = leads_below u p i j q leads in
          let inside = leads_inside u p i j q leads in
          cond_both (agree (known p) (f p)) (known p) Unreached (λ k. IsBelow join_consts (carry_constants i j k) (agreeing q))
          (λ e. lands q (carry_constants i j (known p)) (carry_types i (f p)) inside
          (carry_constants_fitting i j (known p) (s.valid p low)) (carry_types_fitting i (f p) (t.valid p low))
          (carry_agrees i j (known p) (f p) e) (s.flows p i j q leads) (t.flows p i j q leads))
          (λ e. refl);
    }

  unreached_below : (k : Frame ConstCell) → IsBelow join_consts k Unreached → k ≡ Unreached
  unreached_below Unreached h = refl
  unreached_below (At a) h = h
  unreached_below Clash h = h

  agree_if_below : (p : ℕ) → IsBelow join_consts (known p) (agreeing p) → agree (known p) (f p) ≡ true
  agree_if_below p below =
      true_from_ne_false (agree (known p) (f p)) (λ e.
      let none = unreached_below (known p) (rw (cond-false (agree (known p) (f p)) (known p) Unreached e) at below) in
      both_ways (agree (known p) (f p)) e (ap (λ (k : Frame ConstCell). agree k (f p)) none))

  -- the constants that reach a place are of the kinds that every solution of the types has there
  pub least_agree : LeastSolution Fitting (constants_of u) known → Solution Fitting (types_of u) f → (p : ℕ) → p < u.len → agree (known p) (f p) ≡ true
  least_agree least types p inside =
      let solves = agreeing_solves (constants_solve u known least.solution) (types_solve u f types) in
      agree_if_below p (least.lowest agreeing (solution_from_constants u agreeing solves) p inside)
