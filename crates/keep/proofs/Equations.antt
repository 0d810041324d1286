-- The equations of an analysis of a unit, by the ways of its instructions in the place of numbered edges.
use Rattle.std.proofs.Common.{◌≡◌, ℕ, ◌<◌, Bool, bit_or, ℤ, pos, ◌+ℤ◌, Some, ap, subst, ⊎_elim, arith}
use Rattle.std.proofs.lemmas.Bool.{cases_eq, ne_eqb}
use Rattle.std.proofs.lemmas.Option.{get_or_from_slice_get, slice_get-get_or, slice_get_within}
use Rattle.bytecode.specs.declared.instr.Instr.{Instr}
use Rattle.bytecode.specs.declared.instr.Instr.TheVariants.{Nop}
use Rattle.bytecode.specs.declared.unit.Unit.{Unit as TheUnit}
use Rattle.bytecode.specs.Instructions.{inside}
use Rattle.bytecode.specs.Files.{held}
use Rattle.bytecode.proofs.Held.{length-held}
use Rattle.dataflow.specs.Analysis.{Solution}
use Rattle.facts.specs.declared.cell.TypeCell.{TypeCell}
use Rattle.facts.specs.declared.cell.TypeCell.TheVariants.{Unusable}
use Rattle.facts.specs.declared.cell.ConstCell.{ConstCell}
use Rattle.facts.specs.declared.cell.ConstCell.TheVariants.{Varies}
use Rattle.facts.specs.declared.frame.Frame.{Frame}
use Rattle.facts.specs.declared.frame.Frame.TheVariants.{At}
use Rattle.facts.specs.Flat.{flat_rank}
use Rattle.facts.specs.TypeCells.{same_type, join_types}
use Rattle.facts.specs.ConstCells.{same_const, join_consts}
use Rattle.facts.specs.Frames.{IsBelow, Fitting, entry}
use Rattle.facts.specs.Types.{carry_types}
use Rattle.facts.specs.Constants.{carry_constants}
use Rattle.facts.specs.Live.{IsSet, carry_live}
use Rattle.facts.proofs.LiveSets.{union_neutral}
use Rattle.analyses.specs.declared.edge.Edge.{Edge}
use Rattle.analyses.specs.Edges.{Leads, distance, start_of, end_of, is_jump, instr_at}
use Rattle.analyses.specs.Frameworks.{forward, types_of, constants_of, live_of}
use Rattle.analyses.specs.Ways.{edges_are_ways, end_inside}

-- the frames are at or above the entry, and what each way carries
pub record SolvesForward {C : Type 0} (join : C → C → C) (top : C) (carry : Instr → Bool → Frame C → Frame C) (u : TheUnit) (f : ℕ → Frame C) : Type 0 where
  pub valid : (p : ℕ) → p < u.len → Fitting (f p)
  pub starts : IsBelow join (At (entry top)) (f 0)
  pub flows : (p : ℕ) (i : Instr) (j : Bool) (q : ℕ) → Leads (held u) p i j q → IsBelow join (carry i j (f p)) (f q)

-- the set after an instruction has what each instruction that may follow it has before it
pub record SolvesLive (u : TheUnit) (live : ℕ → ℕ) : Type 0 where
  pub valid : (p : ℕ) → p < u.len → IsSet (live p)
  pub flows : (p : ℕ) (i : Instr) (j : Bool) (q : ℕ) → Leads (held u) p i j q → bit_or (carry_live (instr_at u q) (live q)) (live p) ≡ live p

-- a way from place p of n by the instruction i
pub record Way (n p : ℕ) (i : Instr) (j : Bool) (q : ℕ) : Type 0 where
  pub by : ℤ
  pub far : distance i j ≡ Some by
  pub arrives : inside n (pos p +ℤ by) ≡ Some q

module _ (u : TheUnit) (p : ℕ) (i : Instr) (j : Bool) (q : ℕ) where
  pub way_from_leads : Leads (held u) p i j q → Way u.len p i j q
  way_from_leads leads = record { by = leads.by; far = leads.far; arrives = rw (length-held u) at leads.arrives }

  pub leads_below : Leads (held u) p i j q → p < u.len
  leads_below leads = omega (arith, slice_get_within (held u) p i leads.stands, length-held u)

  pub instr_at-leads : Leads (held u) p i j q → instr_at u p ≡ i
  instr_at-leads leads = get_or_from_slice_get (held u) p i Nop leads.stands

  -- it leads to a place of the unit
  pub leads_inside : Leads (held u) p i j q → q < u.len
  leads_inside leads =
      let found = (edges_are_ways u).all p i j q leads in
      rw (ap (λ (x : Edge). x.end) found.2) at (end_inside u found.0 found.1)

  pub leads_from_way : p < u.len → instr_at u p ≡ i → Way u.len p i j q → Leads (held u) p i j q
  leads_from_way low stands way = record {
    stands = rw stands at (slice_get-get_or (held u) p Nop (omega (arith, length-held u)));
    by = way.by;
    far = way.far;
    arrives = rw (length-held u) way.arrives;
  }

module _ {C : Type 0} (join : C → C → C) (top : C) (rank : C → ℕ) (h : ℕ) (carry : Instr → Bool → Frame C → Frame C) (u : TheUnit) (f : ℕ → Frame C) where
  pub solves_from_solution : Solution Fitting (forward join top rank h carry u) f → SolvesForward join top carry u f
  solves_from_solution s = record {
    valid = s.valid;
    starts = s.seeds 0 u.some;
    flows = λ p i j q leads.
        let found = (edges_are_ways u).all p i j q leads in
        let stands = instr_at-leads u p i j q leads in
        rw stands at
        (subst (λ (x : Edge). IsBelow join (carry (instr_at u x.start) x.jump (f x.start)) (f x.end)) found.2 (s.flows found.0 found.1));
  }

  pub solution_from_solves : SolvesForward join top carry u f → Solution Fitting (forward join top rank h carry u) f
  solution_from_solves s = record {
    valid = s.valid;
    seeds = λ p inside.
        ⊎_elim
        (λ e. rw e s.starts)
        (λ ne. let other = ne_eqb p 0 ne in rw other)
        (cases_eq p 0);
    flows = λ e below. s.flows (start_of u e) (instr_at u (start_of u e)) (is_jump u e) (end_of u e) ((edges_are_ways u).ways e below);
  }

abbrev pub SolvesTypes : TheUnit → (ℕ → Frame TypeCell) → Type 0
SolvesTypes = SolvesForward join_types Unusable (λ i j f. carry_types i f)

abbrev pub SolvesConstants : TheUnit → (ℕ → Frame ConstCell) → Type 0
SolvesConstants = SolvesForward join_consts Varies carry_constants

module _ (u : TheUnit) (f : ℕ → Frame TypeCell) where
  pub types_solve : Solution Fitting (types_of u) f → SolvesTypes u f
  types_solve = solves_from_solution join_types Unusable (flat_rank same_type Unusable) 1 (λ i j f. carry_types i f) u f

  pub solution_from_types : SolvesTypes u f → Solution Fitting (types_of u) f
  solution_from_types = solution_from_solves join_types Unusable (flat_rank same_type Unusable) 1 (λ i j f. carry_types i f) u f

module _ (u : TheUnit) (f : ℕ → Frame ConstCell) where
  pub constants_solve : Solution Fitting (constants_of u) f → SolvesConstants u f
  constants_solve = solves_from_solution join_consts Varies (flat_rank same_const Varies) 1 carry_constants u f

  pub solution_from_constants : SolvesConstants u f → Solution Fitting (constants_of u) f
  solution_from_constants = solution_from_solves join_consts Varies (flat_rank same_const Varies) 1 carry_constants u f

module _ (u : TheUnit) (live : ℕ → ℕ) where
  pub live_solves : Solution IsSet (live_of u) live → SolvesLive u live
  live_solves s = record {
    valid = s.valid;
    flows = λ p i j q leads.
        let found = (edges_are_ways u).all p i j q leads in
        subst (λ (x : Edge). bit_or (carry_live (instr_at u x.end) (live x.end)) (live x.start) ≡ live x.start) found.2 (s.flows found.0 found.1);
  }

  pub solution_from_live : SolvesLive u live → Solution IsSet (live_of u) live
  solution_from_live s = record {
    valid = s.valid;
    seeds = λ p inside. union_neutral (live p);
    flows = λ e below. s.flows (start_of u e) (instr_at u (start_of u e)) (is_jump u e) (end_of u e) ((edges_are_ways u).ways e below);
  }
