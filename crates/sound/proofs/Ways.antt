-- What a solution says along each edge of a unit.
use Rattle.std.proofs.Common.{◌≡◌, ℕ, ◌<◌, Bool, Some, subst, sym, ◌∙◌, get_or, List, ℤ}
use Rattle.std.specs.List.{slice_get}
use Rattle.std.proofs.lemmas.Bool.{and_parts, ltb-true}
use Rattle.std.proofs.lemmas.List.{get_or-take}
use Rattle.std.proofs.lemmas.Option.{slice_get_within, get_or_from_slice_get}
use Rattle.bytecode.specs.declared.instr.Instr.{Instr}
use Rattle.bytecode.specs.declared.instr.Instr.TheVariants.{Nop}
use Rattle.bytecode.specs.declared.unit.Unit.{Unit as TheUnit}
use Rattle.bytecode.specs.Instructions.{local, row, in_range, standing}
use Rattle.bytecode.specs.Files.{held}
use Rattle.bytecode.proofs.Held.{length-held}
use Rattle.machine.specs.Machine.{State}
use Rattle.machine.specs.Laws.{Reached}
use Rattle.machine.proofs.Units.{stays_inside}
use Rattle.dataflow.specs.Analysis.{Solution}
use Rattle.facts.specs.declared.frame.Frame.{Frame}
use Rattle.facts.specs.declared.frame.Frame.TheVariants.{At}
use Rattle.facts.specs.Frames.{IsBelow, Fitting, entry}
use Rattle.analyses.specs.declared.edge.Edge.{Edge}
use Rattle.analyses.specs.Edges.{Leads, instr_at}
use Rattle.analyses.specs.Frameworks.{forward}
use Rattle.analyses.specs.Ways.{edges_are_ways}

pub instr_there : (u : TheUnit) (p : ℕ) (i : Instr) → slice_get (held u) p ≡ Some i → instr_at u p ≡ i
instr_there u p i at = get_or_from_slice_get (held u) p i Nop at

pub place_inside : (u : TheUnit) (p : ℕ) (i : Instr) → slice_get (held u) p ≡ Some i → p < u.len
place_inside u p i at = let lt = slice_get_within (held u) p i at in rw (length-held u) at lt

pub place_reached : (u : TheUnit) (inputs : List ℤ) (room : ℕ) (s : State) → Reached (held u) inputs room s → s.place < u.len
place_reached u inputs room s r = let lt = stays_inside u inputs room s r in rw (length-held u) at lt

-- the local that an instruction of a unit names is one of the 16
pub local_there : (u : TheUnit) (p : ℕ) (i : Instr) → slice_get (held u) p ≡ Some i → (n : ℕ) → (row i).operands ≡ local n → n < 16
local_there u p i at n e =
    let lt = place_inside u p i at in
    let same : get_or u.code p Nop ≡ i = sym (get_or-take u.len u.code p Nop lt) ∙ instr_there u p i at in
    let ranges = (and_parts (in_range (row (get_or u.code p Nop)).operands) (standing u.locals p u.len (get_or u.code p Nop)) (u.rules p lt)).0 in
    ltb-true n 16 (rw (same, e) at ranges)

module _ {C : Type 0} (join : C → C → C) (top : C) (rank : C → ℕ) (height : ℕ) (carry : Instr → Bool → Frame C → Frame C) (u : TheUnit)
    (f : ℕ → Frame C) (sol : Solution Fitting (forward join top rank height carry u) f) where
  pub seeded : IsBelow join (At (entry top)) (f 0)
  seeded = sol.seeds 0 u.some

  pub carried_along : (p : ℕ) (i : Instr) (j : Bool) (q : ℕ) → Leads (held u) p i j q → IsBelow join (carry i j (f p)) (f q)
  carried_along p i j q l =
      let e = (edges_are_ways u).all p i j q l in
      let g = subst (λ (x : Edge). IsBelow join (carry (instr_at u x.start) x.jump (f x.start)) (f x.end)) e.2 (sol.flows e.0 e.1) in
      subst (λ k. IsBelow join (carry k j (f p)) (f q)) (instr_there u p i l.stands) g
