-- The edges of a code: which places may follow one another, and by which way. Assumes nothing.
use Rattle.std.specs.Prelude.{◌≡◌, ℕ, ◌+◌, ◌<◌, Bool, true, false, cond, List, [], ◌∷◌, ◌++◌, length, ℤ, pos, ◌+ℤ◌, Some, None, Option, nat_lt, slice_index_or}
use Rattle.std.specs.List.{slice_get}
use Rattle.std.specs.Option.{option_to_list}
use Rattle.bytecode.specs.declared.instr.Instr.{Instr}
use Rattle.bytecode.specs.declared.instr.Instr.TheVariants.{Nop}
use Rattle.bytecode.specs.declared.unit.Unit.{Unit as TheUnit}
use Rattle.bytecode.specs.Instructions.{Operands, bare, number, flag, local, jump, row, inside}
use Rattle.bytecode.specs.Files.{held}
use Rattle.analyses.specs.declared.edge.Edge.{Edge}

abbrev pub jump_of : Operands → Option ℤ
jump_of bare = None
jump_of (number k v) = None
jump_of (flag k b) = None
jump_of (local x) = None
jump_of (jump d) = Some d

-- how far the instruction leads by its jump, if that is asked, or else to the next place; none where it does not
abbrev pub distance : Instr → Bool → Option ℤ
distance i true = jump_of (row i).operands
distance i false = cond (row i).falls (Some (pos 1)) None

-- the instruction i at place p of the code leads to place q
pub record Leads (code : List Instr) (p : ℕ) (i : Instr) (by_jump : Bool) (q : ℕ) : Type 0 where
  pub stands : slice_get code p ≡ Some i
  pub by : ℤ
  pub far : distance i by_jump ≡ Some by
  pub arrives : inside (length code) (pos p +ℤ by) ≡ Some q

abbrev pub edge : ℕ → ℕ → Bool → Edge
edge p q j = record { start = p; end = q; jump = j }

abbrev pub to_place : ℕ → Bool → Option ℕ → Option Edge
to_place p j None = None
to_place p j (Some q) = Some (edge p q j)

abbrev pub by_distance : ℕ → ℕ → Bool → Option ℤ → Option Edge
by_distance n p j None = None
by_distance n p j (Some d) = to_place p j (inside n (pos p +ℤ d))

-- the edge out of place p of n by one way, if there is one
abbrev pub way : ℕ → ℕ → Instr → Bool → Option Edge
way n p i j = by_distance n p j (distance i j)

-- the lower end first; the next place before a jump to it
abbrev pub in_order : Option Edge → Option Edge → List Edge
in_order None y = option_to_list y
in_order (Some x) None = x ∷ []
in_order (Some x) (Some y) = cond (nat_lt y.end x.end) (y ∷ x ∷ []) (x ∷ y ∷ [])

abbrev pub edges_out : ℕ → ℕ → Instr → List Edge
edges_out n p i = in_order (way n p i false) (way n p i true)

-- the edges out of the instructions that stand from place p on
abbrev pub edges_from : ℕ → ℕ → List Instr → List Edge
edges_from n p [] = []
edges_from n p (i ∷ is) = edges_out n p i ++ edges_from n (p + 1) is

-- by their starts, and then by their ends
abbrev pub edges_of : TheUnit → List Edge
edges_of u = edges_from (length (held u)) 0 (held u)

abbrev pub edge_at : TheUnit → ℕ → Edge
edge_at u e = slice_index_or (edges_of u) e (edge 0 0 false)

abbrev pub start_of : TheUnit → ℕ → ℕ
start_of u e = (edge_at u e).start

abbrev pub end_of : TheUnit → ℕ → ℕ
end_of u e = (edge_at u e).end

abbrev pub is_jump : TheUnit → ℕ → Bool
is_jump u e = (edge_at u e).jump

abbrev pub instr_at : TheUnit → ℕ → Instr
instr_at u p = slice_index_or (held u) p Nop

-- the edges are the ways by which instructions lead from place to place, all of them
pub record EdgesAreWays (u : TheUnit) : Type 0 where
  pub ways : (e : ℕ) → e < length (edges_of u) → Leads (held u) (start_of u e) (instr_at u (start_of u e)) (is_jump u e) (end_of u e)
  pub all : (p : ℕ) (i : Instr) (j : Bool) (q : ℕ) → Leads (held u) p i j q → (e : ℕ) × (e < length (edges_of u)) × (edge_at u e ≡ edge p q j)

-- two instructions lead equally far, by either way
abbrev pub GoAlike : Instr → Instr → Type 0
GoAlike a b = (distance a false ≡ distance b false) × (distance a true ≡ distance b true)

-- as many instructions, and at each place instructions that lead equally far
pub record LeadAlike (u v : TheUnit) : Type 0 where
  pub len : u.len ≡ v.len
  pub ways : (p : ℕ) → p < u.len → GoAlike (slice_index_or u.code p Nop) (slice_index_or v.code p Nop)
