-- The edges of a unit are the ways of its instructions, and all of them. Assumes nothing.
use Rattle.std.proofs.Common.{◌≡◌, ℕ, zero, suc, ◌+◌, ◌*◌, ◌<◌, ◌≤◌, ℤ, pos, negsuc, ◌+ℤ◌, Bool, true, false, None, Some, Option, List, [], ◌∷◌, length, get_or, drop, refl, sym, ap, ◌∙◌, arith, length-append, length-drop}
use Rattle.std.specs.Prelude.{nat_lt}
use Rattle.std.specs.List.{slice_get, All, Contains}
use Rattle.std.specs.Option.{IfSome}
use Rattle.std.proofs.lemmas.Bool.{cond_both, ltb-true}
use Rattle.std.proofs.lemmas.List.{drop_more, get_or_default}
use Rattle.std.proofs.lemmas.List.Elements.{All-nil, All-cons, All-append, All-get_or, Contains-append_left, Contains-append_right}
use Rattle.std.proofs.lemmas.Option.{none-some, same_Some, cond_some, slice_get_within, slice_get-get_or}
use Rattle.bytecode.specs.declared.instr.Instr.{Instr}
use Rattle.bytecode.specs.declared.instr.Instr.TheVariants.{Nop}
use Rattle.bytecode.specs.declared.unit.Unit.{Unit as TheUnit}
use Rattle.bytecode.specs.Files.{held}
use Rattle.bytecode.specs.Instructions.{inside}
use Rattle.bytecode.proofs.Held.{length-held}
use Rattle.analyses.specs.declared.edge.Edge.{Edge}
use Rattle.analyses.specs.Edges.{distance, Leads, edge, to_place, by_distance, way, in_order, edges_out, edges_from, edges_of, start_of, end_of, EdgesAreWays}

-- ---- two edges in order
All-in_order : (P : Edge → Type 0) (next jump : Option Edge) → IfSome next P → IfSome jump P → All P (in_order next jump)
All-in_order P None None p q = All-nil P
All-in_order P None (Some y) p q = All-cons P y [] q (All-nil P)
All-in_order P (Some x) None p q = All-cons P x [] p (All-nil P)
All-in_order P (Some x) (Some y) p q =
    cond_both
    (nat_lt y.end x.end)
    (y ∷ x ∷ [])
    (x ∷ y ∷ [])
    (All P)
    (λ _. All-cons P y (x ∷ []) q (All-cons P x [] p (All-nil P)))
    (λ _. All-cons P x (y ∷ []) p (All-cons P y [] q (All-nil P)))

in_order_first : (x : Edge) (jump : Option Edge) → Contains (in_order (Some x) jump) x
in_order_first x None = (0, omega arith, refl)
in_order_first x (Some y) =
    cond_both (nat_lt y.end x.end) (y ∷ x ∷ []) (x ∷ y ∷ []) (λ xs. Contains xs x) (λ _. (1, omega arith, refl)) (λ _. (0, omega arith, refl))

in_order_second : (next : Option Edge) (y : Edge) → Contains (in_order next (Some y)) y
in_order_second None y = (0, omega arith, refl)
in_order_second (Some x) y =
    cond_both (nat_lt y.end x.end) (y ∷ x ∷ []) (x ∷ y ∷ []) (λ xs. Contains xs y) (λ _. (0, omega arith, refl)) (λ _. (1, omega arith, refl))

length-in_order : (next jump : Option Edge) → length (in_order next jump) ≤ 2
length-in_order None None = omega arith
length-in_order None (Some y) = omega arith
length-in_order (Some x) None = omega arith
length-in_order (Some x) (Some y) =
    cond_both (nat_lt y.end x.end) (y ∷ x ∷ []) (x ∷ y ∷ []) (λ xs. length xs ≤ 2) (λ _. omega arith) (λ _. omega arith)

length-edges_from : (n p : ℕ) (is : List Instr) → length (edges_from n p is) ≤ 2 * length is
length-edges_from n p [] = omega arith
length-edges_from n p (i ∷ is) =
    omega (
      arith,
      length-append (edges_out n p i) (edges_from n (p + 1) is),
      length-in_order (way n p i false) (way n p i true),
      length-edges_from n (p + 1) is,
    )

-- ---- each edge is a way
module _ (code : List Instr) where
  abbrev IsWay : Edge → Type 0
  IsWay x = Leads code x.start (get_or code x.start Nop) x.jump x.end

  to_place_leads : (p : ℕ) (j : Bool) (d : ℤ) (q : Option ℕ) → p < length code → distance (get_or code p Nop) j ≡ Some d
      → inside (length code) (pos p +ℤ d) ≡ q
      → IfSome (to_place p j q) IsWay
  to_place_leads p j d None in_range far arrives = tt
  to_place_leads p j d (Some q) in_range far arrives = record { stands = slice_get-get_or code p Nop in_range; by = d; far = far; arrives = arrives }

  by_distance_leads : (p : ℕ) (j : Bool) (d : Option ℤ) → p < length code → distance (get_or code p Nop) j ≡ d → IfSome (by_distance (length code) p j d) IsWay
  by_distance_leads p j None in_range far = tt
  by_distance_leads p j (Some d) in_range far = to_place_leads p j d _ in_range far refl

  out_leads : (p : ℕ) → p < length code → All IsWay (edges_out (length code) p (get_or code p Nop))
  out_leads p in_range = All-in_order IsWay _ _ (by_distance_leads p false _ in_range refl) (by_distance_leads p true _ in_range refl)

  edges_lead : (p : ℕ) (is : List Instr) → drop p code ≡ is → All IsWay (edges_from (length code) p is)
  edges_lead p [] e = All-nil IsWay
  edges_lead p (i ∷ is) e =
      let in_range : p < length code = omega (arith, ap length e, length-drop p code) in
      let here : i ∷ is ≡ get_or code p Nop ∷ drop (p + 1) code = sym e ∙ drop_more code p Nop in_range in
      let first : i ≡ get_or code p Nop = cc in
      let rest : drop (p + 1) code ≡ is = cc in
      All-append IsWay (edges_out (length code) p i) (edges_from (length code) (p + 1) is) (rw first (out_leads p in_range)) (edges_lead (p + 1) is rest)

-- ---- each way is an edge
way_is : (n p : ℕ) (i : Instr) (j : Bool) (q : ℕ) (d : ℤ) → distance i j ≡ Some d → inside n (pos p +ℤ d) ≡ Some q → way n p i j ≡ Some (edge p q j)
way_is n p i j q d far arrives = rw (far, arrives)

out_contains : (n p : ℕ) (i : Instr) (j : Bool) (q : ℕ) → way n p i j ≡ Some (edge p q j) → Contains (edges_out n p i) (edge p q j)
out_contains n p i false q e = rw e (in_order_first (edge p q false) (way n p i true))
out_contains n p i true q e = rw e (in_order_second (way n p i false) (edge p q true))

from_contains : (n p : ℕ) (is : List Instr) (k at : ℕ) (i : Instr) (x : Edge) → at ≡ p + k → slice_get is k ≡ Some i → Contains (edges_out n at i) x
    → Contains (edges_from n p is) x
from_contains n p [] k at i x place stands has = absurd (none-some i stands)
from_contains n p (first ∷ is) zero at i x place stands has =
    let here : at ≡ p = omega arith in
    Contains-append_left (edges_out n p first) (edges_from n (p + 1) is) x (rw (same_Some first i stands, ← here) has)
from_contains n p (first ∷ is) (suc k) at i x place stands has =
    Contains-append_right (edges_out n p first) (edges_from n (p + 1) is) x (from_contains n (p + 1) is k at i x (omega arith) stands has)

inside_below : (n : ℕ) (z : ℤ) (q : ℕ) → inside n z ≡ Some q → q < n
inside_below n (pos p) q e = let parts = cond_some (nat_lt p n) p q e in let below : p < n = ltb-true p n parts.0 in omega (arith, parts.1)
inside_below n (negsuc p) q e = absurd (none-some q e)

module _ (u : TheUnit) where
  pub length-edges_of : length (edges_of u) ≤ 2 * u.len
  length-edges_of = omega (arith, length-edges_from (length (held u)) 0 (held u), length-held u)

  pub edges_are_ways : EdgesAreWays u
  edges_are_ways = record {
    ways = λ e below. All-get_or (IsWay (held u)) (edges_of u) e (edge 0 0 false) below (edges_lead (held u) 0 (held u) refl);
    all = λ p i j q leads.
        let x = edge p q j in
        let has = out_contains (length (held u)) p i j q (way_is (length (held u)) p i j q leads.by leads.far leads.arrives) in
        let found = from_contains (length (held u)) 0 (held u) p p i x (omega arith) leads.stands has in
        (found.0, found.1, get_or_default (edges_of u) found.0 (edge 0 0 false) x found.1 ∙ found.2);
  }

  pub start_inside : (e : ℕ) → e < length (edges_of u) → start_of u e < u.len
  start_inside e below = omega (arith, slice_get_within (held u) (start_of u e) _ (edges_are_ways.ways e below).stands, length-held u)

  pub end_inside : (e : ℕ) → e < length (edges_of u) → end_of u e < u.len
  end_inside e below = let way = edges_are_ways.ways e below in omega (arith, inside_below (length (held u)) _ (end_of u e) way.arrives, length-held u)
