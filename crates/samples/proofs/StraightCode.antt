-- Codes without jumps: each place leads to the next.
use Rattle.std.proofs.Common.{◌≡◌, ℕ, zero, suc, ◌+◌, ◌<◌, false, List, [], ◌∷◌, length, get_or, refl, ap, ◌∙◌, arith}
use Rattle.std.specs.Prelude.{◌==◌}
use Rattle.std.proofs.lemmas.Bool.{ne_eqb}
use Rattle.bytecode.specs.declared.unit.Unit.{Unit as TheUnit}
use Rattle.analyses.specs.declared.edge.Edge.{Edge}
use Rattle.analyses.specs.Edges.{edge, edges_of}
use Rattle.analyses.specs.Frameworks.{types_of, constants_of}
use Rattle.samples.proofs.Least.{Straight}

-- from place p on, n edges to next places
abbrev pub chain : ℕ → ℕ → List Edge
chain p zero = []
chain p (suc n) = edge p (suc p) false ∷ chain (suc p) n

length-chain : (p n : ℕ) → length (chain p n) ≡ n
length-chain p zero = refl
length-chain p (suc n) = ap suc (length-chain (suc p) n)

chain_at : (p n i : ℕ) (d : Edge) → i < n → get_or (chain p n) i d ≡ edge (p + i) (suc (p + i)) false
chain_at p zero i d lt = absurd (omega arith)
chain_at p (suc n) zero d lt = let e : p ≡ p + 0 = omega arith in ap (λ q. edge q (suc q) false) e
chain_at p (suc n) (suc i) d lt = let e : suc p + i ≡ p + suc i = omega arith in chain_at (suc p) n i d (omega arith) ∙ ap (λ q. edge q (suc q) false) e

abbrev pub IsStraight : TheUnit → ℕ → Type 0
IsStraight u n = (u.len ≡ suc n) × (edges_of u ≡ chain 0 n)

module _ (u : TheUnit) (n : ℕ) (straight : IsStraight u n) where
  edges_count : length (edges_of u) ≡ n
  edges_count = ap length straight.1 ∙ length-chain 0 n

  edge_is : (i : ℕ) → i < length (edges_of u) → get_or (edges_of u) i (edge 0 0 false) ≡ edge i (suc i) false
  edge_is i lt =
      let e : 0 + i ≡ i = omega arith in
      ap (λ es. get_or es i (edge 0 0 false)) straight.1 ∙ chain_at 0 n i (edge 0 0 false) (omega (arith, edges_count)) ∙ ap (λ q. edge q (suc q) false) e

  later : (v : ℕ) → suc v == 0 ≡ false
  later v = ne_eqb (suc v) 0 (λ e. omega (arith, e))

  pub types_straight : Straight (types_of u)
  types_straight = record {
    edges = omega (arith, edges_count, straight.0);
    from = λ i lt. ap (λ (x : Edge). x.start) (edge_is i lt);
    to = λ i lt. ap (λ (x : Edge). x.end) (edge_is i lt);
    seeds = λ v. rw (later v);
  }

  pub constants_straight : Straight (constants_of u)
  constants_straight = record {
    edges = omega (arith, edges_count, straight.0);
    from = λ i lt. ap (λ (x : Edge). x.start) (edge_is i lt);
    to = λ i lt. ap (λ (x : Edge). x.end) (edge_is i lt);
    seeds = λ v. rw (later v);
  }
