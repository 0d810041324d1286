-- Least solutions that are known place by place.
use Rattle.std.proofs.Common.{◌≡◌, ℕ, zero, suc, ◌+◌, ◌<◌, ◌⊎◌, inl, inr, sym, ap, ◌∙◌, refl, subst, arith}
use Rattle.dataflow.specs.Analysis.{Framework, Below, Lawful, Solution, LeastSolution}

-- the fact at v is its seed, or is carried along an edge from a node of lower rank
abbrev pub Supported : {F : Type 0} → Framework F → (ℕ → F) → (ℕ → ℕ) → ℕ → Type 0
Supported M g order v = (g v ≡ M.seed v) ⊎ ((i : ℕ) × (i < M.edges) × (M.to i ≡ v) × (order (M.from i) < order v) × (g v ≡ M.carry i (g (M.from i))))

module _ {F : Type 0} {V : F → Type 0} {M : Framework F} (L : Lawful V M) where
  module _ (g f : ℕ → F) (order : ℕ → ℕ) (solves : Solution V M g) (least : LeastSolution V M f) (supported : (v : ℕ) → v < M.nodes → Supported M g order v) where
    both_below : (v : ℕ) → v < M.nodes → Below M (g v) (f v) → f v ≡ g v
    both_below v lt above =
        sym (sym (least.lowest g solves v lt) ∙ L.commutative (f v) (g v) (least.solution.valid v lt) (solves.valid v lt) ∙ above)

    below_order : (k v : ℕ) → v < M.nodes → order v < k → f v ≡ g v
    below_order zero v lt less = absurd (omega arith)
    below_order (suc k) v lt less = elim (supported v lt) [
      | inl seed ↦ both_below v lt (rw seed (least.solution.seeds v lt))
      | inr (i, edge, to, lower, carried) ↦
          let from : f (M.from i) ≡ g (M.from i) = below_order k (M.from i) (L.from_node i edge) (omega arith) in
          let flow : Below M (M.carry i (f (M.from i))) (f v) = subst (λ w. Below M (M.carry i (f (M.from i))) (f w)) to (least.solution.flows i edge) in
          both_below v lt (subst (λ x. Below M x (f v)) (ap (M.carry i) from ∙ sym carried) flow)
    ]

    -- a solution whose every fact is needed is the least
    pub supported_least : (v : ℕ) → v < M.nodes → f v ≡ g v
    supported_least v lt = below_order (suc (order v)) v lt (omega arith)

-- from the first node on, what the edges carry from each node to the next
abbrev pub along : {F : Type 0} → Framework F → ℕ → F
along M zero = M.seed 0
along M (suc p) = M.carry p (along M p)

-- each edge leads to the next node, and only the first node has a seed
pub record Straight {F : Type 0} (M : Framework F) : Type 0 where
  pub edges : M.edges + 1 ≡ M.nodes
  pub from : (i : ℕ) → i < M.edges → M.from i ≡ i
  pub to : (i : ℕ) → i < M.edges → M.to i ≡ suc i
  pub seeds : (v : ℕ) → M.seed (suc v) ≡ M.least

module _ {F : Type 0} {V : F → Type 0} {M : Framework F} (L : Lawful V M) (S : Straight M) where
  along_valid : (v : ℕ) → v < M.nodes → V (along M v)
  along_valid zero lt = L.seed_valid 0 lt
  along_valid (suc v) lt = L.carry_valid v (along M v) (omega (arith, S.edges)) (along_valid v (omega arith))

  along_seeds : (v : ℕ) → v < M.nodes → Below M (M.seed v) (along M v)
  along_seeds zero lt = L.idempotent (M.seed 0) (L.seed_valid 0 lt)
  along_seeds (suc v) lt = rw S.seeds (L.neutral (along M (suc v)) (along_valid (suc v) lt))

  along_flows : (i : ℕ) → i < M.edges → Below M (M.carry i (along M (M.from i))) (along M (M.to i))
  along_flows i edge = rw (S.from i edge, S.to i edge) (L.idempotent (along M (suc i)) (along_valid (suc i) (omega (arith, S.edges))))

  pub along_solves : Solution V M (along M)
  along_solves = record { valid = along_valid; seeds = along_seeds; flows = along_flows }

  along_supported : (v : ℕ) → v < M.nodes → Supported M (along M) (λ w. w) v
  along_supported zero lt = inl refl
  along_supported (suc v) lt =
      let edge : v < M.edges = omega (arith, S.edges) in
      let from = S.from v edge in
      inr (v, edge, S.to v edge, omega (arith, from), ap (λ w. M.carry v (along M w)) (sym from))

  -- the least solution of a straight code
  pub along_least : (f : ℕ → F) → LeastSolution V M f → (v : ℕ) → v < M.nodes → f v ≡ along M v
  along_least f least = supported_least L (along M) f (λ w. w) along_solves least along_supported
