-- Every lawful analysis has a least solution in which a legal list of takes ends.
use Rattle.std.proofs.Common.{◌≡◌, ◌≢◌, ℕ, zero, suc, ◌<◌, ◌≤◌, Bool, true, false, cond, ltb, ◌⊎◌, List, [], ◌∷◌, ◌++◌, inl, inr, refl, sym, ap, ◌∙◌, subst, arith}
use Rattle.std.proofs.lemmas.Bool.{cases_lt, cases_eq, cases_Bool, lt-ltb, le-ltb, cond-true, cond-false}
use Rattle.dataflow.specs.Analysis.{Framework, Lawful}
use Rattle.dataflow.specs.Takes.{with_edges, Marks, Take, Run, Legal}
use Rattle.dataflow.specs.Takes.Run.{start, next}
use Rattle.dataflow.proofs.Order.{same_or_higher}
use Rattle.dataflow.proofs.Gather.{with_edges_valid, with_edges_above}
use Rattle.dataflow.proofs.Between.{Between, potential, potential_falls}
use Rattle.dataflow.proofs.Running.{run_between}

-- a node below n that is pending, if there is one
pending_below : (p : ℕ → Bool) (n : ℕ) → ((v : ℕ) × (v < n) × (p v ≡ true)) ⊎ ((v : ℕ) → v < n → p v ≡ false)
pending_below p zero = inr (λ v lt. absurd (omega arith))
pending_below p (suc n) = elim (cases_Bool (p n)) [
  | inl here ↦ inl (n, omega arith, here)
  | inr free ↦ elim (pending_below p n) [
    | inl (v, lt, pending) ↦ inl (v, omega arith, pending)
    | inr none ↦ inr (λ v lt. elim (cases_lt v n) [
      | inl below ↦ none v below
      | inr above ↦ let e : n ≡ v = omega arith in subst (λ w. p w ≡ false) e free
    ])
  ]
]

-- the pending nodes but v
left_at : (p : ℕ → Bool) (v w : ℕ) → (b : Bool) × (w ≡ v → b ≡ false) × (w ≢ v → b ≡ p w)
left_at p v w = elim (cases_eq w v) [
  | inl same ↦ (false, λ e. refl, λ other. absurd (other same))
  | inr other ↦ (p w, λ e. absurd (other e), λ _. refl)
]

module _ {F : Type 0} {V : F → Type 0} {M : Framework F} (L : Lawful V M) where
  -- past the nodes the least fact
  filled : (ℕ → F) → ℕ → F
  filled f w = cond (ltb w M.nodes) (f w) M.least

  filled_at : (f : ℕ → F) (w : ℕ) → w < M.nodes → filled f w ≡ f w
  unfolding filled
  filled_at f w lt = cond-true (ltb w M.nodes) (f w) M.least (lt-ltb w M.nodes lt)

  filled_past : (f : ℕ → F) (w : ℕ) → M.nodes ≤ w → filled f w ≡ M.least
  unfolding filled
  filled_past f w le = cond-false (ltb w M.nodes) (f w) M.least (le-ltb w M.nodes le)

  module _ (f : ℕ → F) (p : ℕ → Bool) (B : Between V M f p) (v : ℕ) (node : v < M.nodes) where
    spread_at : ℕ → F
    spread_at w = with_edges M v (f v) w (f w) M.edges

    -- a fact changes or does not, since its rank rises where it does
    changes : (w : ℕ) → w < M.nodes → (filled spread_at w ≡ f w) ⊎ (filled spread_at w ≢ f w)
    unfolding spread_at
    changes w lt =
        let valid = with_edges_valid L v (f v) (B.valid v node) w (f w) (B.valid w lt) M.edges (omega arith) in
        let above = with_edges_above L v (f v) (B.valid v node) w (f w) (B.valid w lt) M.edges (omega arith) in
        elim (same_or_higher L (f w) (spread_at w) (B.valid w lt) valid above) [
          | inl same ↦ inl (filled_at spread_at w lt ∙ same)
          | inr higher ↦ inr (λ e. omega (arith, higher, ap M.rank (sym (filled_at spread_at w lt) ∙ e)))
        ]

    marked_at : (w : ℕ) → (b : Bool) × (w < M.nodes → Marks (f w) (filled spread_at w) (left_at p v w).0 b) × (M.nodes ≤ w → b ≡ (left_at p v w).0)
    marked_at w = elim (cases_lt w M.nodes) [
      | inl lt ↦ elim (changes w lt) [
        | inl same ↦ ((left_at p v w).0, λ _. inl (same, refl), λ _. refl)
        | inr other ↦ (true, λ _. inr (other, refl), λ le. absurd (omega arith))
      ]
      | inr past ↦ ((left_at p v w).0, λ lt. absurd (omega arith), λ _. refl)
    ]

    -- every pending node can be taken
    takes : p v ≡ true → Take M v f p (filled spread_at) (λ w. (marked_at w).0)
    unfolding spread_at
    takes pending = record {
      node = node;
      pending = pending;
      left = λ w. (left_at p v w).0;
      removed = (left_at p v v).1 refl;
      others = λ w other. (left_at p v w).2 other;
      spread = record {
        facts = λ w lt. filled_at spread_at w lt;
        marks = λ w lt. (marked_at w).1 lt;
        beyond = λ w le. (marked_at w).2 le;
      };
    }

  pub record Found : Type 0 where
    pub facts : ℕ → F
    pub list : List ℕ
    pub legal : Legal M list facts
    pub past : (w : ℕ) → M.nodes ≤ w → facts w ≡ M.least

  none_pending : (f : ℕ → F) (p : ℕ → Bool) → Between V M f p → ((v : ℕ) → v < M.nodes → p v ≡ false) → (v : ℕ) → p v ≡ false
  none_pending f p B none v = elim (cases_Bool (p v)) [
    | inl pending ↦ none v (B.within v pending)
    | inr free ↦ free
  ]

  -- while a node is pending it is taken, and the potential falls
  ends : (k : ℕ) (f : ℕ → F) (p : ℕ → Bool) (vs : List ℕ) → Run M vs f p → ((w : ℕ) → M.nodes ≤ w → f w ≡ M.least) → potential M f p < k → Found
  ends zero f p vs r past less = absurd (omega arith)
  ends (suc k) f p vs r past less =
      let B = run_between L r in
      elim (pending_below p M.nodes) [
        | inl (v, node, pending) ↦
            let t = takes f p B v node pending in
            ends k (filled (spread_at f p B v node)) (λ w. (marked_at f p B v node w).0) (vs ++ (v ∷ [])) (next r t) (filled_past (spread_at f p B v node))
            (omega (arith, potential_falls L B t, less))
        | inr none ↦ record { facts = f; list = vs; legal = record { left = p; run = r; none = none_pending f p B none }; past = past }
      ]

  -- facts that a legal list of takes ends in, from the seeds on
  pub found : Found
  found =
      let f = filled M.seed in
      let p : ℕ → Bool = λ w. ltb w M.nodes in
      ends (suc (potential M f p)) f p [] (start (filled_at M.seed) (λ v. refl)) (filled_past M.seed) (omega arith)
