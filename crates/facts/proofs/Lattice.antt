-- Frames are a lattice as their cells are, and a join that changes a frame raises its rank.
use Rattle.std.proofs.Common.{◌≡◌, ℕ, suc, ◌+◌, ◌*◌, ◌<◌, ◌≤◌, List, [], ◌∷◌, length, map, sum, ◌⊎◌, sym, refl, ap, ap₂, ◌∙◌, inl, inr, ⊎_elim, mul-le-mul_right, arith}
use Rattle.std.proofs.lemmas.Bool.{cases_eq, eq-eqb, ne_eqb, cond-true, cond-false}
use Rattle.std.proofs.lemmas.List.Sums.{sum_by-cons}
use Rattle.facts.specs.declared.frame.Frame.{Frame}
use Rattle.facts.specs.declared.frame.Frame.TheVariants.{Unreached, At, Clash}
use Rattle.facts.specs.Cell.{CellLaws}
use Rattle.facts.specs.Held.{Held}
use Rattle.facts.specs.Frames.{joined_cells, joined_held, joined_frames, IsBelow, frame_rank, Fitting}

pub at_same : {C : Type 0} {s t l m : List C} → s ≡ t → l ≡ m → At (record { stack = s; locals = l }) ≡ At (record { stack = t; locals = m })
at_same p q = ap₂ (λ s l. At (record { stack = s; locals = l })) p q

module _ {C : Type 0} (join : C → C → C) where
  pub length-joined : (xs ys : List C) → length xs ≡ length ys → length (joined_cells join xs ys) ≡ length xs
  length-joined [] ys e = refl
  length-joined (x ∷ xs) [] e = absurd (omega arith)
  length-joined (x ∷ xs) (y ∷ ys) e = ap suc (length-joined xs ys (omega arith))

  pub joined-alike : (a b : Held C) → length a.stack ≡ length b.stack → joined_frames join (At a) (At b) ≡ At (joined_held join a b)
  joined-alike a b e = cond-true _ _ _ (eq-eqb _ _ e)

  pub joined-unlike : (a b : Held C) → (length a.stack ≡ length b.stack → ⊥) → joined_frames join (At a) (At b) ≡ Clash
  joined-unlike a b ne = cond-false _ _ _ (ne_eqb _ _ ne)

  pub below_clash : (f : Frame C) → IsBelow join f Clash
  below_clash Unreached = refl
  below_clash (At a) = refl
  below_clash Clash = refl

  joined-unreached : (f : Frame C) → joined_frames join f Unreached ≡ f
  joined-unreached Unreached = refl
  joined-unreached (At a) = refl
  joined-unreached Clash = refl

  pub frames_fitting : (f g : Frame C) → Fitting f → Fitting g → Fitting (joined_frames join f g)
  frames_fitting Unreached g p q = q
  frames_fitting (At a) Unreached p q = p
  frames_fitting (At a) (At b) p q =
      ⊎_elim
      (λ e. let l = length-joined a.stack b.stack e in
      let k = length-joined a.locals b.locals (p.1 ∙ sym q.1) in
      rw (joined-alike a b e) (omega arith, k ∙ p.1))
      (λ ne. rw (joined-unlike a b ne) tt)
      (cases_eq (length a.stack) (length b.stack))
  frames_fitting (At a) Clash p q = tt
  frames_fitting Clash g p q = tt

-- the join of xs and ys is xs, or its cells have a higher rank together
abbrev Rises : {C : Type 0} → (C → C → C) → (C → ℕ) → List C → List C → Type 0
Rises join rank xs ys = (joined_cells join xs ys ≡ xs) ⊎ (sum (map rank xs) < sum (map rank (joined_cells join xs ys)))

module _ {C : Type 0} (join : C → C → C) (top : C) (rank : C → ℕ) (height : ℕ) (laws : CellLaws join top rank height) where
  pub cell_transitive : (a b c : C) → join a b ≡ b → join b c ≡ c → join a c ≡ c
  cell_transitive a b c p q = ap (join a) (sym q) ∙ sym (laws.associative a b c) ∙ ap (λ z. join z c) p ∙ q

  cells_associative : (xs ys zs : List C) → joined_cells join (joined_cells join xs ys) zs ≡ joined_cells join xs (joined_cells join ys zs)
  cells_associative [] ys zs = refl
  cells_associative (x ∷ xs) [] zs = refl
  cells_associative (x ∷ xs) (y ∷ ys) [] = refl
  cells_associative (x ∷ xs) (y ∷ ys) (z ∷ zs) = ap₂ ◌∷◌ (laws.associative x y z) (cells_associative xs ys zs)

  cells_commutative : (xs ys : List C) → joined_cells join xs ys ≡ joined_cells join ys xs
  cells_commutative [] [] = refl
  cells_commutative [] (y ∷ ys) = refl
  cells_commutative (x ∷ xs) [] = refl
  cells_commutative (x ∷ xs) (y ∷ ys) = ap₂ ◌∷◌ (laws.commutative x y) (cells_commutative xs ys)

  cells_idempotent : (xs : List C) → joined_cells join xs xs ≡ xs
  cells_idempotent [] = refl
  cells_idempotent (x ∷ xs) = ap₂ ◌∷◌ (laws.idempotent x) (cells_idempotent xs)

  ranks-cons : (x : C) (xs : List C) → sum (map rank (x ∷ xs)) ≡ rank x + sum (map rank xs)
  ranks-cons x xs = sum_by-cons (λ n. n) (rank x) (map rank xs)

  cells_low : (xs : List C) → sum (map rank xs) ≤ length xs * height
  cells_low [] = omega arith
  cells_low (x ∷ xs) = omega (arith, ranks-cons x xs, laws.low_rank x, cells_low xs)

  more_rise : (x y : C) (xs ys : List C) → (join x y ≡ x) ⊎ (rank x < rank (join x y)) → Rises join rank xs ys → Rises join rank (x ∷ xs) (y ∷ ys)
  more_rise x y xs ys (inl p) (inl q) = inl (ap₂ ◌∷◌ p q)
  more_rise x y xs ys (inl p) (inr q) = inr (omega (arith, ap rank p, ranks-cons x xs, ranks-cons (join x y) (joined_cells join xs ys)))
  more_rise x y xs ys (inr p) (inl q) =
      inr (omega (arith, ap (λ zs. sum (map rank zs)) q, ranks-cons x xs, ranks-cons (join x y) (joined_cells join xs ys)))
  more_rise x y xs ys (inr p) (inr q) = inr (omega (arith, ranks-cons x xs, ranks-cons (join x y) (joined_cells join xs ys)))

  cells_rise : (xs ys : List C) → length xs ≡ length ys → Rises join rank xs ys
  cells_rise [] ys e = inl refl
  cells_rise (x ∷ xs) [] e = absurd (omega arith)
  cells_rise (x ∷ xs) (y ∷ ys) e =
      more_rise x y xs ys (laws.rises x y) (cells_rise xs ys (omega arith))

  pub frames_idempotent : (f : Frame C) → joined_frames join f f ≡ f
  frames_idempotent Unreached = refl
  frames_idempotent (At a) =
      joined-alike join a a refl ∙ at_same (cells_idempotent a.stack) (cells_idempotent a.locals)
  frames_idempotent Clash = refl

  pub frames_commutative : (f g : Frame C) → joined_frames join f g ≡ joined_frames join g f
  frames_commutative Unreached g = sym (joined-unreached join g)
  frames_commutative (At a) Unreached = refl
  frames_commutative (At a) (At b) =
      ⊎_elim
      (λ e. joined-alike join a b e
      ∙ at_same (cells_commutative a.stack b.stack) (cells_commutative a.locals b.locals)
      ∙ sym (joined-alike join b a (sym e)))
      (λ ne. joined-unlike join a b ne ∙ sym (joined-unlike join b a (λ e. ne (sym e))))
      (cases_eq (length a.stack) (length b.stack))
  frames_commutative (At a) Clash = refl
  frames_commutative Clash g = sym (below_clash join g)

  joined_associative : (a b c : Held C)
      → joined_frames join (joined_frames join (At a) (At b)) (At c) ≡ joined_frames join (At a) (joined_frames join (At b) (At c))
  joined_associative a b c =
      ⊎_elim
      (λ e. let l = length-joined join a.stack b.stack e in
      rw (joined-alike join a b e)
      (⊎_elim
      (λ f. let k = length-joined join b.stack c.stack f in
      rw (joined-alike join b c f, joined-alike join (joined_held join a b) c (l ∙ e ∙ f), joined-alike join a (joined_held join b c) (e ∙ sym k))
      (at_same (cells_associative a.stack b.stack c.stack) (cells_associative a.locals b.locals c.locals)))
      (λ ne. rw (joined-unlike join b c ne) (joined-unlike join (joined_held join a b) c (λ f. ne (sym (l ∙ e) ∙ f))))
      (cases_eq (length b.stack) (length c.stack))))
      (λ ne. rw (joined-unlike join a b ne)
      (⊎_elim
      (λ f. let k = length-joined join b.stack c.stack f in
      rw (joined-alike join b c f) (sym (joined-unlike join a (joined_held join b c) (λ e. ne (e ∙ k)))))
      (λ nf. rw (joined-unlike join b c nf))
      (cases_eq (length b.stack) (length c.stack))))
      (cases_eq (length a.stack) (length b.stack))

  pub frames_associative : (f g k : Frame C) → joined_frames join (joined_frames join f g) k ≡ joined_frames join f (joined_frames join g k)
  frames_associative Unreached g k = refl
  frames_associative (At a) Unreached k = refl
  frames_associative (At a) (At b) Unreached = joined-unreached join (joined_frames join (At a) (At b))
  frames_associative (At a) (At b) (At c) = joined_associative a b c
  frames_associative (At a) (At b) Clash = below_clash join (joined_frames join (At a) (At b))
  frames_associative (At a) Clash k = refl
  frames_associative Clash g k = refl

  at_low : (a : Held C) → Fitting (At a) → frame_rank rank height (At a) < 2 + 24 * height
  at_low a p =
      let s = cells_low a.stack in
      let l = cells_low a.locals in
      let m : length a.stack * height ≤ 8 * height = mul-le-mul_right height p.0 in
      let n : length a.locals * height ≡ 16 * height = ap (λ k. k * height) p.1 in
      omega arith

  pub frame_rank_low : (f : Frame C) → Fitting f → frame_rank rank height f ≤ 2 + 24 * height
  frame_rank_low Unreached p = omega arith
  frame_rank_low (At a) p = omega (arith, at_low a p)
  frame_rank_low Clash p = omega arith

  held_rises : (a b : Held C) → Rises join rank a.stack b.stack → Rises join rank a.locals b.locals
      → (At (joined_held join a b) ≡ At a) ⊎ (frame_rank rank height (At a) < frame_rank rank height (At (joined_held join a b)))
  held_rises a b (inl s) (inl l) = inl (at_same s l)
  held_rises a b (inl s) (inr l) = inr (omega (arith, ap (λ zs. sum (map rank zs)) s))
  held_rises a b (inr s) (inl l) = inr (omega (arith, ap (λ zs. sum (map rank zs)) l))
  held_rises a b (inr s) (inr l) = inr (omega arith)

  pub frame_rises : (f g : Frame C) → Fitting f → Fitting g
      → (joined_frames join f g ≡ f) ⊎ (frame_rank rank height f < frame_rank rank height (joined_frames join f g))
  frame_rises Unreached Unreached p q = inl refl
  frame_rises Unreached (At b) p q = inr (omega arith)
  frame_rises Unreached Clash p q = inr (omega arith)
  frame_rises (At a) Unreached p q = inl refl
  frame_rises (At a) (At b) p q =
      ⊎_elim
      (λ e. rw (joined-alike join a b e) (held_rises a b (cells_rise a.stack b.stack e) (cells_rise a.locals b.locals (p.1 ∙ sym q.1))))
      (λ ne. rw (joined-unlike join a b ne) (inr (at_low a p)))
      (cases_eq (length a.stack) (length b.stack))
  frame_rises (At a) Clash p q = inr (at_low a p)
  frame_rises Clash g p q = inl refl
