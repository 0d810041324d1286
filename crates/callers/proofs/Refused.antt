-- Which calls the same token passes one after the other.
use Rattle.std.proofs.Common.{◌≡◌, ℕ, Bool, true, false, Some, None, Ok, Err, Result, inl, inr, refl, subst}
use Rattle.bytecode.specs.declared.instr.Instr.{Instr}
use Rattle.workspace.specs.declared.policies.Policies.{Policies}
use Rattle.workspace.specs.declared.refusal.Refusal.{Refusal}
use Rattle.workspace.specs.declared.refusal.Refusal.TheVariants.{NotInnermost, NoPlace}
use Rattle.workspace.specs.Contents.{Contents}
use Rattle.workspace.specs.Calls.{propose, keep, changed, returned, kept}
use Rattle.workspace.specs.Does.{Model, Does, By, first, has_no_unit, has_no_place, is_not_innermost}
use Rattle.workspace.specs.Policies.{AreEmpty, EmptiedBy}
use Rattle.workspace.specs.Views.{proposing, spending}

module _ (d p : ℕ) (i : Instr) where
  -- the token passes after an accepted proposal
  changed_at : (c : Contents) (n : Model) (b q : Bool) → is_not_innermost (Some c) d ≡ b
      → By (first b NotInnermost (first q NoPlace None)) (propose d p i) (Some c) changed n → (has_no_unit n ≡ false) × (is_not_innermost n d ≡ false)
  changed_at c n true q e h = absurd (cc (h.0))
  changed_at c n false true e h = absurd (cc (h.0))
  changed_at c n false false e (inl y) = let held = y.4 in rw (held.is, held.opened) (refl, e)
  changed_at c n false false e (inr y) = absurd (cc (y.1))

  changed_passes : (m n : Model) → Does (propose d p i) m changed n → (has_no_unit n ≡ false) × (is_not_innermost n d ≡ false)
  changed_passes None n h = absurd (cc (h.0))
  changed_passes (Some c) n h = changed_at c n (is_not_innermost (Some c) d) (has_no_place (Some c) p) refl h

kept_at : (d : ℕ) (n m' : Model) (r : Refusal) (t : ℕ) → has_no_unit n ≡ false → is_not_innermost n d ≡ false → Does (keep d) n (returned r t) m' → ⊥
kept_at d None m' r t u e h = absurd (cc (u))
kept_at d (Some c) m' r t u e h = let accepted = rw e at h in absurd (cc (accepted.0))

-- a keep is not refused after an accepted proposal
pub kept_after : (d p : ℕ) (i : Instr) (m n m' : Model) (r : Refusal) (t : ℕ) → Does (propose d p i) m changed n → Does (keep d) n (returned r t) m' → ⊥
kept_after d p i m n m' r t h = let passes = changed_passes d p i m n h in kept_at d n m' r t passes.0 passes.1

refused_at : (d p : ℕ) (i : Instr) (c : Contents) (n m' : Model) (r : Refusal) (t : ℕ) (b : Bool) → is_not_innermost (Some c) d ≡ b
    → By (first b NotInnermost None) (keep d) (Some c) (returned r t) n → Does (propose t p i) n changed m' → ⊥
refused_at d p i c n m' r t true e h does =
    let same : t ≡ d = cc (h.0) in
    let here : Does (propose t p i) (Some c) changed m' = subst (λ (k : Model). Does (propose t p i) k changed m') h.1 does in
    let fails = rw (same, e) at here in
    absurd (cc (fails.0))
refused_at d p i c n m' r t false e h does = absurd (cc (h.0))

-- a keep that is refused gives its token back, under which a proposal is refused too
pub refused_after : (d p : ℕ) (i : Instr) (m n m' : Model) (r : Refusal) (t : ℕ) → Does (keep d) m (returned r t) n → Does (propose t p i) n changed m' → ⊥
refused_after d p i None n m' r t h does = let fails : Does (propose t p i) None changed m' = subst (λ (k : Model). Does (propose t p i) k changed m') h.1 does in absurd (cc (fails.0))
refused_after d p i (Some c) n m' r t h does = refused_at d p i c n m' r t (is_not_innermost (Some c) d) refl h does

module _ {T C L : Type 0} (in_types : T → ℕ → Bool) (in_constants : C → ℕ → Bool) (in_lives : L → ℕ → Bool) (old new : Policies T C L)
    (d p : ℕ) (i : Instr) (m n m' : Model) where
  -- a keep after an accepted proposal leaves the policies empty
  pub emptied_after : (r : Result (Unit {0}) (Refusal × ℕ)) → Does (propose d p i) m changed n → AreEmpty in_types in_constants in_lives new
      → Does (keep d) n (spending kept r) m' → EmptiedBy in_types in_constants in_lives r old new
  emptied_after (Ok t) makes empty keeps = empty
  emptied_after (Err back) makes empty keeps = absurd (kept_after d p i m n m' back.0 back.1 makes keeps)

  -- a proposal under a token that came back leaves them as they were
  pub unchanged_after : (q : Refusal) (t : ℕ) (r : Result (Unit {0}) Refusal) → Does (keep d) m (returned q t) n → Does (propose t p i) n (proposing r) m'
      → EmptiedBy in_types in_constants in_lives r old new → new ≡ old
  unchanged_after q t (Ok done) keeps makes policies = absurd (refused_after d p i m n m' q t keeps makes)
  unchanged_after q t (Err refusal) keeps makes policies = policies
