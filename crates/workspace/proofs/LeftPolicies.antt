-- What calls leave in the pick policies, one after the other.
use Rattle.std.proofs.Common.{◌≡◌, ℕ, Bool, Ok, Err, Result, ◌⊎◌, inl, inr, ap, ◌∙◌}
use Rattle.dataflow.specs.Pending.{IsEmpty}
use Rattle.workspace.specs.declared.policies.Policies.{Policies}
use Rattle.workspace.specs.declared.refusal.LoadFault.{LoadFault}
use Rattle.workspace.specs.declared.refusal.LoadFault.TheVariants as F
use Rattle.workspace.specs.Policies.{EmptiedBy, EmptiedByLoad, EmptyOrSame}

after_one : {P : Type 0} (pending : P → ℕ → Bool) (a b c : P) → IsEmpty (pending b) ⊎ (b ≡ a) → IsEmpty (pending c) ⊎ (c ≡ b) → IsEmpty (pending c) ⊎ (c ≡ a)
after_one pending a b c h (inl empty) = inl empty
after_one pending a b c (inl empty) (inr same) = inl (rw same empty)
after_one pending a b c (inr before) (inr same) = inr (same ∙ before)

module _ {T C L : Type 0} (in_types : T → ℕ → Bool) (in_constants : C → ℕ → Bool) (in_lives : L → ℕ → Bool) where
  pub left_same : (old new : Policies T C L) → new ≡ old → EmptyOrSame in_types in_constants in_lives old new
  left_same old new e = record { types = inr (ap (λ p. p.types) e); constants = inr (ap (λ p. p.constants) e); lives = inr (ap (λ p. p.lives) e) }

  pub left_by : {A E : Type 0} (r : Result A E) (old new : Policies T C L) → EmptiedBy in_types in_constants in_lives r old new
      → EmptyOrSame in_types in_constants in_lives old new
  left_by (Ok a) old new h = record { types = inl h.types; constants = inl h.constants; lives = inl h.lives }
  left_by (Err e) old new h = left_same old new h

  pub left_by_load : {A : Type 0} (r : Result A LoadFault) (old new : Policies T C L) → EmptiedByLoad in_types in_constants in_lives r old new
      → EmptyOrSame in_types in_constants in_lives old new
  left_by_load (Ok a) old new h = record { types = inl h.types; constants = inl h.constants; lives = inl h.lives }
  left_by_load (Err F.AttemptOpen) old new h = left_same old new h
  left_by_load (Err (F.File fault)) old new h = left_same old new h
  left_by_load (Err (F.Unit fault)) old new h = left_same old new h
  left_by_load (Err (F.Verifier fault)) old new h = record { types = inl h.types; constants = inr h.constants; lives = inr h.lives }

  pub left_after : (a b c : Policies T C L) → EmptyOrSame in_types in_constants in_lives a b → EmptyOrSame in_types in_constants in_lives b c
      → EmptyOrSame in_types in_constants in_lives a c
  left_after a b c h k = record {
    types = after_one in_types a.types b.types c.types h.types k.types;
    constants = after_one in_constants a.constants b.constants c.constants h.constants k.constants;
    lives = after_one in_lives a.lives b.lives c.lives h.lives k.lives;
  }
