-- What a call leaves in the pick policies. Assumes nothing.
use Rattle.std.specs.Prelude.{◌≡◌, ℕ, Bool, ◌⊎◌, Ok, Err, Result}
use Rattle.dataflow.specs.Pending.{IsEmpty}
use Rattle.workspace.specs.declared.policies.Policies.{Policies}
use Rattle.workspace.specs.declared.refusal.LoadFault.{LoadFault}
use Rattle.workspace.specs.declared.refusal.LoadFault.TheVariants as F

-- a file that cannot be read leaves the policy of the types as it was
abbrev pub EmptiedByExamining : {T A : Type 0} → (T → ℕ → Bool) → Result A LoadFault → T → T → Type 0
EmptiedByExamining in_types (Ok t) old new = IsEmpty (in_types new)
EmptiedByExamining in_types (Err F.AttemptOpen) old new = ⊥
EmptiedByExamining in_types (Err (F.File fault)) old new = new ≡ old
EmptiedByExamining in_types (Err (F.Unit fault)) old new = new ≡ old
EmptiedByExamining in_types (Err (F.Verifier fault)) old new = IsEmpty (in_types new)

module _ {T C L : Type 0} (in_types : T → ℕ → Bool) (in_constants : C → ℕ → Bool) (in_lives : L → ℕ → Bool) where
  -- no node is pending in any of the three
  pub record AreEmpty (p : Policies T C L) : Type 0 where
    pub types : IsEmpty (in_types p.types)
    pub constants : IsEmpty (in_constants p.constants)
    pub lives : IsEmpty (in_lives p.lives)

  -- the verifier refused
  pub record OnlyTypesEmpty (old new : Policies T C L) : Type 0 where
    pub types : IsEmpty (in_types new.types)
    pub constants : new.constants ≡ old.constants
    pub lives : new.lives ≡ old.lives

  -- a call that is refused leaves them as they were
  abbrev pub EmptiedBy : {A E : Type 0} → Result A E → Policies T C L → Policies T C L → Type 0
  EmptiedBy (Ok a) old new = AreEmpty new
  EmptiedBy (Err e) old new = new ≡ old

  abbrev pub EmptiedByLoad : {A : Type 0} → Result A LoadFault → Policies T C L → Policies T C L → Type 0
  EmptiedByLoad (Ok t) old new = AreEmpty new
  EmptiedByLoad (Err F.AttemptOpen) old new = new ≡ old
  EmptiedByLoad (Err (F.File fault)) old new = new ≡ old
  EmptiedByLoad (Err (F.Unit fault)) old new = new ≡ old
  EmptiedByLoad (Err (F.Verifier fault)) old new = OnlyTypesEmpty old new

  -- each is empty, or as it was
  pub record EmptyOrSame (old new : Policies T C L) : Type 0 where
    pub types : IsEmpty (in_types new.types) ⊎ (new.types ≡ old.types)
    pub constants : IsEmpty (in_constants new.constants) ⊎ (new.constants ≡ old.constants)
    pub lives : IsEmpty (in_lives new.lives) ⊎ (new.lives ≡ old.lives)
