-- Frames of types in which one local is Unusable, and what instructions make of them.
use Rattle.std.proofs.Common.{◌≡◌, ℕ, zero, suc, true, List, [], ◌∷◌, set, drop, None, Some, Option, ◌⊎◌, inl, inr, refl, sym, ap, ◌∙◌, ⊎_elim, length-set}
use Rattle.std.specs.Prelude.{◌≢◌}
use Rattle.std.proofs.lemmas.Bool.{cases_eq}
use Rattle.std.proofs.lemmas.List.{get_or-set_other, set-set, set_comm}
use Rattle.bytecode.specs.declared.instr.Instr.{Instr}
use Rattle.bytecode.specs.declared.instr.Instr.TheVariants as I
use Rattle.dataflow.specs.Mask.{has_bit}
use Rattle.facts.specs.declared.cell.TypeCell.{TypeCell}
use Rattle.facts.specs.declared.cell.TypeCell.TheVariants.{Unusable}
use Rattle.facts.specs.declared.reason.Reason.{Reason}
use Rattle.facts.specs.declared.frame.Frame.{Frame}
use Rattle.facts.specs.declared.frame.Frame.TheVariants.{Unreached, At, Clash}
use Rattle.facts.specs.TypeCells.{join_types, type_laws}
use Rattle.facts.specs.Held.{Held}
use Rattle.facts.specs.Live.{IsSet, carry_live}
use Rattle.facts.specs.Frames.{IsBelow, Fitting}
use Rattle.facts.specs.Effects.{Effect, cell_at, effect, after}
use Rattle.facts.specs.Types.{types, reason_at, carry_types, unless}
use Rattle.facts.proofs.LiveSets.{has_bit-with_more, has_bit-without_other}
use Rattle.facts.proofs.Order.{CellsUnder, none, more, below_from_under, set-under, frames_monotone}
use Rattle.keep.proofs.Replaced.{under_itself}

under_blank : (n : ℕ) (ls : List TypeCell) → CellsUnder join_types ls (set ls n Unusable)
under_blank n [] = none
under_blank zero (x ∷ ls) = more (type_laws.greatest x) (under_itself ls)
under_blank (suc n) (x ∷ ls) = more (type_laws.idempotent x) (under_blank n ls)

module _ (n : ℕ) where
  abbrev pub blank_held : Held TypeCell → Held TypeCell
  blank_held a = record { stack = a.stack; locals = set a.locals n Unusable }

  abbrev pub blank : Frame TypeCell → Frame TypeCell
  blank Unreached = Unreached
  blank (At a) = At (blank_held a)
  blank Clash = Clash

  abbrev blank_effect : Effect TypeCell → Effect TypeCell
  blank_effect e = record { puts = e.puts; loads = e.loads; locals = set e.locals n Unusable; is_dead = e.is_dead }

  pub blank_fitting : (f : Frame TypeCell) → Fitting f → Fitting (blank f)
  blank_fitting Unreached p = tt
  blank_fitting (At a) p = (p.0, length-set a.locals n Unusable ∙ p.1)
  blank_fitting Clash p = tt

  pub below_blank : (f : Frame TypeCell) → IsBelow join_types f (blank f)
  below_blank Unreached = refl
  below_blank (At a) = below_from_under join_types a (blank_held a) (record { stack = under_itself a.stack; locals = under_blank n a.locals })
  below_blank Clash = refl

  pub blank_monotone : (f g : Frame TypeCell) → Fitting f → Fitting g → IsBelow join_types f g → IsBelow join_types (blank f) (blank g)
  blank_monotone = frames_monotone join_types blank refl refl (λ a b u.
      below_from_under join_types (blank_held a) (blank_held b) (record { stack = u.stack; locals = set-under n Unusable Unusable refl u.locals }))

  pub clash_from_blank : (f : Frame TypeCell) → blank f ≡ Clash → f ≡ Clash
  clash_from_blank Unreached e = e
  clash_from_blank (At a) e = absurd (cc)
  clash_from_blank Clash e = e

  unless_blank : (o : Option Reason) (f : Frame TypeCell) → unless o (blank f) ≡ blank (unless o f)
  unless_blank None f = refl
  unless_blank (Some r) f = refl

  -- an instruction that neither loads nor stores the local
  pub record Spares (i : Instr) : Type 0 where
    pub effects : (a : Held TypeCell) → effect types i (blank_held a) ≡ blank_effect (effect types i a)
    pub lives : (s : ℕ) → IsSet s → has_bit s n ≡ true → has_bit (carry_live i s) n ≡ true

  load_spares : (m : ℕ) → m ≢ n → Spares (I.Load m)
  load_spares m ne = record {
    effects = λ a. rw (get_or-set_other a.locals n m Unusable Unusable ne);
    lives = λ s p h. has_bit-with_more n m s h;
  }

  store_spares : (m : ℕ) → m ≢ n → Spares (I.Store m)
  store_spares m ne =
      let other : n ≢ m = λ e. ne (sym e) in
      record {
        effects = λ a. rw (set_comm a.locals n m Unusable (cell_at types a 0) other);
        lives = λ s p h. has_bit-without_other n m s p other h;
      }

  pub loads_stores_or_spares : (i : Instr) → (i ≡ I.Load n) ⊎ ((i ≡ I.Store n) ⊎ Spares i)
  loads_stores_or_spares (I.Load m) = ⊎_elim (λ e. inl (ap I.Load e)) (λ ne. inr (inr (load_spares m ne))) (cases_eq m n)
  loads_stores_or_spares (I.Store m) = ⊎_elim (λ e. inr (inl (ap I.Store e))) (λ ne. inr (inr (store_spares m ne))) (cases_eq m n)
  loads_stores_or_spares i = inr (inr (record { effects = λ a. refl; lives = λ s p h. h }))

  pub carry-blank : (i : Instr) (f : Frame TypeCell) → Spares i → carry_types i (blank f) ≡ blank (carry_types i f)
  carry-blank i Unreached s = refl
  carry-blank i (At a) s = rw (s.effects a) (unless_blank (reason_at i a) (At (after types i a)))
  carry-blank i Clash s = refl

  -- a store of the local does not see what it was
  pub store-blank : (f : Frame TypeCell) → carry_types (I.Store n) (blank f) ≡ carry_types (I.Store n) f
  store-blank Unreached = refl
  store-blank (At a) = rw set-set
  store-blank Clash = refl

  -- and but for it a store drops the value
  pub pop-store : (f : Frame TypeCell) → blank (carry_types I.Pop f) ≡ blank (carry_types (I.Store n) f)
  pop-store Unreached = refl
  pop-store (At a) =
      sym (unless_blank (reason_at I.Pop a) (At (after types I.Pop a)))
      ∙ ap (λ (ls : List TypeCell). unless (reason_at I.Pop a) (At (record { stack = drop 1 a.stack; locals = ls })))
      (sym (set-set a.locals n (cell_at types a 0) Unusable))
      ∙ unless_blank (reason_at (I.Store n) a) (At (after types (I.Store n) a))
  pop-store Clash = refl
