-- Cells of which unlike ones join to the greatest. Assumes nothing.
use Rattle.std.specs.Prelude.{◌≡◌, ◌≢◌, ℕ, ◌<◌, Bool, cond, ◌↔◌, IsTrue, ◌⊎◌}
use Rattle.std.proofs.Common.{inl, inr, refl, ◌∙◌, sym, arith}
use Rattle.std.proofs.lemmas.Bool.{cases_Bool, cond-true, cond-false, iff_false}
use Rattle.facts.specs.Cell.{CellLaws}

-- like cells join to themselves, unlike ones to top
abbrev pub flat : {C : Type 0} → (C → C → Bool) → C → C → C → C
flat same top a b = cond (same a b) a top

-- 1 for top, 0 for the others
abbrev pub flat_rank : {C : Type 0} → (C → C → Bool) → C → C → ℕ
flat_rank same top a = cond (same a top) 1 0

-- same tells whether two cells are one
abbrev pub Tells : {C : Type 0} → (C → C → Bool) → Type 0
Tells {C} same = (a b : C) → IsTrue (same a b) ↔ (a ≡ b)

module _ {C : Type 0} (same : C → C → Bool) (top : C) (tells : Tells same) where
  flat_cases : (a b : C) → ((a ≡ b) × (flat same top a b ≡ a)) ⊎ ((a ≢ b) × (flat same top a b ≡ top))
  flat_cases a b =
      elim (cases_Bool (same a b)) [
        | inl t ↦ inl ((tells a b).0 t, cond-true (same a b) a top t)
        | inr f ↦ inr (iff_false (tells a b) f, cond-false (same a b) a top f)
      ]

  flat_like : (a b : C) → a ≡ b → flat same top a b ≡ a
  flat_like a b e = cond-true (same a b) a top ((tells a b).1 e)

  flat_top : (a : C) → flat same top a top ≡ top
  flat_top a = elim (flat_cases a top) [ inl p ↦ cc | inr p ↦ p.1 ]

  flat_commutative : (a b : C) → flat same top a b ≡ flat same top b a
  flat_commutative a b =
      elim (flat_cases a b) [
        | inl p ↦ let q = flat_like b a (sym p.0) in cc
        | inr p ↦ elim (flat_cases b a) [ inl q ↦ absurd (p.0 (sym q.0)) | inr q ↦ cc ]
      ]

  flat_associative : (a b c : C) → flat same top (flat same top a b) c ≡ flat same top a (flat same top b c)
  flat_associative a b c =
      let l : flat same top top c ≡ top = flat_commutative top c ∙ flat_top c in
      let r = flat_top a in
      elim (flat_cases a b) [
        | inl p ↦ elim (flat_cases b c) [ inl q ↦ let s = flat_like a c (p.0 ∙ q.0) in cc | inr q ↦ cc ]
        | inr p ↦ elim (flat_cases b c) [ inl q ↦ cc | inr q ↦ cc ]
      ]

  flat_rises : (a b : C) → (flat same top a b ≡ a) ⊎ (flat_rank same top a < flat_rank same top (flat same top a b))
  flat_rises a b =
      elim (flat_cases a b) [
        | inl p ↦ inl p.1
        | inr p ↦ elim (cases_Bool (same a top)) [
          | inl t ↦ inl (p.1 ∙ sym ((tells a top).0 t))
          | inr f ↦ inr (rw (f, p.1, (tells top top).1 refl) (omega arith))
        ]
      ]

pub flat_laws : {C : Type 0} (same : C → C → Bool) (top : C) → Tells same → CellLaws (flat same top) top (flat_rank same top) 1
flat_laws same top tells = record {
  associative = flat_associative same top tells;
  commutative = flat_commutative same top tells;
  idempotent = λ a. flat_like same top tells a a refl;
  greatest = flat_top same top tells;
  low_rank = λ a. elim (cases_Bool (same a top)) [ inl t ↦ rw t (omega arith) | inr f ↦ rw f (omega arith) ];
  rises = flat_rises same top tells;
}
