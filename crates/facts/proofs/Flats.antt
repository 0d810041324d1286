-- What a flat cell at or below another is, and what keeps that order.
use Rattle.std.proofs.Common.{◌≡◌, Bool, IsTrue, ◌⊎◌, sym, ap, ◌∙◌, subst, inl, inr, ⊎_elim}
use Rattle.std.proofs.lemmas.Bool.{cases_Bool, cond-false}
use Rattle.facts.specs.Flat.{flat, flat_laws, Tells}

module _ {C : Type 0} (same : C → C → Bool) (top : C) (tells : Tells same) where
  pub below_flat : (a b : C) → flat same top a b ≡ b → (a ≡ b) ⊎ (b ≡ top)
  below_flat a b h =
      ⊎_elim (λ t. inl ((tells a b).0 t)) (λ f. inr (sym h ∙ cond-false (same a b) a top f)) (cases_Bool (same a b))

  -- a test that every cell passes if top does passes the lesser of two cells where it passes the greater
  pub test-below : (p : C → Bool) → (IsTrue (p top) → (a : C) → IsTrue (p a))
      → (a b : C) → flat same top a b ≡ b → IsTrue (p b) → IsTrue (p a)
  test-below p all a b h t =
      ⊎_elim (λ e. subst (λ c. IsTrue (p c)) (sym e) t) (λ e. all (subst (λ c. IsTrue (p c)) e t) a) (below_flat a b h)

  -- a cell at or below one that is c is c too, unless c is top
  pub same-below : (c : C) → (c ≡ top → ⊥) → (a b : C) → flat same top a b ≡ b → IsTrue (same b c) → IsTrue (same a c)
  same-below c ne = test-below (λ a. same a c) (λ t. absurd (ne (sym ((tells top c).0 t))))

  pub varying_monotone : (f : C → C) → f top ≡ top → (a b : C) → flat same top a b ≡ b → flat same top (f a) (f b) ≡ f b
  varying_monotone f v a b h =
      let laws = flat_laws same top tells in
      ⊎_elim
      (λ e. ap (λ c. flat same top (f c) (f b)) e ∙ laws.idempotent (f b))
      (λ e. let w = ap f e ∙ v in ap (flat same top (f a)) w ∙ laws.greatest (f a) ∙ sym w)
      (below_flat a b h)
