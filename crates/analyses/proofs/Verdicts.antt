-- What is known of a unit while its places are gone through, and that it has one verdict.
use Rattle.std.proofs.Common.{◌≡◌, ◌≢◌, ℕ, ◌+◌, ◌<◌, ◌⊎◌, Some, None, Option, Ok, Err, Result, inl, inr, refl, sym, ap, ◌∙◌, subst, arith}
use Rattle.std.specs.Option.{option_or}
use Rattle.std.proofs.lemmas.Bool.{cases_lt}
use Rattle.std.proofs.lemmas.Option.{none-some, same_Some}
use Rattle.bytecode.specs.declared.unit.Unit.{Unit as TheUnit}
use Rattle.facts.specs.declared.cell.TypeCell.{TypeCell}
use Rattle.facts.specs.declared.frame.Frame.{Frame}
use Rattle.facts.specs.declared.reason.Reason.{Reason}
use Rattle.facts.specs.declared.reason.Reason.TheVariants.{Clash}
use Rattle.analyses.specs.declared.verify.VerifierFault.{VerifierFault}
use Rattle.analyses.specs.Verdicts.{reason_in, NoneBelow, NoneButClash, Refused, Judged}

module _ (u : TheUnit) (f : ℕ → Frame TypeCell) where
  -- of the places below end: the lowest Clash, if there is one, and no other place that is inapplicable
  abbrev pub SoFar : ℕ → Option ℕ → Type 0
  SoFar end None = NoneBelow u f end
  SoFar end (Some p) = (p < end) × (reason_in u f p ≡ Some Clash) × NoneBelow u f p × NoneButClash u f end

  pub only_clashes : (end : ℕ) (clash : Option ℕ) → SoFar end clash → NoneButClash u f end
  only_clashes end None h = λ p lt. inl (h p lt)
  only_clashes end (Some p) h = h.3

  -- what holds below end and at end holds below the next
  below_more : (P : ℕ → Type 0) (end : ℕ) → ((p : ℕ) → p < end → P p) → P end → (p : ℕ) → p < end + 1 → P p
  below_more P end h here p lt = elim (cases_lt p end) [
    | inl l ↦ h p l
    | inr l ↦ let e : end ≡ p = omega arith in subst P e here
  ]

  pub applicable_more : (end : ℕ) (clash : Option ℕ) → SoFar end clash → reason_in u f end ≡ None → SoFar (end + 1) clash
  applicable_more end None h e = below_more (λ p. reason_in u f p ≡ None) end h e
  applicable_more end (Some p) h e =
      (omega (arith, h.0), h.1, h.2, below_more (λ p. (reason_in u f p ≡ None) ⊎ (reason_in u f p ≡ Some Clash)) end h.3 (inl e))

  pub clash_more : (end : ℕ) (clash : Option ℕ) → SoFar end clash → reason_in u f end ≡ Some Clash → SoFar (end + 1) (option_or clash (Some end))
  clash_more end None h e =
      (omega arith, e, h, below_more (λ p. (reason_in u f p ≡ None) ⊎ (reason_in u f p ≡ Some Clash)) end (λ p lt. inl (h p lt)) (inr e))
  clash_more end (Some p) h e = (omega (arith, h.0), h.1, h.2, below_more (λ p. (reason_in u f p ≡ None) ⊎ (reason_in u f p ≡ Some Clash)) end h.3 (inr e))

  -- a place with a reason is not one of those that have none but Clash
  not_only_clash : (end p : ℕ) (r : Reason) → NoneButClash u f end → reason_in u f p ≡ Some r → r ≢ Clash → p < end → ⊥
  not_only_clash end p r h e ne lt = elim (h p lt) [
    | inl none ↦ none-some r (sym none ∙ e)
    | inr clash ↦ ne (same_Some r Clash (sym e ∙ clash))
  ]

  not_none : (end p : ℕ) (r : Reason) → NoneBelow u f end → reason_in u f p ≡ Some r → p < end → ⊥
  not_none end p r h e lt = none-some r (sym (h p lt) ∙ e)

  same_fault : (d e : VerifierFault) → d.place ≡ e.place → reason_in u f d.place ≡ Some d.reason → reason_in u f e.place ≡ Some e.reason → d ≡ e
  same_fault d e p h k = let r : d.reason ≡ e.reason = same_Some d.reason e.reason (sym h ∙ ap (reason_in u f) p ∙ k) in λ i. record { place = p i; reason = r i }

  -- two places of which neither is below the other
  one_place : (p q : ℕ) → (p < q → ⊥) → (q < p → ⊥) → p ≡ q
  one_place p q h k = omega (arith, h, k)

  one_fault : (d e : VerifierFault) → Refused u f d → Refused u f e → d ≡ e
  one_fault d e h k = elim h.first [
    | inl (ne, low) ↦ elim k.first [
      | inl (ne', low') ↦ same_fault d e (one_place d.place e.place
          (not_only_clash e.place d.place d.reason low' h.there ne) (not_only_clash d.place e.place e.reason low k.there ne')) h.there k.there
      | inr (is', all', low') ↦ absurd (not_only_clash u.len d.place d.reason all' h.there ne h.inside)
    ]
    | inr (is, all, low) ↦ elim k.first [
      | inl (ne', low') ↦ absurd (not_only_clash u.len e.place e.reason all k.there ne' k.inside)
      | inr (is', all', low') ↦ same_fault d e (one_place d.place e.place
          (not_none e.place d.place d.reason low' h.there) (not_none d.place e.place e.reason low k.there)) h.there k.there
    ]
  ]

  pub one_verdict : (r s : Result (Unit {0}) VerifierFault) → Judged u f r → Judged u f s → s ≡ r
  one_verdict (Ok t) (Ok s) h k = refl
  one_verdict (Ok t) (Err e) h k = absurd (not_none u.len e.place e.reason h k.there k.inside)
  one_verdict (Err d) (Ok t) h k = absurd (not_none u.len d.place d.reason k h.there h.inside)
  one_verdict (Err d) (Err e) h k = ap Err (one_fault e d k h)
