-- How the edges of each place are chained, from the last edge down. Assumes nothing.
use Rattle.std.proofs.Common.{◌≡◌, ℕ, zero, suc, ◌+◌, ◌<◌, ◌≤◌, None, Some, Option, List, length, get_or, set, replicate, refl, sym, ap, ◌∙◌, subst, inl, inr, arith, get_or-set_other, get_or-set_same, length-set}
use Rattle.std.specs.Prelude.{◌≢◌}
use Rattle.std.proofs.lemmas.Bool.{cases_eq}
use Rattle.std.proofs.lemmas.List.{length-replicate}
use Rattle.analyses.specs.Graphs.{NextKey, Chained}

none_anywhere : (n v : ℕ) → get_or {A = Option ℕ} (replicate n None) v None ≡ None
none_anywhere zero v = refl
none_anywhere (suc n) zero = refl
none_anywhere (suc n) (suc v) = none_anywhere n v

module _ (key : ℕ → ℕ) (count : ℕ) where
  -- an edge of another place is not the next
  NextKey-skip : (v e : ℕ) (next : Option ℕ) → key e ≢ v → NextKey key count v (e + 1) next → NextKey key count v e next
  NextKey-skip v e None other none = λ i from below. elim (cases_eq i e) [
    | inl same ↦ λ is. other (ap key (sym same) ∙ is)
    | inr ne ↦ none i (omega arith) below
  ]
  NextKey-skip v e (Some i) other next = (
    omega (arith, next.0),
    next.1,
    next.2,
    λ j from below. elim (cases_eq j e) [
      | inl same ↦ λ is. other (ap key (sym same) ∙ is)
      | inr ne ↦ next.3 j (omega arith) below
    ],
  )

  -- no edge is chained yet
  pub Chained-none : (next : List (Option ℕ)) → length next ≡ 256 → Chained key count count (replicate 128 None) next
  Chained-none next room = record {
    places = length-replicate {A = Option ℕ} 128 None;
    edges = room;
    firsts = λ v. rw (none_anywhere 128 v) (λ i from below. absurd (omega arith));
    nexts = λ i from below. absurd (omega arith);
  }

  -- edge e, before those that are chained, is the first of its place p
  pub Chained-more : (e n p : ℕ) (first next : List (Option ℕ)) → n ≡ e + 1 → n ≤ count → count ≤ 256 → p ≡ key e → p < 128
      → Chained key count n first next
      → Chained key count e (set first p (Some e)) (set next e (get_or first p None))
  Chained-more e n p first next more below few place in_range rest =
      let after : Chained key count (e + 1) first next = subst (λ m. Chained key count m first next) more rest in record {
        places = length-set first p (Some e) ∙ rest.places;
        edges = length-set next e (get_or first p None) ∙ rest.edges;
        firsts = λ v. elim (cases_eq v p) [
          | inl same ↦ rw (same, get_or-set_same first p (Some e) None (omega arith)) (omega arith, omega arith, sym place, λ j from to. absurd (omega arith))
          | inr ne ↦ rw (get_or-set_other first p v (Some e) None ne) (NextKey-skip v e _ (λ is. ne (sym is ∙ sym place)) (after.firsts v))
        ];
        nexts = λ i from i_below. elim (cases_eq i e) [
          | inl same ↦ rw (same, get_or-set_same next e (get_or first p None) None (omega arith), ← place) (after.firsts p)
          | inr ne ↦ rw (get_or-set_other next e i (get_or first p None) None ne) (after.nexts i (omega arith) i_below)
        ];
      }
