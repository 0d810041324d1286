-- Facts that are the same at each node: of the first entries of an array, what is past them is left out.
use Rattle.std.proofs.Common.{◌≡◌, ℕ, ◌<◌, Bool, List, take, sym, subst, ◌∙◌, arith}
use Rattle.std.proofs.lemmas.List.{get_or-take, get_or_past, length-take}
use Rattle.dataflow.specs.Analysis.{Framework, Lawful, Below, LeastSolution}
use Rattle.dataflow.specs.Takes.{at, Marks, Run, start, next, Solved}
use Rattle.workspace.specs.Contents.{IsSolution}

module _ {F : Type 0} {V : F → Type 0} {M : Framework F} (L : Lawful V M) (f g : ℕ → F) (same : (v : ℕ) → v < M.nodes → g v ≡ f v) where
  pub least_same : LeastSolution V M f → LeastSolution V M g
  least_same s = record {
    solution = record {
      valid = λ v l. subst V (sym (same v l)) (s.solution.valid v l);
      seeds = λ v l. subst (Below M (M.seed v)) (sym (same v l)) (s.solution.seeds v l);
      flows = λ i l. rw (same (M.from i) (L.from_node i l), same (M.to i) (L.to_node i l)) (s.solution.flows i l);
    };
    lowest = λ h hs v l. subst (λ x. Below M x (h v)) (sym (same v l)) (s.lowest h hs v l);
  }

module _ {F : Type 0} (M : Framework F) (g : ℕ → F) where
  pub run_same : {vs : List ℕ} {f : ℕ → F} {p : ℕ → Bool} → ((v : ℕ) → v < M.nodes → g v ≡ f v) → Run M vs f p → Run M vs g p
  run_same same (start seeded all) = start (λ v l. same v l ∙ seeded v l) all
  run_same {p = p} same (next {f = f} {p = q} run t) =
      next run (record {
        node = t.node;
        pending = t.pending;
        left = t.left;
        removed = t.removed;
        others = t.others;
        spread = record {
          facts = λ w l. same w l ∙ t.spread.facts w l;
          marks = λ w l. subst (λ x. Marks (f w) x (t.left w) (p w)) (sym (same w l)) (t.spread.marks w l);
          beyond = t.spread.beyond;
        };
      })

-- of an array, the first entries alone
pub taken_solution : {F : Type 0} {V : F → Type 0} {M : Framework F} → Lawful V M → (xs ys : List F) (p : ℕ → Bool) (count : ℕ)
    → Solved V M xs ys p count → IsSolution V M (at M (take M.nodes ys)) count
taken_solution {F} {V} {M} L xs ys p count s =
    let same : (v : ℕ) → v < M.nodes → at M (take M.nodes ys) v ≡ at M ys v = λ v l. get_or-take M.nodes ys v M.least l in
    record {
      least = least_same L (at M ys) (at M (take M.nodes ys)) same s.least;
      past = λ v le. get_or_past (take M.nodes ys) v M.least (omega (arith, length-take M.nodes ys));
      legal = (s.legal.0, s.legal.1, record { left = s.legal.2.left; run = run_same M (at M (take M.nodes ys)) same s.legal.2.run; none = s.legal.2.none });
    }
