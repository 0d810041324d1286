-- What every run of takes comes to, and so the solver's loop. Assumes nothing.
use Rattle.std.proofs.Common.{◌≡◌, ℕ, ◌+◌, ◌*◌, ◌≤◌, Bool, List, [], ◌∷◌, ◌++◌, length, refl, ap, ◌∙◌, mul-le-mul, arith, length-append}
use Rattle.dataflow.specs.Pending.{IsEmpty}
use Rattle.dataflow.specs.Analysis.{Framework, Lawful}
use Rattle.dataflow.specs.Takes.{at, Take, Seeded, AllPending, Run, Legal, LegalLists, SamePast, Solved}
use Rattle.dataflow.specs.Takes.Run.{start, next}
use Rattle.dataflow.proofs.Between.{Between, between_start, between_take, potential, potential_start, potential_falls}

-- a list of `count` takes leads to f and p
abbrev pub Counted : {F : Type 0} → Framework F → (ℕ → F) → (ℕ → Bool) → ℕ → Type 0
Counted M f p count = (vs : List ℕ) × (length vs ≡ count) × Run M vs f p

pub counted_start : {F : Type 0} {M : Framework F} {f : ℕ → F} {p : ℕ → Bool} → Seeded M f → AllPending M p → Counted M f p 0
counted_start fs ps = ([], refl, start fs ps)

pub counted_take : {F : Type 0} {M : Framework F} {f : ℕ → F} {p : ℕ → Bool} {count v : ℕ} {f' : ℕ → F} {p' : ℕ → Bool} → Counted M f p count → Take M v f p f' p' → Counted M f' p' (count + 1)
counted_take {v = v} r t = (r.0 ++ (v ∷ []), length-append r.0 (v ∷ []) ∙ ap (λ k. k + 1) r.1, next r.2 t)

module _ {F : Type 0} {V : F → Type 0} {M : Framework F} (L : Lawful V M) where
  pub run_between : {vs : List ℕ} {f : ℕ → F} {p : ℕ → Bool} → Run M vs f p → Between V M f p
  run_between (start fs ps) = between_start L fs ps
  run_between (next r t) = between_take L (run_between r) t

  run_fits : {vs : List ℕ} {f : ℕ → F} {p : ℕ → Bool} → Run M vs f p → length vs + potential M f p ≤ M.nodes * (M.height + 1)
  run_fits (start {f = f} {p = p} fs ps) = omega (arith, potential_start M f p)
  run_fits (next {vs = vs} {v = v} r t) = omega (arith, run_fits r, potential_falls L (run_between r) t, length-append vs (v ∷ []))

  few_takes : M.nodes * (M.height + 1) ≤ 8388608
  few_takes =
      let a = L.few_nodes in
      let b : M.height + 1 ≤ 65536 = omega (arith, L.low_height) in
      let m : M.nodes * (M.height + 1) ≤ 128 * 65536 = mul-le-mul a b in m

  pub counted_between : {f : ℕ → F} {p : ℕ → Bool} {count : ℕ} → Counted M f p count → Between V M f p
  counted_between r = run_between r.2

  pub counted_few : {f : ℕ → F} {p : ℕ → Bool} {count : ℕ} → Counted M f p count → count ≤ 8388608
  counted_few r = omega (arith, run_fits r.2, r.1, few_takes)

  pub legal_lists : LegalLists V M
  legal_lists vs f legal =
      let B = run_between legal.run in (
        record {
          solution = record {
            valid = B.valid;
            seeds = B.seeds;
            flows = λ i h. B.settled i h (legal.none (M.from i));
          };
          lowest = B.lowest;
        },
        omega (arith, run_fits legal.run),
      )

  pub counted_end : {xs ys : List F} {p : ℕ → Bool} {count : ℕ} → M.nodes ≤ length xs → Counted M (at M ys) p count → SamePast M xs ys → IsEmpty p → {q : ℕ → Bool} → IsEmpty q → Solved V M xs ys q count
  counted_end {ys = ys} {p = p} room r past none emptied =
      let legal : Legal M r.0 (at M ys) = record { left = p; run = r.2; none = none } in
      let l = legal_lists r.0 (at M ys) legal in
      record {
        room = room;
        least = l.0;
        past = past;
        emptied = emptied;
        legal = (r.0, r.1, legal);
        bound = omega (arith, l.1, r.1);
      }
