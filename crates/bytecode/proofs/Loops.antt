-- What the reader's loop keeps.
use Rattle.std.proofs.Common.{◌≡◌, ℕ, ◌+◌, ◌-◌, ◌*◌, ◌<◌, ◌≤◌, ◌≢◌, List, length, get_or, take, drop, set, replicate, sym, ap, ◌∙◌, subst, ⊎_elim, arith, below_more}
use Rattle.std.proofs.lemmas.List.{drop-drop, take_all, get_or_past, get_or-replicate, get_or-set_other, get_or-set_same, length-drop, length-replicate, length-set}
use Rattle.std.proofs.lemmas.Bool.{cases_lt}
use Rattle.bytecode.specs.declared.instr.Instr.{Instr}
use Rattle.bytecode.specs.declared.instr.Instr.TheVariants.{Nop}
use Rattle.bytecode.specs.Layout.{part}
use Rattle.bytecode.specs.Files.{Sized, Reads, LowestBad}

-- the first p instructions of the file f of n are read, and rest is left of it
pub record ReadSoFar (f : List ℕ) (n : ℕ) (code : List Instr) (rest : List ℕ) (p : ℕ) : Type 0 where
  pub rest_is : rest ≡ drop (4 + 6 * p) f
  pub whole : length code ≡ 128
  pub reads : (k : ℕ) → k < p → Reads (part f k) (get_or f 1 0) k n (get_or code k Nop)
  pub blank : (k : ℕ) → n ≤ k → get_or code k Nop ≡ Nop

blank_all : (n k : ℕ) → get_or (replicate n Nop) k Nop ≡ Nop
blank_all n k = ⊎_elim (λ h. get_or-replicate n k Nop Nop h) (λ h. get_or_past (replicate n Nop) k Nop (rw length-replicate h)) (cases_lt k n)

-- what the reader starts from
pub read_none : (f : List ℕ) (n : ℕ) (rest : List ℕ) → rest ≡ take (length f - 4) (drop 4 f) → ReadSoFar f n (replicate 128 Nop) rest 0
read_none f n rest e =
    let none : 4 ≡ 4 + 6 * 0 = omega arith in
    let all : take (length f - 4) (drop 4 f) ≡ drop 4 f = take_all (length f - 4) (drop 4 f) (simp length-drop (omega arith)) in
    record {
      rest_is = e ∙ all ∙ ap (λ k. drop k f) none;
      whole = length-replicate 128 Nop;
      reads = λ k h. absurd (omega arith);
      blank = λ k h. blank_all 128 k;
    }

module _ (f : List ℕ) (n : ℕ) (sized : Sized f n) (code : List Instr) (rest : List ℕ) (p : ℕ) (so_far : ReadSoFar f n code rest p) where
  rest_long : length rest ≡ 6 + 6 * n - (4 + 6 * p)
  rest_long = ap length so_far.rest_is ∙ length-drop (4 + 6 * p) f ∙ ap (λ m. m - (4 + 6 * p)) sized.long

  -- six bytes more are left only before the last place
  place_inside : 6 ≤ length rest → p < n
  place_inside h = omega (arith, rest_long)

  -- the instruction at the next place, p, is read
  pub read_more : (i : Instr) (q : ℕ) (bytes rest' : List ℕ) → q ≡ p → 6 ≤ length rest → bytes ≡ take 6 rest → rest' ≡ drop 6 rest → Reads bytes (get_or f 1 0) q n i → ReadSoFar f n (set code q i) rest' (q + 1)
  read_more i q bytes rest' eq left eb er r =
      let inside = place_inside left in
      let room : q < length code = omega (arith, so_far.whole, sized.most) in
      let here : bytes ≡ part f q = eb ∙ ap (take 6) so_far.rest_is ∙ ap (λ k. part f k) (sym eq) in
      record {
        rest_is = er ∙ ap (drop 6) so_far.rest_is ∙ drop-drop 6 (4 + 6 * p) f ∙ ap (λ k. drop k f) (omega arith);
        whole = length-set code q i ∙ so_far.whole;
        reads = below_more _ q (λ k below. let ne : k ≢ q = omega arith in subst (Reads (part f k) (get_or f 1 0) k n) (sym (get_or-set_other code q k i Nop ne)) (so_far.reads k (omega arith))) (subst (λ l. Reads l (get_or f 1 0) q n (get_or (set code q i) q Nop)) here (subst (Reads bytes (get_or f 1 0) q n) (sym (get_or-set_same code q i Nop room)) r));
        blank = λ k above. let ne : k ≢ q = omega arith in get_or-set_other code q k i Nop ne ∙ so_far.blank k above;
      }

  -- no instruction reads at the next place, p
  pub read_stops : (q e : ℕ) (bytes : List ℕ) → q ≡ p → 6 ≤ length rest → bytes ≡ take 6 rest → ((i : Instr) → Reads bytes (get_or f 1 0) q n i → ⊥) → e ≡ q → LowestBad f n e
  read_stops q e bytes eq left eb none at =
      let here : bytes ≡ part f q = eb ∙ ap (take 6) so_far.rest_is ∙ ap (λ k. part f k) (sym eq) in
      subst (LowestBad f n) (sym at) (record {
        inside = omega (arith, place_inside left);
        bad = λ g. none g.0 (subst (λ l. Reads l (get_or f 1 0) q n g.0) (sym here) g.1);
        below = λ k lt. (get_or code k Nop, so_far.reads k (omega arith));
      })
