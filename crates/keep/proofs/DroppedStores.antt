-- Frames of types for a unit without a store of a local that is not live after it: the local is Unusable wherever it is not live.
use Rattle.std.proofs.Common.{◌≡◌, ℕ, ◌<◌, Bool, true, false, cond, refl, sym, ap, ◌∙◌, subst, ⊎_elim}
use Rattle.std.proofs.lemmas.Bool.{cases_Bool, both_ways, cond-true, cond-false, cond_both, false_from_ne_true}
use Rattle.bytecode.specs.declared.instr.Instr.{Instr}
use Rattle.bytecode.specs.declared.instr.Instr.TheVariants as I
use Rattle.bytecode.specs.declared.unit.Unit.{Unit as TheUnit}
use Rattle.bytecode.specs.Files.{held}
use Rattle.dataflow.specs.Mask.{has_bit}
use Rattle.facts.specs.declared.cell.TypeCell.{TypeCell}
use Rattle.facts.specs.declared.frame.Frame.{Frame}
use Rattle.facts.specs.TypeCells.{join_types}
use Rattle.facts.specs.Frames.{joined_frames, IsBelow, Fitting}
use Rattle.facts.specs.Live.{carry_live}
use Rattle.facts.specs.Types.{carry_types}
use Rattle.facts.proofs.LiveSets.{has_below, has_bit-with_same}
use Rattle.facts.proofs.CarryTypes.{carry_types_monotone, carry_types_fitting}
use Rattle.analyses.specs.Edges.{Leads, instr_at}
use Rattle.keep.proofs.Equations.{SolvesLive, Way, leads_inside, leads_from_way}
use Rattle.keep.proofs.YieldedWays.{FewerWays, fewer_ways}
use Rattle.keep.proofs.Lower.{applicable_from_carried, carried_from_applicable, applicable_below}
use Rattle.keep.proofs.Suited.{Suits, Suited, types_reflexive, types_transitive}
use Rattle.keep.proofs.BlankCells.{blank, blank_fitting, below_blank, blank_monotone, clash_from_blank}
use Rattle.keep.proofs.BlankCells.{Spares, loads_stores_or_spares, carry-blank, store-blank, pop-store}

module _ (u : TheUnit) (n : ℕ) (live : ℕ → ℕ) (f : ℕ → Frame TypeCell) where
  -- whether the local is live before the place
  abbrev is_live : ℕ → Bool
  is_live q = has_bit (carry_live (instr_at u q) (live q)) n

  abbrev pub cut : ℕ → Frame TypeCell
  cut q = cond (is_live q) (f q) (blank n (f q))

  cut_either : (P : Frame TypeCell → Type 0) (q : ℕ) → P (f q) → P (blank n (f q)) → P (cut q)
  cut_either P q x y = cond_both (is_live q) (f q) (blank n (f q)) P (λ e. x) (λ e. y)

  pub cut_fitting : (q : ℕ) → Fitting (f q) → Fitting (cut q)
  cut_fitting q p = cut_either Fitting q p (blank_fitting n (f q) p)

  pub below_cut : (q : ℕ) → IsBelow join_types (f q) (cut q)
  below_cut q = cut_either (IsBelow join_types (f q)) q (types_reflexive (f q)) (below_blank n (f q))

  cut_below : (q : ℕ) → IsBelow join_types (cut q) (blank n (f q))
  cut_below q = cut_either (λ g. IsBelow join_types g (blank n (f q))) q (below_blank n (f q)) (types_reflexive (blank n (f q)))

  cut-live : (q : ℕ) → is_live q ≡ true → cut q ≡ f q
  cut-live q e = cond-true (is_live q) (f q) (blank n (f q)) e

  cut-dead : (q : ℕ) → is_live q ≡ false → cut q ≡ blank n (f q)
  cut-dead q e = cond-false (is_live q) (f q) (blank n (f q)) e

  module _ (s : Suited u f) (lives : SolvesLive u live) (low : n < 16) (r : ℕ) (inside : r < u.len) where
    abbrev here : Instr
    here = instr_at u r

    leads : (j : Bool) (q : ℕ) → Way u.len r here j q → Leads (held u) r here j q
    leads j q way = leads_from_way u r here j q inside refl way

    -- where the local is not live after an instruction, it is not live before those that may follow
    dead_next : has_bit (live r) n ≡ false → (j : Bool) (q : ℕ) → Way u.len r here j q → cut q ≡ blank n (f q)
    dead_next dead j q way =
        cut-dead q (false_from_ne_true (is_live q) (λ e. both_ways (has_bit (live r) n) dead
        (has_below n (carry_live (instr_at u q) (live q)) (live r) (lives.flows r here j q (leads j q way)) e)))

    abbrev made : Frame TypeCell
    made = carry_types here (f r)

    -- an instruction that makes the same of the cut frame
    same_suits : carry_types here (cut r) ≡ made → Suits u.len cut r here
    same_suits same = record {
      applicable = applicable_below here here (f r) (cut r) (rw same (types_reflexive made)) (s.suits r inside).applicable;
      flows = λ j q way. rw same (types_transitive made (f q) (cut q) ((s.suits r inside).flows j q way) (below_cut q));
    }

    -- one that makes no more of it than the old frame's with the local Unusable, where the local is not live after it
    blank_suits : (k : Instr) → FewerWays k here → has_bit (live r) n ≡ false → IsBelow join_types (carry_types k (cut r)) (blank n made)
        → Suits u.len cut r k
    blank_suits k fewer dead below = record {
      applicable = applicable_from_carried k (cut r) (λ e.
          carried_from_applicable here (f r) (s.suits r inside).applicable
          (clash_from_blank n made (sym below ∙ ap (λ (x : Frame TypeCell). joined_frames join_types x (blank n made)) e)));
      flows = λ j q way.
          let old = fewer_ways k here fewer u.len r j q way in
          let to = leads_inside u r here j q (leads j q old) in
          subst (IsBelow join_types (carry_types k (cut r))) (sym (dead_next dead j q old))
          (types_transitive (carry_types k (cut r)) (blank n made) (blank n (f q)) below
          (blank_monotone n made (f q) (carry_types_fitting here (f r) (s.valid r inside)) (s.valid q to) ((s.suits r inside).flows j q old)));
    }

    spared_suits : is_live r ≡ false → Spares n here → Suits u.len cut r here
    spared_suits dead spares =
        let after : has_bit (live r) n ≡ false =
        false_from_ne_true (has_bit (live r) n) (λ e. both_ways (is_live r) dead (spares.lives (live r) (lives.valid r inside) e)) in
        let same : carry_types here (cut r) ≡ blank n made = ap (carry_types here) (cut-dead r dead) ∙ carry-blank n here (f r) spares in
        blank_suits here (λ j by far. far) after (rw same (types_reflexive (blank n made)))

    load_live : here ≡ I.Load n → is_live r ≡ true
    load_live e = ap (λ (i : Instr). has_bit (carry_live i (live r)) n) e ∙ has_bit-with_same n (live r) low

    pub stays_suited : Suits u.len cut r here
    stays_suited =
        ⊎_elim
        (λ e. same_suits (ap (carry_types here) (cut-live r e)))
        (λ dead.
        ⊎_elim
        (λ e. absurd (both_ways (is_live r) dead (load_live e)))
        (⊎_elim
        (λ e. same_suits (ap (carry_types here) (cut-dead r dead) ∙ rw e (store-blank n (f r))))
        (spared_suits dead))
        (loads_stores_or_spares n here))
        (cases_Bool (is_live r))

    -- POP in the place of the store
    pub pop_suits : here ≡ I.Store n → has_bit (live r) n ≡ false → Suits u.len cut r I.Pop
    pop_suits is dead =
        let fitting = s.valid r inside in
        let stored : made ≡ carry_types (I.Store n) (f r) = ap (λ (i : Instr). carry_types i (f r)) is in
        let same : carry_types I.Pop (blank n (f r)) ≡ blank n made =
        carry-blank n I.Pop (f r) (record { effects = λ a. refl; lives = λ s p h. h }) ∙ pop-store n (f r) ∙ ap (blank n) (sym stored) in
        blank_suits I.Pop (rw is (λ j by far. far)) dead
        (rw same at (carry_types_monotone I.Pop (cut r) (blank n (f r)) (cut_fitting r fitting) (blank_fitting n (f r) fitting) (cut_below r)))
