-- Where type frames solve the equations and none is Clash, every instruction is applicable.
use Rattle.std.proofs.Common.{◌≡◌, ◌≢◌, ℕ, ◌<◌, ◌≤◌, Bool, true, false, ℤ, pos, ◌+ℤ◌, is_some, ◌⊎◌, inl, inr, length, Some, None, Option, refl, sym, ap, ◌∙◌, subst, arith}
use Rattle.std.specs.List.{slice_get}
use Rattle.std.proofs.lemmas.Bool.{and_parts, le-ltb, cond-false, true≢false}
use Rattle.std.proofs.lemmas.List.{get_or-take}
use Rattle.std.proofs.lemmas.Option.{none-some, slice_get-get_or}
use Rattle.bytecode.specs.declared.instr.Instr.{Instr}
use Rattle.bytecode.specs.declared.instr.Instr.TheVariants as I
use Rattle.bytecode.specs.declared.unit.Unit.{Unit as TheUnit}
use Rattle.bytecode.specs.Files.{held}
use Rattle.bytecode.specs.Instructions.{row, jump, in_range, fitting, inside, sound}
use Rattle.bytecode.proofs.Held.{length-held}
use Rattle.dataflow.specs.Analysis.{Solution}
use Rattle.facts.specs.declared.cell.TypeCell.{TypeCell}
use Rattle.facts.specs.declared.frame.Frame.{Frame}
use Rattle.facts.specs.declared.frame.Frame.TheVariants.{Unreached, At, Clash}
use Rattle.facts.specs.declared.reason.Reason.{Reason}
use Rattle.facts.specs.declared.reason.Reason.TheVariants.{TooFew, TooMany}
use Rattle.facts.specs.Held.{Held}
use Rattle.facts.specs.Effects.{after, is_too_few, is_too_many}
use Rattle.facts.specs.TypeCells.{join_types}
use Rattle.facts.specs.Frames.{Fitting, joined_frames}
use Rattle.facts.specs.Types.{types, reason_at, reason, unless, carry_types}
use Rattle.analyses.specs.Edges.{distance, Leads, start_of, end_of, instr_at}
use Rattle.analyses.specs.Frameworks.{types_of}
use Rattle.analyses.specs.Verdicts.{Accepts}
use Rattle.analyses.specs.Ways.{edges_are_ways, end_inside}

-- the next place can follow, or a jump leads on, or it is HALT
goes_on : (i : Instr) → ((row i).falls ≡ true) ⊎ (((d : ℤ) × ((row i).operands ≡ jump d)) ⊎ (i ≡ I.Halt))
goes_on I.Nop = inl refl
goes_on I.Halt = inr (inr refl)
goes_on (I.Lit k v) = inl refl
goes_on (I.LitFlag k b) = inl refl
goes_on I.Pop = inl refl
goes_on I.Dup = inl refl
goes_on I.Swap = inl refl
goes_on (I.Load n) = inl refl
goes_on (I.Store n) = inl refl
goes_on I.Add = inl refl
goes_on I.Sub = inl refl
goes_on I.Mul = inl refl
goes_on I.Div = inl refl
goes_on I.Eq = inl refl
goes_on I.Lt = inl refl
goes_on I.Not = inl refl
goes_on (I.Jmp d) = inr (inl (d, refl))
goes_on (I.Jf d) = inl refl
goes_on (I.DropJmp d) = inr (inl (d, refl))
goes_on I.In = inl refl
goes_on I.Out = inl refl

some_of : (o : Option ℕ) → is_some o ≡ true → (q : ℕ) × (o ≡ Some q)
some_of None e = absurd (true≢false (sym e))
some_of (Some q) e = (q, refl)

-- the instruction leads to some place of n
abbrev LeadsOn : ℕ → ℕ → Instr → Type 0
LeadsOn p n i = (j : Bool) × (by : ℤ) × (q : ℕ) × (distance i j ≡ Some by) × (inside n (pos p +ℤ by) ≡ Some q)

leads_on : (L p n : ℕ) (i : Instr) → sound L p n i ≡ true → LeadsOn p n i ⊎ (i ≡ I.Halt)
leads_on L p n i e =
    let parts = and_parts (in_range (row i).operands) _ e in
    let stands = and_parts (fitting L p n (row i).operands) _ parts.1 in
    elim (goes_on i) [
      | inl falls ↦
          let next : is_some (inside n (pos p +ℤ pos 1)) ≡ true = rw (rw falls at stands.1) in
          let there = some_of (inside n (pos p +ℤ pos 1)) next in
          inl (false, pos 1, there.0, rw falls, there.1)
      | inr (inl (d, jumps)) ↦
          let far : is_some (inside n (pos p +ℤ d)) ≡ true = rw jumps at stands.0 in
          let there = some_of (inside n (pos p +ℤ d)) far in
          inl (true, d, there.0, rw jumps, there.1)
      | inr (inr halt) ↦ inr halt
    ]

halt_fits : (a : Held TypeCell) → length a.stack ≤ 8 → reason_at I.Halt a ≡ None
halt_fits a few =
    cond-false (is_too_few types I.Halt a) (Some TooFew) _ (le-ltb (length a.stack) 0 (omega arith))
    ∙ cond-false (is_too_many types I.Halt a) (Some TooMany) _ (le-ltb 8 (length a.stack) few)

module _ (u : TheUnit) (f : ℕ → Frame TypeCell) (s : Solution Fitting (types_of u) f) (none : (p : ℕ) → p < u.len → f p ≢ Clash) where
  stands_at : (p : ℕ) → p < u.len → sound u.locals p u.len (instr_at u p) ≡ true
  stands_at p lt = rw (get_or-take u.len u.code p I.Nop lt) (u.rules p lt)

  -- an instruction that is not applicable would carry Clash on
  applicable : (p : ℕ) → p < u.len → (a : Held TypeCell) → f p ≡ At a → (o : Option Reason) → reason_at (instr_at u p) a ≡ o → reason_at (instr_at u p) a ≡ None
  applicable p lt a here None e = e
  applicable p lt a here (Some r) e =
      let i = instr_at u p in
      elim (leads_on u.locals p u.len i (stands_at p lt)) [
        | inl (j, by, q, far, arrives) ↦
            let stands : slice_get (held u) p ≡ Some i = slice_get-get_or (held u) p I.Nop (omega (arith, lt, length-held u)) in
            let leads : Leads (held u) p i j q = record { stands = stands; by = by; far = far; arrives = rw (length-held u) arrives } in
            let way = (edges_are_ways u).all p i j q leads in
            let start : start_of u way.0 ≡ p = ap (λ x. x.start) way.2 in
            let carried : carry_types (instr_at u (start_of u way.0)) (f (start_of u way.0)) ≡ Clash =
            ap (λ k. carry_types (instr_at u k) (f k)) start ∙ ap (carry_types i) here ∙ ap (λ x. unless x (At (after types i a))) e in
            let there = f (end_of u way.0) in
            let flow : joined_frames join_types (carry_types (instr_at u (start_of u way.0)) (f (start_of u way.0))) there ≡ there = s.flows way.0 way.1 in
            let clash : Clash ≡ there = ap (λ x. joined_frames join_types x there) (sym carried) ∙ flow in
            absurd (none (end_of u way.0) (end_inside u way.0 way.1) (sym clash))
        | inr halt ↦
            let fitting : Fitting (At a) = subst Fitting here (s.valid p lt) in
            let same : reason_at i a ≡ reason_at I.Halt a = ap (λ k. reason_at k a) halt in
            absurd (none-some r (sym (halt_fits a fitting.0) ∙ sym same ∙ e))
      ]

  settled : (p : ℕ) → p < u.len → (x : Frame TypeCell) → f p ≡ x → reason (instr_at u p) x ≡ None
  settled p lt Unreached here = refl
  settled p lt (At a) here = applicable p lt a here (reason_at (instr_at u p) a) refl
  settled p lt Clash here = absurd (none p lt here)

  pub accepts_without_clash : Accepts u f
  accepts_without_clash p lt = settled p lt (f p) refl
