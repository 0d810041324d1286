-- Where an instruction asks for no kinds, only the number of values counts.
use Rattle.std.proofs.Common.{◌≡◌, ℕ, zero, suc, ◌≤◌, true, ltb, List, [], ◌∷◌, ◌++◌, length, drop, replicate, Some, None, refl, sym, ap, ◌∙◌, inl, inr, arith}
use Rattle.std.proofs.lemmas.Bool.{cases_lt, lt-ltb, le-ltb, cond-true, cond-false}
use lib.ListN.{length-replicate}
use Rattle.bytecode.specs.declared.instr.Instr.{Instr}
use Rattle.machine.specs.Machine.{any}
use Rattle.facts.specs.declared.cell.TypeCell.{TypeCell}
use Rattle.facts.specs.Held.{Held}
use Rattle.facts.specs.declared.reason.Reason.TheVariants.{TooFew, TooMany, WrongKind}
use Rattle.facts.specs.declared.frame.Frame.TheVariants.{At, Clash}
use Rattle.facts.specs.Effects.{Effect, takes_of, effect, plain, after, is_too_few, is_too_many}
use Rattle.facts.specs.Frames.{replaced}
use Rattle.facts.specs.Types.{types, has_kinds, has_right_kinds, unless, carry_types}

has_kinds_any : (k : ℕ) (stack : List TypeCell) → k ≤ length stack → has_kinds (replicate k any) stack ≡ true
has_kinds_any zero stack le = refl
has_kinds_any (suc k) [] le = absurd (omega arith)
has_kinds_any (suc k) (c ∷ stack) le = has_kinds_any k stack (omega arith)

pub has_right_kinds_any : (i : Instr) (a : Held TypeCell) (k : ℕ) → length (takes_of i) ≤ length a.stack
    → takes_of i ≡ replicate k any → (effect types i a).loads ≡ None → true ≡ has_right_kinds i a
has_right_kinds_any i a k le e n =
    let h = has_kinds_any k a.stack (rw (e, length-replicate) at le) in
    rw (e, n, h)

-- an instruction that puts one cell in the place of k values of any kind
pub literal_carried : (i : Instr) (a : Held TypeCell) (k : ℕ) (c : TypeCell) → takes_of i ≡ replicate k any → effect types i a ≡ plain types a (c ∷ [])
    → replaced k (c ∷ []) a ≡ carry_types i (At a)
literal_carried i a k c takes does =
    let few : length (takes_of i) ≡ k = ap length takes ∙ length-replicate k any in
    let made : after types i a ≡ record { stack = c ∷ drop k a.stack; locals = a.locals } = λ j. record { stack = (does j).puts ++ drop (few j) a.stack; locals = (does j).locals } in
    let long : length (after types i a).stack ≡ length (c ∷ drop k a.stack) = ap (λ (b : Held TypeCell). length b.stack) made in
    elim (cases_lt (length a.stack) k) [
      | inl short ↦
          let refused = cond-true (is_too_few types i a) (Some TooFew) _ (lt-ltb (length a.stack) (length (takes_of i)) (omega (arith, short, few))) in
          cond-true (ltb (length a.stack) k) Clash _ (lt-ltb (length a.stack) k short) ∙ sym (ap (λ r. unless r (At (after types i a))) refused)
      | inr enough ↦
          let passed = cond-false (is_too_few types i a) (Some TooFew) _ (le-ltb (length a.stack) (length (takes_of i)) (omega (arith, enough, few))) in
          cond-false (ltb (length a.stack) k) Clash _ (le-ltb (length a.stack) k enough)
          ∙ elim (cases_lt 8 (length (c ∷ drop k a.stack))) [
            | inl many ↦
                let refused = cond-true (is_too_many types i a) (Some TooMany) _ (lt-ltb 8 (length (after types i a).stack) (omega (arith, many, long))) in
                cond-true (ltb 8 (length (c ∷ drop k a.stack))) Clash _ (lt-ltb 8 (length (c ∷ drop k a.stack)) many)
                ∙ sym (ap (λ r. unless r (At (after types i a))) (passed ∙ refused))
            | inr fits ↦
                let fitting = cond-false (is_too_many types i a) (Some TooMany) _ (le-ltb 8 (length (after types i a).stack) (omega (arith, fits, long))) in
                let kinds = has_right_kinds_any i a k (omega (arith, enough, few)) takes (ap (λ (e : Effect TypeCell). e.loads) does) in
                let none = cond-true (has_right_kinds i a) None (Some WrongKind) (sym kinds) in
                cond-false (ltb 8 (length (c ∷ drop k a.stack))) Clash _ (le-ltb 8 (length (c ∷ drop k a.stack)) fits)
                ∙ sym (ap (λ r. unless r (At (after types i a))) (passed ∙ fitting ∙ none) ∙ ap At made)
          ]
    ]
