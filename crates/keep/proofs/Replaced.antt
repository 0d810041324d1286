-- Instructions that take values of any kind: what they make of frames of types, and that it is no more than others make.
use Rattle.std.proofs.Common.{◌≡◌, ℕ, zero, suc, ◌≤◌, Bool, true, false, cond, ◌&&◌, ltb, List, [], ◌∷◌, ◌++◌, length, drop, replicate}
use Rattle.std.proofs.Common.{None, Some, Option, refl, arith}
use Rattle.std.proofs.lemmas.List.{length-replicate}
use Rattle.std.proofs.lemmas.Bool.{ltb-false, le-ltb, and_from}
use Rattle.bytecode.specs.declared.instr.Instr.{Instr}
use Rattle.machine.specs.Machine.{any}
use Rattle.facts.specs.declared.cell.TypeCell.{TypeCell}
use Rattle.facts.specs.declared.reason.Reason.{Reason}
use Rattle.facts.specs.declared.reason.Reason.TheVariants.{TooFew, TooMany, WrongKind}
use Rattle.facts.specs.declared.frame.Frame.{Frame}
use Rattle.facts.specs.declared.frame.Frame.TheVariants.{At, Clash}
use Rattle.facts.specs.TypeCells.{join_types, type_laws}
use Rattle.facts.specs.Held.{Held}
use Rattle.facts.specs.Frames.{IsBelow, replaced}
use Rattle.facts.specs.Effects.{takes_of, takes_count, plain, effect, after, is_too_few, is_too_many}
use Rattle.facts.specs.Types.{types, has_kinds, has_right_kinds, reason_at, carry_types, unless}
use Rattle.facts.proofs.Lattice.{below_clash}
use Rattle.facts.proofs.Order.{CellsUnder, none, more, length-under, below_from_under}

pub any_kinds : (k : ℕ) (stack : List TypeCell) → k ≤ length stack → has_kinds (replicate k any) stack ≡ true
any_kinds zero stack enough = refl
any_kinds (suc k) [] enough = absurd (omega arith)
any_kinds (suc k) (c ∷ stack) enough = any_kinds k stack (omega arith)

pub under_itself : (xs : List TypeCell) → CellsUnder join_types xs xs
under_itself [] = none
under_itself (x ∷ xs) = more (type_laws.idempotent x) (under_itself xs)

-- the first test that fails
abbrev why : Bool → Bool → Bool → Option Reason
why few many right = cond few (Some TooFew) (cond many (Some TooMany) (cond right None (Some WrongKind)))

tests_passed : (few many right : Bool) → why few many right ≡ None → (few ≡ false) × (many ≡ false)
tests_passed true many right e = absurd (cc)
tests_passed false true right e = absurd (cc)
tests_passed false false right e = (refl, refl)

-- where the kinds are right if there are enough values
kinds_settled : (few many right : Bool) (f : Frame TypeCell) → (few ≡ false → right ≡ true)
    → unless (why few many right) f ≡ cond few Clash (cond many Clash f)
kinds_settled true many right f fine = refl
kinds_settled false true right f fine = refl
kinds_settled false false true f fine = refl
kinds_settled false false false f fine = absurd (cc (fine refl))

module _ (i : Instr) (a : Held TypeCell) where
  -- an instruction that takes k values of any kind puts xs in their place
  pub carry-replaced : (k : ℕ) (xs : List TypeCell) → takes_of i ≡ replicate k any → effect types i a ≡ plain types a xs
      → carry_types i (At a) ≡ replaced k xs a
  carry-replaced k xs takes does =
      let size : length (replicate k any) ≡ k = length-replicate k any in
      rw (takes, does, size)
      (kinds_settled (ltb (length a.stack) k) (ltb 8 (length (xs ++ drop k a.stack))) (has_kinds (replicate k any) a.stack && true) _
      (λ e. and_from _ true (any_kinds k a.stack (ltb-false (length a.stack) k e)) refl))

  -- that is no more than what an instruction makes that takes as many or more
  pub replaced_below : (k : ℕ) (xs : List TypeCell) → k ≤ takes_count i → (effect types i a).locals ≡ a.locals
      → (takes_count i ≤ length a.stack → CellsUnder join_types (xs ++ drop k a.stack) (after types i a).stack)
      → IsBelow join_types (replaced k xs a) (carry_types i (At a))
  replaced_below k xs fewer locals under = by (reason_at i a) refl
    where
      made : reason_at i a ≡ None → IsBelow join_types (replaced k xs a) (At (after types i a))
      made e =
          let t = tests_passed (is_too_few types i a) (is_too_many types i a) (has_right_kinds i a) e in
          let enough = ltb-false (length a.stack) (takes_count i) t.0 in
          let low = ltb-false 8 (length (after types i a).stack) t.1 in
          let u = under enough in
          let few : ltb (length a.stack) k ≡ false = le-ltb (length a.stack) k (omega arith) in
          let many : ltb 8 (length (xs ++ drop k a.stack)) ≡ false = le-ltb 8 _ (omega (arith, length-under u)) in
          rw (few, many) (below_from_under join_types _ _ (record { stack = u; locals = rw locals (under_itself a.locals) }))

      by : (o : Option Reason) → reason_at i a ≡ o → IsBelow join_types (replaced k xs a) (unless o (At (after types i a)))
      by None e = made e
      by (Some r) e = below_clash join_types (replaced k xs a)
