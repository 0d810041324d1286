-- The nodes below a number. Assumes nothing.
use Rattle.std.proofs.Common.{◌≡◌, ℕ, suc, zero, ◌+◌, ◌%◌, ◌<◌, ◌≤◌, min, ◌&&◌, Bool, true, false, List, [], ◌∷◌, ◌++◌, ltb, length, get_or, set, sym, refl, ap, ap₂, subst, ◌∙◌, inl, inr, mod-eq_of_lt, arith}
use Rattle.std.specs.Prelude.{◌≢◌}
use Rattle.std.proofs.lemmas.Bool.{cases_lt, cases_eq, lt-ltb, le-ltb, true≢false}
use Rattle.dataflow.specs.FirstIn.{is_member, rising, window, marks_made, IsRing}
use Rattle.dataflow.proofs.Queues.{is_member-push_same, is_member-push_other, nodes_after_add, room_for, IsRing-add}

pub below_both : (n v : ℕ) → ltb v (min n 128) ≡ (ltb v n && ltb v 128)
below_both n v = elim (cases_lt v n) [
  | inl low ↦ elim (cases_lt v 128) [
    | inl within ↦ lt-ltb v (min n 128) (omega arith) ∙ sym (ap₂ ◌&&◌ (lt-ltb v n low) (lt-ltb v 128 within))
    | inr past ↦ le-ltb v (min n 128) (omega arith) ∙ sym (ap₂ ◌&&◌ (lt-ltb v n low) (le-ltb v 128 past))
  ]
  | inr high ↦ le-ltb v (min n 128) (omega arith) ∙ sym (ap (λ b. b && ltb v 128) (le-ltb v n high))
]

below_next : (n v : ℕ) → v ≢ n → ltb v n ≡ ltb v (suc n)
below_next n v other = elim (cases_lt v n) [
  | inl low ↦ lt-ltb v n low ∙ sym (lt-ltb v (suc n) (omega arith))
  | inr high ↦ le-ltb v n high ∙ sym (le-ltb v (suc n) (omega (arith, high, other)))
]

pub is_member-rising : (n v : ℕ) → is_member (rising n) v ≡ ltb v n
is_member-rising zero v = sym (le-ltb v 0 (omega arith))
is_member-rising (suc n) v = elim (cases_eq v n) [
  | inl same ↦ ap (is_member (rising n ++ n ∷ [])) same ∙ is_member-push_same (rising n) n ∙ sym (lt-ltb v (suc n) (omega (arith, same)))
  | inr other ↦ is_member-push_other (rising n) n v other ∙ is_member-rising n v ∙ below_next n v other
]

-- ---- in the ring
marks_made-unmarked : (ms : List Bool) → ((v : ℕ) → get_or ms v false ≡ false) → marks_made ms ≡ 0
marks_made-unmarked [] clear = refl
marks_made-unmarked (true ∷ ms) clear = absurd (true≢false (clear 0))
marks_made-unmarked (false ∷ ms) clear = omega (arith, marks_made-unmarked ms (λ v. clear (suc v)))

pub IsRing-unmarked : (slots : List ℕ) (marks : List Bool) → ((v : ℕ) → get_or marks v false ≡ false) → IsRing 0 0 slots marks
IsRing-unmarked slots marks clear = record {
  head_within = omega arith;
  len_within = omega arith;
  queue = record { below = λ v waits. absurd (true≢false (sym waits)); once = tt; marked = clear; counted = marks_made-unmarked marks clear };
}

-- the nodes below node stand in the first slots, and the next goes behind them
pub rising_next : (slots : List ℕ) (marks : List Bool) (node : ℕ) → length slots ≡ 128 → length marks ≡ 128 → node < 128
    → IsRing 0 node slots marks × (window 0 node slots ≡ rising node)
    → IsRing 0 (node + 1) (set slots node node) (set marks node true) × (window 0 (node + 1) (set slots node node) ≡ rising (node + 1))
rising_next slots marks node length_slots length_marks within so_far =
    let ring = so_far.0 in
    let first : 0 + node < 128 = omega (arith, within) in
    let slot : (0 + node) % 128 ≡ node = mod-eq_of_lt first ∙ omega arith in
    let clear : get_or marks node false ≡ false =
    ring.queue.marked node ∙ ap (λ (xs : List ℕ). is_member xs node) so_far.1 ∙ is_member-rising node node ∙ le-ltb node node (omega arith) in
    let next : suc node ≡ node + 1 = omega arith in (
      subst (λ k. IsRing 0 (node + 1) (set slots k node) (set marks node true)) slot (IsRing-add 0 node slots marks length_slots length_marks ring node within clear),
      ap (λ k. window 0 (node + 1) (set slots k node)) (sym slot)
          ∙ nodes_after_add 0 node slots marks length_slots length_marks ring node (room_for 0 node slots marks length_slots length_marks ring node within clear)
          ∙ ap (λ (xs : List ℕ). xs ++ node ∷ []) so_far.1 ∙ ap rising next,
    )
