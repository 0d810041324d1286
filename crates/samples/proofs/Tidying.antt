-- What a tidy comes to, change by change.
use Rattle.std.proofs.Common.{◌≡◌, ℕ, zero, suc, List, [], ◌∷◌, Some, refl, sym, ap, ◌∙◌, subst}
use Rattle.std.proofs.lemmas.Option.{same_Some}
use Rattle.bytecode.specs.declared.instr.Instr.{Instr}
use Rattle.bytecode.specs.declared.unit.Unit.{Unit as TheUnit}
use Rattle.bytecode.proofs.Units.{same_unit}
use Rattle.rewrite.specs.declared.change.Change.{Change}
use Rattle.rewrite.specs.Choices.{LowestChange, NothingToDo}
use Rattle.rewrite.proofs.Choices.{one_lowest_change}
use Rattle.keep.specs.Keeps.{IsChanged}
use Rattle.workspace.specs.Contents.{Contents, IsSolved}
use Rattle.workspace.specs.Calls.{Call, Answer, tidy, tidied}
use Rattle.workspace.specs.Does.{Model, Holds, Tidies}
use Rattle.workspace.specs.Histories.{untimed}
use Rattle.samples.proofs.Answering.{AnsweredHolding, with_unit, with_unit_is, holds_with, held_answered, call_answered}
use Rattle.samples.proofs.Holdable.{holdable}

-- a tidy of what is held can make n changes, makes no other number of them, and leaves the unit w
pub record TidiesBy (n : ℕ) (c : Contents) (w : TheUnit) : Type 0 where
  pub possible : (m : Model) × Tidies n c m
  pub always : (k : ℕ) (m : Model) → Tidies k c m → (k ≡ n) × Holds w c.opened m

-- by whichever solved facts of the unit u
abbrev pub TidiesTo : ℕ → TheUnit → TheUnit → Type 0
TidiesTo n u w = (codes : List (List Instr)) (d : Contents) → IsSolved (with_unit u codes d) → TidiesBy n (with_unit u codes d) w

module _ (u : TheUnit) (none : (codes : List (List Instr)) (d : Contents) → IsSolved (with_unit u codes d) → NothingToDo u d.constants d.lives) where
  none_made : (codes : List (List Instr)) (d : Contents) → IsSolved (with_unit u codes d) → (k : ℕ) (m : Model) → Tidies k (with_unit u codes d) m
      → (k ≡ 0) × Holds u codes m
  none_made codes d solved zero m h = (refl, record { contents = with_unit u codes d; is = h.1; unit = refl; opened = refl; solved = solved })
  none_made codes d solved (suc k) m h = absurd (none codes d solved h.0.place h.1.inside h.0.rule h.0.instr h.1.here.yields)

  pub tidies_none : TidiesTo 0 u u
  tidies_none codes d solved = record { possible = (Some (with_unit u codes d), (none codes d solved, refl)); always = none_made codes d solved }

module _ (n : ℕ) (u v w : TheUnit) (x : Change)
    (lowest : (codes : List (List Instr)) (d : Contents) → IsSolved (with_unit u codes d) → LowestChange u d.constants d.lives x)
    (changed : IsChanged u x.place x.instr v) (next : TidiesTo n v w) where
  one_made : (codes : List (List Instr)) (d : Contents) → IsSolved (with_unit u codes d) → (k : ℕ) (m : Model) → Tidies k (with_unit u codes d) m
      → (k ≡ suc n) × Holds w codes m
  one_made codes d solved zero m h = let low = lowest codes d solved in absurd (h.0 x.place low.inside x.rule x.instr low.here.yields)
  one_made codes d solved (suc k) m h =
      let change : h.0 ≡ x = one_lowest_change u d.constants d.lives h.0 x h.1 (lowest codes d solved) in
      let made : IsChanged u x.place x.instr h.2 = subst (λ (y : Change). IsChanged u y.place y.instr h.2) change h.3 in
      let unit : h.2 ≡ v = same_unit h.2 v (made.locals ∙ sym changed.locals) (made.len ∙ sym changed.len) (made.code ∙ sym changed.code) in
      let same : h.4 ≡ h.5.contents = same_Some h.4 h.5.contents h.5.is in
      let is = with_unit_is h.4 v codes (ap (λ (c : Contents). c.unit) same ∙ h.5.unit ∙ unit) (ap (λ (c : Contents). c.opened) same ∙ h.5.opened) in
      let after = (next codes h.4 (subst IsSolved (sym same ∙ is) h.5.solved)).always k m (subst (λ c. Tidies k c m) is h.6) in
      (ap suc after.0, after.1)

  pub tidies_change : TidiesTo (suc n) u w
  tidies_change codes d solved =
      let (e, solved') = holdable v codes in
      let rest = (next codes e solved').possible in
      record {
        possible = (rest.0, (x, lowest codes d solved, v, changed, with_unit v codes e, holds_with v codes e solved', rest.1));
        always = one_made codes d solved;
      }

pub tidy_answered : (n : ℕ) (u w : TheUnit) (code : List Instr) (calls : List Call) (answers : List Answer) → TidiesTo n u w
    → AnsweredHolding w (code ∷ []) calls answers → AnsweredHolding u (code ∷ []) (tidy 1 ∷ calls) (tidied n ∷ answers)
tidy_answered n u w code calls answers tidies next d solved =
    let by = tidies (code ∷ []) d solved in
    call_answered (Some (with_unit u (code ∷ []) d)) (tidy 1) calls (tidied n) answers (tidied n) by.possible.0 (n, refl, by.possible.1)
    (λ x m does.
    let both = by.always does.0 m does.2 in
    (ap untimed (does.1 ∙ ap tidied both.0), held_answered w (code ∷ []) calls answers next m both.1))
