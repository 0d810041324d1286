-- Workspaces that differ in their take counts alone answer every call alike, take counts aside, and are left alike.
use Rattle.std.proofs.Common.{◌≡◌, ℕ, zero, suc, ◌+◌, List, [], ◌∷◌, ◌++◌, length, drop, slice_index_or, option_map, Some, None, Option, Ok, Err, Result, inl, inr, sym, refl, ap, ◌∙◌, subst}
use Rattle.std.proofs.lemmas.Option.{none-some, same_Some}
use Rattle.bytecode.specs.declared.instr.Instr.{Instr}
use Rattle.bytecode.specs.declared.unit.Unit.{Unit as TheUnit}
use Rattle.bytecode.specs.declared.fault.ReadFault.{ReadFault}
use Rattle.bytecode.specs.Files.{held, bytes_of, Written}
use Rattle.bytecode.proofs.Units.{same_unit, unit_from_held, one_outcome}
use Rattle.machine.specs.declared.answer.Answer.{Answer as RunAnswer}
use Rattle.machine.specs.Machine.{Whole, whole_run, Answers}
use Rattle.std.specs.Prelude.{ℤ}
use Rattle.analyses.specs.declared.verify.VerifierFault.{VerifierFault}
use Rattle.analyses.specs.Edges.{instr_at}
use Rattle.rewrite.specs.declared.change.Change.{Change}
use Rattle.rewrite.specs.Rules.{Yields}
use Rattle.rewrite.specs.Choices.{LowestChange, NothingToDo}
use Rattle.rewrite.proofs.Choices.{one_lowest_change}
use Rattle.keep.specs.Keeps.{IsChanged}
use Rattle.workspace.specs.declared.refusal.LoadFault.TheVariants as L
use Rattle.workspace.specs.declared.refusal.Refusal.{Refusal}
use Rattle.workspace.specs.Refusals.{from_read}
use Rattle.workspace.specs.Contents.{Contents}
use Rattle.workspace.specs.Calls.{Call, Answer, load, opens, propose, tidy, keep, abandon, run, write_out, facts_at, take_counts, unit_now, opened, tidied, ran, written, shown, is_unit, not_loaded}
use Rattle.workspace.specs.Does.{Model, Does, By, Accepts, Tidies, ByVerdict, Verifies, ByReading, LoadsAt, refusal, refusing, depth}
use Rattle.workspace.specs.Histories.{untimed}
use Rattle.workspace.proofs.Cases.{no_load, does_cases}
use Rattle.workspace.proofs.OneVerdict.{one_verdict_by_least}
use Rattle.workspace.proofs.Alike.{bare, Alike, holds_alike}

refusal_bare : (call : Call) (c : Contents) → refusal call (Some c) ≡ refusal call (Some (bare c))
refusal_bare (load file) c = refl
refusal_bare opens c = refl
refusal_bare (propose d p i) c = refl
refusal_bare (tidy d) c = refl
refusal_bare (keep d) c = refl
refusal_bare (abandon d) c = refl
refusal_bare (run inputs buffer budget) c = refl
refusal_bare (write_out buffer) c = refl
refusal_bare (facts_at p) c = refl
refusal_bare take_counts c = refl
refusal_bare unit_now c = refl

pub refusal_alike : (call : Call) (m n : Model) → Alike m n → refusal call m ≡ refusal call n
refusal_alike call None None e = refl
refusal_alike call None (Some d) e = absurd (none-some _ e)
refusal_alike call (Some c) None e = absurd (none-some _ (sym e))
refusal_alike call (Some c) (Some d) e = refusal_bare call c ∙ ap (refusal call) e ∙ sym (refusal_bare call d)

depth_alike : (m n : Model) → Alike m n → depth m ≡ depth n
depth_alike None None e = refl
depth_alike None (Some d) e = absurd (none-some _ e)
depth_alike (Some c) None e = absurd (none-some _ (sym e))
depth_alike (Some c) (Some d) e = ap depth e

-- what a run gave back is one, and so is what a file was written into
one_run : (whole : Whole) (r s : RunAnswer) (before after other : List ℤ) → Answers whole r before after → Answers whole s before other
    → (r ≡ s) × (after ≡ other)
one_run whole r s before after other h k =
    let ending = h.ending ∙ sym k.ending in
    let place = h.place ∙ sym k.place in
    let steps = h.steps ∙ sym k.steps in
    let used = h.used ∙ sym k.used in
    let count = h.written ∙ sym k.written in
    let same : r ≡ s = λ i. record { ending = ending i; place = place i; steps = steps i; used = used i; written = count i } in
    (same, h.buffer ∙ ap (λ (x : RunAnswer). whole.outputs ++ drop x.written before) same ∙ sym k.buffer)

one_writing : (file before after other : List ℕ) (n k : ℕ) → Written file before after n → Written file before other k
    → (n ≡ k) × (after ≡ other)
one_writing file before after other n k h g =
    let count = h.count ∙ sym g.count in
    (count, h.bytes ∙ ap (λ x. file ++ drop x before) count ∙ sym g.bytes)

one_changed : (u v a b : TheUnit) (p : ℕ) (i : Instr) → u ≡ v → IsChanged u p i a → IsChanged v p i b → a ≡ b
one_changed u v a b p i e h k =
    let g = subst (λ x. IsChanged x p i b) (sym e) k in
    same_unit a b (h.locals ∙ sym g.locals) (h.len ∙ sym g.len) (h.code ∙ sym g.code)

pub record BothAlike (a b : Answer) (m n : Model) : Type 0 where
  pub answers : untimed a ≡ untimed b
  pub models : Alike m n

-- the changes of a tidy are settled by what is held, and so is what they leave
tidies_alike : (n k : ℕ) (c d : Contents) (m m' : Model) → bare c ≡ bare d → Tidies n c m → Tidies k d m' → (n ≡ k) × Alike m m'
tidies_alike zero zero c d m m' e h l = (refl, ap (option_map bare) h.1 ∙ ap Some e ∙ sym (ap (option_map bare) l.1))
tidies_alike zero (suc k) c d m m' e h l =
    let none = subst (λ (x : Contents). NothingToDo x.unit x.constants x.lives) e h.0 in
    absurd (none l.0.place l.1.inside l.0.rule l.0.instr l.1.here.yields)
tidies_alike (suc n) zero c d m m' e h l =
    let none = subst (λ (x : Contents). NothingToDo x.unit x.constants x.lives) (sym e) l.0 in
    absurd (none h.0.place h.1.inside h.0.rule h.0.instr h.1.here.yields)
tidies_alike (suc n) (suc k) c d m m' e h l =
    let low = subst (λ (x : Contents). LowestChange x.unit x.constants x.lives l.0) (sym e) l.1 in
    let change : l.0 ≡ h.0 = one_lowest_change c.unit c.constants c.lives l.0 h.0 low h.1 in
    let changes = subst (λ (x : Change). IsChanged d.unit x.place x.instr l.2) change l.3 in
    let units : h.2 ≡ l.2 = one_changed c.unit d.unit h.2 l.2 h.0.place h.0.instr (ap (λ (x : Contents). x.unit) e) h.3 changes in
    let next = holds_alike h.2 l.2 c.opened d.opened (Some h.4) (Some l.4) units (ap (λ (x : Contents). x.opened) e) h.5 l.5 in
    let rest = tidies_alike n k h.4 l.4 m m' (same_Some (bare h.4) (bare l.4) next) h.6 l.6 in
    (ap suc rest.0, rest.1)

module _ (m' n' : Model) (a b : Answer) where
  -- what was alike is left as it was, with an answer that is settled by it
  stays_alike : (m n : Model) → Alike m n → untimed a ≡ untimed b → m' ≡ m → n' ≡ n → BothAlike a b m' n'
  stays_alike m n e same h k = record { answers = same; models = ap (option_map bare) h ∙ e ∙ sym (ap (option_map bare) k) }

  module _ (c d : Contents) (e : bare c ≡ bare d) where
    proposes_alike : (t p : ℕ) (i : Instr) → Accepts (propose t p i) c a m' → Accepts (propose t p i) d b n' → BothAlike a b m' n'
    proposes_alike t p i (inl h) (inl k) =
        let units = one_changed c.unit d.unit h.2 k.2 p i (ap (λ (x : Contents). x.unit) e) h.3 k.3 in
        record {
          answers = ap untimed (h.1 ∙ sym k.1);
          models = holds_alike h.2 k.2 c.opened d.opened m' n' units (ap (λ (x : Contents). x.opened) e) h.4 k.4;
        }
    proposes_alike t p i (inl h) (inr k) =
        absurd (k.0 h.0.0 (subst (λ (x : Contents). Yields h.0.0 (instr_at x.unit p) (x.constants p) (x.lives p) i) e h.0.1))
    proposes_alike t p i (inr h) (inl k) =
        absurd (h.0 k.0.0 (subst (λ (x : Contents). Yields k.0.0 (instr_at x.unit p) (x.constants p) (x.lives p) i) (sym e) k.0.1))
    proposes_alike t p i (inr h) (inr k) = stays_alike (Some c) (Some d) (ap Some e) (ap untimed (h.1 ∙ sym k.1)) h.2 k.2

    accepts_alike : (call : Call) → Accepts call c a m' → Accepts call d b n' → BothAlike a b m' n'
    accepts_alike (load file) h k = absurd h
    accepts_alike opens h k = record {
      answers = ap untimed (h.0 ∙ ap (λ (x : Contents). opened (length x.opened + 1)) e ∙ sym k.0);
      models = ap (option_map bare) h.1 ∙ ap (λ (x : Contents). Some (record x { opened = held x.unit ∷ x.opened })) e ∙ sym (ap (option_map bare) k.1);
    }
    accepts_alike (propose t p i) h k = proposes_alike t p i h k
    accepts_alike (tidy t) h k =
        let both = tidies_alike h.0 k.0 c d m' n' e h.2 k.2 in
        record { answers = ap untimed (h.1 ∙ ap tidied both.0 ∙ sym k.1); models = both.1 }
    accepts_alike (keep t) h k = record {
      answers = ap untimed (h.0 ∙ sym k.0);
      models = ap (option_map bare) h.1 ∙ ap (λ (x : Contents). Some (record x { opened = drop 1 x.opened })) e ∙ sym (ap (option_map bare) k.1);
    }
    accepts_alike (abandon t) h k =
        let locals = h.2 ∙ ap (λ (x : Contents). x.unit.locals) e ∙ sym k.2 in
        let codes = h.3 ∙ ap (λ (x : Contents). slice_index_or x.opened 0 []) e ∙ sym k.3 in
        let under = ap (λ (x : Contents). drop 1 x.opened) e in
        record {
          answers = ap untimed (h.0 ∙ sym k.0);
          models = holds_alike h.1 k.1 (drop 1 c.opened) (drop 1 d.opened) m' n' (unit_from_held h.1 k.1 locals codes) under h.4 k.4;
        }
    accepts_alike (run inputs buffer budget) h k =
        let whole = λ (x : Contents). whole_run (held x.unit) inputs (length buffer) budget in
        let back = subst (λ w. Answers w k.0.0 buffer k.0.1) (sym (ap whole e)) k.0.2 in
        let one = one_run (whole c) h.0.0 k.0.0 buffer h.0.1 k.0.1 h.0.2 back in
        stays_alike (Some c) (Some d) (ap Some e) (ap untimed (h.0.3 ∙ (λ i. ran (one.0 i) (one.1 i)) ∙ sym k.0.3)) h.1 k.1
    accepts_alike (write_out buffer) h k =
        let back = subst (λ (x : Contents). Written (bytes_of x.unit) buffer k.0.1 k.0.0) (sym e) k.0.2 in
        let one = one_writing (bytes_of c.unit) buffer h.0.1 k.0.1 h.0.0 k.0.0 h.0.2 back in
        stays_alike (Some c) (Some d) (ap Some e) (ap untimed (h.0.3 ∙ (λ i. written (one.0 i) (one.1 i)) ∙ sym k.0.3)) h.1 k.1
    accepts_alike (facts_at p) h k =
        stays_alike (Some c) (Some d) (ap Some e)
        (ap untimed (h.0 ∙ ap (λ (x : Contents). shown (record { types = x.types p; constants = x.constants p; live = x.lives p })) e ∙ sym k.0)) h.1 k.1
    accepts_alike take_counts h k = stays_alike (Some c) (Some d) (ap Some e) (ap untimed h.0 ∙ sym (ap untimed k.0)) h.1 k.1
    accepts_alike unit_now h k =
        stays_alike (Some c) (Some d) (ap Some e) (ap untimed (h.0 ∙ ap (λ (x : Contents). is_unit x.unit) e ∙ sym k.0)) h.1 k.1

  module _ (m n : Model) (e : Alike m n) where
    refused_alike : (x : Answer) → (a ≡ x) × (m' ≡ m) → (b ≡ x) × (n' ≡ n) → BothAlike a b m' n'
    refused_alike x h k = stays_alike m n e (ap untimed (h.0 ∙ sym k.0)) h.1 k.1

    verdict_alike : (r : Result (Unit {0}) VerifierFault) (u : TheUnit) → ByVerdict r u m a m' → ByVerdict r u n b n' → BothAlike a b m' n'
    verdict_alike (Ok t) u h k = record { answers = ap untimed (h.0 ∙ sym k.0); models = holds_alike u u [] [] m' n' refl refl h.1 k.1 }
    verdict_alike (Err fault) u h k = refused_alike (not_loaded (L.Verifier fault)) h k

    verifies_alike : (u : TheUnit) → Verifies u m a m' → Verifies u n b n' → BothAlike a b m' n'
    verifies_alike u h k =
        let one = one_verdict_by_least u h.types k.types h.verdict k.verdict h.least k.least h.judged k.judged in
        verdict_alike h.verdict u h.by (subst (λ r. ByVerdict r u n b n') (sym one) k.by)

    reading_alike : (r : Result TheUnit ReadFault) → ByReading r m a m' → ByReading r n b n' → BothAlike a b m' n'
    reading_alike (Ok u) h k = verifies_alike u h k
    reading_alike (Err fault) h k = refused_alike (not_loaded (from_read fault)) h k

    load_alike : (d : ℕ) (file : List ℕ) → LoadsAt d file m a m' → LoadsAt d file n b n' → BothAlike a b m' n'
    load_alike zero file h k = reading_alike h.0 h.2 (subst (λ r. ByReading r n b n') (one_outcome file k.0 h.0 k.1 h.1) k.2)
    load_alike (suc d) file h k = refused_alike (not_loaded L.AttemptOpen) h k

  by_alike : (o : Option Refusal) (call : Call) (m n : Model) → Alike m n → By o call m a m' → By o call n b n' → BothAlike a b m' n'
  by_alike (Some r) call m n e h k = refused_alike m n e (refusing call r) h k
  by_alike None call None n e h k = absurd h
  by_alike None call (Some c) None e h k = absurd k
  by_alike None call (Some c) (Some d) e h k = accepts_alike c d (same_Some (bare c) (bare d) e) call h k

pub does_alike : (call : Call) (m n m' n' : Model) (a b : Answer) → Alike m n → Does call m a m' → Does call n b n' → BothAlike a b m' n'
does_alike call m n m' n' a b e h k =
    does_cases m a m' (λ x. Does x n b n' → BothAlike a b m' n')
    (λ file g l. load_alike m' n' a b m n e (depth m) file g (subst (λ z. LoadsAt z file n b n') (sym (depth_alike m n e)) l))
    (λ x g l. does_cases n b n' (λ y. By (refusal y m) y m a m' → BothAlike a b m' n')
    (λ file _ no. absurd (no_load file m a m' no))
    (λ y q p. by_alike m' n' a b (refusal y m) y m n e p (subst (λ o. By o y n b n') (sym (refusal_alike y m n e)) q))
    x l g)
    call h k
