-- What every history of some calls answers, call by call.
use Rattle.std.proofs.Common.{◌≡◌, ℕ, ◌≤◌, false, List, [], ◌∷◌, ◌++◌, length, drop, ℤ, Some, None, Ok, Err, Result, refl, sym, ap, ◌∙◌, subst, arith}
use Rattle.std.specs.Prelude.{nat_lt}
use Rattle.std.proofs.lemmas.Bool.{le-ltb}
use Rattle.bytecode.specs.declared.instr.Instr.{Instr}
use Rattle.bytecode.specs.declared.unit.Unit.{Unit as TheUnit}
use Rattle.bytecode.specs.declared.fault.ReadFault.{ReadFault}
use Rattle.bytecode.specs.Files.{held, bytes_of, Outcome}
use Rattle.bytecode.proofs.Units.{one_outcome}
use Rattle.analyses.specs.declared.verify.VerifierFault.{VerifierFault}
use Rattle.dataflow.specs.Analysis.{LeastSolution}
use Rattle.facts.specs.declared.cell.TypeCell.{TypeCell}
use Rattle.facts.specs.declared.frame.Frame.{Frame}
use Rattle.facts.specs.Frames.{Fitting}
use Rattle.analyses.specs.Frameworks.{types_of}
use Rattle.analyses.specs.Verdicts.{Judged}
use Rattle.analyses.proofs.Verdicts.{one_verdict}
use Rattle.keep.specs.Keeps.{IsAccepted}
use Rattle.keep.proofs.Lower.{accepted_iff_least}
use Rattle.machine.specs.declared.answer.Answer.{Answer as RunAnswer}
use Rattle.machine.specs.Machine.{Whole, whole_run, Answers}
use Rattle.workspace.specs.declared.refusal.LoadFault.TheVariants as L
use Rattle.workspace.specs.declared.refusal.Refusal.TheVariants.{TooShort}
use Rattle.workspace.specs.Refusals.{from_read}
use Rattle.workspace.specs.Contents.{Contents, IsSolved}
use Rattle.workspace.specs.Calls.{Call, Answer, load, opens, keep, run, write_out, loaded, opened, kept, ran, written, not_loaded}
use Rattle.workspace.specs.Does.{Model, Does, By, Accepts, Holds, Verifies, ByVerdict, ByReading, first}
use Rattle.workspace.specs.Histories.{Event, event, Runs, calls_of, answers_of, untimed}
use Rattle.samples.specs.Samples.{Answered}
use Rattle.samples.proofs.Holdable.{holdable}

-- the calls can be made from here on, and every history of them answers so
pub record AnsweredFrom (m : Model) (calls : List Call) (answers : List Answer) : Type 0 where
  pub possible : (es : List Event) × (end : Model) × Runs m es end × (calls_of es ≡ calls)
  pub always : (es : List Event) (end : Model) → Runs m es end → calls_of es ≡ calls → answers_of es ≡ answers

from_new : {calls : List Call} {answers : List Answer} → AnsweredFrom None calls answers → Answered calls answers
from_new h = record { possible = h.possible; always = h.always }

pub none_answered : (m : Model) → AnsweredFrom m [] []
none_answered m = record { possible = ([], m, refl, refl); always = always }
  where
    always : (es : List Event) (end : Model) → Runs m es end → calls_of es ≡ [] → answers_of es ≡ []
    always [] end r e = refl
    always (x ∷ es) end r e = absurd cc

-- a call that can be made, after which the others are answered
pub call_answered : (m : Model) (call : Call) (calls : List Call) (a : Answer) (answers : List Answer)
    → (x : Answer) (n : Model) → Does call m x n
    → ((x : Answer) (n : Model) → Does call m x n → (untimed x ≡ a) × AnsweredFrom n calls answers)
    → AnsweredFrom m (call ∷ calls) (a ∷ answers)
call_answered m call calls a answers x n does each =
    record { possible = (event call x ∷ rest.0, rest.1, (n, does, rest.2), ap (λ cs. call ∷ cs) rest.3); always = always }
  where
    rest : (es : List Event) × (end : Model) × Runs n es end × (calls_of es ≡ calls)
    rest = (each x n does).1.possible

    always : (es : List Event) (end : Model) → Runs m es end → calls_of es ≡ call ∷ calls → answers_of es ≡ a ∷ answers
    always [] end r e = absurd cc
    always (y ∷ es) end r e =
        let first : y.call ≡ call = cc in
        let others : calls_of es ≡ calls = cc in
        let both = each y.answer r.0 (subst (λ c. Does c m y.answer r.0) first r.1) in
        let later = both.1.always es end r.2 others in
        λ i. both.0 i ∷ later i

-- the unit is held, these attempts are open, and the rest is solved
abbrev pub with_unit : TheUnit → List (List Instr) → Contents → Contents
with_unit u codes d = record d { unit = u; opened = codes }

-- every history of the calls where the unit is held, and these attempts are open
abbrev pub AnsweredHolding : TheUnit → List (List Instr) → List Call → List Answer → Type 0
AnsweredHolding u codes calls answers = (d : Contents) → IsSolved (with_unit u codes d) → AnsweredFrom (Some (with_unit u codes d)) calls answers

pub with_unit_is : (c : Contents) (u : TheUnit) (codes : List (List Instr)) → c.unit ≡ u → c.opened ≡ codes → c ≡ with_unit u codes c
with_unit_is c u codes e o = λ i. record { unit = e i; types = c.types; constants = c.constants; lives = c.lives; takes = c.takes; opened = o i }

pub held_answered : (u : TheUnit) (codes : List (List Instr)) (calls : List Call) (answers : List Answer) → AnsweredHolding u codes calls answers
    → (m : Model) → Holds u codes m → AnsweredFrom m calls answers
held_answered u codes calls answers next m h =
    let is = with_unit_is h.contents u codes h.unit h.opened in
    subst (λ x. AnsweredFrom x calls answers) (sym (h.is ∙ ap Some is)) (next h.contents (subst IsSolved is h.solved))

-- it is held so, where the rest is solved
pub holds_with : (u : TheUnit) (codes : List (List Instr)) (d : Contents) → IsSolved (with_unit u codes d) → Holds u codes (Some (with_unit u codes d))
holds_with u codes d solved = record { contents = with_unit u codes d; is = refl; unit = refl; opened = refl; solved = solved }

module _ (u : TheUnit) (accepted : IsAccepted u) (x : Answer) (m : Model) where
  verified : (v : Verifies u None x m) → (x ≡ loaded) × Holds u [] m
  verified v = go v.verdict v.judged v.by
    where
      go : (r : Result (Unit {0}) VerifierFault) → Judged u v.types r → ByVerdict r u None x m → (x ≡ loaded) × Holds u [] m
      go (Ok t) judged h = h
      go (Err fault) judged h = let fine = (accepted_iff_least u v.types v.least).0 accepted fault.place judged.inside in let there = judged.there in absurd cc

  loads_accepted : (file : List ℕ) → bytes_of u ≡ file → Does (load file) None x m → (x ≡ loaded) × Holds u [] m
  loads_accepted file is h = verified (subst (λ s. ByReading s None x m) (one_outcome file h.0 (Ok u) h.1 is) h.2)

pub load_answered : (u : TheUnit) (file : List ℕ) (calls : List Call) (answers : List Answer) → IsAccepted u → bytes_of u ≡ file
    → AnsweredHolding u [] calls answers → Answered (load file ∷ calls) (loaded ∷ answers)
load_answered u file calls answers accepted is next =
    let (d, solved) = holdable u [] in
    let least = solved.types.least in
    let v : Verifies u None loaded (Some (with_unit u [] d)) = record {
      types = d.types;
      least = least;
      verdict = Ok tt;
      judged = (accepted_iff_least u d.types least).0 accepted;
      by = (refl, holds_with u [] d solved);
    } in
    from_new (call_answered None (load file) calls loaded answers loaded (Some (with_unit u [] d)) (Ok u, is, v)
    (λ x n does. let both = loads_accepted u accepted x n file is does in (ap untimed both.0, held_answered u [] calls answers next n both.1)))

-- a whole answer as a run gives it
abbrev pub shown_by : Whole → RunAnswer
shown_by whole = record { ending = whole.ending; place = whole.place; steps = whole.steps; used = whole.used; written = length whole.outputs }

-- the reader refuses the file
pub load_refused : (file : List ℕ) (fault : ReadFault) → Outcome file (Err fault) → Answered (load file ∷ []) (not_loaded (from_read fault) ∷ [])
load_refused file fault refuses =
    from_new (call_answered None (load file) [] (not_loaded (from_read fault)) [] (not_loaded (from_read fault)) None (Err fault, refuses, (refl, refl))
    (λ x n does. let by = subst (λ s. ByReading s None x n) (one_outcome file does.0 (Err fault) does.1 refuses) does.2 in
    (ap untimed by.0, none_answered n)))

-- the verifier refuses the unit
pub load_unverified : (u : TheUnit) (file : List ℕ) (fault : VerifierFault) → bytes_of u ≡ file
    → ((types : ℕ → Frame TypeCell) → LeastSolution Fitting (types_of u) types → Judged u types (Err fault))
    → Answered (load file ∷ []) (not_loaded (L.Verifier fault) ∷ [])
load_unverified u file fault is judges =
    let (d, solved) = holdable u [] in
    let v : Verifies u None (not_loaded (L.Verifier fault)) None = record {
      types = d.types;
      least = solved.types.least;
      verdict = Err fault;
      judged = judges d.types solved.types.least;
      by = (refl, refl);
    } in
    from_new (call_answered None (load file) [] (not_loaded (L.Verifier fault)) [] (not_loaded (L.Verifier fault)) None (Ok u, is, v)
    (λ x n does. let v : Verifies u None x n = subst (λ s. ByReading s None x n) (one_outcome file does.0 (Ok u) does.1 is) does.2 in
    let same = one_verdict u v.types (Err fault) v.verdict (judges v.types v.least) v.judged in
    let by = subst (λ s. ByVerdict s u None x n) same v.by in
    (ap untimed by.0, none_answered n)))

module _ (u : TheUnit) (calls : List Call) (answers : List Answer) where
  -- what is held stays as it is
  stays_answered : (codes : List (List Instr)) (d : Contents) (n : Model) → n ≡ Some (with_unit u codes d) → AnsweredFrom (Some (with_unit u codes d)) calls answers
      → AnsweredFrom n calls answers
  stays_answered codes d n is next = subst (λ x. AnsweredFrom x calls answers) (sym is) next

  pub open_answered : AnsweredHolding u (held u ∷ []) calls answers → AnsweredHolding u [] (opens ∷ calls) (opened 1 ∷ answers)
  open_answered next d solved =
      call_answered (Some (with_unit u [] d)) opens calls (opened 1) answers (opened 1) (Some (with_unit u (held u ∷ []) d)) (refl, refl)
      (λ x n does. (
        ap untimed does.0,
        stays_answered (held u ∷ []) d n does.1 (next d (record { types = solved.types; constants = solved.constants; lives = solved.lives })),
      ))

  pub keep_answered : (code : List Instr) → AnsweredHolding u [] calls answers → AnsweredHolding u (code ∷ []) (keep 1 ∷ calls) (kept ∷ answers)
  keep_answered code next d solved =
      call_answered (Some (with_unit u (code ∷ []) d)) (keep 1) calls kept answers kept (Some (with_unit u [] d)) (refl, refl)
      (λ x n does. (
        ap untimed does.0,
        stays_answered [] d n does.1 (next d (record { types = solved.types; constants = solved.constants; lives = solved.lives })),
      ))

  pub write_answered : (file buffer : List ℕ) → bytes_of u ≡ file → length file ≤ length buffer → AnsweredHolding u [] calls answers
      → AnsweredHolding u [] (write_out buffer ∷ calls) (written (length file) (file ++ drop (length file) buffer) ∷ answers)
  write_answered file buffer is room next d solved =
      let fits : nat_lt (length buffer) (length (bytes_of u)) ≡ false = le-ltb (length buffer) (length (bytes_of u)) (omega (arith, room, ap length is)) in
      let bytes = bytes_of u in
      let after = bytes ++ drop (length bytes) buffer in
      let c = Some (with_unit u [] d) in
      let answer = written (length bytes) after in
      let wrote : Accepts (write_out buffer) (with_unit u [] d) answer c = ((length bytes, after, record { count = refl; bytes = refl }, refl), refl) in
      call_answered c (write_out buffer) calls (written (length file) (file ++ drop (length file) buffer)) answers answer c
      (subst (λ b. By (first b TooShort None) (write_out buffer) c answer c) (sym fits) wrote)
      (λ x n does.
      let by = subst (λ b. By (first b TooShort None) (write_out buffer) (Some (with_unit u [] d)) x n) fits does in
      let count : by.0.0 ≡ length file = by.0.2.count ∙ ap length is in
      let bytes : by.0.1 ≡ file ++ drop (length file) buffer = by.0.2.bytes ∙ (λ i. is i ++ drop (count i) buffer) in
      (ap untimed (by.0.3 ∙ (λ i. written (count i) (bytes i))), stays_answered [] d n by.1 (next d solved)))

  pub run_answered : (codes : List (List Instr)) (inputs buffer : List ℤ) (budget : ℕ) (whole : Whole) → whole_run (held u) inputs (length buffer) budget ≡ whole
      → AnsweredHolding u codes calls answers
      → AnsweredHolding u codes (run inputs buffer budget ∷ calls) (ran (shown_by whole) (whole.outputs ++ drop (length whole.outputs) buffer) ∷ answers)
  run_answered codes inputs buffer budget whole is next d solved =
      let own = whole_run (held u) inputs (length buffer) budget in
      let after = own.outputs ++ drop (length own.outputs) buffer in
      let answers_own : Answers own (shown_by own) buffer after = record { ending = refl; place = refl; steps = refl; used = refl; written = refl; buffer = refl } in
      call_answered (Some (with_unit u codes d)) (run inputs buffer budget) calls (ran (shown_by whole) (whole.outputs ++ drop (length whole.outputs) buffer)) answers
      (ran (shown_by own) after) (Some (with_unit u codes d)) ((shown_by own, after, answers_own, refl), refl)
      (λ x n does.
      let run : Answers whole does.0.0 buffer does.0.1 = subst (λ w. Answers w does.0.0 buffer does.0.1) is does.0.2 in
      let count = run.written in
      let answer : does.0.0 ≡ shown_by whole = λ i. record { ending = run.ending i; place = run.place i; steps = run.steps i; used = run.used i; written = count i } in
      let after : does.0.1 ≡ whole.outputs ++ drop (length whole.outputs) buffer = run.buffer ∙ ap (λ k. whole.outputs ++ drop k buffer) count in
      (ap untimed (does.0.3 ∙ (λ i. ran (answer i) (after i))), stays_answered codes d n does.1 (next d solved)))
