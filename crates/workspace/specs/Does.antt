-- What each call does to a workspace and answers. Assumes nothing.
use Rattle.std.specs.Prelude.{◌≡◌, ℕ, zero, suc, ◌+◌, Bool, true, false, not, ◌&&◌, ◌==◌, ◌⊎◌, List, [], ◌∷◌, length, drop, Some, None, Option, Ok, Err, Result, nat_le, nat_lt, slice_index_or, ℤ}
use Rattle.bytecode.specs.declared.instr.Instr.{Instr}
use Rattle.bytecode.specs.declared.unit.Unit.{Unit as TheUnit}
use Rattle.bytecode.specs.declared.fault.ReadFault.{ReadFault}
use Rattle.bytecode.specs.Files.{held, bytes_of, Outcome, Written}
use Rattle.machine.specs.declared.answer.Answer.{Answer as RunAnswer}
use Rattle.machine.specs.Machine.{whole_run, Answers}
use Rattle.dataflow.specs.Analysis.{LeastSolution}
use Rattle.facts.specs.declared.cell.TypeCell.{TypeCell}
use Rattle.facts.specs.declared.frame.Frame.{Frame}
use Rattle.facts.specs.Frames.{Fitting}
use Rattle.analyses.specs.declared.verify.VerifierFault.{VerifierFault}
use Rattle.analyses.specs.Edges.{instr_at}
use Rattle.analyses.specs.Frameworks.{types_of}
use Rattle.analyses.specs.Verdicts.{Judged}
use Rattle.rewrite.specs.declared.rule.Rule.{Rule}
use Rattle.rewrite.specs.Rules.{Yields}
use Rattle.rewrite.specs.declared.change.Change.{Change}
use Rattle.rewrite.specs.Choices.{LowestChange, NothingToDo}
use Rattle.keep.specs.Keeps.{IsChanged}
use Rattle.workspace.specs.declared.refusal.LoadFault.TheVariants as L
use Rattle.workspace.specs.declared.refusal.Refusal.{Refusal}
use Rattle.workspace.specs.declared.refusal.Refusal.TheVariants.{AttemptOpen, NoUnit, TooDeep, NotInnermost, NoPlace, NoRule, TooShort}
use Rattle.workspace.specs.Refusals.{from_read}
use Rattle.workspace.specs.Contents.{Contents, IsSolved}
use Rattle.workspace.specs.Calls.{Call, Answer, load, opens, propose, tidy, keep, abandon, run, write_out, facts_at, take_counts, unit_now, loaded, opened, changed, tidied, kept, abandoned, ran, written, shown, counted, is_unit, not_loaded, refused, returned, not_run, not_written}

-- a workspace: none where no unit is loaded
abbrev pub Model : Type 0
Model = Option Contents

abbrev pub depth : Model → ℕ
depth None = 0
depth (Some c) = length c.opened

abbrev pub has_no_unit : Model → Bool
has_no_unit None = true
has_no_unit (Some c) = false

abbrev pub has_no_place : Model → ℕ → Bool
has_no_place None p = true
has_no_place (Some c) p = nat_le c.unit.len p

abbrev pub is_short : Model → List ℕ → Bool
is_short None buffer = true
is_short (Some c) buffer = nat_lt (length buffer) (length (bytes_of c.unit))

-- a token counts by its depth alone
abbrev pub is_not_innermost : Model → ℕ → Bool
is_not_innermost m d = not (nat_lt 0 d && d == depth m)

-- the first check that fails
abbrev pub first : Bool → Refusal → Option Refusal → Option Refusal
first true r next = Some r
first false r next = next

-- the checks of each call but load, in their order; whether a rule yields the instruction is the last check of propose
abbrev pub refusal : Call → Model → Option Refusal
refusal (load file) m = None
refusal opens m = first (has_no_unit m) NoUnit (first (nat_le 8 (depth m)) TooDeep None)
refusal (propose d p i) m = first (has_no_unit m) NoUnit (first (is_not_innermost m d) NotInnermost (first (has_no_place m p) NoPlace None))
refusal (tidy d) m = first (has_no_unit m) NoUnit (first (is_not_innermost m d) NotInnermost None)
refusal (keep d) m = first (has_no_unit m) NoUnit (first (is_not_innermost m d) NotInnermost None)
refusal (abandon d) m = first (has_no_unit m) NoUnit (first (is_not_innermost m d) NotInnermost None)
refusal (run inputs buffer budget) m = first (has_no_unit m) NoUnit None
refusal (write_out buffer) m = first (nat_lt 0 (depth m)) AttemptOpen (first (has_no_unit m) NoUnit (first (is_short m buffer) TooShort None))
refusal (facts_at p) m = first (has_no_unit m) NoUnit (first (has_no_place m p) NoPlace None)
refusal take_counts m = first (has_no_unit m) NoUnit None
refusal unit_now m = first (has_no_unit m) NoUnit None

-- a refusal gives back the token, and leaves the buffer
abbrev pub refusing : Call → Refusal → Answer
refusing (load file) r = refused r
refusing opens r = refused r
refusing (propose d p i) r = refused r
refusing (tidy d) r = refused r
refusing (keep d) r = returned r d
refusing (abandon d) r = returned r d
refusing (run inputs buffer budget) r = not_run r buffer
refusing (write_out buffer) r = not_written r buffer
refusing (facts_at p) r = refused r
refusing take_counts r = refused r
refusing unit_now r = refused r

-- the unit is held, its facts are solved, and these attempts are open
pub record Holds (u : TheUnit) (codes : List (List Instr)) (m : Model) : Type 0 where
  pub contents : Contents
  pub is : m ≡ Some contents
  pub unit : contents.unit ≡ u
  pub opened : contents.opened ≡ codes
  pub solved : IsSolved contents

-- n changes, each by the lowest rule at the lowest place that has one, with the facts solved anew, after which no rule yields anything
abbrev pub Tidies : ℕ → Contents → Model → Type 0
Tidies zero c m = NothingToDo c.unit c.constants c.lives × (m ≡ Some c)
Tidies (suc n) c m =
    (x : Change) × LowestChange c.unit c.constants c.lives x × (u : TheUnit) × IsChanged c.unit x.place x.instr u × (d : Contents) × Holds u c.opened (Some d) × Tidies n d m

-- what a call that passes the checks above does to what is held, and answers; whether a rule yields the instruction of a
-- propose, its last check, is here
abbrev pub Accepts : Call → Contents → Answer → Model → Type 0
Accepts (load file) c a m = ⊥
Accepts opens c a m = (a ≡ opened (length c.opened + 1)) × (m ≡ Some (record c { opened = held c.unit ∷ c.opened }))
Accepts (propose d p i) c a m =
    (((r : Rule) × Yields r (instr_at c.unit p) (c.constants p) (c.lives p) i) × (a ≡ changed) × (u : TheUnit) × IsChanged c.unit p i u × Holds u c.opened m)
    ⊎ (((r : Rule) → Yields r (instr_at c.unit p) (c.constants p) (c.lives p) i → ⊥) × (a ≡ refused NoRule) × (m ≡ Some c))
Accepts (tidy d) c a m = (n : ℕ) × (a ≡ tidied n) × Tidies n c m
Accepts (keep d) c a m = (a ≡ kept) × (m ≡ Some (record c { opened = drop 1 c.opened }))
Accepts (abandon d) c a m =
    (a ≡ abandoned) × (u : TheUnit) × (u.locals ≡ c.unit.locals) × (held u ≡ slice_index_or c.opened 0 []) × Holds u (drop 1 c.opened) m
Accepts (run inputs buffer budget) c a m =
    ((r : RunAnswer) × (after : List ℤ) × Answers (whole_run (held c.unit) inputs (length buffer) budget) r buffer after × (a ≡ ran r after)) × (m ≡ Some c)
Accepts (write_out buffer) c a m =
    ((n : ℕ) × (after : List ℕ) × Written (bytes_of c.unit) buffer after n × (a ≡ written n after)) × (m ≡ Some c)
Accepts (facts_at p) c a m = (a ≡ shown (record { types = c.types p; constants = c.constants p; live = c.lives p })) × (m ≡ Some c)
Accepts take_counts c a m = (a ≡ counted c.takes) × (m ≡ Some c)
Accepts unit_now c a m = (a ≡ is_unit c.unit) × (m ≡ Some c)

abbrev pub By : Option Refusal → Call → Model → Answer → Model → Type 0
By (Some r) call m a m' = (a ≡ refusing call r) × (m' ≡ m)
By None call None a m' = ⊥
By None call (Some c) a m' = Accepts call c a m'

-- the unit u is loaded, if the verifier accepts it by its least type frames
abbrev pub ByVerdict : Result (Unit {0}) VerifierFault → TheUnit → Model → Answer → Model → Type 0
ByVerdict (Ok t) u m a m' = (a ≡ loaded) × Holds u [] m'
ByVerdict (Err fault) u m a m' = (a ≡ not_loaded (L.Verifier fault)) × (m' ≡ m)

pub record Verifies (u : TheUnit) (m : Model) (a : Answer) (m' : Model) : Type 0 where
  pub types : ℕ → Frame TypeCell
  pub least : LeastSolution Fitting (types_of u) types
  pub verdict : Result (Unit {0}) VerifierFault
  pub judged : Judged u types verdict
  pub by : ByVerdict verdict u m a m'

abbrev pub ByReading : Result TheUnit ReadFault → Model → Answer → Model → Type 0
ByReading (Ok u) m a m' = Verifies u m a m'
ByReading (Err fault) m a m' = (a ≡ not_loaded (from_read fault)) × (m' ≡ m)

-- a file is loaded where no attempt is open, whether a unit is held or not
abbrev pub LoadsAt : ℕ → List ℕ → Model → Answer → Model → Type 0
LoadsAt zero file m a m' = (r : Result TheUnit ReadFault) × Outcome file r × ByReading r m a m'
LoadsAt (suc d) file m a m' = (a ≡ not_loaded L.AttemptOpen) × (m' ≡ m)

-- what a call does: the first check that fails refuses it, and leaves the workspace as it was
abbrev pub Does : Call → Model → Answer → Model → Type 0
Does (load file) m a m' = LoadsAt (depth m) file m a m'
Does opens m a m' = By (refusal opens m) opens m a m'
Does (propose d p i) m a m' = By (refusal (propose d p i) m) (propose d p i) m a m'
Does (tidy d) m a m' = By (refusal (tidy d) m) (tidy d) m a m'
Does (keep d) m a m' = By (refusal (keep d) m) (keep d) m a m'
Does (abandon d) m a m' = By (refusal (abandon d) m) (abandon d) m a m'
Does (run inputs buffer budget) m a m' = By (refusal (run inputs buffer budget) m) (run inputs buffer budget) m a m'
Does (write_out buffer) m a m' = By (refusal (write_out buffer) m) (write_out buffer) m a m'
Does (facts_at p) m a m' = By (refusal (facts_at p) m) (facts_at p) m a m'
Does take_counts m a m' = By (refusal take_counts m) take_counts m a m'
Does unit_now m a m' = By (refusal unit_now m) unit_now m a m'
