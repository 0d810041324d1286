-- Every call but an accepted load keeps how the code runs: the held unit, and each that an abandon would put back, runs as the unit that was loaded.
use Rattle.std.proofs.Common.{◌≡◌, ℕ, zero, suc, List, [], ◌∷◌, get_or, drop, All, ◌⊎◌, inl, inr, Some, None, refl, sym, ◌∙◌, subst, arith}
use Rattle.std.proofs.lemmas.Bool.{leb-false}
use Rattle.std.proofs.lemmas.List.Elements.{All-nil, All-cons, All-get_or, All-drop}
use Rattle.bytecode.specs.declared.instr.Instr.{Instr}
use Rattle.bytecode.specs.declared.unit.Unit.{Unit as TheUnit}
use Rattle.bytecode.specs.Files.{held}
use Rattle.bytecode.proofs.Units.{unit_from_held}
use Rattle.machine.specs.Laws.{SameAnswers}
use Rattle.rewrite.specs.declared.rule.Rule.{Rule}
use Rattle.sound.proofs.Types.{no_stuck_turn}
use Rattle.keep.specs.Keeps.{IsNeverStuck, YieldsAt, IsChanged, IsAccepted}
use Rattle.keep.proofs.RunsKept.{rules_keep_runs}
use Rattle.keep.proofs.AcceptanceKept.{rules_keep_acceptance}
use Rattle.workspace.specs.Contents.{Contents, IsSolved}
use Rattle.workspace.specs.Calls.{Call, Answer, load, opens, propose, tidy, keep, abandon, run, write_out, facts_at, take_counts, unit_now}
use Rattle.workspace.specs.Does.{Model, Does, Accepts, Holds, Tidies, refusal}
use Rattle.workspace.proofs.Cases.{passes, innermost}
use Rattle.workspace.proofs.Solved.{HoldsSolved}
use Rattle.workspace.proofs.KeptCalls.{Loads, Ended, refuses, faults, accepts, loads, does_ended}

-- the unit v runs as u does, and the verifier accepts it
pub record RunsAs (u v : TheUnit) : Type 0 where
  pub locals : v.locals ≡ u.locals
  pub same : SameAnswers (held u) (held v)
  pub accepted : IsAccepted v

-- the code is that of a unit that runs as u does
abbrev pub IsCodeAs : TheUnit → List Instr → Type 0
IsCodeAs u code = (v : TheUnit) × (held v ≡ code) × RunsAs u v

pub record KeptIn (u : TheUnit) (c : Contents) : Type 0 where
  pub now : RunsAs u c.unit
  pub before : All (IsCodeAs u) c.opened

-- a unit is held, and it and all that it may go back to run as u does
pub record Kept (u : TheUnit) (m : Model) : Type 0 where
  pub contents : Contents
  pub is : m ≡ Some contents
  pub kept : KeptIn u contents

never_stuck : (u : TheUnit) → IsAccepted u → IsNeverStuck (held u)
never_stuck u a = no_stuck_turn u a.0 a.1 a.2

module _ (u : TheUnit) where
  pub kept_in : (c : Contents) → Kept u (Some c) → KeptIn u c
  kept_in c k = let is : k.contents ≡ c = let e = k.is in cc in subst (KeptIn u) is k.kept

  kept_from : {c : Contents} {m : Model} → m ≡ Some c → KeptIn u c → Kept u m
  kept_from {c} is k = record { contents = c; is = is; kept = k }

  holds_kept : {v : TheUnit} {codes : List (List Instr)} {m : Model} → Holds v codes m → RunsAs u v → All (IsCodeAs u) codes → Kept u m
  holds_kept h now before = record {
    contents = h.contents;
    is = h.is;
    kept = record { now = subst (RunsAs u) (sym h.unit) now; before = subst (All (IsCodeAs u)) (sym h.opened) before };
  }

  -- one change by a rule, by the facts that are held
  change_runs : (c : Contents) (r : Rule) (p : ℕ) (new : Instr) (v : TheUnit) → IsSolved c → YieldsAt r c.unit c.constants c.lives p new
      → IsChanged c.unit p new v → RunsAs u c.unit → RunsAs u v
  change_runs c r p new v s y changed now =
      let lives = s.lives.least.solution in
      let runs = rules_keep_runs r c.unit v c.constants c.lives p new (never_stuck c.unit now.accepted)
      (record { constants = s.constants.least.solution; lives = lives }) y changed in
      record {
        locals = changed.locals ∙ now.locals;
        same = λ inputs room budget. now.same inputs room budget ∙ runs.0 inputs room budget;
        accepted = rules_keep_acceptance r c.unit v c.constants c.lives p new s.constants.least lives y changed now.accepted;
      }

  tidies_kept : (n : ℕ) (c : Contents) (m : Model) → IsSolved c → KeptIn u c → Tidies n c m → Kept u m
  tidies_kept zero c m s k h = kept_from h.1 k
  tidies_kept (suc n) c m s k h =
      let x = h.0 in
      let y : YieldsAt x.rule c.unit c.constants c.lives x.place x.instr = record { inside = h.1.inside; yields = h.1.here.yields } in
      let now = change_runs c x.rule x.place x.instr h.2 s y h.3 k.now in
      let is : h.5.contents ≡ h.4 = let e = h.5.is in cc in
      tidies_kept n h.4 m (subst IsSolved is h.5.solved) (kept_in h.4 (holds_kept h.5 now k.before)) h.6

  -- the code that an abandon puts back
  innermost_as : (d : ℕ) (c : Contents) → refusal (abandon d) (Some c) ≡ None → All (IsCodeAs u) c.opened → IsCodeAs u (get_or c.opened 0 [])
  innermost_as d c fine before =
      let token = innermost d c fine in
      All-get_or (IsCodeAs u) c.opened 0 [] (omega (arith, token.0, token.1)) before

  -- the locals and the code make the unit
  put_back_runs : (v : TheUnit) (code : List Instr) → v.locals ≡ u.locals → held v ≡ code → IsCodeAs u code → RunsAs u v
  put_back_runs v code l is k = subst (RunsAs u) (unit_from_held k.0 v (k.2.locals ∙ sym l) (k.1 ∙ sym is)) k.2

  accepts_kept : (call : Call) (c : Contents) (a : Answer) (m : Model) → IsSolved c → refusal call (Some c) ≡ None → KeptIn u c → Accepts call c a m
      → Kept u m
  accepts_kept (load file) c a m s fine k h = absurd h
  accepts_kept opens c a m s fine k h = record {
    contents = record c { opened = held c.unit ∷ c.opened };
    is = h.1;
    kept = record { now = k.now; before = All-cons (IsCodeAs u) (held c.unit) c.opened (c.unit, refl, k.now) k.before };
  }
  accepts_kept (propose d p i) c a m s fine k (inl h) =
      let place = (passes _ _ _ (passes _ _ _ fine).1).0 in
      let y : YieldsAt h.0.0 c.unit c.constants c.lives p i = record { inside = leb-false c.unit.len p place; yields = h.0.1 } in
      holds_kept h.4 (change_runs c h.0.0 p i h.2 s y h.3 k.now) k.before
  accepts_kept (propose d p i) c a m s fine k (inr h) = kept_from h.2 k
  accepts_kept (tidy d) c a m s fine k h = tidies_kept h.0 c m s k h.2
  accepts_kept (keep d) c a m s fine k h = record {
    contents = record c { opened = drop 1 c.opened };
    is = h.1;
    kept = record { now = k.now; before = All-drop (IsCodeAs u) 1 c.opened k.before };
  }
  accepts_kept (abandon d) c a m s fine k h =
      let now = put_back_runs h.1 (get_or c.opened 0 []) (h.2 ∙ k.now.locals) h.3 (innermost_as d c fine k.before) in
      holds_kept h.4 now (All-drop (IsCodeAs u) 1 c.opened k.before)
  accepts_kept (run inputs buffer budget) c a m s fine k h = kept_from h.1 k
  accepts_kept (write_out buffer) c a m s fine k h = kept_from h.1 k
  accepts_kept (facts_at p) c a m s fine k h = kept_from h.1 k
  accepts_kept take_counts c a m s fine k h = kept_from h.1 k
  accepts_kept unit_now c a m s fine k h = kept_from h.1 k

  pub does_kept : (call : Call) (m : Model) (a : Answer) (m' : Model) → HoldsSolved m → Kept u m → Does call m a m' → Kept u m' ⊎ Loads call a m'
  does_kept call m a m' s k h = go (does_ended m a m' call h)
    where
      go : Ended call m a m' → Kept u m' ⊎ Loads call a m'
      go (refuses r e same) = inl (subst (Kept u) (sym same) k)
      go (faults fault e same) = inl (subst (Kept u) (sym same) k)
      go (accepts c is fine h) =
          inl (accepts_kept call c a m' (subst HoldsSolved is s) (subst (λ n. refusal call n ≡ None) is fine) (kept_in c (subst (Kept u) is k)) h)
      go (loads l) = inr l

pub loaded_kept : {call : Call} {a : Answer} {m : Model} (l : Loads call a m) → Kept l.unit m
loaded_kept l =
    holds_kept l.unit l.holds (record { locals = refl; same = λ inputs room budget. refl; accepted = l.accepted }) (All-nil (IsCodeAs l.unit))
