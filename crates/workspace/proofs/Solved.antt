-- The facts that are held are solved, whatever calls were made.
use Rattle.std.proofs.Common.{◌≡◌, ℕ, zero, suc, List, [], ◌∷◌, inl, inr, Some, None, Option, Ok, Err, Result, sym, subst}
use Rattle.bytecode.specs.declared.instr.Instr.{Instr}
use Rattle.bytecode.specs.declared.unit.Unit.{Unit as TheUnit}
use Rattle.bytecode.specs.declared.fault.ReadFault.{ReadFault}
use Rattle.analyses.specs.declared.verify.VerifierFault.{VerifierFault}
use Rattle.workspace.specs.declared.refusal.Refusal.{Refusal}
use Rattle.workspace.specs.Contents.{Contents, IsSolved}
use Rattle.workspace.specs.Calls.{Call, Answer, load, opens, propose, tidy, keep, abandon, run, write_out, facts_at, take_counts, unit_now}
use Rattle.workspace.specs.Does.{Model, Does, By, Accepts, Holds, Tidies, ByVerdict, ByReading, LoadsAt, refusal, depth}
use Rattle.workspace.proofs.Cases.{does_cases}
use Rattle.workspace.specs.Histories.{Event, Runs}

-- the facts of the unit that is held, if one is, are solved
abbrev pub HoldsSolved : Model → Type 0
HoldsSolved None = Unit {0}
HoldsSolved (Some c) = IsSolved c

holds_solved : {u : TheUnit} {codes : List (List Instr)} {m : Model} → Holds u codes m → HoldsSolved m
holds_solved h = subst HoldsSolved (sym h.is) h.solved

tidies_solved : (n : ℕ) (c : Contents) (m : Model) → IsSolved c → Tidies n c m → HoldsSolved m
tidies_solved zero c m g h = subst HoldsSolved (sym h.1) g
tidies_solved (suc n) c m g h = tidies_solved n h.4 m (holds_solved h.5) h.6

-- what is open says nothing of the facts
reopened : (c : Contents) (codes : List (List Instr)) → IsSolved c → IsSolved (record c { opened = codes })
reopened c codes g = record { types = g.types; constants = g.constants; lives = g.lives }

accepts_solved : (call : Call) (c : Contents) (a : Answer) (m : Model) → IsSolved c → Accepts call c a m → HoldsSolved m
accepts_solved (load file) c a m g h = absurd h
accepts_solved opens c a m g h = subst HoldsSolved (sym h.1) (reopened c _ g)
accepts_solved (propose d p i) c a m g (inl h) = holds_solved h.4
accepts_solved (propose d p i) c a m g (inr h) = subst HoldsSolved (sym h.2) g
accepts_solved (tidy d) c a m g h = tidies_solved h.0 c m g h.2
accepts_solved (keep d) c a m g h = subst HoldsSolved (sym h.1) (reopened c _ g)
accepts_solved (abandon d) c a m g h = holds_solved h.4
accepts_solved (run inputs buffer budget) c a m g h = subst HoldsSolved (sym h.1) g
accepts_solved (write_out buffer) c a m g h = subst HoldsSolved (sym h.1) g
accepts_solved (facts_at p) c a m g h = subst HoldsSolved (sym h.1) g
accepts_solved take_counts c a m g h = subst HoldsSolved (sym h.1) g
accepts_solved unit_now c a m g h = subst HoldsSolved (sym h.1) g

by_solved : (o : Option Refusal) (call : Call) (m : Model) (a : Answer) (m' : Model) → HoldsSolved m → By o call m a m' → HoldsSolved m'
by_solved (Some r) call m a m' g h = subst HoldsSolved (sym h.1) g
by_solved None call None a m' g h = absurd h
by_solved None call (Some c) a m' g h = accepts_solved call c a m' g h

verdict_solved : (r : Result (Unit {0}) VerifierFault) (u : TheUnit) (m : Model) (a : Answer) (m' : Model)
    → HoldsSolved m → ByVerdict r u m a m' → HoldsSolved m'
verdict_solved (Ok t) u m a m' g h = holds_solved h.1
verdict_solved (Err fault) u m a m' g h = subst HoldsSolved (sym h.1) g

reading_solved : (r : Result TheUnit ReadFault) (m : Model) (a : Answer) (m' : Model) → HoldsSolved m → ByReading r m a m' → HoldsSolved m'
reading_solved (Ok u) m a m' g h = verdict_solved h.verdict u m a m' g h.by
reading_solved (Err fault) m a m' g h = subst HoldsSolved (sym h.1) g

load_solved : (d : ℕ) (file : List ℕ) (m : Model) (a : Answer) (m' : Model) → HoldsSolved m → LoadsAt d file m a m' → HoldsSolved m'
load_solved zero file m a m' g h = reading_solved h.0 m a m' g h.2
load_solved (suc d) file m a m' g h = subst HoldsSolved (sym h.1) g

pub does_solved : (call : Call) (m : Model) (a : Answer) (m' : Model) → HoldsSolved m → Does call m a m' → HoldsSolved m'
does_solved call m a m' g =
    does_cases m a m' (λ _. HoldsSolved m') (λ file. load_solved (depth m) file m a m' g) (λ other. by_solved (refusal other m) other m a m' g) call

pub runs_solved : (es : List Event) (m m' : Model) → HoldsSolved m → Runs m es m' → HoldsSolved m'
runs_solved [] m m' g r = subst HoldsSolved r g
runs_solved (e ∷ es) m m' g r = runs_solved es r.0 m' (does_solved e.call m e.answer r.0 g r.1) r.2

pub always_solved : (es : List Event) (m : Model) → Runs None es m → (c : Contents) → m ≡ Some c → IsSolved c
always_solved es m r c e = subst HoldsSolved e (runs_solved es None m tt r)
