-- From an accepted load on a unit is held that runs as the unit that was loaded, and the facts are solved.
use Rattle.std.proofs.Common.{◌≡◌, ℕ, List, [], ◌∷◌, ◌++◌, All, ◌⊎◌, inl, inr, Some, None, Ok, refl, ◌∙◌, subst}
use Rattle.std.proofs.lemmas.List.Elements.{All-head, All-tail}
use Rattle.bytecode.specs.declared.unit.Unit.{Unit as TheUnit}
use Rattle.bytecode.specs.Files.{held, Outcome}
use Rattle.bytecode.proofs.Units.{one_outcome}
use Rattle.machine.specs.Laws.{SameAnswers}
use Rattle.workspace.specs.Contents.{Contents, IsSolved}
use Rattle.workspace.specs.Calls.{Call, Answer, load, loaded}
use Rattle.workspace.specs.Does.{Model, Does}
use Rattle.workspace.specs.Histories.{Event, Runs, accepted_load, NoneLoaded}
use Rattle.workspace.proofs.Solved.{HoldsSolved, does_solved, runs_solved, always_solved}
use Rattle.workspace.proofs.KeptCalls.{Loads, Ended, refuses, faults, accepts, loads, does_ended}
use Rattle.workspace.proofs.KeptUnits.{Kept, kept_in, loaded_kept, does_kept}

pub runs_split : (xs ys : List Event) (m m' : Model) → Runs m (xs ++ ys) m' → (n : Model) × Runs m xs n × Runs n ys m'
runs_split [] ys m m' r = (m, refl, r)
runs_split (x ∷ xs) ys m m' r = let s = runs_split xs ys r.0 m' r.2 in (s.0, (r.0, r.1, s.1), s.2)

-- what each of the calls keeps, all of them keep
module _ (Good : Event → Type 0) (P : Model → Type 0)
    (step : (e : Event) (m m' : Model) → Good e → HoldsSolved m → P m → Does e.call m e.answer m' → P m') where
  pub runs_keep : (es : List Event) (m m' : Model) → All Good es → HoldsSolved m → P m → Runs m es m' → P m'
  runs_keep [] m m' g s p r = subst P r p
  runs_keep (e ∷ es) m m' g s p r =
      runs_keep es r.0 m' (All-tail Good e es g) (does_solved e.call m e.answer r.0 s r.1) (step e m r.0 (All-head Good e es g) s p r.1) r.2

-- a unit is held that runs as some unit that was loaded
abbrev pub IsKept : Model → Type 0
IsKept m = (u : TheUnit) × Kept u m

-- where no load is accepted, the unit that was loaded stays the measure
since_kept : (u : TheUnit) (es : List Event) (m m' : Model) → NoneLoaded es → HoldsSolved m → Kept u m → Runs m es m' → Kept u m'
since_kept u =
    runs_keep (λ e. (file : List ℕ) → e ≡ accepted_load file → ⊥) (Kept u)
    (λ e m m' none s k h. go e m' none (does_kept u e.call m e.answer m' s k h))
  where
    go : (e : Event) (m : Model) → ((file : List ℕ) → e ≡ accepted_load file → ⊥) → Kept u m ⊎ Loads e.call e.answer m → Kept u m
    go e m none (inl k) = k
    go e m none (inr l) = absurd (none l.file (λ i. record { call = l.is i; answer = l.answers i }))

-- the held unit runs as the one before, or as the one that was just loaded
is_kept : {u : TheUnit} {call : Call} {a : Answer} {m : Model} → Kept u m ⊎ Loads call a m → IsKept m
is_kept {u} (inl k) = (u, k)
is_kept (inr l) = (l.unit, loaded_kept l)

stays_kept : (es : List Event) (m m' : Model) → HoldsSolved m → IsKept m → Runs m es m' → IsKept m'
stays_kept es m m' = runs_keep (λ e. Unit {0}) IsKept (λ e m m' t s k h. is_kept (does_kept k.0 e.call m e.answer m' s k.1 h)) es m m' (λ k d l. tt)

-- where no unit is held yet, none is held after the call either, or one is loaded
starts_kept : (e : Event) (m m' : Model) → HoldsSolved m → (m ≡ None) ⊎ IsKept m → Does e.call m e.answer m' → (m' ≡ None) ⊎ IsKept m'
starts_kept e m m' s (inr k) h = inr (is_kept (does_kept k.0 e.call m e.answer m' s k.1 h))
starts_kept e m m' s (inl is) h = go (does_ended m e.answer m' e.call h)
  where
    go : Ended e.call m e.answer m' → (m' ≡ None) ⊎ IsKept m'
    go (refuses r f same) = inl (same ∙ is)
    go (faults fault f same) = inl (same ∙ is)
    go (accepts c f fine h) = cc
    go (loads l) = inr (l.unit, loaded_kept l)

pub always_kept : (es : List Event) (m : Model) → Runs None es m → (m ≡ None) ⊎ IsKept m
always_kept es m r =
    runs_keep (λ e. Unit {0}) (λ n. (n ≡ None) ⊎ IsKept n) (λ e m m' t. starts_kept e m m') es None m (λ k d l. tt) tt (inl refl) r

one_file : (f g : List ℕ) → load f ≡ load g → g ≡ f
one_file f g e = cc

-- a call that answers as an accepted load does is one
load_loads : (file : List ℕ) (m m' : Model) → Does (load file) m loaded m' → Loads (load file) loaded m'
load_loads file m m' h = go (does_ended m loaded m' (load file) h)
  where
    go : Ended (load file) m loaded m' → Loads (load file) loaded m'
    go (refuses r e same) = absurd cc
    go (faults fault e same) = absurd cc
    go (accepts c is fine h) = absurd h
    go (loads l) = l

-- calls on a workspace into which a file was just loaded
pub record Since (file : List ℕ) (es : List Event) (m : Model) : Type 0 where
  pub start : Model
  pub loads : Loads (load file) loaded start
  pub read : Outcome file (Ok loads.unit)
  pub solved : HoldsSolved start
  pub runs : Runs start es m

pub since_load : (before es : List Event) (file : List ℕ) (m : Model) → Runs None (before ++ accepted_load file ∷ es) m → Since file es m
since_load before es file m r =
    let s = runs_split before (accepted_load file ∷ es) None m r in
    let l = load_loads file s.0 s.2.0 s.2.1 in
    record {
      start = s.2.0;
      loads = l;
      read = subst (λ f. Outcome f (Ok l.unit)) (one_file file l.file l.is) l.read;
      solved = does_solved (load file) s.0 loaded s.2.0 (runs_solved before None s.0 tt s.1) s.2.1;
      runs = s.2.2;
    }

module _ (before since : List Event) (file : List ℕ) where
  pub runs_as_loaded : (u : TheUnit) (c : Contents) → NoneLoaded since → Outcome file (Ok u) → Runs None (before ++ accepted_load file ∷ since) (Some c)
      → SameAnswers (held u) (held c.unit)
  runs_as_loaded u c none reads r =
      let s = since_load before since file (Some c) r in
      let same : s.loads.unit ≡ u = let e = one_outcome file (Ok s.loads.unit) (Ok u) s.read reads in cc in
      (kept_in u c (since_kept u since s.start (Some c) none s.solved (subst (λ v. Kept v s.start) same (loaded_kept s.loads)) s.runs)).now.same

  pub stays_solved : (m : Model) → Runs None (before ++ accepted_load file ∷ since) m → (c : Contents) × (m ≡ Some c) × IsSolved c
  stays_solved m r =
      let s = since_load before since file m r in
      let k = stays_kept since s.start m s.solved (s.loads.unit, loaded_kept s.loads) s.runs in
      (k.1.contents, k.1.is, always_solved _ m r k.1.contents k.1.is)
