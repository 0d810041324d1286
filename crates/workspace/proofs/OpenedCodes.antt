-- What stands while an attempt is open: the codes that were held when it and those around it were opened, and the locals of the unit.
use Rattle.std.proofs.Common.{◌≡◌, ℕ, zero, suc, ◌+◌, ◌<◌, ◌⊎◌, List, [], ◌∷◌, ◌++◌, length, drop, Some, None, inl, inr, sym, refl, ap, ◌∙◌, subst, arith, length-append, length-drop}
use Rattle.bytecode.specs.declared.instr.Instr.{Instr}
use Rattle.bytecode.specs.declared.unit.Unit.{Unit as TheUnit}
use Rattle.workspace.specs.Contents.{Contents}
use Rattle.workspace.specs.Calls.{Call, Answer, load, opens, propose, tidy, keep, abandon, run, write_out, facts_at, take_counts, unit_now, opened}
use Rattle.workspace.specs.Does.{Model, Accepts, Holds, Tidies}
use Rattle.workspace.specs.Histories.{Event, event, Runs, NoneOpened}
use Rattle.workspace.proofs.Solved.{HoldsSolved}
use Rattle.workspace.proofs.KeptCalls.{Ended, refuses, faults, accepts, loads, does_ended}
use Rattle.workspace.proofs.KeptHistories.{runs_keep}

abbrev pub opened_of : Model → List (List Instr)
opened_of None = []
opened_of (Some c) = c.opened

abbrev pub locals_of : Model → ℕ
locals_of None = 0
locals_of (Some c) = c.unit.locals

-- what a call does to them
data Effect (m : Model) (call : Call) (a : Answer) (m' : Model) : Type 0 where
  stays : opened_of m' ≡ opened_of m → locals_of m' ≡ locals_of m → Effect m call a m'
  pushes : (code : List Instr) → call ≡ opens → a ≡ opened (length (opened_of m) + 1)
      → opened_of m' ≡ code ∷ opened_of m → locals_of m' ≡ locals_of m → Effect m call a m'
  pops : opened_of m' ≡ drop 1 (opened_of m) → locals_of m' ≡ locals_of m → Effect m call a m'
  clears : opened_of m' ≡ [] → Effect m call a m'

same_stays : (m : Model) (call : Call) (a : Answer) (m' : Model) → m' ≡ m → Effect m call a m'
same_stays m call a m' e = stays (ap opened_of e) (ap locals_of e)

holds_opened : {u : TheUnit} {codes : List (List Instr)} {m : Model} → Holds u codes m → (opened_of m ≡ codes) × (locals_of m ≡ u.locals)
holds_opened h = (ap opened_of h.is ∙ h.opened, ap locals_of h.is ∙ ap (λ (u : TheUnit). u.locals) h.unit)

tidies_opened : (n : ℕ) (c : Contents) (m : Model) → Tidies n c m → (opened_of m ≡ c.opened) × (locals_of m ≡ c.unit.locals)
tidies_opened zero c m h = (ap opened_of h.1, ap locals_of h.1)
tidies_opened (suc n) c m h =
    let step = holds_opened h.5 in
    let rest = tidies_opened n h.4 m h.6 in
    (rest.0 ∙ step.0, rest.1 ∙ step.1 ∙ h.3.locals)

accepts_effect : (call : Call) (c : Contents) (a : Answer) (m : Model) → Accepts call c a m → Effect (Some c) call a m
accepts_effect (load file) c a m h = absurd h
accepts_effect opens c a m h = pushes _ refl h.0 (ap opened_of h.1) (ap locals_of h.1)
accepts_effect (propose d p i) c a m (inl h) = let k = holds_opened h.4 in stays k.0 (k.1 ∙ h.3.locals)
accepts_effect (propose d p i) c a m (inr h) = same_stays (Some c) _ a m h.2
accepts_effect (tidy d) c a m h = let k = tidies_opened h.0 c m h.2 in stays k.0 k.1
accepts_effect (keep d) c a m h = pops (ap opened_of h.1) (ap locals_of h.1)
accepts_effect (abandon d) c a m h = let k = holds_opened h.4 in pops k.0 (k.1 ∙ h.2)
accepts_effect (run inputs buffer budget) c a m h = same_stays (Some c) _ a m h.1
accepts_effect (write_out buffer) c a m h = same_stays (Some c) _ a m h.1
accepts_effect (facts_at p) c a m h = same_stays (Some c) _ a m h.1
accepts_effect take_counts c a m h = same_stays (Some c) _ a m h.1
accepts_effect unit_now c a m h = same_stays (Some c) _ a m h.1

ended_effect : (call : Call) (m : Model) (a : Answer) (m' : Model) → Ended call m a m' → Effect m call a m'
ended_effect call m a m' (refuses r e same) = same_stays m call a m' same
ended_effect call m a m' (faults fault e same) = same_stays m call a m' same
ended_effect call m a m' (accepts c is fine h) = subst (λ n. Effect n call a m') (sym is) (accepts_effect call c a m' h)
ended_effect call m a m' (loads l) = clears (holds_opened l.holds).0

-- above what an open left, with its unit's locals; or below it, since that attempt was closed
module _ (code : List Instr) (around : List (List Instr)) (locals : ℕ) where
  abbrev pub Stands : Model → Type 0
  Stands m =
      ((above : List (List Instr)) × (opened_of m ≡ above ++ (code ∷ around)) × (locals_of m ≡ locals))
      ⊎ (length (opened_of m) < length (code ∷ around))

  -- the call is no accepted open of that depth
  abbrev IsNoOpen : Event → Type 0
  IsNoOpen e = e ≡ event opens (opened (length (code ∷ around))) → ⊥

  stands_above : (m : Model) (above : List (List Instr)) → opened_of m ≡ above ++ (code ∷ around) → locals_of m ≡ locals
      → (e : Event) (m' : Model) → Effect m e.call e.answer m' → Stands m'
  stands_above m above h l e m' (stays k j) = inl (above, k ∙ h, j ∙ l)
  stands_above m above h l e m' (pushes x p q k j) = inl (x ∷ above, k ∙ ap (λ xs. x ∷ xs) h, j ∙ l)
  stands_above m [] h l e m' (pops k j) = inr (omega (arith, ap length (k ∙ ap (drop 1) h)))
  stands_above m (x ∷ above) h l e m' (pops k j) = inl (above, k ∙ ap (drop 1) h, j ∙ l)
  stands_above m above h l e m' (clears k) = inr (omega (arith, ap length k))

  stands_below : (m : Model) → length (opened_of m) < length (code ∷ around) → (e : Event) (m' : Model)
      → IsNoOpen e → Effect m e.call e.answer m' → Stands m'
  stands_below m lt e m' none (stays k j) = inr (omega (arith, ap length k))
  stands_below m lt e m' none (pushes x p q k j) =
      let other : length (opened_of m) + 1 ≡ length (code ∷ around) → ⊥ = λ same.
      none (let y = q ∙ ap opened same in λ i. record { call = p i; answer = y i }) in
      inr (omega (arith, ap length k))
  stands_below m lt e m' none (pops k j) = inr (omega (arith, ap length k ∙ length-drop 1 (opened_of m)))
  stands_below m lt e m' none (clears k) = inr (omega (arith, ap length k))

  stands_next : (m : Model) → Stands m → (e : Event) (m' : Model) → IsNoOpen e
      → Effect m e.call e.answer m' → Stands m'
  stands_next m (inl h) e m' none k = stands_above m h.0 h.1 h.2 e m' k
  stands_next m (inr lt) e m' none k = stands_below m lt e m' none k

  pub stands_on : (es : List Event) (m m' : Model) → NoneOpened (length (code ∷ around)) es → HoldsSolved m → Stands m → Runs m es m' → Stands m'
  stands_on =
      runs_keep IsNoOpen Stands
      (λ e m m' none solved h k. stands_next m h e m' none (ended_effect e.call m e.answer m' (does_ended m e.answer m' e.call k)))

  -- at the depth of that open, what is open is what the open left
  pub stands_at : (m : Model) → Stands m → length (opened_of m) ≡ length (code ∷ around)
      → (opened_of m ≡ code ∷ around) × (locals_of m ≡ locals)
  stands_at m (inl ([], h, l)) d = (h, l)
  stands_at m (inl (x ∷ above, h, l)) d = absurd (omega (arith, ap length h, length-append above (code ∷ around)))
  stands_at m (inr lt) d = absurd (omega arith)
