-- An abandoned attempt leaves no trace.
use Rattle.std.proofs.Common.{◌≡◌, ℕ, ◌+◌, List, [], ◌∷◌, ◌++◌, length, drop, slice_index_or, option_map, Some, None, inl, sym, refl, ap, ◌∙◌, subst, arith}
use Rattle.bytecode.specs.declared.unit.Unit.{Unit as TheUnit}
use Rattle.bytecode.specs.Files.{held}
use Rattle.bytecode.proofs.Units.{unit_from_held}
use Rattle.workspace.specs.Contents.{Contents}
use Rattle.workspace.specs.Calls.{opens, abandon, opened, abandoned}
use Rattle.workspace.specs.Does.{Model, Does, Holds}
use Rattle.workspace.specs.Histories.{Event, event, Runs, calls_of, answers_of, NoneOpened}
use Rattle.workspace.proofs.Cases.{innermost}
use Rattle.workspace.proofs.Solved.{HoldsSolved, does_solved, runs_solved}
use Rattle.workspace.proofs.KeptCalls.{refuses, faults, accepts, loads, does_ended}
use Rattle.workspace.proofs.KeptHistories.{runs_split}
use Rattle.workspace.proofs.Alike.{bare, Alike, holds_alike}
use Rattle.workspace.proofs.AlikeCalls.{BothAlike, does_alike}
use Rattle.workspace.proofs.OpenedCodes.{opened_of, locals_of, stands_on, stands_at}

event_alike : (x y : Event) (m n m' n' : Model) → Alike m n → x.call ≡ y.call → Does x.call m x.answer m' → Does y.call n y.answer n'
    → BothAlike x.answer y.answer m' n'
event_alike x y m n m' n' e same h k = does_alike x.call m n m' n' x.answer y.answer e h (subst (λ call. Does call n y.answer n') (sym same) k)

-- the same calls from alike workspaces
pub runs_alike : (xs ys : List Event) (m n m' n' : Model) → Alike m n → calls_of xs ≡ calls_of ys → Runs m xs m' → Runs n ys n'
    → (answers_of xs ≡ answers_of ys) × Alike m' n'
runs_alike [] [] m n m' n' e same h k = (refl, ap (option_map bare) (sym h) ∙ e ∙ ap (option_map bare) k)
runs_alike [] (y ∷ ys) m n m' n' e same h k = absurd cc
runs_alike (x ∷ xs) [] m n m' n' e same h k = absurd cc
runs_alike (x ∷ xs) (y ∷ ys) m n m' n' e same h k =
    let first : x.call ≡ y.call = cc in
    let rest : calls_of xs ≡ calls_of ys = cc in
    let one = event_alike x y m n h.0 k.0 e first h.1 k.1 in
    let more = runs_alike xs ys h.0 k.0 m' n' one.models rest h.2 k.2 in
    (λ i. one.answers i ∷ more.0 i, more.1)

-- the same, where the first calls go on from a workspace that is only alike
joined_alike : (xs zs ys : List Event) (m m₁ m₂ m' n n' : Model) → Alike m n → Runs m xs m₁ → Alike m₁ m₂ → Runs m₂ zs m' → Runs n ys n'
    → calls_of ys ≡ calls_of (xs ++ zs) → answers_of ys ≡ answers_of (xs ++ zs)
joined_alike [] zs ys m m₁ m₂ m' n n' e h g l k same = (runs_alike ys zs n m₂ n' m' (sym e ∙ ap (option_map bare) h ∙ g) same k l).0
joined_alike (x ∷ xs) zs [] m m₁ m₂ m' n n' e h g l k same = absurd cc
joined_alike (x ∷ xs) zs (y ∷ ys) m m₁ m₂ m' n n' e h g l k same =
    let first : x.call ≡ y.call = cc in
    let rest : calls_of ys ≡ calls_of (xs ++ zs) = cc in
    let one = event_alike x y m n h.0 k.0 e first h.1 k.1 in
    let more = joined_alike xs zs ys h.0 m₁ m₂ m' k.0 n' one.models h.2 g l k.2 rest in
    λ i. sym one.answers i ∷ more i

open_accepts : (d : ℕ) (m m' : Model) → Does opens m (opened d) m'
    → (c : Contents) × (m ≡ Some c) × (d ≡ length c.opened + 1) × (m' ≡ Some (record c { opened = held c.unit ∷ c.opened }))
open_accepts d m m' h =
    elim (does_ended m (opened d) m' opens h) [
      | refuses r e same ↦ absurd cc
      | faults fault e same ↦ absurd cc
      | accepts c is fine k ↦ (c, is, cc, k.1)
      | loads l ↦ absurd (let e = l.is in cc)
    ]

abandon_accepts : (d : ℕ) (m m' : Model) → Does (abandon d) m abandoned m'
    → (c : Contents) × (m ≡ Some c) × (d ≡ length c.opened) × (u : TheUnit) × (u.locals ≡ c.unit.locals) × (held u ≡ slice_index_or c.opened 0 [])
    × Holds u (drop 1 c.opened) m'
abandon_accepts d m m' h =
    elim (does_ended m abandoned m' (abandon d) h) [
      | refuses r e same ↦ absurd cc
      | faults fault e same ↦ absurd cc
      | accepts c is fine k ↦ (c, is, (innermost d c (rw is at fine)).1, k.1, k.2, k.3, k.4)
      | loads l ↦ absurd (let e = l.is in cc)
    ]

-- after the abandon the workspace is as before the open, take counts aside
put_back_alike : (d : ℕ) (within : List Event) (m₁ m₂ m₃ m₄ : Model) → HoldsSolved m₁ → Does opens m₁ (opened d) m₂ → NoneOpened d within
    → Runs m₂ within m₃ → Does (abandon d) m₃ abandoned m₄ → Alike m₁ m₄
put_back_alike d within m₁ m₂ m₃ m₄ solved o none r q =
    let (c, is, deeper, opens_is) = open_accepts d m₁ m₂ o in
    let (c₃, is₃, deep₃, u, locals, code, holds) = abandon_accepts d m₃ m₄ q in
    let deep : d ≡ length (held c.unit ∷ c.opened) = omega arith in
    let others = subst (λ x. NoneOpened x within) deep none in
    let solved₂ = does_solved opens m₁ (opened d) m₂ solved o in
    let start = inl ([], ap opened_of opens_is, ap locals_of opens_is) in
    let stands = stands_on (held c.unit) c.opened c.unit.locals within m₂ m₃ others solved₂ start r in
    let at = stands_at (held c.unit) c.opened c.unit.locals m₃ stands (ap (λ n. length (opened_of n)) is₃ ∙ sym deep₃ ∙ deep) in
    let codes : c₃.opened ≡ held c.unit ∷ c.opened = sym (ap opened_of is₃) ∙ at.0 in
    let same : u ≡ c.unit = unit_from_held u c.unit (locals ∙ sym (ap locals_of is₃) ∙ at.1) (code ∙ ap (λ x. slice_index_or x 0 []) codes) in
    let before : Holds c.unit c.opened m₁ = record { contents = c; is = is; unit = refl; opened = refl; solved = subst HoldsSolved is solved } in
    holds_alike c.unit u c.opened (drop 1 c₃.opened) m₁ m₄ (sym same) (sym (ap (drop 1) codes)) before holds

pub untraced_holds : (made : List Event) (m : Model) → Runs None made m → (before within after : List Event) (d : ℕ)
    → made ≡ before ++ event opens (opened d) ∷ (within ++ event (abandon d) abandoned ∷ after) → NoneOpened d within
    → (without : List Event) (n : Model) → Runs None without n → calls_of without ≡ calls_of (before ++ after)
    → answers_of without ≡ answers_of (before ++ after)
untraced_holds made m r before within after d is none without n k same =
    let whole = subst (λ es. Runs None es m) is r in
    let s = runs_split before (event opens (opened d) ∷ (within ++ event (abandon d) abandoned ∷ after)) None m whole in
    let t = runs_split within (event (abandon d) abandoned ∷ after) s.2.0 m s.2.2 in
    let solved = runs_solved before None s.0 tt s.1 in
    let back = put_back_alike d within s.0 s.2.0 t.0 t.2.0 solved s.2.1 none t.1 t.2.1 in
    joined_alike before after without None s.0 t.2.0 m None n refl s.1 back t.2.2 k same
