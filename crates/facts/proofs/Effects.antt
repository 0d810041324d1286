-- What instructions do to cells keeps their order.
use Rattle.std.proofs.Common.{◌≡◌, ℕ, Bool, IsTrue, false, List, [], ◌∷◌, length, Some, None, Option, length-set, ltb, ltb-false, refl, ap, ◌∙◌}
use Rattle.bytecode.specs.declared.instr.Instr.{Instr}
use Rattle.bytecode.specs.declared.instr.Instr.TheVariants as I
use Rattle.machine.specs.declared.arith.Binary.{Binary}
use Rattle.machine.specs.declared.arith.Binary.TheVariants as B
use Rattle.facts.specs.declared.frame.Frame.TheVariants.{At}
use Rattle.facts.specs.Held.{Held}
use Rattle.facts.specs.Frames.{Fitting}
use Rattle.facts.specs.Effects.{Domain, takes_of, Effect, cell_at, local_at, plain, effect, after, is_too_few, is_too_many}
use Rattle.facts.proofs.Order.{CellsUnder, none, more, Under, get_or-under, length-under, drop-under, append-under, set-under}

-- the values made of greater cells are at or above those made of lesser ones, and what decides of a greater cell decides of a lesser one
pub record MonotoneDomain {C : Type 0} (join : C → C → C) (D : Domain C) : Type 0 where
  pub idempotent : (a : C) → join a a ≡ a
  pub operation : (op : Binary) (a b c d : C) → join a b ≡ b → join c d ≡ d → join (D.operation op a c) (D.operation op b d) ≡ D.operation op b d
  pub opposite : (a b : C) → join a b ≡ b → join (D.opposite a) (D.opposite b) ≡ D.opposite b
  pub is_zero : (a b : C) → join a b ≡ b → IsTrue (D.is_zero b) → IsTrue (D.is_zero a)
  pub decides : (j : Bool) (a b : C) → join a b ≡ b → IsTrue (D.decides j b) → IsTrue (D.decides j a)

-- both load or neither does, and what the one loads is at or below what the other does
abbrev pub LoadsUnder : {C : Type 0} → (C → C → C) → Option C → Option C → Type 0
LoadsUnder join None None = Unit {0}
LoadsUnder join None (Some y) = ⊥
LoadsUnder join (Some x) None = ⊥
LoadsUnder join (Some x) (Some y) = join x y ≡ y

-- no more is known after the one than after the other, and it is dead where the other is
pub record EffectUnder {C : Type 0} (join : C → C → C) (e f : Effect C) : Type 0 where
  pub puts : CellsUnder join e.puts f.puts
  pub loads : LoadsUnder join e.loads f.loads
  pub locals : CellsUnder join e.locals f.locals
  pub dead : (j : Bool) → IsTrue (f.is_dead j) → IsTrue (e.is_dead j)

module _ {C : Type 0} (D : Domain C) where
  -- STORE alone changes a local, and none adds one
  pub length-effect_locals : (i : Instr) (a : Held C) → length (effect D i a).locals ≡ length a.locals
  length-effect_locals (I.Store n) a = length-set a.locals n (cell_at D a 0)
  length-effect_locals i a = refl

  pub after_fitting : (i : Instr) (a : Held C) → Fitting (At a) → is_too_many D i a ≡ false → Fitting (At (after D i a))
  after_fitting i a p t = (ltb-false 8 (length (after D i a).stack) t, length-effect_locals i a ∙ p.1)

module _ {C : Type 0} {join : C → C → C} {D : Domain C} (M : MonotoneDomain join D) where
  abbrev result : Binary → Held C → C
  result op h = D.operation op (cell_at D h 1) (cell_at D h 0)

  module _ (a b : Held C) (u : Under join a b) where
    cell_under : (k : ℕ) → join (cell_at D a k) (cell_at D b k) ≡ cell_at D b k
    cell_under k = get_or-under k D.top (M.idempotent D.top) u.stack

    local_under : (n : ℕ) → join (local_at D a n) (local_at D b n) ≡ local_at D b n
    local_under n = get_or-under n D.top (M.idempotent D.top) u.locals

    plain_under : {xs ys : List C} → CellsUnder join xs ys → EffectUnder join (plain D a xs) (plain D b ys)
    plain_under w = record { puts = w; loads = tt; locals = u.locals; dead = λ j t. t }

    one_under : {x y : C} → join x y ≡ y → EffectUnder join (plain D a (x ∷ [])) (plain D b (y ∷ []))
    one_under c = plain_under (more c none)

    result_under : (op : Binary) → join (result op a) (result op b) ≡ result op b
    result_under op = M.operation op _ _ _ _ (cell_under 1) (cell_under 0)

    pub effect_monotone : (i : Instr) → EffectUnder join (effect D i a) (effect D i b)
    effect_monotone I.Nop = plain_under none
    effect_monotone I.Halt = plain_under none
    effect_monotone (I.Lit k n) = one_under (M.idempotent (D.number n))
    effect_monotone (I.LitFlag k q) = one_under (M.idempotent (D.flag q))
    effect_monotone I.Pop = plain_under none
    effect_monotone I.Dup = plain_under (more (cell_under 0) (more (cell_under 0) none))
    effect_monotone I.Swap = plain_under (more (cell_under 1) (more (cell_under 0) none))
    effect_monotone (I.Load n) = record { puts = more (local_under n) none; loads = local_under n; locals = u.locals; dead = λ j t. t }
    effect_monotone (I.Store n) = record { puts = none; loads = tt; locals = set-under n _ _ (cell_under 0) u.locals; dead = λ j t. t }
    effect_monotone I.Add = one_under (result_under B.Add)
    effect_monotone I.Sub = one_under (result_under B.Sub)
    effect_monotone I.Mul = one_under (result_under B.Mul)
    effect_monotone I.Div = record { puts = more (result_under B.Div) none; loads = tt; locals = u.locals; dead = λ j t. M.is_zero _ _ (cell_under 0) t }
    effect_monotone I.Eq = one_under (result_under B.Eq)
    effect_monotone I.Lt = one_under (result_under B.Lt)
    effect_monotone I.Not = one_under (M.opposite _ _ (cell_under 0))
    effect_monotone (I.Jmp d) = plain_under none
    effect_monotone (I.Jf d) = record { puts = none; loads = tt; locals = u.locals; dead = λ j t. M.decides j _ _ (cell_under 0) t }
    effect_monotone (I.DropJmp d) = plain_under none
    effect_monotone I.In = one_under (M.idempotent D.input)
    effect_monotone I.Out = plain_under none

    pub after_monotone : (i : Instr) → Under join (after D i a) (after D i b)
    after_monotone i =
        let e = effect_monotone i in
        record { stack = append-under e.puts (drop-under (length (takes_of i)) u.stack); locals = e.locals }

    pub too_few_same : (i : Instr) → is_too_few D i a ≡ is_too_few D i b
    too_few_same i = ap (λ n. ltb n (length (takes_of i))) (length-under u.stack)

    pub too_many_same : (i : Instr) → is_too_many D i a ≡ is_too_many D i b
    too_many_same i = ap (ltb 8) (length-under (after_monotone i).stack)
