-- What is exactly known of a state moves as an instruction moves the state.
use Rattle.std.proofs.Common.{◌≡◌, ◌≢◌, ℕ, Bool, true, false, not, ltb, List, [], ◌∷◌, get_or, map, ℤ, pos, is_some, Some, None, Option, unwrap_or, sym, refl, ap, ◌∙◌}
use Rattle.std.proofs.Math.ListN.{get_or-map}
use Rattle.std.proofs.lemmas.Bool.{and_parts, false≢true, true≢false, false_from_ne_true}
use Rattle.std.proofs.lemmas.List.{map-set}
use Rattle.bytecode.specs.declared.instr.Instr.{Instr}
use Rattle.bytecode.specs.declared.instr.Instr.TheVariants as I
use Rattle.machine.specs.declared.value.Value.{Value}
use Rattle.machine.specs.declared.value.Value.TheVariants.{Num, Flag}
use Rattle.machine.specs.declared.arith.Binary.{Binary}
use Rattle.machine.specs.declared.arith.Binary.TheVariants as B
use Rattle.machine.specs.Machine.{State, holds, number, operate, operates, binary, row}
use Rattle.facts.specs.Held.{Held}
use Rattle.facts.specs.Effects.{Domain, cell_at, local_at, effect}
use Rattle.facts.proofs.Order.{CellsUnder, none, more}
use Rattle.analyses.specs.Edges.{distance}
use Rattle.sound.specs.Describes.{local_cell, held_of}

-- a domain is right about what the machine does, where f gives the cell of a value
pub record SoundDomain {C : Type 0} (join : C → C → C) (D : Domain C) (f : Value → C) : Type 0 where
  pub idempotent : (a : C) → join a a ≡ a
  pub number : (n : ℤ) → f (Num n) ≡ D.number n
  pub flag : (b : Bool) → f (Flag b) ≡ D.flag b
  pub input : (n : ℤ) → join (f (Num n)) D.input ≡ D.input
  pub operation : (op : Binary) (a b : ℤ) (v : Value) → operate op a b ≡ Some v → f v ≡ D.operation op (f (Num a)) (f (Num b))
  pub opposite : (b : Bool) → f (Flag (not b)) ≡ D.opposite (f (Flag b))
  pub is_zero : (n : ℤ) → D.is_zero (f (Num n)) ≡ true → n ≡ pos 0
  pub decides : (j b : Bool) → D.decides j (f (Flag b)) ≡ true → j ≡ b

module _ {C : Type 0} {join : C → C → C} {D : Domain C} {f : Value → C} (M : SoundDomain join D f) where
  like_under : {a b : C} → a ≡ b → join a b ≡ b
  like_under {b = b} e = ap (λ c. join c b) e ∙ M.idempotent b

  one_under : {a b : C} → join a b ≡ b → CellsUnder join (a ∷ []) (b ∷ [])
  one_under e = more e none

  pub same_under : (xs : List C) → CellsUnder join xs xs
  same_under [] = none
  same_under (x ∷ xs) = more (M.idempotent x) (same_under xs)

  divisor_alive : (a b : ℤ) → operate B.Div a b ≢ None → D.is_zero (f (Num b)) ≡ false
  divisor_alive a b ne = false_from_ne_true _ (λ t. ne (ap (operate B.Div a) (M.is_zero b t)))

  flag_alive : (j b : Bool) → j ≢ b → D.decides j (f (Flag b)) ≡ false
  flag_alive j b ne = false_from_ne_true _ (λ t. ne (M.decides j b t))

  -- the state has the stack v
  module _ (place : ℕ) (l : List (Option Value)) (used : ℕ) (outputs : List ℤ) (x : Option ℤ) (room : Bool) where
    abbrev at : List Value → State
    at v = record { place = place; stack = v; locals = l; used = used; outputs = outputs }

    abbrev exact : List Value → Held C
    exact v = held_of f D.top (at v)

    result_under : (op : Binary) (v : List Value) (a b : ℤ) (r : Option Value) → operate op a b ≡ r → (operates (at v) r).stops ≡ None →
        CellsUnder join (map f (operates (at v) r).puts) (D.operation op (f (Num a)) (f (Num b)) ∷ [])
    result_under op v a b None e on = absurd (cc)
    result_under op v a b (Some w) e on = one_under (like_under (M.operation op a b w e))

    binary_under : (op : Binary) (v : List Value) → holds (number ∷ number ∷ []) v ≡ true → (binary op (at v)).stops ≡ None →
        CellsUnder join (map f (binary op (at v)).puts) (D.operation op (cell_at D (exact v) 1) (cell_at D (exact v) 0) ∷ [])
    binary_under op [] h on = absurd (false≢true h)
    binary_under op (Flag b ∷ v) h on = absurd (false≢true h)
    binary_under op (Num b ∷ []) h on = absurd (false≢true h)
    binary_under op (Num b ∷ Flag a ∷ v) h on = absurd (false≢true h)
    binary_under op (Num b ∷ Num a ∷ v) h on = result_under op (Num b ∷ Num a ∷ v) a b _ refl on

    load_same : (n : ℕ) (g : Option Value) → get_or l n None ≡ g → is_some g ≡ true → f (unwrap_or g (Num (pos 0))) ≡ local_at D (exact []) n
    load_same n None e h = absurd (false≢true h)
    load_same n (Some w) e h = sym (get_or-map (local_cell f D.top) l n None ∙ ap (local_cell f D.top) e)

    -- the cells of the values that are put
    pub puts_under : (i : Instr) (v : List Value) → holds (row i (at v) x room).takes v ≡ true → (row i (at v) x room).usable ≡ true →
        (row i (at v) x room).stops ≡ None → CellsUnder join (map f (row i (at v) x room).puts) (effect D i (exact v)).puts
    puts_under (I.Lit d n) v h k on = one_under (like_under (M.number n))
    puts_under (I.LitFlag d b) v h k on = one_under (like_under (M.flag b))
    puts_under I.Dup [] h k on = absurd (false≢true h)
    puts_under I.Dup (a ∷ v) h k on = same_under _
    puts_under I.Swap [] h k on = absurd (false≢true h)
    puts_under I.Swap (b ∷ []) h k on = absurd (false≢true h)
    puts_under I.Swap (b ∷ a ∷ v) h k on = same_under _
    puts_under (I.Load n) v h k on = one_under (like_under (load_same n _ refl (and_parts (ltb n 16) _ k).1))
    puts_under I.Add v h k on = binary_under B.Add v h on
    puts_under I.Sub v h k on = binary_under B.Sub v h on
    puts_under I.Mul v h k on = binary_under B.Mul v h on
    puts_under I.Div v h k on = binary_under B.Div v h on
    puts_under I.Eq v h k on = binary_under B.Eq v h on
    puts_under I.Lt v h k on = binary_under B.Lt v h on
    puts_under I.Not [] h k on = absurd (false≢true h)
    puts_under I.Not (Num a ∷ v) h k on = absurd (false≢true h)
    puts_under I.Not (Flag b ∷ v) h k on = one_under (like_under (M.opposite b))
    puts_under I.In v h k on = one_under (M.input _)
    puts_under i v h k on = none

    -- the cells of the locals that are left
    pub locals_under : (i : Instr) (v : List Value) → holds (row i (at v) x room).takes v ≡ true →
        CellsUnder join (map (local_cell f D.top) (row i (at v) x room).locals) (effect D i (exact v)).locals
    locals_under (I.Store n) [] h = absurd (false≢true h)
    locals_under (I.Store n) (a ∷ v) h = rw map-set (same_under _)
    locals_under i v h = same_under _

    -- the run goes on along an edge that is not dead
    pub edge_taken : (i : Instr) (v : List Value) → holds (row i (at v) x room).takes v ≡ true → (row i (at v) x room).stops ≡ None →
        (j : Bool) × (distance i j ≡ Some (row i (at v) x room).by) × ((effect D i (exact v)).is_dead j ≡ false)
    edge_taken I.Halt v h on = absurd (cc)
    edge_taken I.Div [] h on = absurd (false≢true h)
    edge_taken I.Div (Flag b ∷ v) h on = absurd (false≢true h)
    edge_taken I.Div (Num b ∷ []) h on = absurd (false≢true h)
    edge_taken I.Div (Num b ∷ Flag a ∷ v) h on = absurd (false≢true h)
    edge_taken I.Div (Num b ∷ Num a ∷ v) h on = (false, refl, divisor_alive a b (λ e. absurd (cc (rw e at on))))
    edge_taken (I.Jmp d) v h on = (true, refl, refl)
    edge_taken (I.Jf d) [] h on = absurd (false≢true h)
    edge_taken (I.Jf d) (Num a ∷ v) h on = absurd (false≢true h)
    edge_taken (I.Jf d) (Flag true ∷ v) h on = (false, refl, flag_alive false true false≢true)
    edge_taken (I.Jf d) (Flag false ∷ v) h on = (true, refl, flag_alive true false true≢false)
    edge_taken (I.DropJmp d) v h on = (true, refl, refl)
    edge_taken i v h on = (false, refl, refl)
