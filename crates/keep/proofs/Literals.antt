-- The literal that stands for an instruction whose result is known has that instruction's turn.
use Rattle.std.proofs.Common.{◌≡◌, ℕ, ◌<◌, Bool, true, false, cond, not, List, [], ◌∷◌, length, get_or, replicate, ℤ, Some, refl, ap, ◌∙◌, arith}
use Rattle.std.proofs.lemmas.Bool.{lt-ltb}
use Rattle.std.proofs.lemmas.Option.{get_or_from_slice_get}
use Rattle.std.specs.List.{slice_get}
use Rattle.bytecode.specs.declared.instr.Instr.{Instr}
use Rattle.bytecode.specs.declared.instr.Instr.TheVariants as I
use Rattle.bytecode.specs.declared.unit.Unit.{Unit as TheUnit}
use Rattle.bytecode.specs.Files.{held}
use Rattle.machine.specs.declared.value.Value.{Value}
use Rattle.machine.specs.declared.value.Value.TheVariants as V
use Rattle.machine.specs.declared.arith.Binary.{Binary}
use Rattle.machine.specs.declared.arith.Binary.TheVariants as B
use Rattle.machine.specs.Machine.{State, any, Row, plain, binary, row_in, tests}
use Rattle.dataflow.specs.Analysis.{Solution}
use Rattle.facts.specs.declared.cell.ConstCell.{ConstCell}
use Rattle.facts.specs.declared.cell.ConstCell.TheVariants.{Num, Flag, Varies}
use Rattle.facts.specs.declared.frame.Frame.{Frame}
use Rattle.facts.specs.declared.frame.Frame.TheVariants.{Unreached, At, Clash}
use Rattle.facts.specs.Held.{Held}
use Rattle.facts.specs.Frames.{Fitting}
use Rattle.facts.specs.Effects.{effect, after, is_too_few, is_too_many, cell_at, local_at}
use Rattle.facts.specs.Constants.{constants, const_operation, const_opposite, carry_held}
use Rattle.analyses.specs.Edges.{instr_at}
use Rattle.analyses.specs.Frameworks.{constants_of}
use Rattle.sound.specs.Describes.{ConstTells, HeldTells, Describes}
use Rattle.rewrite.specs.declared.rule.Rule.TheVariants as R
use Rattle.rewrite.specs.Rules.{Folds, load, dup, opposite, sum, difference, product, quotient, equal, less, literal, HasTop, Yields}
use Rattle.keep.specs.Keeps.{IsChanged}
use Rattle.keep.proofs.KnownValues.{value_in, local_known, top_known, two_known, known_operands}
use Rattle.keep.proofs.SameTurns.{Keeps, SameTurn, described_keeps}

module _ (n : ℕ) (inputs : List ℤ) (room : ℕ) (s : State) where
  -- the row has the turn that drops k values and puts v
  abbrev Puts : Row → ℕ → Value → Type 0
  Puts r k v = tests n r s ≡ tests n (plain s (replicate k any) (v ∷ [])) s

  module _ (a : Held ConstCell) (t : HeldTells ConstTells a s) where
    load_puts : length a.locals ≡ 16 → (m : ℕ) (v : Value) → value_in (local_at constants a m) ≡ Some v → Puts (row_in inputs room s (I.Load m)) 0 v
    load_puts sixteen m v e =
        let known = local_known a s t m v e in
        let is = known.1 in
        let lt = lt-ltb m 16 (omega arith) in
        rw (lt, is)

    dup_puts : (v : Value) → value_in (cell_at constants a 0) ≡ Some v → Puts (row_in inputs room s I.Dup) 0 v
    dup_puts v e = rw (top_known a s t v e).1

    not_puts : (c : ConstCell) → cell_at constants a 0 ≡ c → (v : Value) → value_in (const_opposite c) ≡ Some v → Puts (row_in inputs room s I.Not) 1 v
    not_puts (Num m) is v e = absurd (cc)
    not_puts (Flag b) is v e = let same : V.Flag (not b) ≡ v = cc in rw (← same, (top_known a s t (V.Flag b) (ap value_in is)).1)
    not_puts Varies is v e = absurd (cc)

    operation_puts : (op : Binary) (v : Value) → value_in (const_operation op (cell_at constants a 1) (cell_at constants a 0)) ≡ Some v → Puts (binary op s) 2 v
    operation_puts op v e =
        let k = known_operands op (cell_at constants a 1) (cell_at constants a 0) v e in
        let stack = (two_known a s t (V.Num k.top) (V.Num k.under) k.top_known k.under_known).1 in
        let result = k.gives in
        rw (stack, result)

    fold_puts : length a.locals ≡ 16 → (i : Instr) (k : ℕ) → Folds i k → (v : Value) → value_in (get_or (after constants i a).stack 0 Varies) ≡ Some v
        → Puts (row_in inputs room s i) k v
    fold_puts sixteen _ _ (load m) v e = load_puts sixteen m v e
    fold_puts sixteen _ _ dup v e = dup_puts v e
    fold_puts sixteen _ _ opposite v e = not_puts _ refl v e
    fold_puts sixteen _ _ sum v e = operation_puts B.Add v e
    fold_puts sixteen _ _ difference v e = operation_puts B.Sub v e
    fold_puts sixteen _ _ product v e = operation_puts B.Mul v e
    fold_puts sixteen _ _ quotient v e = operation_puts B.Div v e
    fold_puts sixteen _ _ equal v e = operation_puts B.Eq v e
    fold_puts sixteen _ _ less v e = operation_puts B.Lt v e

-- a carried frame with a known top is the one after the instruction
top_after : (few many dead : Bool) (a : Held ConstCell) (c : ConstCell) → HasTop (cond few Clash (cond many Clash (cond dead Unreached (At a)))) c
    → slice_get a.stack 0 ≡ Some c
top_after true many dead a c h = absurd h
top_after false true dead a c h = absurd h
top_after false false true a c h = absurd h
top_after false false false a c h = h

top_carried : (i : Instr) (a : Held ConstCell) (c : ConstCell) → HasTop (carry_held i false a) c → get_or (after constants i a).stack 0 Varies ≡ c
top_carried i a c h =
    get_or_from_slice_get (after constants i a).stack 0 c Varies
    (top_after (is_too_few constants i a) (is_too_many constants i a) ((effect constants i a).is_dead false) (after constants i a) c h)

-- the value of a literal, with its row
literal_row : (k : ℕ) (c : ConstCell) (new : Instr) (inputs : List ℤ) (room : ℕ) (s : State) → literal k c ≡ Some new
    → (v : Value) × (value_in c ≡ Some v) × (row_in inputs room s new ≡ plain s (replicate k any) (v ∷ []))
literal_row k (Num m) new inputs room s e = let same : I.Lit k m ≡ new = cc in (V.Num m, refl, rw (← same))
literal_row k (Flag b) new inputs room s e = let same : I.LitFlag k b ≡ new = cc in (V.Flag b, refl, rw (← same))
literal_row k Varies new inputs room s e = absurd (cc)

literal_same : (n : ℕ) (i : Instr) (known : Frame ConstCell) (live : ℕ) (new : Instr) → Fitting known → Yields R.Literal i known live new
    → (inputs : List ℤ) (room : ℕ) (s : State) → Describes ConstTells known s → SameTurn n inputs room i new s
literal_same n i Unreached live new fits y inputs room s t = absurd t
literal_same n i (At a) live new fits y inputs room s t =
    let w = literal_row y.0 y.2 new inputs room s y.4 in
    rw w.2 (fold_puts n inputs room s a t fits.1 i y.0 y.1 w.0 (ap value_in (top_carried i a y.2 y.3) ∙ w.1))
literal_same n i Clash live new fits y inputs room s t = absurd y.3

-- an instruction whose result is known may become a literal
pub literal_keeps : (u v : TheUnit) (p : ℕ) (new : Instr) → p < u.len → IsChanged u p new v
    → (known : ℕ → Frame ConstCell) → Solution Fitting (constants_of u) known → (live : ℕ) → Yields R.Literal (instr_at u p) (known p) live new
    → Keeps (held u) (held v)
literal_keeps u v p new lt changed known solved live y =
    described_keeps u v p new lt changed known solved (literal_same (length (held u)) (instr_at u p) (known p) live new (solved.valid p lt) y)
