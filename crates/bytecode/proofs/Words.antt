-- Six bytes, the word that they are, and the instruction that it spells.
use Rattle.std.proofs.Common.{◌≡◌, ℕ, zero, suc, ◌+◌, ◌*◌, ◌/◌, ◌%◌, ◌^◌, ◌<◌, Bool, true, false, cond, leb, List, [], ◌∷◌, get_or, ℤ, pos, negsuc, nat_abs, Some, None, Option, sym, refl, ap, ◌∙◌, subst, arith, ◌==◌, w32, SFits, to_z, of_z}
use mir.Facts.{sfits_lit}
use Rattle.std.proofs.lemmas.Nat.{mod-pow-add}
use Rattle.std.proofs.lemmas.Int.{to_z-of_z, ints}
use Rattle.std.proofs.lemmas.Bool.{and_from, and_parts, leb-true, ltb-true}
use Rattle.std.specs.Bool.{Decides}
use Rattle.std.specs.Cmp.{signed_Decides, unsigned_Decides}
use Rattle.bytecode.specs.Equality.{same_word, same_instr}
use Rattle.bytecode.specs.declared.instr.Instr.{Instr}
use Rattle.bytecode.specs.declared.instr.Instr.TheVariants.{Nop, Halt, Lit, LitFlag, Pop, Dup, Swap, Load, Store, Add, Sub, Mul, Div, Eq, Lt, Not, Jmp, Jf, DropJmp, In, Out}
use Rattle.bytecode.specs.declared.word.Word.{Word}
use Rattle.bytecode.specs.Instructions.{Operands, bare, number, flag, local, jump, word, arg_of, in32, in_range}
use Rattle.bytecode.specs.Layout.{encoded}

-- four bytes as one number
abbrev pub whole : ℕ → ℕ → ℕ → ℕ → ℕ
whole a b c d = a * 16777216 + b * 65536 + c * 256 + d

bits_below : (z : ℤ) → SFits w32 z → of_z w32 z < 2 ^ 32
bits_below z f = omega (arith, ints)

-- the argument in six bytes
abbrev pub argument : List ℕ → ℤ
argument bytes = to_z w32 (whole (get_or bytes 2 0) (get_or bytes 3 0) (get_or bytes 4 0) (get_or bytes 5 0))

to_z-be32 : (z : ℤ) → SFits w32 z → to_z w32 (whole (of_z w32 z / 16777216 % 256) (of_z w32 z / 65536 % 256) (of_z w32 z / 256 % 256) (of_z w32 z % 256)) ≡ z
to_z-be32 z f =
    let below = bits_below z f in
    let n = of_z w32 z in
    let two = mod-pow-add n 8 8 in
    let three = mod-pow-add n 8 16 in
    let four = mod-pow-add n 8 24 in
    let e : whole (n / 16777216 % 256) (n / 65536 % 256) (n / 256 % 256) (n % 256) ≡ n = omega arith in
    ap (to_z w32) e ∙ to_z-of_z w32 z f

SFits-in32 : (z : ℤ) → in32 z ≡ true → SFits w32 z
SFits-in32 (pos n) h = record { sfits = ltb-true n 2147483648 h }
SFits-in32 (negsuc n) h = let le = leb-true n 2147483647 (and_parts _ true h).0 in record { sfits = omega arith }

flag_fits : (b : Bool) → SFits w32 (cond b (pos 1) (pos 0))
flag_fits true = sfits_lit tt
flag_fits false = sfits_lit tt

pub arg_fits : (o : Operands) → in_range o ≡ true → SFits w32 (arg_of o)
arg_fits bare h = sfits_lit tt
arg_fits (number k v) h = SFits-in32 v (and_parts (leb k 2) (in32 v) h).1
arg_fits (flag k b) h = flag_fits b
arg_fits (local x) h = let lt = ltb-true x 16 h in record { sfits = omega arith }
arg_fits (jump d) h = SFits-in32 d h

-- equal bytes are those of equal words
pub encoded_one : (v w : Word) → SFits w32 v.arg → SFits w32 w.arg → encoded v ≡ encoded w → v ≡ w
encoded_one v w f g e =
    let op = ap (λ (l : List ℕ). get_or l 0 0) e in
    let drops = ap (λ (l : List ℕ). get_or l 1 0) e in
    let arg = sym (to_z-be32 v.arg f) ∙ ap argument e ∙ to_z-be32 w.arg g in
    λ k. record { op = op k; drops = drops k; arg = arg k }

raised : ℤ → Bool
raised (pos zero) = false
raised (pos (suc n)) = true
raised (negsuc n) = true

-- the instruction of a word
again : Word → Option Instr
again w =
    get_or (Some Nop ∷ Some Halt ∷ Some (Lit w.drops w.arg) ∷ Some (LitFlag w.drops (raised w.arg)) ∷ Some Pop ∷ Some Dup ∷ Some Swap ∷ Some (Load (nat_abs w.arg)) ∷ Some (Store (nat_abs w.arg)) ∷ Some Add ∷ Some Sub ∷ Some Mul ∷ Some Div ∷ Some Eq ∷ Some Lt ∷ Some Not ∷ Some (Jmp w.arg) ∷ Some (Jf w.arg) ∷ Some (DropJmp w.arg) ∷ Some In ∷ Some Out ∷ []) w.op None

again_is : (i : Instr) → again (word i) ≡ Some i
unfolding again raised
again_is Nop = refl
again_is Halt = refl
again_is (Lit k v) = refl
again_is (LitFlag k true) = refl
again_is (LitFlag k false) = refl
again_is Pop = refl
again_is Dup = refl
again_is Swap = refl
again_is (Load x) = refl
again_is (Store x) = refl
again_is Add = refl
again_is Sub = refl
again_is Mul = refl
again_is Div = refl
again_is Eq = refl
again_is Lt = refl
again_is Not = refl
again_is (Jmp d) = refl
again_is (Jf d) = refl
again_is (DropJmp d) = refl
again_is In = refl
again_is Out = refl

-- a word is that of one instruction
pub word_one : (i j : Instr) → word i ≡ word j → i ≡ j
word_one i j e = let p = again_is i in let q = again_is j in let r = ap again e in cc

-- what `==` computes is equality: of words, and so of instructions
same_word-Decides : (v w : Word) → Decides (same_word v w) (v ≡ w)
same_word-Decides v w = (
  λ h.
      let first = and_parts (v.op == w.op) _ h in
      let rest = and_parts (v.drops == w.drops) _ first.1 in
      let op = (unsigned_Decides v.op w.op).0 first.0 in
      let drops = (unsigned_Decides v.drops w.drops).0 rest.0 in
      let arg = (signed_Decides v.arg w.arg).0 rest.1 in
      λ k. record { op = op k; drops = drops k; arg = arg k },
  λ e. subst (λ x. same_word v x ≡ true) e (and_from _ _ ((unsigned_Decides v.op v.op).1 refl) (and_from _ _ ((unsigned_Decides v.drops v.drops).1 refl) ((signed_Decides v.arg v.arg).1 refl))),
)

pub same_instr-Decides : (i j : Instr) → Decides (same_instr i j) (i ≡ j)
same_instr-Decides i j = (λ h. word_one i j ((same_word-Decides (word i) (word j)).0 h), λ e. (same_word-Decides (word i) (word j)).1 (ap word e))
