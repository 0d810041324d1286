-- A file has one answer, and reading undoes writing.
use Rattle.std.proofs.Common.{◌≡◌, ℕ, ◌+◌, ◌*◌, ◌<◌, ◌≤◌, true, List, map, length, get_or, take, drop, IfOk, OnErr, Ok, Err, Result, sym, refl, ap, ◌∙◌, subst, ⊎_elim, arith, take_at}
use mathlib.Core.HLevel.{is_prop→PathP}
use Rattle.std.proofs.lemmas.List.{length-take-le, length-map, get_or-map, get_or-take, ext_get_or}
use Rattle.std.proofs.lemmas.Bool.{and_parts, cases_lt, cases_order}
use Rattle.bytecode.specs.contracts.instr.Instr.{the_row}
use Rattle.bytecode.specs.contracts.unit.Unit.{struct, the_ghost, the_propositions}
use Rattle.bytecode.specs.declared.fault.FileFault.{FileFault}
use Rattle.bytecode.specs.declared.fault.FileFault.TheVariants.{Length, Check, Head, Count}
use Rattle.bytecode.specs.declared.fault.ReadFault.{ReadFault}
use Rattle.bytecode.specs.declared.fault.ReadFault.TheVariants.{File, Unit as InUnit}
use Rattle.bytecode.specs.declared.instr.Instr.{Instr}
use Rattle.bytecode.specs.declared.instr.Instr.TheVariants.{Nop}
use Rattle.bytecode.specs.declared.unit.Unit.{Unit as TheUnit}
use Rattle.bytecode.specs.Instructions.{row, word, in_range, standing}
use Rattle.bytecode.specs.Layout.{encoded, body, file, part}
use Rattle.bytecode.specs.Files.{held, bytes_of, Sized, Framed, FileGets, CodeRead, Good, LowestBad, Gets, Outcome, Only, Written, WritesBack, ReadsBack, WriteOutcome, reading}
use Rattle.bytecode.proofs.Held.{length-held}
use Rattle.bytecode.proofs.Words.{arg_fits, encoded_one, word_one}
use Rattle.bytecode.proofs.Files.{file_long, file-part, file_summed, whole_file}

-- two units with the same fields are one
pub same_unit : (u v : TheUnit) → u.locals ≡ v.locals → u.len ≡ v.len → u.code ≡ v.code → u ≡ v
same_unit u v a b c =
    λ i. struct.make (a i, (b i, (c i, tt))) (is_prop→PathP (λ j. the_ghost (a j, (b j, (c j, tt)))) (λ j. the_propositions the_row.coded (a j, (b j, (c j, tt)))) (struct.ghosts u) (struct.ghosts v) i)

words_long : (u : TheUnit) → length (map word (held u)) ≡ u.len
words_long u = length-map (held u) word ∙ length-held u

pub bytes_long : (u : TheUnit) → length (bytes_of u) ≡ 6 + 6 * u.len
bytes_long u = file_long u.locals (map word (held u)) ∙ ap (λ n. 6 + 6 * n) (words_long u)

framed : (u : TheUnit) → Framed (bytes_of u) u.len
framed u =
    let e = words_long u in
    record {
      sized = record { long = bytes_long u; some = u.some; most = u.most };
      summed = file_summed (body u.locals (map word (held u)));
      headed = (refl, u.few);
      counted = omega (arith, u.most);
    }

-- the bytes at each place of a unit's file
part_at : (u : TheUnit) (k : ℕ) → k < u.len → part (bytes_of u) k ≡ encoded (word (get_or u.code k Nop))
part_at u k h =
    let inside : k < length (held u) = omega (arith, length-held u) in
    file-part u.locals (map word (held u)) k (omega (arith, words_long u)) ∙ ap encoded (get_or-map word (held u) k Nop (word Nop) inside ∙ ap word (get_or-take u.len u.code k Nop h))

good : (u : TheUnit) (k : ℕ) → k < u.len → Good (bytes_of u) u.len k
good u k h = (get_or u.code k Nop, record { same = sym (part_at u k h); allowed = u.rules k h })

one_size : (f : List ℕ) (m n : ℕ) → Sized f m → Sized f n → m ≡ n
one_size f m n s t = omega (arith, s.long, t.long)

-- a file that is right as a whole gets no fault as a whole
no_file_fault : (f : List ℕ) (n : ℕ) (fault : FileFault) → Framed f n → FileGets f fault → ⊥
no_file_fault f n Length h g = g n h.sized
no_file_fault f n Check h g = g.2 h.summed
no_file_fault f n Head h g = g.3 h.headed
no_file_fault f n Count h g = g.4 (h.counted ∙ one_size f n g.0 h.sized g.1)

no_fault : (u : TheUnit) (fault : ReadFault) → Gets (bytes_of u) fault → ⊥
no_fault u (File fault) g = no_file_fault (bytes_of u) u.len fault (framed u) g
no_fault u (InUnit fault) g =
    let n : g.0 ≡ u.len = one_size (bytes_of u) g.0 u.len g.1.sized (framed u).sized in
    g.2.bad (subst (λ m. Good (bytes_of u) m fault.place) (sym n) (good u fault.place (omega (arith, g.2.inside))))

one_file_fault : (f : List ℕ) (d e : FileFault) → FileGets f d → FileGets f e → d ≡ e
one_file_fault f Length Length g h = refl
one_file_fault f Length Check g h = absurd (g h.0 h.1)
one_file_fault f Length Head g h = absurd (g h.0 h.1)
one_file_fault f Length Count g h = absurd (g h.0 h.1)
one_file_fault f Check Length g h = absurd (h g.0 g.1)
one_file_fault f Check Check g h = refl
one_file_fault f Check Head g h = absurd (g.2 h.2)
one_file_fault f Check Count g h = absurd (g.2 h.2)
one_file_fault f Head Length g h = absurd (h g.0 g.1)
one_file_fault f Head Check g h = absurd (h.2 g.2)
one_file_fault f Head Head g h = refl
one_file_fault f Head Count g h = absurd (g.3 h.3)
one_file_fault f Count Length g h = absurd (h g.0 g.1)
one_file_fault f Count Check g h = absurd (h.2 g.2)
one_file_fault f Count Head g h = absurd (h.3 g.3)
one_file_fault f Count Count g h = refl

one_place : (f : List ℕ) (m n p q : ℕ) → m ≡ n → LowestBad f m p → LowestBad f n q → p ≡ q
one_place f m n p q e g h =
    ⊎_elim (λ same. same) (⊎_elim (λ lt. absurd (g.bad (subst (λ x. Good f x p) (sym e) (h.below p lt)))) (λ lt. absurd (h.bad (subst (λ x. Good f x q) e (g.below q lt))))) (cases_order p q)

one_fault : (f : List ℕ) (d e : ReadFault) → Gets f d → Gets f e → d ≡ e
one_fault f (File d) (File e) g h = ap File (one_file_fault f d e g h)
one_fault f (File d) (InUnit e) g h = absurd (no_file_fault f h.0 d h.1 g)
one_fault f (InUnit d) (File e) g h = absurd (no_file_fault f g.0 e g.1 h)
one_fault f (InUnit d) (InUnit e) g h = ap (λ p. InUnit (record { place = p })) (one_place f g.0 h.0 d.place e.place (one_size f g.0 h.0 g.1.sized h.1.sized) g.2 h.2)

in_range_at : (u : TheUnit) (k : ℕ) → k < u.len → in_range (row (get_or u.code k Nop)).operands ≡ true
in_range_at u k h = (and_parts (in_range (row (get_or u.code k Nop)).operands) (standing u.locals k u.len (get_or u.code k Nop)) (u.rules k h)).0

-- the bytes tell the instruction
pub one_instr : (i j : Instr) → in_range (row i).operands ≡ true → in_range (row j).operands ≡ true → encoded (word i) ≡ encoded (word j) → i ≡ j
one_instr i j s t e = word_one i j (encoded_one (word i) (word j) (arg_fits (row i).operands s) (arg_fits (row j).operands t) e)

one_unit : (u v : TheUnit) → bytes_of u ≡ bytes_of v → u ≡ v
one_unit u v e =
    let locals = ap (λ (l : List ℕ). get_or l 1 0) e in
    let lens : u.len ≡ v.len = omega (arith, bytes_long u, bytes_long v, ap length e) in
    same_unit u v locals lens
    (ext_get_or Nop u.code v.code (u.whole ∙ sym v.whole) (λ k h.
    ⊎_elim
    (λ (lt : k < u.len). one_instr _ _ (in_range_at u k lt) (in_range_at v k (omega arith)) (sym (part_at u k lt) ∙ ap (λ l. part l k) e ∙ part_at v k (omega arith)))
    (λ (ge : u.len ≤ k). u.blank k ge (omega (arith, u.whole)) ∙ sym (v.blank k (omega arith) (omega (arith, u.whole))))
    (cases_lt k u.len)))

-- a unit is its locals and its instructions
pub unit_from_held : (u v : TheUnit) → u.locals ≡ v.locals → held u ≡ held v → u ≡ v
unit_from_held u v l h = one_unit u v (λ i. file (l i) (map word (h i)))

-- a file has no two answers
pub one_outcome : (f : List ℕ) (r s : Result TheUnit ReadFault) → Outcome f r → Outcome f s → r ≡ s
one_outcome f (Ok u) (Ok v) a b = ap Ok (one_unit u v (a ∙ sym b))
one_outcome f (Ok u) (Err e) a b = absurd (no_fault u e (subst (λ l. Gets l e) (sym a) b))
one_outcome f (Err d) (Ok v) a b = absurd (no_fault v d (subst (λ l. Gets l d) (sym b) a))
one_outcome f (Err d) (Err e) a b = ap Err (one_fault f d e a b)

written_front : (f before after : List ℕ) (n : ℕ) → Written f before after n → take n after ≡ f
written_front f before after n w = ap (take n) w.bytes ∙ take_at f (drop n before) n (sym w.count)

pub writes_back : (f : List ℕ) (r : Result TheUnit ReadFault) → Outcome f r → WritesBack f r
writes_back f (Ok u) o = λ before after n w. written_front (bytes_of u) before after n w ∙ o
writes_back f (Err e) o = tt

reads_back : (u : TheUnit) (before after : List ℕ) (n : ℕ) → Written (bytes_of u) before after n → ReadsBack u after n
reads_back u before after n w r o = one_outcome (bytes_of u) r (Ok u) (subst (λ l. Outcome l r) (written_front (bytes_of u) before after n w) o) refl

pub write_back : {E : Type 0} (u : TheUnit) (before after : List ℕ) (r : Result ℕ E) → WriteOutcome (bytes_of u) before after r → IfOk r (λ n. ReadsBack u after n)
write_back u before after (Ok n) w = reads_back u before after n w
write_back u before after (Err e) w = tt

-- instructions that read at every place have the file's bytes
pub code_file : (f : List ℕ) (n : ℕ) (code : List Instr) → Framed f n → ((k : ℕ) → get_or f k 0 < 256) → CodeRead f n code → file (get_or f 1 0) (map word (take n code)) ≡ f
code_file f n code framed bytes read =
    let long : length (take n code) ≡ n = length-take-le n code (omega (arith, framed.sized.most, read.whole)) in
    whole_file f n (map word (take n code)) framed bytes (length-map (take n code) word ∙ long) (λ k h. ap encoded (get_or-map word (take n code) k Nop (word Nop) (omega arith) ∙ ap word (get_or-take n code k Nop h)) ∙ (read.reads k h).same)

-- all that `read` says of its answer
pub record Read (f : List ℕ) (r : Result TheUnit ReadFault) : Type 0 where
  pub answer : Outcome f r
  pub only : Only f r
  pub back : WritesBack f r

pub read_from : (f : List ℕ) (r : Result TheUnit ReadFault) → Outcome f r → Read f r
read_from f r o = record { answer = o; only = λ s p. one_outcome f s r p o; back = writes_back f r o }

-- all that `read_into` says of its answer, and of the unit that it turned
pub record ReadInto (f : List ℕ) (u v : TheUnit) (r : Result (Unit {0}) ReadFault) : Type 0 where
  pub answer : Outcome f (reading r v)
  pub only : Only f (reading r v)
  pub back : WritesBack f (reading r v)
  pub refused : OnErr r (v ≡ u)

pub read_refused : (f : List ℕ) (u : TheUnit) (r : Result (Unit {0}) ReadFault) (fault : ReadFault) → r ≡ Err fault → Gets f fault → ReadInto f u u r
read_refused f u r fault e g =
    let all = read_from f (Err fault) g in
    subst (ReadInto f u u) (sym e) (record { answer = all.answer; only = all.only; back = all.back; refused = refl })
