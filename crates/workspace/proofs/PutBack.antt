-- What putting back changes gives.
use Rattle.std.proofs.Common.{◌≡◌, ℕ, ◌<◌, ◌≤◌, List, [], ◌∷◌, ◌++◌, length, take, drop, get_or, set, refl, sym, ap, ◌∙◌, arith}
use Rattle.std.proofs.lemmas.List.{length-take-le, set-set, set-get_or, drop-append-le, take-append-drop}
use Rattle.bytecode.specs.declared.instr.Instr.{Instr}
use Rattle.bytecode.specs.declared.instr.Instr.TheVariants.{Nop}
use Rattle.bytecode.specs.declared.unit.Unit.{Unit as TheUnit}
use Rattle.bytecode.specs.Files.{held}
use Rattle.keep.specs.Keeps.{IsChanged}
use Rattle.keep.proofs.ChangedUnits.{held_changed}
use Rattle.workspace.specs.declared.trail.Change.{Change}
use Rattle.workspace.specs.Record.{put_back, codes_at, Falling}

pub put_back-append : (c : List Instr) (xs ys : List Change) → put_back c (xs ++ ys) ≡ put_back (put_back c ys) xs
put_back-append c [] ys = refl
put_back-append c (x ∷ xs) ys = ap (λ l. set l x.place x.old) (put_back-append c xs ys)

-- the last change is put back first
pub put_back-push : (c : List Instr) (xs : List Change) (x : Change) (m : ℕ) → m ≤ length xs
    → put_back c (drop m (xs ++ x ∷ [])) ≡ put_back (set c x.place x.old) (drop m xs)
put_back-push c xs x m le = ap (put_back c) (drop-append-le m xs (x ∷ []) le) ∙ put_back-append c (drop m xs) (x ∷ [])

-- putting back down to m, and then down to k, is putting back down to k
pub put_back_twice : (c : List Instr) (xs : List Change) (k m : ℕ) → k ≤ m → m ≤ length xs
    → put_back (put_back c (drop m xs)) (drop k (take m xs)) ≡ put_back c (drop k xs)
put_back_twice c xs k m le h =
    let short : k ≤ length (take m xs) = omega (arith, length-take-le m xs h) in
    sym (put_back-append c (drop k (take m xs)) (drop m xs))
    ∙ ap (put_back c) (sym (drop-append-le k (take m xs) (drop m xs) short) ∙ ap (drop k) (take-append-drop m xs))

-- a change that is put back leaves no trace
pub put_back_change : (c : List Instr) (xs : List Change) (p : ℕ) (i : Instr) (k : ℕ) → k ≤ length xs
    → put_back (set c p i) (drop k (xs ++ record { place = p; old = get_or c p Nop } ∷ [])) ≡ put_back c (drop k xs)
put_back_change c xs p i k le =
    put_back-push (set c p i) xs (record { place = p; old = get_or c p Nop }) k le
    ∙ ap (λ l. put_back l (drop k xs)) (set-set c p i (get_or c p Nop) ∙ set-get_or c p Nop)

pub falling_more : (n m : ℕ) (ms : List ℕ) → n ≤ m → Falling n ms → Falling m ms
falling_more n m [] le f = tt
falling_more n m (k ∷ ms) le f = (omega arith, f.1)

pub codes_put_back : (c : List Instr) (xs : List Change) (n m : ℕ) (ms : List ℕ) → n ≤ m → m ≤ length xs → Falling n ms
    → codes_at (put_back c (drop m xs)) (take m xs) ms ≡ codes_at c xs ms
codes_put_back c xs n m [] le h f = refl
codes_put_back c xs n m (k ∷ ms) le h f =
    let here = put_back_twice c xs k m (omega arith) h in
    let rest = codes_put_back c xs k m ms (omega arith) h f.1 in
    cc

pub codes_change : (c : List Instr) (xs : List Change) (p : ℕ) (i : Instr) (n : ℕ) (ms : List ℕ) → n ≤ length xs → Falling n ms
    → codes_at (set c p i) (xs ++ record { place = p; old = get_or c p Nop } ∷ []) ms ≡ codes_at c xs ms
codes_change c xs p i n [] le f = refl
codes_change c xs p i n (k ∷ ms) le f =
    let here = put_back_change c xs p i k (omega arith) in
    let rest = codes_change c xs p i k ms (omega arith) f.1 in
    cc

-- one change of a unit put back
pub put_back_step : (u v : TheUnit) (xs ys : List Change) (x : Change) (m : ℕ) → xs ≡ ys ++ x ∷ [] → m ≤ length ys → x.place < u.len
    → IsChanged u x.place x.old v → put_back (held v) (drop m ys) ≡ put_back (held u) (drop m xs)
put_back_step u v xs ys x m e le inside changed =
    rw (e, held_changed u x.place x.old v inside changed) (sym (put_back-push (held u) ys x m le))
