-- The file that words make, and the words that a file holds.
use Rattle.std.proofs.Common.{◌≡◌, ℕ, zero, suc, ◌+◌, ◌-◌, ◌*◌, ◌/◌, ◌%◌, ◌<◌, ◌≤◌, List, [], ◌∷◌, ◌++◌, length, get_or, take, drop, pos, sym, refl, ap, ◌∙◌, subst, arith, take_at, take-add}
use lib.Seq.{drop-append-add}
use Rattle.std.proofs.Concat.{flat_map-take_more}
use Rattle.std.proofs.lemmas.List.{same_lists, places, length-take-le, take_all, take-append-drop, drop-drop, length-drop, length-append, get_or_at, get_or-append-add}
use Rattle.std.specs.List.{flat_map}
use Rattle.bytecode.specs.declared.word.Word.{Word}
use Rattle.bytecode.specs.Layout.{be16, encoded, check, body, file, number_at, part}
use Rattle.bytecode.specs.Files.{Framed, Summed}

-- the word of NOP
abbrev pub blank : Word
blank = record { op = 0; drops = 0; arg = pos 0 }

-- the bytes of the first k words
joined_parts : (f : List ℕ) (n : ℕ) (words : List Word) → n ≤ length words → ((k : ℕ) → k < n → encoded (get_or words k blank) ≡ part f k) → (k : ℕ) → k ≤ n → flat_map encoded (take k words) ≡ take (6 * k) (drop 4 f)
joined_parts f n words room each zero h = refl
joined_parts f n words room each (suc k) h =
    let lt : k < length words = omega arith in
    let on = flat_map-take_more encoded words k blank lt in
    let rest = joined_parts f n words room each k (omega arith) in
    let here = each k (omega arith) in
    let cut = take-add (6 * k) 6 (drop 4 f) in
    let past = drop-drop (6 * k) 4 f in
    let e : k + 1 ≡ suc k = omega arith in
    let g : 6 * k + 6 ≡ 6 * suc k = omega arith in
    cc

head_of : (f : List ℕ) → 4 ≤ length f → take 4 f ≡ get_or f 0 0 ∷ get_or f 1 0 ∷ get_or f 2 0 ∷ get_or f 3 0 ∷ []
head_of f h = same_lists _ _ (rw length-take-le) (λ k d lt. grind (arith, places))

tail_of : (f : List ℕ) (m : ℕ) → length f ≡ m + 2 → drop m f ≡ get_or f m 0 ∷ get_or f (m + 1) 0 ∷ []
tail_of f m e = same_lists _ _ (simp length-drop (omega arith)) (λ k d lt. grind (arith, places))

be16_of : (x a b : ℕ) → a * 256 + b ≡ x → a < 256 → b < 256 → be16 x ≡ a ∷ b ∷ []
be16_of x a b e ha hb =
    let high : x / 256 % 256 ≡ a = omega arith in
    let low : x % 256 ≡ b = omega arith in
    cc

-- a file whose parts are the bytes of n words is their file
module _ (f : List ℕ) (n : ℕ) (words : List Word) (framed : Framed f n) (bytes : (k : ℕ) → get_or f k 0 < 256) (count : length words ≡ n) (each : (k : ℕ) → k < n → encoded (get_or words k blank) ≡ part f k) where
  body_is : body (get_or f 1 0) words ≡ take (4 + 6 * n) f
  body_is =
      let long = framed.sized.long in
      let one = framed.headed.0 in
      let all = ap (flat_map encoded) (sym (take_all n words (omega arith))) ∙ joined_parts f n words (omega arith) each n (omega arith) in
      let cut = take-add 4 (6 * n) f in
      let four = head_of f (omega arith) in
      let two = be16_of n (get_or f 2 0) (get_or f 3 0) framed.counted (bytes 2) (bytes 3) in
      let front : (1 ∷ get_or f 1 0 ∷ be16 (length words)) ≡ take 4 f = ap (λ m. 1 ∷ get_or f 1 0 ∷ be16 m) count ∙ ap (λ l. 1 ∷ get_or f 1 0 ∷ l) two ∙ ap (λ x. x ∷ get_or f 1 0 ∷ get_or f 2 0 ∷ get_or f 3 0 ∷ []) (sym one) ∙ sym four in
      (λ i. front i ++ all i) ∙ sym cut

  pub whole_file : file (get_or f 1 0) words ≡ f
  whole_file =
      let m = 4 + 6 * n in
      let long = framed.sized.long in
      let at : length f - 2 ≡ m = omega arith in
      let last = tail_of f m (omega arith) in
      let e : number_at f m ≡ check (take m f) = subst (λ k. number_at f k ≡ check (take k f)) at framed.summed in
      let two = be16_of (check (take m f)) (get_or f m 0) (get_or f (m + 1) 0) e (bytes m) (bytes (m + 1)) in
      ap (λ b. b ++ be16 (check b)) body_is ∙ ap (λ l. take m f ++ l) (two ∙ sym last) ∙ take-append-drop m f

pub joined_long : (words : List Word) → length (flat_map encoded words) ≡ 6 * length words
joined_long [] = refl
joined_long (w ∷ words) = let e = joined_long words in simp length-append (omega arith)

pub body_long : (L : ℕ) (words : List Word) → length (body L words) ≡ 4 + 6 * length words
body_long L words = let e = joined_long words in omega arith

pub file_long : (L : ℕ) (words : List Word) → length (file L words) ≡ 6 + 6 * length words
file_long L words = let e = body_long L words in length-append (body L words) (be16 (check (body L words))) ∙ omega arith

-- the bytes of k words take 6 k
pub joined_front : (words : List Word) (k : ℕ) → k ≤ length words → length (flat_map encoded (take k words)) ≡ 6 * k
joined_front words k le = joined_long (take k words) ∙ ap (λ m. 6 * m) (length-take-le k words le)

joined_part : (words : List Word) (rest : List ℕ) (k : ℕ) → k < length words → take 6 (drop (6 * k) (flat_map encoded words ++ rest)) ≡ encoded (get_or words k blank)
joined_part [] rest k h = absurd (omega arith)
joined_part (w ∷ words) rest zero h = refl
joined_part (w ∷ words) rest (suc k) h =
    let e : 6 * suc k ≡ 6 + 6 * k = omega arith in
    ap (λ n. take 6 (drop n (encoded w ++ (flat_map encoded words ++ rest)))) e ∙ ap (take 6) (drop-append-add (encoded w) (flat_map encoded words ++ rest) (6 * k)) ∙ joined_part words rest k (omega arith)

-- the part at each place is its word's
pub file-part : (L : ℕ) (words : List Word) (k : ℕ) → k < length words → part (file L words) k ≡ encoded (get_or words k blank)
file-part L words k h =
    ap (take 6) (drop-append-add (1 ∷ L ∷ be16 (length words)) (flat_map encoded words ++ be16 (check (body L words))) (6 * k)) ∙ joined_part words (be16 (check (body L words))) k h

-- the check at the end of a file is the sum of what stands before
pub file_summed : (b : List ℕ) → Summed (b ++ be16 (check b))
file_summed b =
    let x = check b in
    let f = b ++ be16 x in
    let at : length f - 2 ≡ length b = omega (arith, length-append b (be16 x)) in
    let high = get_or_at b (x / 256 % 256) (x % 256 ∷ []) 0 (length b) refl in
    let low = get_or-append-add b (be16 x) 1 0 in
    let w : number_at f (length b) ≡ x = omega arith in
    subst (λ k. number_at f k ≡ check (take k f)) (sym at) (w ∙ sym (ap check (take_at b (be16 x) (length b) refl)))
