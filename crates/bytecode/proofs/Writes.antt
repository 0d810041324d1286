-- What the steps of writing leave in the buffer.
use Rattle.std.proofs.Common.{◌≡◌, ℕ, ◌+◌, ◌*◌, ◌<◌, ◌≤◌, List, ◌∷◌, ◌++◌, length, get_or, take, drop, sym, ap, ◌∙◌, subst, append_assoc, arith, take_at}
use lib.Seq.{drop-append-add}
use Rattle.std.proofs.Concat.{flat_map-take_more}
use Rattle.std.proofs.lemmas.List.{drop-drop, length-append, length-take}
use Rattle.std.specs.List.{flat_map}
use Rattle.bytecode.specs.declared.word.Word.{Word}
use Rattle.bytecode.specs.Layout.{be16, encoded, check, body, file}
use Rattle.bytecode.specs.Files.{Written}
use Rattle.bytecode.proofs.Files.{blank, body_long, file_long, joined_front}

-- bytes that are put where xs ends
put_after : (xs ys bytes : List ℕ) (a : ℕ) → length xs ≡ a → take a (xs ++ ys) ++ (bytes ++ drop (a + length bytes) (xs ++ ys)) ≡ (xs ++ bytes) ++ drop (length bytes) ys
put_after xs ys bytes a e =
    let front = take_at xs ys a e in
    let back : drop (a + length bytes) (xs ++ ys) ≡ drop (length bytes) ys = subst (λ n. drop (n + length bytes) (xs ++ ys) ≡ drop (length bytes) ys) e (drop-append-add xs ys (length bytes)) in
    (λ i. front i ++ (bytes ++ back i)) ∙ sym (append_assoc xs bytes (drop (length bytes) ys))

-- one word more is written
pub write_more : (before now : List ℕ) (words : List Word) (p : ℕ) (bytes : List ℕ) → p < length words → 4 ≤ length before → bytes ≡ encoded (get_or words p blank) → now ≡ (take 4 before ++ flat_map encoded (take p words)) ++ drop (4 + 6 * p) before → take (4 + 6 * p) now ++ (bytes ++ drop (4 + 6 * p + length bytes) now) ≡ (take 4 before ++ flat_map encoded (take (p + 1) words)) ++ drop (4 + 6 * (p + 1)) before
write_more before now words p bytes lt room is e =
    let xs = take 4 before ++ flat_map encoded (take p words) in
    let a = 4 + 6 * p in
    let front = joined_front words p (omega arith) in
    let long : length xs ≡ a = simp (length-append, length-take) (omega arith) in
    let six : length bytes ≡ 6 = ap length is in
    let next : a + 6 ≡ 4 + 6 * (p + 1) = omega arith in
    let on = flat_map-take_more encoded words p blank lt in
    ap (λ l. take a l ++ (bytes ++ drop (a + length bytes) l)) e
    ∙ put_after xs (drop a before) bytes a long
    ∙ (λ i. append_assoc (take 4 before) (flat_map encoded (take p words)) bytes i ++ drop (six i) (drop a before))
    ∙ (λ i. (take 4 before ++ (flat_map encoded (take p words) ++ is i)) ++ drop-drop 6 a before i)
    ∙ (λ i. (take 4 before ++ on i) ++ drop (next i) before)

-- the three steps of writing: the first four bytes, the words, and the check behind them
pub record Steps (before one two three : List ℕ) (L s end : ℕ) (words : List Word) (head last : List ℕ) : Type 0 where
  pub end_is : end ≡ 4 + 6 * length words
  pub head_is : head ≡ 1 ∷ L ∷ be16 (length words)
  pub last_is : last ≡ be16 s
  pub first : one ≡ take 0 before ++ (head ++ drop (0 + length head) before)
  pub second : two ≡ (take 4 one ++ flat_map encoded words) ++ drop (4 + 6 * length words) one
  pub sum_is : s ≡ check (take end two)
  pub third : three ≡ take end two ++ (last ++ drop (end + length last) two)

pub steps_write : (before one two three : List ℕ) (L s end : ℕ) (words : List Word) (head last : List ℕ) → Steps before one two three L s end words head last → Written (file L words) before three (end + 2)
steps_write before one two three L s end words head last h =
    let front = 1 ∷ L ∷ be16 (length words) in
    let one-is : one ≡ front ++ drop 4 before = h.first ∙ ap (λ (l : List ℕ). l ++ drop (0 + length l) before) h.head_is in
    let past : drop (4 + 6 * length words) (front ++ drop 4 before) ≡ drop end before = drop-append-add front (drop 4 before) (6 * length words) ∙ drop-drop (6 * length words) 4 before ∙ ap (λ a. drop a before) (sym h.end_is) in
    let two_is : two ≡ body L words ++ drop end before = h.second ∙ ap (λ (l : List ℕ). (take 4 l ++ flat_map encoded words) ++ drop (4 + 6 * length words) l) one-is ∙ (λ i. body L words ++ past i) in
    let long : length (body L words) ≡ end = body_long L words ∙ sym h.end_is in
    let part : take end two ≡ body L words = ap (take end) two_is ∙ take_at (body L words) (drop end before) end long in
    let sum : last ≡ be16 (check (body L words)) = h.last_is ∙ ap be16 (h.sum_is ∙ ap check part) in
    record {
      count = omega (arith, file_long L words, h.end_is);
      bytes =
          h.third
          ∙ ap (λ (l : List ℕ). take end l ++ (last ++ drop (end + length last) l)) two_is
          ∙ put_after (body L words) (drop end before) last end long
          ∙ (λ i. (body L words ++ sum i) ++ drop (length (sum i)) (drop end before))
          ∙ ap (λ (l : List ℕ). file L words ++ l) (drop-drop 2 end before);
    }
