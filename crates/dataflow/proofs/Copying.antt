-- A fact copied from one place of a slice to a later one, part by part. Assumes nothing.
use Rattle.std.proofs.Common.{◌≡◌, ℕ, suc, ◌+◌, ◌-◌, ◌<◌, List, [], ◌∷◌, ◌++◌, length, take, drop, get_or, set, sym, ap, ◌∙◌, arith}
use Rattle.std.proofs.lemmas.List.{drop_more, get_or-take, length-take-le, set_split}

-- x stands at place t, between what was before it and after it
set_parts : {X : Type 0} (xs : List X) (t : ℕ) (x : X) → t < length xs → take t xs ++ ((x ∷ []) ++ drop 1 (drop t xs)) ≡ set xs t x
set_parts xs t x below =
    let next : t + 1 ≡ suc t = omega arith in
    ap (λ r. take t xs ++ x ∷ r) (ap (drop 1) (drop_more xs t x below) ∙ ap (λ n. drop n xs) next) ∙ sym (set_split xs t x below)

pub copied_up : {X : Type 0} (xs low one high : List X) (from to : ℕ) (d : X) → from < to → to < length xs
    → low ≡ take to xs → high ≡ drop to xs → one ≡ take ((from + 1) - from) (drop from low)
    → low ++ (one ++ drop 1 high) ≡ set xs to (get_or xs from d)
copied_up xs low one high from to d up below low_is high_is one_is =
    let inside : from < length low = omega (arith, up, ap length low_is, length-take-le to xs (omega (arith, below))) in
    let single : (from + 1) - from ≡ 1 = omega arith in
    let first : take ((from + 1) - from) (drop from low) ≡ get_or low from d ∷ [] =
    ap (λ n. take n (drop from low)) single ∙ ap (take 1) (drop_more low from d inside) in
    let same : get_or low from d ≡ get_or xs from d = ap (λ l. get_or l from d) low_is ∙ get_or-take to xs from d up in
    let it : one ≡ get_or xs from d ∷ [] = one_is ∙ first ∙ ap (λ x. x ∷ []) same in
    (λ i. low_is i ++ (it i ++ drop 1 (high_is i))) ∙ set_parts xs to (get_or xs from d) below
