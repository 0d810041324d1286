-- Counts of the tokens of one depth.
use Rattle.std.proofs.Common.{◌≡◌, ◌≢◌, ℕ, ◌+◌, ◌<◌, List, [], ◌∷◌, length, drop, get_or, refl, sym, ◌∙◌, ap, arith, true}
use Rattle.std.proofs.lemmas.Bool.{ne_eqb, eq-eqb}
use Rattle.std.proofs.lemmas.List.Sums.{sum_by-cons, sum_by-drop_more}
use Rattle.tokens.specs.declared.token.Token.{Token}
use Rattle.tokens.specs.Tokens.{one_at, count_at}

one_elsewhere : (d : ℕ) (t : Token) → t.depth ≢ d → one_at d t ≡ 0
one_elsewhere d t other = rw (ne_eqb d t.depth (λ e. other (sym e))) refl

one_there : (t : Token) → one_at t.depth t ≡ 1
one_there t = rw (eq-eqb t.depth t.depth refl) refl

-- a token of another depth does not count
pub none_from : (tokens : List Token) (i d : ℕ) (t : Token) → i < length tokens → (get_or tokens i t).depth ≢ d
    → count_at d (drop (i + 1) tokens) ≡ 0 → count_at d (drop i tokens) ≡ 0
none_from tokens i d t lt other e =
    let step = sum_by-drop_more (one_at d) tokens i t lt in
    let none = one_elsewhere d (get_or tokens i t) other in
    omega arith

-- where no depth counts, there is no token
pub none_left : (tokens : List Token) → ((d : ℕ) → count_at d tokens ≡ 0) → length tokens ≡ 0
none_left [] none = refl
none_left (t ∷ ts) none =
    let step = sum_by-cons (one_at t.depth) t ts in
    let one = one_there t in
    let here = none t.depth in
    absurd (omega arith)
