-- What an edge carries into the least fact, made in its place. Assumes nothing.
use Rattle.std.proofs.Common.{◌≡◌, ℕ, ◌<◌, ◌≤◌, Bool, List, length, get_or, set, sym, ap, ◌∙◌, subst, arith}
use Rattle.std.proofs.lemmas.List.{get_or_read, set-set}
use Rattle.dataflow.specs.Analysis.{Framework, Lawful}
use Rattle.dataflow.specs.Pending.{SameBut}
use Rattle.dataflow.specs.Takes.{at, Marks, Carries, AllValid}

-- at the edge's end t stood the least fact, then a copy of the fact at its start, and y was made of that
pub carries_in_place : {F : Type 0} {V : F → Type 0} {M : Framework F} (L : Lawful V M) {xs ys : List F} {p q : ℕ → Bool} (i t : ℕ) (old y : F)
    → i < M.edges → M.nodes ≤ length xs → AllValid V M xs → t ≡ M.to i
    → old ≡ get_or xs t old → old ≡ M.least → ys ≡ set xs t (at M xs (M.from i)) → y ≡ M.carry i (at M xs (M.from i))
    → Marks M.least y (p t) (q t) → SameBut t p q
    → Carries M i (at M xs (M.from i)) xs p (set ys t y) q
carries_in_place {F} {V} {M} L {xs} {ys} {p} {q} i t old y inside room valid end old_is least copied made marks others =
    let start : M.from i < M.nodes = L.from_node i inside in
    let below : t < length xs = omega (arith, L.to_node i inside) in
    let from : F = at M xs (M.from i) in
    let carried : F = M.carry i from in
    let was : at M xs t ≡ M.least = sym (get_or_read xs t old below old_is M.least) ∙ least in
    let joined : M.join (at M xs t) carried ≡ carried = ap (λ z. M.join z carried) was ∙ L.neutral carried (L.carry_valid i from inside (valid (M.from i) start)) in
    subst (λ e. (zs : List F) → zs ≡ set xs e (M.join (at M xs e) carried) → Marks (at M xs e) (M.join (at M xs e) carried) (p e) (q e) → SameBut e p q → Carries M i from xs p zs q) (sym end)
    (λ zs facts mark rest. record { facts = facts; mark = mark; others = rest })
    (set ys t y)
    (ap (λ l. set l t y) copied ∙ set-set xs t from y ∙ ap (set xs t) (made ∙ sym joined))
    (subst (λ z. Marks (at M xs t) z (p t) (q t)) (made ∙ sym joined) (subst (λ z. Marks z y (p t) (q t)) (sym was) marks))
    others
