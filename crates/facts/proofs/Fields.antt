-- What a change of the fields of `Cells` makes of what is held.
use Rattle.std.proofs.Common.{◌≡◌, ℕ, ◌+◌, ◌-◌, ◌<◌, ◌≤◌, List, length, drop, replicate, set, inl, inr, ap, sym, ◌∙◌, subst, arith, length-set, get_or-set_other, get_or-set_same}
use Rattle.std.proofs.lemmas.List.{length-drop, drop-drop}
use Rattle.std.proofs.lemmas.Bool.{cases_eq}
use Rattle.facts.specs.declared.cells.Cells.TheInside.{Inside}
use Rattle.facts.specs.Held.{Held}
use Rattle.facts.specs.Cells.{held, Within, given_back, given_back_ok, length-below, drop-unused}
use Rattle.facts.specs.Frames.{joined_cells, joined_held}
use Rattle.facts.proofs.Below.{below-set, drop-below, length-joined_cells, get_or-joined_cells, below-joined_cells}

-- without the top value, whose cell is unused then
abbrev pub lower : {C : Type 0} → C → Inside C → Inside C
lower z a = record { height = a.height - 1; stack = set a.stack (a.height - 1) z; locals = a.locals }

-- n of count values are taken from s so far
module _ {C : Type 0} (z : C) (a : Inside C) (s locals : List C) (n count : ℕ)
    (is : held z a ≡ record { stack = drop n s; locals = locals }) (more : n < count) (enough : count ≤ length s) where
  pub some_held : 1 ≤ a.height
  some_held =
      let e : a.height ≡ length s - n = sym (length-below z a.stack a.height) ∙ ap (λ h. length h.stack) is ∙ length-drop n s in
      omega arith

  pub Within-lower : Within z a → Within z (lower z a)
  Within-lower h = record {
    low = omega (arith, h.low);
    eight = rw length-set h.eight;
    sixteen = h.sixteen;
    unused = λ k l m.
        elim (cases_eq k (a.height - 1)) [
          | inl e ↦ let i : a.height - 1 < length a.stack = omega (arith, some_held, h.low, h.eight) in rw (e, get_or-set_same a.stack (a.height - 1) z z i)
          | inr ne ↦ rw (get_or-set_other a.stack (a.height - 1) k z z ne) (h.unused k (omega arith) m)
        ];
  }

  pub held-lower : held z (lower z a) ≡ record { stack = drop (n + 1) s; locals = locals }
  held-lower =
      let le : a.height - 1 ≤ a.height - 1 = omega arith in
      let without_top : Held C → Held C = λ h. record { stack = drop 1 h.stack; locals = h.locals } in
      rw (below-set z a.stack (a.height - 1) (a.height - 1) z le, ← drop-below z a.stack a.height some_held) (rw drop-drop at (ap without_top is))

module _ {C : Type 0} (join : C → C → C) (z : C) (a b : Inside C) (s t : Held C)
    (p : Within z a) (q : Within z b) (is_s : held z a ≡ s) (is_t : held z b ≡ t) (e : length s.stack ≡ length t.stack) where
  abbrev pub joined_inside : Inside C
  joined_inside = record { height = a.height; stack = joined_cells join a.stack b.stack; locals = joined_cells join a.locals b.locals }

  same_height : a.height ≡ b.height
  same_height = let l = length-below z a.stack a.height in let m = length-below z b.stack b.height in cc

  -- the unused cells are the same in both
  pub unused_same : drop a.height a.stack ≡ drop a.height b.stack
  unused_same =
      let unused = drop-unused z b.stack b.height 8 q.eight q.unused in
      drop-unused z a.stack a.height 8 p.eight p.unused ∙ sym (subst (λ h. drop h b.stack ≡ replicate (8 - h) z) (sym same_height) unused)

  pub Within-joined : join z z ≡ z → Within z joined_inside
  Within-joined zz = record {
    low = p.low;
    eight = length-joined_cells join a.stack b.stack (p.eight ∙ sym q.eight) ∙ p.eight;
    sixteen = length-joined_cells join a.locals b.locals (p.sixteen ∙ sym q.sixteen) ∙ p.sixteen;
    unused = λ k l m.
        let i : k < length a.stack = omega (arith, p.eight) in
        let j : k < length b.stack = omega (arith, q.eight) in
        let u : b.height ≤ k = omega (arith, same_height) in
        rw (get_or-joined_cells join z a.stack b.stack k i j, p.unused k l m, q.unused k u m) zz;
  }

  pub held-joined : held z joined_inside ≡ joined_held join s t
  held-joined =
      let i : a.height ≤ length a.stack = omega (arith, p.low, p.eight) in
      let j : a.height ≤ length b.stack = omega (arith, p.low, q.eight) in
      rw (← is_s, ← is_t, ← same_height, below-joined_cells join z a.stack b.stack a.height i j)

pub same_fields : {C : Type 0} (z : C) (a b : Inside C) (s t : Held C) → Within z a → Within z b → held z a ≡ s → held z b ≡ t → s ≡ t → a ≡ b
same_fields z a b s t p q is_s is_t e = sym (given_back_ok z a p) ∙ ap (given_back z) (is_s ∙ e ∙ sym is_t) ∙ given_back_ok z b q
