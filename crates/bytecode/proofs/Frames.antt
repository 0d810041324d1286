-- The length and the check of a file, as the reader tests them.
use Rattle.std.proofs.Common.{◌≡◌, ℕ, ◌+◌, ◌-◌, ◌*◌, ◌/◌, ◌%◌, ◌≤◌, List, length, get_or, take, sym, ap, ◌∙◌, arith}
use Rattle.bytecode.specs.Layout.{check}
use Rattle.bytecode.specs.Files.{Sized, Summed}

pub sized_from : (f : List ℕ) → 12 ≤ length f → length f ≤ 774 → length f % 6 ≡ 0 → Sized f ((length f - 6) / 6)
sized_from f low high whole = record { long = omega arith; some = omega arith; most = omega arith }

module _ (f : List ℕ) (x y : ℕ) (long : 2 ≤ length f) (stored : x ≡ get_or f (length f - 2) 0 * 256 + get_or f (length f - 1) 0) (computed : y ≡ check (take (length f - 2 - 0) f)) where
  stored_is : x ≡ get_or f (length f - 2) 0 * 256 + get_or f (length f - 2 + 1) 0
  stored_is = let e : length f - 1 ≡ length f - 2 + 1 = omega arith in stored ∙ ap (λ k. get_or f (length f - 2) 0 * 256 + get_or f k 0) e

  computed_is : y ≡ check (take (length f - 2) f)
  computed_is = let e : length f - 2 - 0 ≡ length f - 2 = omega arith in computed ∙ ap (λ k. check (take k f)) e

  pub summed_from : x ≡ y → Summed f
  summed_from e = sym stored_is ∙ e ∙ computed_is

  pub summed_says : Summed f → x ≡ y
  summed_says s = stored_is ∙ s ∙ sym computed_is
