-- The order of frames, cell by cell.
use Rattle.std.proofs.Common.{◌≡◌, ℕ, zero, suc, List, [], ◌∷◌, ◌++◌, length, get_or, drop, set, refl, sym, ap, ap₂, ◌∙◌, ⊎_elim, arith}
use Rattle.std.proofs.lemmas.Bool.{cases_eq}
use Rattle.facts.specs.declared.frame.Frame.{Frame}
use Rattle.facts.specs.declared.frame.Frame.TheVariants.{Unreached, At, Clash}
use Rattle.facts.specs.Held.{Held}
use Rattle.facts.specs.Frames.{joined_cells, joined_held, IsBelow, Fitting}
use Rattle.facts.proofs.Lattice.{joined-alike, joined-unlike, at_same, below_clash}

-- lists of one length, and each cell of xs is at or below that of ys
pub data CellsUnder {C : Type 0} (join : C → C → C) : List C → List C → Type 0 where
  none : CellsUnder join [] []
  more : {x y : C} {xs ys : List C} → join x y ≡ y → CellsUnder join xs ys → CellsUnder join (x ∷ xs) (y ∷ ys)

-- a and b have as many values, and each cell of a is at or below that of b
pub record Under {C : Type 0} (join : C → C → C) (a b : Held C) : Type 0 where
  pub stack : CellsUnder join a.stack b.stack
  pub locals : CellsUnder join a.locals b.locals

module _ {C : Type 0} {join : C → C → C} where
  pub length-under : {xs ys : List C} → CellsUnder join xs ys → length xs ≡ length ys
  length-under none = refl
  length-under (more c u) = ap suc (length-under u)

  pub joined-under : {xs ys : List C} → CellsUnder join xs ys → joined_cells join xs ys ≡ ys
  joined-under none = refl
  joined-under (more c u) = ap₂ ◌∷◌ c (joined-under u)

  pub get_or-under : (k : ℕ) (d : C) {xs ys : List C} → join d d ≡ d → CellsUnder join xs ys → join (get_or xs k d) (get_or ys k d) ≡ get_or ys k d
  get_or-under k d i none = i
  get_or-under zero d i (more c u) = c
  get_or-under (suc k) d i (more c u) = get_or-under k d i u

  pub drop-under : (k : ℕ) {xs ys : List C} → CellsUnder join xs ys → CellsUnder join (drop k xs) (drop k ys)
  drop-under zero u = u
  drop-under (suc k) none = none
  drop-under (suc k) (more c u) = drop-under k u

  pub append-under : {xs ys us vs : List C} → CellsUnder join xs ys → CellsUnder join us vs → CellsUnder join (xs ++ us) (ys ++ vs)
  append-under none w = w
  append-under (more c u) w = more c (append-under u w)

  pub set-under : (k : ℕ) (x y : C) {xs ys : List C} → join x y ≡ y → CellsUnder join xs ys → CellsUnder join (set xs k x) (set ys k y)
  set-under k x y d none = none
  set-under zero x y d (more c u) = more d u
  set-under (suc k) x y d (more c u) = more c (set-under k x y d u)

module _ {C : Type 0} (join : C → C → C) where
  pub under_from_joined : (xs ys : List C) → length xs ≡ length ys → joined_cells join xs ys ≡ ys → CellsUnder join xs ys
  under_from_joined [] [] e h = none
  under_from_joined [] (y ∷ ys) e h = absurd (omega arith)
  under_from_joined (x ∷ xs) [] e h = absurd (omega arith)
  under_from_joined (x ∷ xs) (y ∷ ys) e h = more (cc) (under_from_joined xs ys (omega arith) (cc))

  pub below_from_under : (a b : Held C) → Under join a b → IsBelow join (At a) (At b)
  below_from_under a b u =
      joined-alike join a b (length-under u.stack)
      ∙ at_same (joined-under u.stack) (joined-under u.locals)

  pub under_from_below : (a b : Held C) → Fitting (At a) → Fitting (At b) → IsBelow join (At a) (At b) → Under join a b
  under_from_below a b p q h =
      ⊎_elim
      (λ e. let j : At (joined_held join a b) ≡ At b = sym (joined-alike join a b e) ∙ h in
      let k : joined_held join a b ≡ b = cc in
      record {
        stack = under_from_joined a.stack b.stack e (ap (λ c. c.stack) k);
        locals = under_from_joined a.locals b.locals (p.1 ∙ sym q.1) (ap (λ c. c.locals) k);
      })
      (λ ne. absurd (let j : Clash ≡ At b = sym (joined-unlike join a b ne) ∙ h in cc))
      (cases_eq (length a.stack) (length b.stack))

  -- what is monotone on the cells of frames is monotone on frames
  pub frames_monotone : (carry : Frame C → Frame C) → carry Unreached ≡ Unreached → carry Clash ≡ Clash
      → ((a b : Held C) → Under join a b → IsBelow join (carry (At a)) (carry (At b)))
      → (f g : Frame C) → Fitting f → Fitting g → IsBelow join f g → IsBelow join (carry f) (carry g)
  frames_monotone carry u c m Unreached g p q h = rw u
  frames_monotone carry u c m (At a) Unreached p q h = absurd (cc)
  frames_monotone carry u c m (At a) (At b) p q h = m a b (under_from_below a b p q h)
  frames_monotone carry u c m (At a) Clash p q h = rw c (below_clash join (carry (At a)))
  frames_monotone carry u c m Clash Unreached p q h = absurd (cc)
  frames_monotone carry u c m Clash (At b) p q h = absurd (cc)
  frames_monotone carry u c m Clash Clash p q h = rw c
