-- A frame describes a state exactly where it is at or above what is exactly known of it.
use Rattle.std.proofs.Common.{◌≡◌, ◌↔◌, List, [], ◌∷◌, map, Some, None, Option, refl, ap, ⊎_elim}
use Rattle.machine.specs.declared.value.Value.{Value}
use Rattle.machine.specs.declared.value.Value.TheVariants as V
use Rattle.machine.specs.Machine.{State}
use Rattle.facts.specs.declared.cell.TypeCell.{TypeCell}
use Rattle.facts.specs.declared.cell.TypeCell.TheVariants as T
use Rattle.facts.specs.declared.cell.ConstCell.{ConstCell}
use Rattle.facts.specs.declared.cell.ConstCell.TheVariants as K
use Rattle.facts.specs.declared.frame.Frame.{Frame}
use Rattle.facts.specs.declared.frame.Frame.TheVariants.{Unreached, At, Clash}
use Rattle.facts.specs.TypeCells.{join_types}
use Rattle.facts.specs.ConstCells.{same_const, join_consts, same_const_tells, const_laws}
use Rattle.facts.specs.Frames.{IsBelow, Fitting}
use Rattle.facts.specs.Constants.{known}
use Rattle.facts.proofs.Flats.{below_flat}
use Rattle.facts.proofs.Order.{CellsUnder, none, more, below_from_under, under_from_below}
use Rattle.sound.specs.Describes.{type_of, local_cell, held_of, TypeTells, ConstTells, AllTell, Describes}
use Rattle.sound.specs.Meaning.{Sized, TypesTell, ConstantsTell}
use Rattle.sound.proofs.Sizes.{sized_fitting}

-- the cells of values are those of locals that are set
set_cells : {C : Type 0} (f : Value → C) (top : C) (vs : List Value) → map (local_cell f top) (map (λ v. Some v) vs) ≡ map f vs
set_cells f top [] = refl
set_cells f top (v ∷ vs) = ap (λ cs. f v ∷ cs) (set_cells f top vs)

-- what a cell tells holds exactly where the cell is at or above that of the value
module _ {C : Type 0} (join : C → C → C) (top : C) (f : Value → C) (tells : C → Option Value → Type 0)
    (exact : (o : Option Value) (c : C) → (join (local_cell f top o) c ≡ c) ↔ tells c o) where
  all_tell : (os : List (Option Value)) (cs : List C) → CellsUnder join (map (local_cell f top) os) cs → AllTell tells cs os
  all_tell [] _ none = tt
  all_tell (o ∷ os) _ (more {y} {ys} c u) = ((exact o y).0 c, all_tell os ys u)

  all_told : (os : List (Option Value)) (cs : List C) → AllTell tells cs os → CellsUnder join (map (local_cell f top) os) cs
  all_told [] [] h = none
  all_told [] (c ∷ cs) h = absurd h
  all_told (o ∷ os) [] h = absurd h
  all_told (o ∷ os) (c ∷ cs) h = more ((exact o c).1 h.0) (all_told os cs h.1)

  pub describes_above : (g : Frame C) → Fitting g → (s : State) → Sized s → IsBelow join (At (held_of f top s)) g ↔ Describes tells g s
  describes_above Unreached p s z = (λ h. absurd (cc), λ h. absurd h)
  describes_above (At a) p s z =
      let vs = map (λ v. Some v) s.stack in
      let e = set_cells f top s.stack in (
        λ h. let u = under_from_below join (held_of f top s) a (sized_fitting f top s z) p h in
            record { stack = all_tell vs a.stack (rw e u.stack); locals = all_tell s.locals a.locals u.locals },
        λ h. below_from_under join (held_of f top s) a (record { stack = rw e at (all_told vs a.stack h.stack); locals = all_told s.locals a.locals h.locals }),
      )
  describes_above Clash p s z = (λ h. tt, λ h. refl)

type_exact : (o : Option Value) (c : TypeCell) → (join_types (local_cell type_of T.Unusable o) c ≡ c) ↔ TypeTells c o
type_exact None T.Num = (λ h. absurd (cc), λ h. absurd (cc h.1))
type_exact None T.Flag = (λ h. absurd (cc), λ h. absurd (cc h.1))
type_exact None T.Unusable = (λ h. tt, λ h. refl)
type_exact (Some (V.Num n)) T.Num = (λ h. (n, refl), λ h. refl)
type_exact (Some (V.Num n)) T.Flag = (λ h. absurd (cc), λ h. absurd (cc h.1))
type_exact (Some (V.Num n)) T.Unusable = (λ h. tt, λ h. refl)
type_exact (Some (V.Flag b)) T.Num = (λ h. absurd (cc), λ h. absurd (cc h.1))
type_exact (Some (V.Flag b)) T.Flag = (λ h. (b, refl), λ h. refl)
type_exact (Some (V.Flag b)) T.Unusable = (λ h. tt, λ h. refl)

known_back : (o : Option Value) (v : Value) → local_cell known K.Varies o ≡ known v → o ≡ Some v
known_back None (V.Num n) e = absurd (cc)
known_back None (V.Flag b) e = absurd (cc)
known_back (Some (V.Num m)) (V.Num n) e = cc
known_back (Some (V.Num m)) (V.Flag b) e = absurd (cc)
known_back (Some (V.Flag p)) (V.Num n) e = absurd (cc)
known_back (Some (V.Flag p)) (V.Flag b) e = cc

-- a known cell is at or above no cell but itself
value_exact : (o : Option Value) (v : Value) → (known v ≡ K.Varies → ⊥) →
    (join_consts (local_cell known K.Varies o) (known v) ≡ known v) ↔ (o ≡ Some v)
value_exact o v ne = (
  λ h. known_back o v (⊎_elim (λ e. e) (λ e. absurd (ne e)) (below_flat same_const K.Varies same_const_tells (local_cell known K.Varies o) (known v) h)),
  λ h. rw h (const_laws.idempotent (known v)),
)

const_exact : (o : Option Value) (c : ConstCell) → (join_consts (local_cell known K.Varies o) c ≡ c) ↔ ConstTells c o
const_exact o (K.Num n) = value_exact o (V.Num n) (λ e. cc)
const_exact o (K.Flag b) = value_exact o (V.Flag b) (λ e. cc)
const_exact o K.Varies = (λ h. tt, λ h. const_laws.greatest (local_cell known K.Varies o))

pub types_tell : TypesTell
types_tell = describes_above join_types T.Unusable type_of TypeTells type_exact

pub constants_tell : ConstantsTell
constants_tell = describes_above join_consts K.Varies known ConstTells const_exact
