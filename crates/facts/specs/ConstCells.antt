-- Values that are known or not, as cells. Assumes nothing.
use Rattle.std.specs.Prelude.{Bool, true, false, not}
use Rattle.std.specs.Ordering.{int_eq}
use Rattle.std.proofs.Common.{refl, ap}
use Rattle.std.proofs.lemmas.Bool.Decides.{Decides-int_eq}
use Rattle.facts.specs.Cell.{CellLaws}
use Rattle.facts.specs.Flat.{flat, flat_rank, flat_laws, Tells}
use Rattle.facts.specs.declared.cell.ConstCell.{ConstCell}
use Rattle.facts.specs.declared.cell.ConstCell.TheVariants.{Num, Flag, Varies}

-- two flags are one
abbrev pub same_flag : Bool → Bool → Bool
same_flag true b = b
same_flag false b = not b

abbrev pub same_const : ConstCell → ConstCell → Bool
same_const (Num x) (Num y) = int_eq x y
same_const (Num x) (Flag b) = false
same_const (Num x) Varies = false
same_const (Flag a) (Num y) = false
same_const (Flag a) (Flag b) = same_flag a b
same_const (Flag a) Varies = false
same_const Varies (Num y) = false
same_const Varies (Flag b) = false
same_const Varies Varies = true

abbrev pub join_consts : ConstCell → ConstCell → ConstCell
join_consts = flat same_const Varies

pub same_const_tells : Tells same_const
same_const_tells (Num x) (Num y) = (λ t. ap Num ((Decides-int_eq x y).0 t), λ e. (Decides-int_eq x y).1 (cc))
same_const_tells (Num x) (Flag b) = (λ t. cc, λ e. cc)
same_const_tells (Num x) Varies = (λ t. cc, λ e. cc)
same_const_tells (Flag a) (Num y) = (λ t. cc, λ e. cc)
same_const_tells (Flag true) (Flag true) = (λ t. refl, λ e. refl)
same_const_tells (Flag true) (Flag false) = (λ t. cc, λ e. cc)
same_const_tells (Flag false) (Flag true) = (λ t. cc, λ e. cc)
same_const_tells (Flag false) (Flag false) = (λ t. refl, λ e. refl)
same_const_tells (Flag a) Varies = (λ t. cc, λ e. cc)
same_const_tells Varies (Num y) = (λ t. cc, λ e. cc)
same_const_tells Varies (Flag b) = (λ t. cc, λ e. cc)
same_const_tells Varies Varies = (λ _. refl, λ _. refl)

pub const_laws : CellLaws (flat same_const Varies) Varies (flat_rank same_const Varies) 1
const_laws = flat_laws same_const Varies same_const_tells
