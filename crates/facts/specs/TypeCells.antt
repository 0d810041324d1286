-- The kinds of values as cells. Assumes nothing.
use Rattle.std.specs.Prelude.{Bool, true, false}
use Rattle.std.proofs.Common.{refl}
use Rattle.facts.specs.Cell.{CellLaws}
use Rattle.facts.specs.Flat.{flat, flat_rank, flat_laws, Tells}
use Rattle.facts.specs.declared.cell.TypeCell.{TypeCell}
use Rattle.facts.specs.declared.cell.TypeCell.TheVariants.{Num, Flag, Unusable}

abbrev pub same_type : TypeCell → TypeCell → Bool
same_type Num Num = true
same_type Num Flag = false
same_type Num Unusable = false
same_type Flag Num = false
same_type Flag Flag = true
same_type Flag Unusable = false
same_type Unusable Num = false
same_type Unusable Flag = false
same_type Unusable Unusable = true

abbrev pub join_types : TypeCell → TypeCell → TypeCell
join_types = flat same_type Unusable

pub same_type_tells : Tells same_type
same_type_tells Num Num = (λ _. refl, λ _. refl)
same_type_tells Num Flag = (λ t. cc, λ e. cc)
same_type_tells Num Unusable = (λ t. cc, λ e. cc)
same_type_tells Flag Num = (λ t. cc, λ e. cc)
same_type_tells Flag Flag = (λ _. refl, λ _. refl)
same_type_tells Flag Unusable = (λ t. cc, λ e. cc)
same_type_tells Unusable Num = (λ t. cc, λ e. cc)
same_type_tells Unusable Flag = (λ t. cc, λ e. cc)
same_type_tells Unusable Unusable = (λ _. refl, λ _. refl)

pub type_laws : CellLaws (flat same_type Unusable) Unusable (flat_rank same_type Unusable) 1
type_laws = flat_laws same_type Unusable same_type_tells
