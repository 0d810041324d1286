-- How many instructions a unit holds.
use Rattle.std.proofs.Common.{◌≡◌, length}
use Rattle.std.proofs.lemmas.List.{length-take-le}
use Rattle.bytecode.specs.declared.unit.Unit.{Unit as TheUnit}
use Rattle.bytecode.specs.Files.{held}

pub length-held : (u : TheUnit) → length (held u) ≡ u.len
length-held u = length-take-le u.len u.code (rw u.whole u.most)
