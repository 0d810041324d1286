use Rattle.std.proofs.Common.{arith}
use Rattle.std.proofs.lemmas.Grind.{common_steps}
use Rattle.bytecode.proofs.Files.{joined_long}
use Rattle.listings.proofs.listing.file_of.Goals as goal

pub unreachable-requires : goal.unreachable-requires
unreachable-requires c = grind (arith, common_steps, joined_long, c.in-Err.ensures)

pub returns : goal.returns
returns c = grind (arith, common_steps, joined_long, c.in-Ok.ensures)
