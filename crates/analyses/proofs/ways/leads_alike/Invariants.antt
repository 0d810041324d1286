use Rattle.std.proofs.Common.{ℕ, ◌<◌, get_or}
use Rattle.bytecode.specs.declared.instr.Instr.TheVariants.{Nop}
use Rattle.analyses.specs.Edges.{GoAlike}
use Rattle.analyses.proofs.ways.leads_alike.Given as goal

abbrev pub invariant-loop-place : goal.invariant-loop-place
invariant-loop-place l = (p : ℕ) → p < l.place → GoAlike (get_or l.a.code p Nop) (get_or l.b.code p Nop)
