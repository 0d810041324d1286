use Rattle.std.proofs.Common.{◌≡◌, ℕ}
use Rattle.dataflow.specs.FirstIn.{is_member}
use Rattle.picks.proofs.seeded.SeededPolicy.take.Given as goal

-- passing over a node leaves the set of pending nodes
abbrev pub invariant-loop : goal.invariant-loop
invariant-loop l = (v : ℕ) → is_member l.self.queue v ≡ is_member l.initial.self.queue v
