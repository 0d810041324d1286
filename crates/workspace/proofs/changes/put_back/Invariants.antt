use Rattle.std.proofs.Common.{◌≡◌, ◌≤◌, length, take, drop}
use Rattle.std.specs.List.{All}
use Rattle.bytecode.specs.Files.{held}
use Rattle.workspace.specs.Record.{MayStand, put_back}
use Rattle.workspace.proofs.changes.put_back.Given as goal

abbrev pub invariant-loop-place : goal.invariant-loop-place
invariant-loop-place l = record {
  locals : l.unit.locals ≡ l.initial.unit.locals;
  len : l.unit.len ≡ l.initial.unit.len;
  stand : All (MayStand l.unit.locals l.unit.len) l.trail.changes;
  mark : l.mark ≤ length l.trail.changes;
  code : put_back (held l.unit) (drop l.mark l.trail.changes) ≡ put_back (held l.initial.unit) (drop l.mark l.initial.trail.changes);
  kept : take l.mark l.trail.changes ≡ take l.mark l.initial.trail.changes;
  marks : l.trail.marks ≡ l.initial.trail.marks;
}

abbrev pub decreases-loop-place : goal.decreases-loop-place
decreases-loop-place l = length l.trail.changes
