use Rattle.std.proofs.Common.{◌≡◌, ap, arith}
use Rattle.bytecode.specs.Files.{held}
use Rattle.workspace.specs.Record.{codes_at, IsRecord}
use Rattle.workspace.specs.Stored.{Stored, contents_of}
use Rattle.workspace.proofs.Records.{record_weight, record_changed}
use Rattle.workspace.proofs.Yielded.{yield_lowers, yield_sound}
use Rattle.workspace.proofs.held.Held.amend.Goals as goal

pub push-requires : goal.push-requires
push-requires g c =
    let same = ap (λ (s : Stored). s.unit) c.self.view_is in
    let lower = yield_lowers (contents_of c.args.self.now) c.args.place c.args.instr c.requires.inside c.requires.yielded in
    omega (arith, rw (← same) at lower, record_weight c.self.inside.unit c.self.inside.trail c.self.invariant)

pub put-requires-clause-stands : goal.put-requires-clause-stands
put-requires-clause-stands g c =
    rw (ap (λ (s : Stored). s.unit) c.self.view_is)
    (yield_sound (contents_of c.args.self.now) c.args.place c.args.instr c.requires.inside c.requires.yielded c.requires.in_range)

recorded : (g : _) (c : goal.After-solve_rest g)
    → IsRecord c.put.new.unit c.push.new.self
    × (codes_at (held c.put.new.unit) c.push.new.self.changes c.push.new.self.marks
    ≡ codes_at (held c.self.inside.unit) c.self.inside.trail.changes c.self.inside.trail.marks)
recorded g c =
    let same = ap (λ (s : Stored). s.unit) c.self.view_is in
    let lower = yield_lowers (contents_of c.args.self.now) c.args.place c.args.instr c.requires.inside c.requires.yielded in
    record_changed
    c.self.inside.unit
    c.put.new.unit
    c.self.inside.trail
    c.push.new.self
    c.args.place
    c.args.instr
    c.self.invariant
    (rw (← same) at c.requires.inside)
    c.put.ensures
    (rw (← same) at lower)
    c.push.ensures

pub invariant_of-self : goal.invariant_of-self
invariant_of-self g c = (recorded g c).0

pub returns-clause-amends : goal.returns-clause-amends
returns-clause-amends g c =
    rw (← c.self.view_is) (record {
      changed = c.put.ensures;
      opened = (recorded g c).1;
      rest = rw (← c.set.ensures) c.solve_rest.ensures.solved;
    })
