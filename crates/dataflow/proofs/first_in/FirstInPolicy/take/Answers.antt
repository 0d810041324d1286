use Rattle.std.proofs.Common.{ℕ, ◌+◌, ◌-◌, ◌%◌, ◌<◌, List, get_or, sym, ap, ◌∙◌, arith}
use Rattle.dataflow.specs.FirstIn.{is_member, window}
use Rattle.dataflow.proofs.Queues.{is_member_first, is_member_rest, nodes_before_take, queue_before_take, first_below, IsRing-take}
use Rattle.dataflow.proofs.first_in.FirstInPolicy.take.Goals as goal

pub bounds-self-inside-node : goal.bounds-self-inside-node
bounds-self-inside-node c =
    let q = c.self.inside in
    let nonempty : 0 < q.len = omega (arith, c.if-self-eq0.false) in
    first_below q.head q.len q.slots q.marks c.self.told.0 c.self.told.1 c.self.invariant nonempty

pub invariant_of-self : goal.invariant_of-self
invariant_of-self c =
    let q = c.self.inside in
    let nonempty : 0 < q.len = omega (arith, c.if-self-eq0.false) in
    IsRing-take q.head q.len q.slots q.marks c.self.told.0 c.self.told.1 c.self.invariant nonempty

pub returns-clause-taken : goal.returns-clause-taken
returns-clause-taken c =
    let q = c.self.inside in
    let nonempty : 0 < q.len = omega (arith, c.if-self-eq0.false) in
    let first = get_or q.slots q.head 0 in
    let rest = window ((q.head + 1) % 128) (q.len - 1) q.slots in
    let queue = queue_before_take q.head q.len q.slots q.marks c.self.told.0 c.self.told.1 c.self.invariant nonempty in
    let nodes = sym c.self.view_is ∙ nodes_before_take q.head q.len q.slots q.marks c.self.told.0 c.self.told.1 c.self.invariant nonempty in (
      ap (λ (xs : List ℕ). is_member xs first) nodes ∙ is_member_first first rest,
      queue.once.0,
      (λ w other. sym (ap (λ (xs : List ℕ). is_member xs w) nodes ∙ is_member_rest first w rest other)),
      first_below q.head q.len q.slots q.marks c.self.told.0 c.self.told.1 c.self.invariant nonempty,
    )

pub returns-clause-first : goal.returns-clause-first
returns-clause-first c =
    let q = c.self.inside in
    let nonempty : 0 < q.len = omega (arith, c.if-self-eq0.false) in
    sym c.self.view_is ∙ nodes_before_take q.head q.len q.slots q.marks c.self.told.0 c.self.told.1 c.self.invariant nonempty
