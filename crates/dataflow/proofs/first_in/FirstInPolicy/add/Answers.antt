use Rattle.std.proofs.Common.{ℕ, List, [], ◌∷◌, ◌++◌, sym, ap, ◌∙◌}
use Rattle.std.proofs.lemmas.Bool.{lt-ltb, true≢false}
use Rattle.dataflow.specs.FirstIn.{is_member}
use Rattle.dataflow.proofs.Queues.{is_member-push_same, is_member-push_other, room_for, nodes_after_add, IsRing-add}
use Rattle.dataflow.proofs.first_in.FirstInPolicy.add.Goals as goal

pub invariant_of-self : goal.invariant_of-self
invariant_of-self c =
    let q = c.self.inside in
    IsRing-add q.head q.len q.slots q.marks c.self.told.0 c.self.told.1 c.self.invariant c.args.node c.if-node-ge128.false c.if-not-self-node.true

pub returns-then-not-self-node-clause-appended : goal.returns-then-not-self-node-clause-appended
returns-then-not-self-node-clause-appended c = λ _ _.
    let q = c.self.inside in
    let room = room_for q.head q.len q.slots q.marks c.self.told.0 c.self.told.1 c.self.invariant c.args.node c.if-node-ge128.false c.if-not-self-node.true in
    nodes_after_add q.head q.len q.slots q.marks c.self.told.0 c.self.told.1 c.self.invariant c.args.node room
    ∙ ap (λ (xs : List ℕ). xs ++ c.args.node ∷ []) c.self.view_is

pub returns-then-not-self-node-clause-added : goal.returns-then-not-self-node-clause-added
returns-then-not-self-node-clause-added c =
    let q = c.self.inside in
    let node = c.args.node in
    let now = c.args.self.now in
    let room = room_for q.head q.len q.slots q.marks c.self.told.0 c.self.told.1 c.self.invariant node c.if-node-ge128.false c.if-not-self-node.true in
    let pushed =
    nodes_after_add q.head q.len q.slots q.marks c.self.told.0 c.self.told.1 c.self.invariant node room ∙ ap (λ (xs : List ℕ). xs ++ node ∷ []) c.self.view_is in
    record {
      answers = sym (lt-ltb node 128 c.if-node-ge128.false);
      added = λ _. ap (λ (xs : List ℕ). is_member xs node) pushed ∙ is_member-push_same now node;
      others = λ w other. ap (λ (xs : List ℕ). is_member xs w) pushed ∙ is_member-push_other now node w other;
      refused = λ no. absurd (true≢false no);
    }
