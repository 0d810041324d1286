use Rattle.std.proofs.Common.{◌≡◌, ◌<◌, Some, refl, sym, subst, arith}
use Rattle.bytecode.specs.Files.{held}
use Rattle.bytecode.proofs.Held.{length-held}
use Rattle.rewrite.specs.Weights.{weight_of}
use Rattle.rewrite.proofs.Weights.{weight_twice}
use Rattle.workspace.specs.Does.{Tidies}
use Rattle.rewrite.specs.Choices.{NothingToDo}
use Rattle.workspace.specs.Stored.{Stored, contents_of}
use Rattle.workspace.proofs.Tidying.{amends_lower, tidied_none, tidied_more, tidied_all, TidiedTo}
use Rattle.workspace.proofs.held.Held.tidy.Goals as goal

lighter : (g : _) (c : goal.After-amend g) → weight_of (held c.amend.new.self.unit) < weight_of (held c.loop-change.self.unit)
lighter g c =
    let low = c.in-Some.ensures.0 in
    amends_lower
    c.loop-change.self
    c.amend.new.self
    c.in-Some.change.place
    c.in-Some.change.instr
    low.inside
    (c.in-Some.change.rule, low.here.yields)
    c.amend.ensures.amends

pub loop-change-init : goal.loop-change-init
loop-change-init g c = record {
  few = omega (arith, weight_twice (held c.args.self.now.unit), length-held c.args.self.now.unit, c.args.self.now.unit.most);
  tidied = tidied_none c.args.self.now;
  unchanged = λ none. refl;
  graph = λ some. absurd (omega (arith, some));
  emptied = c.clear.ensures;
}

pub loop-change-smaller : goal.loop-change-smaller
loop-change-smaller g c = lighter g c

pub loop-change-preserved : goal.loop-change-preserved
loop-change-preserved g c = record {
  few = omega (arith, c.loop-change.invariant.few, lighter g c);
  tidied =
      tidied_more
      (contents_of c.args.self.now)
      c.loop-change.self
      c.amend.new.self
      c.in-Some.change
      c.loop-change.made
      c.in-Some.ensures.0
      c.amend.ensures.amends
      c.loop-change.invariant.tidied;
  unchanged = λ none. absurd (omega (arith, none));
  graph = λ some. c.amend.ensures.graph;
  emptied = record { types = c.loop-change.invariant.emptied.types; constants = c.amend.ensures.emptied.0; lives = c.amend.ensures.emptied.1 };
}

pub returns-then-made-gt0-clause-tidies : goal.returns-then-made-gt0-clause-tidies
returns-then-made-gt0-clause-tidies g c =
    let e = contents_of c.args.self.now in
    let after = c.solve_types.new.self in
    let same = sym c.solve_types.ensures.rest in
    tidied_all
    e
    after
    c.loop-change.made
    (omega (arith, c.if-made-gt0.true))
    c.solve_types.ensures.solved
    (subst (λ (s : Stored). NothingToDo s.unit (contents_of s).constants (contents_of s).lives) same c.in_default.ensures)
    (subst (TidiedTo e c.loop-change.made) same c.loop-change.invariant.tidied)

pub returns-else-made-gt0-clause-tidies : goal.returns-else-made-gt0-clause-tidies
returns-else-made-gt0-clause-tidies g c =
    let here = c.loop-change.self in
    let none : 0 ≡ c.loop-change.made = omega (arith, c.if-made-gt0.false) in
    let same : here ≡ c.args.self.now = c.loop-change.invariant.unchanged (omega (arith, c.if-made-gt0.false)) in
    subst
    (λ k. Tidies k (contents_of c.args.self.now) (Some (contents_of here)))
    none
    (subst (λ s. Tidies 0 (contents_of s) (Some (contents_of here))) same (c.in_default.ensures, refl))
