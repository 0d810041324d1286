use Rattle.std.proofs.Common.{subst}
use Rattle.rewrite.specs.Rules.{Yields}
use Rattle.rewrite.specs.Choices.{InRange}
use Rattle.rewrite.proofs.Rules.{yields_one}
use Rattle.rewrite.proofs.yields.makes.Goals as goal

pub returns-in-Some : goal.returns-in-Some
returns-in-Some c =
    let made = c.in-Some.ensures in
    record {
      decides = (
        λ same. subst (Yields c.args.rule c.args.instr c.args.known.now c.args.live) (c.eq.ensures.decides.0 same) made.0,
        λ new. c.eq.ensures.decides.1 (yields_one c.args.rule c.args.instr c.args.known.now c.args.live c.in-Some.made c.args.new made.0 new),
      );
      in_range = λ same. subst InRange (c.eq.ensures.decides.0 same) made.1;
    }
