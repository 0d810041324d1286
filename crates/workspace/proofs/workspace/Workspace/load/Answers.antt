use Rattle.std.proofs.Common.{◌≡◌, Some, arith, subst}
use Rattle.workspace.specs.Calls.{loaded}
use Rattle.workspace.specs.Does.{depth, LoadsAt}
use Rattle.workspace.specs.Stored.{contents_of, model_of}
use Rattle.workspace.proofs.workspace.Workspace.load.Goals as goal

pub returns-clause-does : goal.returns-clause-does
returns-clause-does g c =
    let none : 0 ≡ depth (model_of c.args.self.now) = omega (arith, c.depth.ensures, c.if-depth-gt0.false) in
    subst
    (λ d. LoadsAt d c.args.file.now (model_of c.args.self.now) loaded (Some (contents_of c.load.new.self)))
    none
    (c.in_ok-examine.ensures.found.0 (model_of c.args.self.now) (Some (contents_of c.load.new.self)) c.load.ensures.holds)
