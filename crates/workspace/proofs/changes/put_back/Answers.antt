use Rattle.std.proofs.Common.{◌≡◌, ◌++◌, ◌∷◌, [], ap, sym, ◌∙◌, take}
use Rattle.std.proofs.lemmas.List.{take-append-le}
use Rattle.std.proofs.lemmas.List.Elements.{All-pop}
use Rattle.std.specs.Prelude.{Some}
use Rattle.workspace.specs.declared.trail.Change.{Change}
use Rattle.workspace.specs.Record.{Recorded, MayStand}
use Rattle.workspace.proofs.PutBack.{put_back_step}
use Rattle.workspace.proofs.changes.put_back.Goals as goal

pub loop-place-preserved : goal.loop-place-preserved
loop-place-preserved c =
    let u = c.loop-place.unit in
    let t : Recorded = c.loop-place.trail in
    let rest : Recorded = c.pop_past.new.self in
    let x : Change = c.in-Some.field-0 in
    let popped : t ≡ record { changes = rest.changes ++ x ∷ []; marks = rest.marks } = c.in-Some.ensures.0 in
    let changes : t.changes ≡ rest.changes ++ x ∷ [] = ap (λ (r : Recorded). r.changes) popped in
    let stand = All-pop (MayStand u.locals u.len) t.changes rest.changes (Some x) changes c.loop-place.invariant.stand in
    let same = c.put.ensures in
    record {
      locals = same.locals ∙ c.loop-place.invariant.locals;
      len = same.len ∙ c.loop-place.invariant.len;
      stand = rw (same.locals, same.len) stand.0;
      mark = c.in-Some.ensures.1;
      code = put_back_step u c.put.new.unit t.changes rest.changes x c.args.mark changes c.in-Some.ensures.1 stand.1.0 same ∙ c.loop-place.invariant.code;
      kept =
          sym (take-append-le c.args.mark rest.changes (x ∷ []) c.in-Some.ensures.1)
          ∙ ap (take c.args.mark) (sym changes)
          ∙ c.loop-place.invariant.kept;
      marks = sym (ap (λ (r : Recorded). r.marks) popped) ∙ c.loop-place.invariant.marks;
    }
