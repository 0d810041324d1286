-- The whole promise.
use Rattle.std.proofs.Common.{List, None, refl, subst}
use Rattle.workspace.specs.Does.{Model}
use Rattle.workspace.specs.Histories.{Event, Runs, KeptPromise}
use Rattle.workspace.proofs.KeptHistories.{runs_as_loaded, stays_solved}
use Rattle.workspace.proofs.KeptFiles.{writes_loaded, written_loads}
use Rattle.workspace.proofs.Untraced.{runs_alike, untraced_holds}

pub promise_kept : (made : List Event) (m : Model) → Runs None made m → KeptPromise made
promise_kept made m runs = record {
  defined = (m, runs);
  runs = λ before since later file u c is none reads r. runs_as_loaded before since file u c none reads r;
  solved = λ before since later file n is r. stays_solved before since file n r;
  untraced = untraced_holds made m runs;
  repeated = λ again n others same. (runs_alike again made None None n m refl same others runs).0;
  written_back = λ before later file buffer filled n is. writes_loaded before later file buffer filled n m (subst (λ es. Runs None es m) is runs);
  loads_again = λ before later buffer filled n is. written_loads before later buffer filled n m (subst (λ es. Runs None es m) is runs);
}
