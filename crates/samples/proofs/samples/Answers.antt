use Rattle.std.proofs.Common.{refl}
use Rattle.std.specs.Int.{int_wrap}
use Rattle.facts.specs.TypeCells.{join_types}
use Rattle.facts.specs.ConstCells.{join_consts}
use Rattle.samples.proofs.Arithmetic.{spins, unlike_heights, flag_on_three, three_on_flag}
use Rattle.samples.proofs.Loads.{halt_written, jump_refused, spin_runs, eight_loaded, nine_refused, five_tidied}
use Rattle.samples.proofs.samples.Goals as goal

pub returns : goal.returns
unfolding int_wrap
returns c = record {
  quotient = refl;
  corner = refl;
  over = refl;
  halts = refl;
  none = refl;
  spins = spins;
  unlike_kinds = (refl, refl);
  unlike_types = unlike_heights join_types;
  unlike_constants = unlike_heights join_consts;
  flag_on_three = flag_on_three;
  three_on_flag = three_on_flag;
  halt_file = refl;
  halt_written = halt_written;
  jump_refused = jump_refused;
  jump_number = refl;
  jump_place = refl;
  spin_runs = spin_runs;
  eight_loaded = eight_loaded;
  nine_refused = nine_refused;
  nine_number = refl;
  nine_place = refl;
  nine_reason = refl;
  five_tidied = five_tidied;
}
