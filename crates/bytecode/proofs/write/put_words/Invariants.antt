use Rattle.std.proofs.Common.{◌≡◌, ◌+◌, ◌*◌, ◌++◌, map, take, drop}
use Rattle.std.specs.List.{flat_map}
use Rattle.bytecode.specs.Layout.{encoded}
use Rattle.bytecode.proofs.write.put_words.Given as goal

abbrev pub invariant-loop-place : goal.invariant-loop-place
invariant-loop-place g l = l.out ≡ (take 4 l.initial.out ++ flat_map encoded (take l.place (map g.S.Spelled.spelling l.items))) ++ drop (4 + 6 * l.place) l.initial.out
