-- `replay::long::fill_with_breaks` meets its contract.
use Prim.Native.Nat.{◌%◌}
use Rattle.replay.specs.Long.{break_word}
use Rattle.replay.proofs.WordLaws.{Filling}
use Rattle.replay.proofs.long.fill_with_breaks.Given as goal

abbrev pub invariant-loop-k : goal.invariant-loop-k
invariant-loop-k l = Filling (λ j. break_word (j % 12)) l.initial.words l.words l.k
