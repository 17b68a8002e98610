-- `replay::words::same` meets its contract.
use Prim.Native.Nat.{◌*◌}
use Rattle.replay.specs.Words.{word_or}
use Rattle.replay.proofs.WordLaws.{Agreeing}
use Rattle.replay.proofs.words.same.Given as goal

abbrev pub invariant-loop-k : goal.invariant-loop-k
invariant-loop-k l = Agreeing (λ j. word_or l.s l.rest (j * 4)) l.words l.k
