-- `replay::words::fill` meets its contract.
use Rattle.replay.specs.Words.{word_of}
use Rattle.replay.proofs.WordLaws.{Filling}
use Rattle.replay.proofs.words.fill.Given as goal

abbrev pub invariant-loop-k : goal.invariant-loop-k
invariant-loop-k l = Filling (word_of l.s) l.initial.words l.words l.k
