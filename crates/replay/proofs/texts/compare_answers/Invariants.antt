-- `replay::texts::compare_answers` meets its contract.
use Rattle.replay.proofs.TextLaws.{Comparing}
use Rattle.replay.proofs.texts.compare_answers.Given as goal

abbrev pub invariant-loop-k : goal.invariant-loop-k
invariant-loop-k l = Comparing l.answers l.mask l.bits l.initial.tally l.k l.tally
