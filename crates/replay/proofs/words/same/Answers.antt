-- `replay::words::same` meets its contract.
use Rattle.replay.proofs.WordLaws.{words}
use Rattle.replay.proofs.words.same.Goals as goal

pub loop-k-preserved : goal.loop-k-preserved
loop-k-preserved c = search words
