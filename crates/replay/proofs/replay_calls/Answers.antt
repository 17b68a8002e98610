-- `replay::replay_calls` meets its contract.
use Rattle.replay.proofs.LongLaws.{add-calls}
use Rattle.replay.proofs.replay_calls.Goals as goal

pub returns : goal.returns
returns g c = add-calls _ _ _ _ _ c.replay.ensures c.fill_with_breaks.ensures c.requires.sheet c.requires.text
