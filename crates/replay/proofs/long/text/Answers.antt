-- `replay::long::text` meets its contract.
use Rattle.replay.proofs.LongLaws.{all-zeros, text-zeros}
use Rattle.replay.proofs.long.text.Goals as goal

pub returns : goal.returns
returns c = all-zeros _ 16777217 _ text-zeros c.vec.ensures.items_if_clones_equal
