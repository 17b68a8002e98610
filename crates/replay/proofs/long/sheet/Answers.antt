-- `replay::long::sheet` meets its contract.
use Rattle.replay.proofs.LongLaws.{all-zeros, unfilled-zeros}
use Rattle.replay.specs.Long.{long_words}
use Rattle.replay.proofs.long.sheet.Goals as goal

pub returns : goal.returns
returns c = all-zeros _ long_words _ unfilled-zeros c.vec.ensures.items_if_clones_equal
