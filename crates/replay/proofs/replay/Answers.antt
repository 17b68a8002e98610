-- `replay::replay` meets its contract.
use borrow.Author.Rules.{rules}
use Rattle.replay.specs.File.{adds}
use Rattle.replay.proofs.replay.Goals as goal

pub returns : goal.returns
returns g c = search (adds, rules)
