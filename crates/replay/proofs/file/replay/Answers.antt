-- `replay::file::replay` meets its contract.
use borrow.Author.Rules.{rules}
use Rattle.replay.specs.File.{begins, broken}
use Rattle.replay.proofs.file.replay.Goals as goal

pub returns-in-None : goal.returns-in-None
returns-in-None g c = search (begins, broken, rules)
