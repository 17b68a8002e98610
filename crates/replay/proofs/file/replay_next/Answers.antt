-- `replay::file::replay_next` meets its contract.
use borrow.Author.Rules.{rules}
use Rattle.replay.specs.File.{went}
use Rattle.replay.proofs.file.replay_next.Goals as goal

pub returns-in-Ok-Some : goal.returns-in-Ok-Some
returns-in-Ok-Some g c = search (went, rules)
