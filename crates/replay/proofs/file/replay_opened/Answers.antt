-- `replay::file::replay_opened` meets its contract.
use borrow.Author.Rules.{rules}
use Rattle.replay.specs.File.{begins, broken}
use Rattle.replay.proofs.FileLaws.{step-on, step-over}
use Rattle.replay.proofs.file.replay_opened.Goals as goal

pub loop-init : goal.loop-init
loop-init g c = search (begins, rules)

pub loop-preserved : goal.loop-preserved
loop-preserved g c = step-on c.loop.invariant c.in-Continue.ensures

pub returns-in-Break : goal.returns-in-Break
returns-in-Break g c = step-over c.loop.invariant c.in-Break.ensures

pub returns : goal.returns
returns g c = search (broken, rules)
