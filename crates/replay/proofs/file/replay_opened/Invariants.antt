-- `replay::file::replay_opened` meets its contract.
use Rattle.replay.specs.File.{Reached}
use Rattle.replay.proofs.file.replay_opened.Given as goal

abbrev pub invariant-loop : goal.invariant-loop
invariant-loop g l = Reached (g.F.Format.replayed l.format) l.tally
