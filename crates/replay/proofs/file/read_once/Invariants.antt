-- `replay::file::read_once` meets its contract: nothing is read by a reading that was interrupted.
use Rattle.std.proofs.Common.{◌≡◌, length, []}
use Rattle.std.specs.Io.KnownBytes.{Consumes}
use Rattle.replay.proofs.file.read_once.Given as goal

abbrev pub invariant-loop : goal.invariant-loop
invariant-loop g l = (length l.buffer ≡ length l.initial.buffer) × Consumes (g.R.Read.remaining l.initial.file) (g.R.Read.remaining l.file) []
