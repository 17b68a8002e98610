-- `leaves::text::chunk::skip_passing` meets its contract.
use lib.ListN.{length}
use Rattle.leaves.specs.Text.Chunk.{Skipped}
use Rattle.leaves.proofs.text.chunk.skip_passing.Given as goal

abbrev pub invariant-loop-rest : goal.invariant-loop-rest
invariant-loop-rest g l = Skipped (g.T.ByteTest.passing l.test) l.s l.rest

abbrev pub decreases-loop-rest : goal.decreases-loop-rest
decreases-loop-rest g l = length l.rest
