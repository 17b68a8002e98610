-- `leaves::text::chunk::begins` meets its contract.
use Rattle.leaves.proofs.text.ChunkLaws.{few, sixteen}
use Rattle.leaves.specs.Text.Chunk.{chunk}
use Rattle.leaves.proofs.text.chunk.begins.Goals as goal

pub returns-then-s-lt-CHUNK : goal.returns-then-s-lt-CHUNK
returns-then-s-lt-CHUNK g c = few (g.T.ByteTest.passing c.args.test.now) chunk c.args.s.now c.if-s-lt-CHUNK.true

pub returns : goal.returns
returns g c = sixteen (g.T.ByteTest.passing c.args.test.now) c.args.s.now 0 c.four.ensures c.four-2.ensures c.four-3.ensures c.four-4.ensures
