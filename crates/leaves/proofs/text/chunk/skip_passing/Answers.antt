-- `leaves::text::chunk::skip_passing` meets its contract.
use mathlib.Core.Path.{sym, ◌∙◌}
use Prim.Native.Nat.{◌≤◌}
use native.Mathlib.Omega.{arith}
use lib.ListN.{length}
use Rattle.leaves.specs.Text.Chunk.{chunk}
use Rattle.leaves.proofs.text.ChainLaws.{tail-all}
use Rattle.leaves.proofs.text.ChunkLaws.{past_none, past_chunk, nearer, reach}
use Rattle.leaves.proofs.text.chunk.skip_passing.Goals as goal

pub loop-rest-init : goal.loop-rest-init
loop-rest-init g c = past_none (g.T.ByteTest.passing c.args.test.now) c.args.s.now

pub slice_bounds-rest-count : goal.slice_bounds-rest-count
slice_bounds-rest-count g c = let h : chunk ≤ length c.loop-rest.rest.now = reach (g.T.ByteTest.passing c.args.test.now) c.loop-rest.rest.now (sym c.begins.ensures ∙ c.loop-rest-test.true) in omega arith

pub slice_bounds-rest-start : goal.slice_bounds-rest-start
slice_bounds-rest-start g c = let h : chunk ≤ length c.loop-rest.rest.now = reach (g.T.ByteTest.passing c.args.test.now) c.loop-rest.rest.now (sym c.begins.ensures ∙ c.loop-rest-test.true) in omega arith

pub loop-rest-smaller : goal.loop-rest-smaller
loop-rest-smaller g c = rw (tail-all c.loop-rest.rest.now chunk) (nearer (g.T.ByteTest.passing c.args.test.now) c.loop-rest.rest.now (sym c.begins.ensures ∙ c.loop-rest-test.true))

pub loop-rest-preserved : goal.loop-rest-preserved
loop-rest-preserved g c = rw (tail-all c.loop-rest.rest.now chunk) (past_chunk (g.T.ByteTest.passing c.args.test.now) c.args.s.now c.loop-rest.rest.now c.loop-rest.invariant (sym c.begins.ensures ∙ c.loop-rest-test.true))
