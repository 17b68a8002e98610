-- `leaves::text::pipe::has_odd_escaped_pipe` meets its contract.
use mathlib.Core.Path.{◌≡◌}
use Rattle.leaves.specs.Text.Pipe.{has_odd_escaped_pipe, odd_pipe_after}
use lib.ListN.{length}
use Rattle.leaves.proofs.text.pipe.has_odd_escaped_pipe.Given as goal

abbrev pub invariant-loop-rest : goal.invariant-loop-rest
invariant-loop-rest l = has_odd_escaped_pipe l.s ≡ odd_pipe_after l.odd l.rest

abbrev pub decreases-loop-rest : goal.decreases-loop-rest
decreases-loop-rest l = length l.rest
