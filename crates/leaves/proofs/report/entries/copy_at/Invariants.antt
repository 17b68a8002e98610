-- `leaves::report::entries::copy_at` meets its contract.
use Rattle.leaves.proofs.report.EntryLaws.{Copying}
use Rattle.leaves.proofs.report.entries.copy_at.Given as goal

abbrev pub invariant-loop-i : goal.invariant-loop-i
invariant-loop-i l = Copying l.initial.dst l.at l.src l.i l.dst
