-- `leaves::refusal::judge::judge_records` meets its contract.
use Rattle.leaves.proofs.refusal.JudgeLaws.{Judging}
use Rattle.leaves.proofs.refusal.judge.judge_records.Given as goal

abbrev pub invariant-loop-i : goal.invariant-loop-i
invariant-loop-i l = Judging l.sheet l.bytes l.n l.i l.before l.«open»
