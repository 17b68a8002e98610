-- `leaves::refusal::tags::judge_tags` meets its contract.
use Rattle.leaves.proofs.refusal.TagLaws.{Tagging}
use Rattle.leaves.proofs.refusal.tags.judge_tags.Given as goal

abbrev pub invariant-loop-i : goal.invariant-loop-i
invariant-loop-i l = Tagging l.sheet l.n l.i
