-- `leaves::refusal::judge::judge_records` meets its contract.
use Rattle.std.proofs.lemmas.Result.{err_from_is_err_and}
use Rattle.leaves.proofs.refusal.JudgeLaws.{judging-stop, judging-passed, judging-turn, records-judged}
use Rattle.leaves.proofs.refusal.judge.judge_records.Goals as goal

pub loop-i-init : goal.loop-i-init
loop-i-init c = search records-judged

pub returns-in_err-judge : goal.returns-in_err-judge
returns-in_err-judge c = let p = err_from_is_err_and c.from_residual.result c.from_residual.ensures.1 in rw (p.1, p.2) (judging-stop _ _ _ _ _ _ c.loop-i-test.true c.loop-i.invariant c.judge.ensures c.record_at-r.ensures c.slot_of-slot.ensures.is c.in_err-judge.was)

pub after_child-requires : goal.after_child-requires
after_child-requires c = let p = judging-passed _ _ _ _ _ _ c.loop-i-test.true c.loop-i.invariant c.judge.ensures c.record_at-r.ensures c.slot_of-slot.ensures.is c.in_ok-judge.was in (p.kind, p.place)

pub parent_group-requires : goal.parent_group-requires
parent_group-requires c = let p = judging-passed _ _ _ _ _ _ c.loop-i-test.true c.loop-i.invariant c.judge.ensures c.record_at-r.ensures c.slot_of-slot.ensures.is c.in_ok-judge.was in p.kind

pub loop-i-preserved : goal.loop-i-preserved
loop-i-preserved c = judging-turn _ _ _ _ _ _ c.loop-i-test.true c.loop-i.invariant c.judge.ensures c.record_at-r.ensures c.slot_of-slot.ensures.is c.in_ok-judge.was c.before_children.ensures c.parent_group.ensures c.after_child.ensures

pub returns : goal.returns
returns c = search records-judged
