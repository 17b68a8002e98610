-- `blocks::footnote::blank_line_at` meets its contract.
use borrow.Author.Rules.{rules}
use Rattle.inlines.proofs.WalkLaws.{loop-end}
use Rattle.inlines.proofs.PathLaws.{paced-start, paced-enter, paced-leave}
use Rattle.blocks.proofs.FootnoteLaws.{blank_none, blank-listed, blank-passed}
use Rattle.blocks.proofs.footnote.blank_line_at.Goals as goal

pub loop-r-init : goal.loop-r-init
loop-r-init c = paced-start _

pub enter-requires : goal.enter-requires
enter-requires c = paced-enter c.loop-r.invariant c.in-Some.ensures.some

pub leave-requires : goal.leave-requires
leave-requires c = paced-leave c.loop-r.invariant c.enter.ensures c.list_if.ensures

pub returns-then-end : goal.returns-then-end
returns-then-end c = blank-listed c.loop-r.invariant c.in-Some.ensures.some c.skip.ensures c.enter.ensures c.list_if.ensures c.leave.ensures (search rules)

pub loop-r-preserved : goal.loop-r-preserved
loop-r-preserved c = blank-passed c.loop-r.invariant c.in-Some.ensures.some c.skip.ensures (search rules)

pub returns : goal.returns
returns c = (loop-end c.loop-r.invariant.loop (blank_none _ _) c.in_default.ensures.none).adds
