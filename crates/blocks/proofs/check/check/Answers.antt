-- `blocks::check::check` meets its contract.
use Rattle.blocks.proofs.CheckLaws.{accepts, check-listed, check-none, check-short, check_sound}
use borrow.Author.Rules.{rules}
use Rattle.blocks.proofs.check.check.Goals as goal

pub measure-need-requires : goal.measure-need-requires
measure-need-requires c = check_sound _ _ c.accept.ensures c.in_ok-accept.was

pub returns-then-need-eq0 : goal.returns-then-need-eq0
returns-then-need-eq0 c = check-none _ _ _ (accepts _ _ c.accept.ensures c.in_ok-accept.was) (search rules) c.measure-need.ensures c.if-need-eq0.true

pub returns-then-report-need : goal.returns-then-report-need
returns-then-report-need c = check-short _ _ _ (accepts _ _ c.accept.ensures c.in_ok-accept.was) (search rules) c.measure-need.ensures c.if-report-need.true

pub validate_document-listed-requires : goal.validate_document-listed-requires
validate_document-listed-requires c = check_sound _ _ c.accept.ensures c.in_ok-accept.was

pub returns : goal.returns
returns c = check-listed _ _ _ (accepts _ _ c.accept.ensures c.in_ok-accept.was) (search rules) c.measure-need.ensures c.if-report-need.false c.validate_document-listed.ensures
