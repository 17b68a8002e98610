-- `leaves::report::entries::Report::list_number_if` meets its contract.
use mathlib.Core.Path.{refl, ap}
use mathlib.Core.Bool.{not}
use Rattle.leaves.proofs.report.ListedLaws.{lists-not, lists-one}
use Rattle.leaves.proofs.report.entries.Report.list_number_if.Goals as goal

pub returns-then-not-fault : goal.returns-then-not-fault
returns-then-not-fault c = lists-not _ _ _ _ (ap not c.if-not-fault.true)

pub returns : goal.returns
returns c = record {
  lists = lists-one c.args.self.now _ c.args.span _ (ap not c.if-not-fault.false) c.write_at.ensures c.with_entry-self.ensures;
  loan = refl;
  path = refl;
  depth = refl;
  level = refl;
}
