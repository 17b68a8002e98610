-- `setter::both::check_and_set` meets its contract.
use Rattle.setter.proofs.BothLaws.{both-done}
use Rattle.setter.proofs.both.check_and_set.Goals as goal

pub returns : goal.returns
returns c = both-done _ _ _ _ c.check-checked.ensures c.set-set.ensures
