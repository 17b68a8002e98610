-- `leaves::sheet::trees::Records::skip` meets its contract.
use Rattle.leaves.proofs.sheet.ForestLaws.{under-fits}
use Rattle.leaves.proofs.sheet.trees.Records.skip.Goals as goal

pub invariant_of-self-clause-inside : goal.invariant_of-self-clause-inside
invariant_of-self-clause-inside c = rw c.skip-self.ensures (under-fits _ _ _ _ c.args.self.now.inside)
