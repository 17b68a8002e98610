-- `leaves::refusal::places::Open::after_child` meets its contract.
use Prim.Native.Nat.{◌<◌}
use Rattle.leaves.proofs.refusal.PlaceLaws.{few-tags}
use borrow.Author.Rules.{rules}
use borrow.Author.Tests.{eq-eqb}
use native.Mathlib.Omega.{arith}
use Rattle.leaves.proofs.refusal.places.Open.after_child.Goals as goal

pub overflow_add-result : goal.overflow_add-result
overflow_add-result c = let a = c.args in let few : a.self.tags < 2 = few-tags a.self a.kind (search rules) (eq-eqb _ _ (search rules)) in omega arith
