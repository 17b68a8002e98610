-- `leaves::text::name::is_directive_name` meets its contract.
use native.Mathlib.Omega.{arith}
use Rattle.leaves.proofs.text.NameLaws.{directive, naming}
use Rattle.leaves.proofs.text.name.is_directive_name.Goals as goal

pub loop-b-init : goal.loop-b-init
loop-b-init c = record { within = omega arith; same = directive _ }

pub returns-then-not-may_stand : goal.returns-then-not-may_stand
returns-then-not-may_stand c = search naming

pub loop-b-preserved : goal.loop-b-preserved
loop-b-preserved c = search naming

pub returns : goal.returns
returns c = search naming
