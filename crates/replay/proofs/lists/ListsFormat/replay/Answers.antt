-- `replay::lists::ListsFormat::replay` meets its contract.
use mathlib.Core.Path.{◌≡◌}
use mathlib.Core.Bool.{◌&&◌}
use lib.Dec.{eqb, leb}
use Rattle.std.proofs.Common.{arith}
use Rattle.std.proofs.lemmas.Grind.{common_steps}
use Rattle.replay.specs.Lists.{list_of, list_replayed}
use Rattle.replay.specs.Sheets.{sheet_in}
use Rattle.replay.proofs.lists.ListsFormat.replay.Goals as goal

pub returns : goal.returns
unfolding list_replayed list_of sheet_in
returns c =
    let met : c.if-m-le-MOST.compare ≡ (leb c.pair-n.result 800 && leb c.pair-m.result 800 && eqb c.listed-found.result c.pair-m.result) = grind (arith, common_steps) in
    cc
