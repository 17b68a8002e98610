-- `leaves::sheet::texts::text_outside` meets its contract.
use Rattle.leaves.specs.Sheet.Texts.{text_outside}
use Rattle.leaves.proofs.sheet.texts.text_outside.Goals as goal

pub returns : goal.returns
unfolding text_outside
returns c = cc
