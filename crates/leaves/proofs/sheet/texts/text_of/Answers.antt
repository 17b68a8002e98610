-- `leaves::sheet::texts::text_of` meets its contract.
use Rattle.leaves.specs.Sheet.Texts.{text_of}
use Rattle.leaves.proofs.sheet.texts.text_of.Goals as goal

pub returns : goal.returns
unfolding text_of
returns c = c.part.ensures
