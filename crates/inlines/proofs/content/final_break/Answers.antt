-- `inlines::content::final_break` meets its contract.
use Rattle.inlines.proofs.ContentLaws.{says_last}
use Rattle.inlines.proofs.content.final_break.Goals as goal

pub returns : goal.returns
returns c = rw (says_last _ _ _ _ c.gather-c.ensures _) at c.validate_last_break.ensures
