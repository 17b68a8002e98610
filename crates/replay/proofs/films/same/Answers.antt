-- `replay::films::same` meets its contract.
use mathlib.Core.Path.{◌∙◌}
use Rattle.replay.proofs.FilmLaws.{same-start}
use Rattle.replay.proofs.films.same.Goals as goal

pub returns-then-starts_with : goal.returns-then-starts_with
returns-then-starts_with c = c.is_untouched.ensures ∙ same-start _ _ _ _ _ _ c.min.ensures c.split_at.ensures.front c.split_at.ensures.back c.if-starts_with.ensures.value

pub returns-else-starts_with : goal.returns-else-starts_with
returns-else-starts_with c = c.if-starts_with.false ∙ same-start _ _ _ _ _ _ c.min.ensures c.split_at.ensures.front c.split_at.ensures.back c.if-starts_with.ensures.value
