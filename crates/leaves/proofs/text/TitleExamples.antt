-- Cases of the papers, computed from the definitions. Bytes stand as numbers; a comment has the text.
use mathlib.Core.Path.{◌≡◌, refl}
use mathlib.Core.Bool.{true, false}
use mathlib.Core.List.{[], ◌∷◌}
use Rattle.leaves.specs.Text.Over.{is_empty_list}
use Rattle.leaves.specs.Text.Same.{same_bytes}
use Rattle.leaves.specs.Text.Trim.{trim, trim_start, trim_end, trim_cons}
use Rattle.leaves.specs.Text.Title.{is_alert_title}

-- rule 11: `a b` is a title; ` a`, `a tab` and nothing are none
title : (is_alert_title (97 ∷ 32 ∷ 98 ∷ []) ≡ true) × (is_alert_title (32 ∷ 97 ∷ []) ≡ false) × (is_alert_title (97 ∷ 9 ∷ []) ≡ false) × (is_alert_title [] ≡ false)
unfolding is_alert_title is_empty_list same_bytes trim trim_start trim_end trim_cons
title = (refl, refl, refl, refl)
