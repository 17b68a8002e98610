-- Fence lines, computed from the definitions. Bytes stand as numbers; a comment has the text.
use mathlib.Core.Path.{◌≡◌, refl}
use mathlib.Core.Bool.{true, false}
use mathlib.Core.List.{[], ◌∷◌}
use Rattle.leaves.specs.Text.Same.{same_bytes}
use Rattle.leaves.specs.Text.Lines.{lines, longer, is_cr_of_crlf, starts_with}
use Rattle.leaves.specs.Text.Trim.{trim_end, trim_cons}
use Rattle.leaves.specs.Text.Fence.{is_fence, holds_fence_line}
use Rattle.leaves.specs.declared.text.fence.FrontmatterKind.TheVariants.{Yaml, Toml}

-- rule 29: `a CRLF --- space tab` holds YAML's fence and not TOML's; `----` and ` ---` are none; `+++` is TOML's
fences : (holds_fence_line Yaml (97 ∷ 13 ∷ 10 ∷ 45 ∷ 45 ∷ 45 ∷ 32 ∷ 9 ∷ []) ≡ true) × (holds_fence_line Toml (97 ∷ 13 ∷ 10 ∷ 45 ∷ 45 ∷ 45 ∷ 32 ∷ 9 ∷ []) ≡ false) × (holds_fence_line Yaml (45 ∷ 45 ∷ 45 ∷ 45 ∷ []) ≡ false) × (holds_fence_line Yaml (32 ∷ 45 ∷ 45 ∷ 45 ∷ []) ≡ false) × (holds_fence_line Toml (43 ∷ 43 ∷ 43 ∷ 10 ∷ []) ≡ true)
unfolding holds_fence_line is_fence same_bytes trim_end trim_cons lines longer is_cr_of_crlf starts_with
fences = (refl, refl, refl, refl, refl)
