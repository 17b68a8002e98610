-- Rule 48: `math.value.contains("`$")` of validate.rs.
use Rattle.std.specs.Prelude.{ℕ, Bool, false, ◌&&◌, ◌||◌, List, [], ◌∷◌, eqb}
use Rattle.leaves.specs.Text.Bytes.{backtick, dollar}
use Rattle.leaves.specs.Text.Lines.{starts_with}

unfoldable pub holds_backtick_dollar : List ℕ → Bool
holds_backtick_dollar [] = false
holds_backtick_dollar (b ∷ s) = eqb b backtick && starts_with dollar s || holds_backtick_dollar s
