-- Rule 40: content that starts or ends with white space.
use mathlib.Core.List.{get_last_d, head_d}
use Rattle.std.specs.Prelude.{ℕ, Bool, ◌||◌, List, eqb}
use Rattle.leaves.specs.Text.Bytes.{between}
use Rattle.leaves.specs.Text.Scalars.{scalars, replacement}

-- Document 01: "White space (rule 40) is U+0009–000D, 0020, 0085, 00A0, 1680, 2000–200A, 2028, 2029, 202F, 205F,
-- 3000 (hexadecimal)."
unfoldable pub is_white : ℕ → Bool
is_white c =
    between 0x0009 0x000D c
    || eqb c 0x0020
    || eqb c 0x0085
    || eqb c 0x00A0
    || eqb c 0x1680
    || between 0x2000 0x200A c
    || eqb c 0x2028
    || eqb c 0x2029
    || eqb c 0x202F
    || eqb c 0x205F
    || eqb c 0x3000

-- validate.rs: `text.value.starts_with(char::is_whitespace)`. An empty text has no first character; U+FFFD stands for
-- it here, which is not white.
unfoldable pub starts_with_white : List ℕ → Bool
starts_with_white s = is_white (head_d (scalars s) replacement)

-- validate.rs: `text.value.ends_with(char::is_whitespace)`
unfoldable pub ends_with_white : List ℕ → Bool
ends_with_white s = is_white (get_last_d (scalars s) replacement)
