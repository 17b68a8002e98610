-- Rule 43. CommonMark 0.31.2, 2.1: "An ASCII punctuation character is !, \", #, $, %, &, ', (, ), *, +, ,, -, ., /
-- (U+0021–2F), :, ;, <, =, >, ?, @ (U+003A–0040), [, \\, ], ^, _, ` (U+005B–0060), {, |, }, or ~
-- (U+007B–007E)."
use Rattle.std.specs.Prelude.{ℕ, Bool, ◌||◌}
use Rattle.leaves.specs.Text.Bytes.{between}

abbrev pub is_ascii_punctuation : ℕ → Bool
is_ascii_punctuation c = between 0x21 0x2F c || between 0x3A 0x40 c || between 0x5B 0x60 c || between 0x7B 0x7E c
