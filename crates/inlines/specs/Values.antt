-- What the walks ask of the own values of one record.
use Rattle.std.specs.Prelude.{ℕ, Bool, not, ◌&&◌, ◌||◌, List, eqb}
use Rattle.leaves.specs.Text.Name.{is_attribute_name}
use Rattle.leaves.specs.Text.Pipe.{has_odd_escaped_pipe}
use Rattle.leaves.specs.Text.White.{starts_with_white, ends_with_white}
use Rattle.leaves.specs.Sheet.Kinds.{attribute, text, wiki_link}
use Rattle.leaves.specs.Sheet.Classes.{is_break, is_plain_break, names_own_value, names_label}
use Rattle.leaves.specs.Sheet.Texts.{text_of}
use Rattle.leaves.specs.declared.sheet.records.Rec.{Rec}

-- the match of `starts_with_whitespace` on the first inline that is not an empty text
unfoldable pub starts_white : List ℕ → Rec → Bool
starts_white bytes r = eqb r.kind text && starts_with_white (text_of bytes r.first) || is_plain_break r.kind r.a

-- the match of `ends_with_whitespace` on the last inline that is not an empty text
unfoldable pub ends_white : List ℕ → Rec → Bool
ends_white bytes r = eqb r.kind text && ends_with_white (text_of bytes r.first) || is_break r.kind

-- The match of `validate_cell_values`: the inline's value or label holds a `|` after an odd run of backslashes.
-- Of a wikilink both the target and the label count.
unfoldable pub is_unwritable : List ℕ → Rec → Bool
is_unwritable bytes r =
    (names_own_value r.kind || eqb r.kind wiki_link) && has_odd_escaped_pipe (text_of bytes r.first)
    || (names_label r.kind || eqb r.kind wiki_link) && has_odd_escaped_pipe (text_of bytes r.second)

-- the test of `validate_directive_attributes`: an attribute whose name is not an attribute name
unfoldable pub is_bad_attribute : List ℕ → Rec → Bool
is_bad_attribute bytes r = eqb r.kind attribute && not (is_attribute_name (text_of bytes r.first))
