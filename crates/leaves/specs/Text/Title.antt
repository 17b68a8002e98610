-- Rule 11: an alert's title.
use Rattle.std.specs.Prelude.{ℕ, Bool, not, ◌&&◌, List}
use Rattle.leaves.specs.Text.Over.{is_empty_list}
use Rattle.leaves.specs.Text.Same.{same_bytes}
use Rattle.leaves.specs.Text.Trim.{trim}

-- Document 01: "A title must not be empty and must equal itself trimmed of spaces and tabs."
unfoldable pub is_alert_title : List ℕ → Bool
is_alert_title s = not (is_empty_list s) && same_bytes (trim s) s
