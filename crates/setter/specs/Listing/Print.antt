-- What the program prints.
-- Document 01: "It prints a line an entry, then diagnostics, stop (0 at the end), record; a refusal prints number and
-- record only."
use Rattle.std.specs.Prelude.{ℕ, ◌+◌, ◌*◌, ◌≡◌, List, [], ◌∷◌, ◌++◌, length, drop}
use Rattle.leaves.specs.Report.Entries.{Entry, words}
use Rattle.leaves.specs.Text.Columns.{line, line_bytes}

-- "a refusal prints number and record only"
unfoldable pub refusal_line : ℕ → ℕ → List ℕ
refusal_line number at = line (number ∷ at ∷ [])

-- "a line an entry": a field for each of its words
unfoldable pub entry_lines : List Entry → List ℕ
entry_lines [] = []
entry_lines (e ∷ es) = line (words e) ++ entry_lines es

-- "then diagnostics, stop (0 at the end), record"
unfoldable pub list_lines : List Entry → ℕ → ℕ → List ℕ
list_lines es stop at = entry_lines es ++ line (length es ∷ stop ∷ at ∷ [])

-- "its report has 4,096 words"
abbrev pub report_words : ℕ
report_words = 4096

-- How many bytes are printed at most: a field and an LF for each word of the report, and the last line. An entry ends
-- with one LF and has several words, so there are never more LFs than words.
abbrev pub output_bytes : ℕ
output_bytes = report_words * line_bytes 1 + line_bytes 3

-- n bytes are printed: they stand at the output's front, and the rest of the output is as it was
pub record Prints (old bytes new : List ℕ) (n : ℕ) : Type 0 where
  pub count : n ≡ length bytes
  pub printed : new ≡ bytes ++ drop (length bytes) old
