-- What the printing code goes by: entries as they stand in a report's words. A reader need not believe these: where the
-- report holds a list, they give the lines of that list (`lines_of` in proofs/listing/PrintLaws.antt).
use Rattle.std.specs.Prelude.{ℕ, zero, suc, min, ◌+◌, List, [], ◌++◌, length, take, drop}
use Rattle.leaves.specs.Report.Entries.{head_words, path_length}
use Rattle.leaves.specs.Text.Columns.{line}

-- how many words the entry at the front has
abbrev pub entry_words : List ℕ → ℕ
entry_words w = head_words + path_length w

-- the same, but no more words than there are
abbrev pub front_words : List ℕ → ℕ
front_words w = min (entry_words w) (length w)

-- the lines of the n entries at the front
unfoldable pub lines_in : ℕ → List ℕ → List ℕ
lines_in zero w = []
lines_in (suc n) w = line (take (entry_words w) w) ++ lines_in n (drop (entry_words w) w)
