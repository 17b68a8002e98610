-- The lines of a film's records. Document 01, 'Listing and cases': "a line a record", a field for each of its words.
use Rattle.std.specs.Prelude.{ℕ, zero, suc, Bool, true, ◌&&◌, List, [], ◌++◌, drop}
use Rattle.leaves.specs.Sheet.Records.{record_words}
use Rattle.leaves.specs.Text.Columns.{line_bytes, is_line, numbers}

-- 14, big film: "over 512 records"
abbrev pub most_film_records : ℕ
most_film_records = 512

-- n lines of records stand at the front
unfoldable pub are_records : ℕ → List ℕ → Bool
are_records zero s = true
are_records (suc n) s = is_line record_words s && are_records n (drop (line_bytes record_words) s)

-- the words of the n records whose lines stand at the front
unfoldable pub sheet_of : ℕ → List ℕ → List ℕ
sheet_of zero s = []
sheet_of (suc n) s = numbers record_words s ++ sheet_of n (drop (line_bytes record_words) s)
