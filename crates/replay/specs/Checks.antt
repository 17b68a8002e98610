-- Stored checks and settings.
use Rattle.std.specs.Prelude.{ℕ, ◌+◌, ◌*◌, Bool, ◌&&◌, List, Some, leb, replicate}
use Rattle.leaves.specs.Text.Part.{part_of}
use Rattle.replay.specs.declared.tally.Tally.{Tally}
use Rattle.replay.specs.Bytes.{pair_at, long_at}
use Rattle.replay.specs.Tally.{recorded}
use Rattle.replay.specs.Sheets.{sheet_in}
use Rattle.replay.specs.declared.front.Function.TheVariants.{Check, Set}
use Rattle.replay.specs.Front.{before_word, call_compared}

-- how many bytes the head has
abbrev pub check_head : ℕ
check_head = 28

-- the most words of a sheet, the most words of a report, and the most marks
abbrev pub most_check_sheet : ℕ
most_check_sheet = 768

abbrev pub most_check_report : ℕ
most_check_report = 512

abbrev pub most_check_marks : ℕ
most_check_marks = 72

-- the sheet, the report and the marks are within their limits, the list is no longer than the report, and no more marks
-- are written than there are
unfoldable pub fits_of : List ℕ → Bool
fits_of r =
    leb (pair_at r 0) most_check_sheet
    && leb (pair_at r 4) (pair_at r 6)
    && leb (pair_at r 6) most_check_report
    && leb (pair_at r 8) (pair_at r 10)
    && leb (pair_at r 10) most_check_marks

-- the check's answer is compared, and every word of the report: it is the list's, and as before behind the list
unfoldable pub check_replayed : List ℕ → List ℕ → List ℕ → List ℕ → Tally → Tally
check_replayed r w bytes list t =
    call_compared (Some Check) w bytes (pair_at r 6) (replicate most_check_report before_word)
    (fits_of r) (long_at r 12) list t

-- the machine's answer is compared, and every mark: it is the one that is stored, and as before behind those
unfoldable pub set_replayed : List ℕ → List ℕ → List ℕ → List ℕ → Tally → Tally
set_replayed r w bytes written t =
    call_compared (Some Set) w bytes (pair_at r 10) (replicate most_check_marks before_word)
    (fits_of r) (long_at r 20) written t

-- the sheet of a record, its text, the list and the marks that are written, one behind the other
unfoldable pub check_sheet : List ℕ → List ℕ
check_sheet r = sheet_in r check_head (pair_at r 0) most_check_sheet

unfoldable pub check_text : List ℕ → List ℕ
check_text r = part_of r (check_head + pair_at r 0 * 4) (pair_at r 2)

unfoldable pub check_list : List ℕ → List ℕ
check_list r = part_of r (check_head + pair_at r 0 * 4 + pair_at r 2) (pair_at r 4 * 4)

unfoldable pub written_of : List ℕ → List ℕ
written_of r = part_of r (check_head + pair_at r 0 * 4 + pair_at r 2 + pair_at r 4 * 4) (pair_at r 8 * 4)

-- both calls are replayed with the same sheet and text
unfoldable pub checks_replayed : List ℕ → Tally → Tally
checks_replayed r t =
    set_replayed r (check_sheet r) (check_text r) (written_of r)
    (check_replayed r (check_sheet r) (check_text r) (check_list r) (recorded t))
