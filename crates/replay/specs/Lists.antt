-- Stored sheets of one paragraph, each with the list of its inlines.
use Rattle.std.specs.Prelude.{ℕ, ◌+◌, ◌*◌, ◌&&◌, List, [], ◌∷◌, eqb, leb, ltb, replicate, is_ok}
use Rattle.std.specs.Prelude.{if◌then◌else◌}
use Rattle.leaves.specs.Text.Part.{part_of}
use Rattle.leaves.specs.Sheet.Records.{records_of}
use Rattle.leaves.specs.Sheet.Forest.{under}
use Rattle.leaves.specs.Refusal.Judge.{judge_sheet}
use Rattle.leaves.specs.Report.Entries.{Entry, empty_tally, after, put}
use Rattle.inlines.specs.Nodes.{validate_inlines}
use Rattle.replay.specs.declared.tally.Tally.{Tally}
use Rattle.replay.specs.Bytes.{pair_at}
use Rattle.replay.specs.Tally.{recorded, comparing}
use Rattle.replay.specs.Words.{same_words}
use Rattle.replay.specs.Sheets.{sheet_in}

-- the list of the first block's inlines
abbrev pub paragraph_list : List ℕ → List ℕ → List Entry
paragraph_list w bytes = validate_inlines bytes (0 ∷ []) (under w (records_of w) 1 1)

-- how many words the list has, and the report after it is written. Where the sheet has no record or is refused: 0, and
-- the report as it was.
unfoldable pub listed_of : List ℕ → List ℕ → List ℕ → ℕ × List ℕ
listed_of w bytes report =
    if ltb (records_of w) 1
    then (0, report)
    else if is_ok (judge_sheet w bytes)
    then ((after empty_tally (paragraph_list w bytes)).words, put report empty_tally (paragraph_list w bytes))
    else (0, report)

-- how many bytes the head has
abbrev pub list_head : ℕ
list_head = 6

-- the most words of a sheet, and of a list
abbrev pub most_list_words : ℕ
most_list_words = 800

-- what is listed for the sheet and the text of a record, in a report of zeros
unfoldable pub list_of : List ℕ → ℕ × List ℕ
list_of r =
    listed_of
    (sheet_in r list_head (pair_at r 0) most_list_words)
    (part_of r (list_head + pair_at r 0 * 4) (pair_at r 2))
    (replicate most_list_words 0)

-- the length of the list is compared, and every word of the report: it is the stored one, and 0 behind those
unfoldable pub list_replayed : List ℕ → Tally → Tally
list_replayed r t =
    comparing (same_words (list_of r).1 (part_of r (list_head + pair_at r 0 * 4 + pair_at r 2) (pair_at r 4 * 4)) 0)
    (comparing (leb (pair_at r 0) most_list_words
    && leb (pair_at r 4) most_list_words && eqb (list_of r).0 (pair_at r 4))
    (recorded t))
