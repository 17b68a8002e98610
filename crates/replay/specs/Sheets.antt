-- Stored sheets, each with its refusal.
use Rattle.std.specs.Prelude.{ℕ, ◌+◌, ◌*◌, Bool, ◌&&◌, List, eqb, leb}
use Rattle.leaves.specs.Text.Part.{part_of}
use Rattle.leaves.specs.Refusal.Judge.{judge_sheet}
use Rattle.leaves.specs.Refusal.Verdict.{judged_answer, Judged}
use Rattle.replay.specs.declared.tally.Tally.{Tally}
use Rattle.replay.specs.Bytes.{byte_at, pair_at}
use Rattle.replay.specs.Tally.{recorded, comparing}
use Rattle.replay.specs.Words.{words_of, first_of}

-- the sheet of n words that stands in a record from `at` on; a sheet of no words where n is over `room`
unfoldable pub sheet_in : List ℕ → ℕ → ℕ → ℕ → List ℕ
sheet_in r at n room = first_of (words_of room (part_of r at (n * 4))) n

-- how many bytes the head has
abbrev pub sheet_head : ℕ
sheet_head = 7

-- the most words of a sheet
abbrev pub most_sheet_words : ℕ
most_sheet_words = 800

-- the sheet has at most so many words
abbrev pub few_words : List ℕ → Bool
few_words r = leb (pair_at r 0) most_sheet_words

-- the answer for the sheet and the text of a record
unfoldable pub judged_of : List ℕ → Judged
judged_of r =
    judge_sheet
    (sheet_in r sheet_head (pair_at r 0) most_sheet_words)
    (part_of r (sheet_head + pair_at r 0 * 4) (pair_at r 2))

-- the number and the record of the answer are compared with those that are stored
unfoldable pub sheet_replayed : List ℕ → Tally → Tally
sheet_replayed r t =
    comparing (few_words r && eqb (judged_answer (judged_of r)).value (pair_at r 5))
    (comparing (few_words r && eqb (judged_answer (judged_of r)).number (byte_at r 4)) (recorded t))
