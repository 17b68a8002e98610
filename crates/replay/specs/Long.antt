-- Stored calls with a long sheet or a long text.
use Rattle.std.specs.Prelude.{ℕ, ◌%◌, List, eqb, leb, length, replicate, if◌then◌else◌}
use Rattle.leaves.specs.Text.Part.{part_of}
use Rattle.leaves.specs.Sheet.Kinds.{thematic_break}
use Rattle.leaves.specs.Sheet.Records.{record_words}
use Rattle.replay.specs.declared.tally.Tally.{Tally}
use Rattle.replay.specs.Bytes.{number_at, long_at}
use Rattle.replay.specs.Tally.{recorded}
use Rattle.replay.specs.Words.{up_to, first_of}
use Rattle.replay.specs.Front.{before_word, function_of, call_compared}

-- a word of a thematic break at level 1, by its field: the kind, the level, and 0 for each field behind them
unfoldable pub break_word : ℕ → ℕ
break_word field = if eqb field 0 then thematic_break else if eqb field 1 then 1 else 0

-- n words of thematic breaks at level 1, one after another
unfoldable pub breaks_of : ℕ → List ℕ
breaks_of n = up_to n (λ k. break_word (k % record_words))

-- the words of 65,537 records: two records more than a sheet may have
abbrev pub long_words : ℕ
long_words = 786444

-- the long sheet before it is filled
unfoldable pub unfilled : List ℕ
unfilled = replicate long_words 0

-- the long text: one byte more than a text may have
unfoldable pub zeros : List ℕ
zeros = replicate 16777217 0

-- the words that are lent, before the call: a few more than a mark for each record that a sheet may have
unfoldable pub untouched_words : List ℕ
untouched_words = replicate 65544 before_word

-- The answer is compared, and every lent word: zero bytes at the front, as many as the record says, and behind them
-- words that are as before. (The zeros are taken from the text.) The sheet and the text are the fronts of the long
-- ones; the record has their lengths.
unfoldable pub call_replayed : List ℕ → List ℕ → List ℕ → Tally → Tally
call_replayed r sheet text t =
    call_compared (function_of (number_at r 0))
    (first_of sheet (number_at r 4))
    (part_of text 0 (number_at r 8))
    (number_at r 12)
    untouched_words
    (leb (number_at r 4) (length sheet))
    (long_at r 20)
    (part_of text 0 (number_at r 16))
    (recorded t)

-- the tally after a call with the long sheet, filled in its whole length, and the long text
abbrev pub long_replayed : List ℕ → Tally → Tally
long_replayed r t = call_replayed r (breaks_of long_words) zeros t
