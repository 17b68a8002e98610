-- The exported functions, each lent the front of some words as its report or its marks.
use Rattle.std.specs.Prelude.{ℕ, ◌+◌, ◌*◌, ◌^◌, Bool, ◌&&◌, List, ◌++◌, if◌then◌else◌}
use Rattle.std.specs.Prelude.{Option, Some, None, eqb, ltb, length, take, drop}
use Rattle.blocks.specs.Check.{check_outcome}
use Rattle.leaves.specs.Refusal.Verdict.{Answer}
use Rattle.setter.specs.SetOutcome.{set_outcome}
use Rattle.replay.specs.declared.front.Function.{Function}
use Rattle.replay.specs.declared.front.Function.TheVariants.{Check, Set}
use Rattle.replay.specs.declared.tally.Tally.{Tally}
use Rattle.replay.specs.Tally.{comparing}
use Rattle.replay.specs.Words.{same_words}

-- every word that is lent, before a call
abbrev pub before_word : ℕ
before_word = 0xA5A5A5A5

-- what neither function ever answers
abbrev pub no_answer : ℕ
no_answer = 0xFFFFFFFFFFFFFFFF

-- an answer as the one number that C is handed back: its number times 2^32, and its value
abbrev pub packed : Answer → ℕ
packed a = a.number * 2 ^ 32 + a.value

-- the number of the check, and of the setting machine
abbrev pub the_check : ℕ
the_check = 0

abbrev pub the_machine : ℕ
the_machine = 1

-- the function that has a number, if there is one
unfoldable pub function_of : ℕ → Option Function
function_of n = if eqb n the_check then Some Check else if eqb n the_machine then Some Set else None

-- the answer of a function for a sheet, its text and the words that it is lent, and those words after it
unfoldable pub called_of : Function → List ℕ → List ℕ → List ℕ → ℕ × List ℕ
called_of Check w bytes lent = (packed (check_outcome w bytes lent).0, (check_outcome w bytes lent).1)
called_of Set w bytes lent = (packed (set_outcome w bytes lent).0, (set_outcome w bytes lent).1)

-- the same where the first m words are lent, and those behind them stay. Where there are fewer, or no function: no
-- answer, and the words as they were.
unfoldable pub answered_of : Option Function → List ℕ → List ℕ → List ℕ → ℕ → ℕ × List ℕ
answered_of None w bytes lent m = (no_answer, lent)
answered_of (Some function) w bytes lent m =
    if ltb (length lent) m
    then (no_answer, lent)
    else ((called_of function w bytes (take m lent)).0, (called_of function w bytes (take m lent)).1 ++ drop m lent)

-- the answer is compared, where the call fits, and every word: it is the stored one, and as before behind those
unfoldable pub call_compared : Option Function → List ℕ → List ℕ → ℕ → List ℕ
    → Bool → ℕ → List ℕ → Tally → Tally
call_compared function w bytes m lent fits answer stored t =
    comparing (same_words (answered_of function w bytes lent m).1 stored before_word)
    (comparing (fits && eqb (answered_of function w bytes lent m).0 answer) t)
