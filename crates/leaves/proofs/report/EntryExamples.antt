-- Reports, computed from the definitions.
use mathlib.Core.Path.{◌≡◌, refl}
use mathlib.Core.Bool.{true, false}
use mathlib.Core.List.{[], ◌∷◌, ◌++◌}
use Rattle.leaves.specs.declared.sheet.records.Span.{Span}
use Rattle.leaves.specs.Report.Entries.{Entry, words, flat, ◌⊕◌, list_if, empty_tally, after, put, fitting, entries_in}
use Rattle.leaves.specs.Text.Over.{over}

abbrev nowhere : Span
nowhere = record { flag = 0; start = 0; end = 0 }

-- document 01's sheet of one heading of depth 0: rule 10, no span, the path of the first block
abbrev depth : Entry
depth = record { rule = 10; span = nowhere; path = 0 ∷ [] }

-- rule 2, from 7 to 9, in the first block of the second
abbrev empty : Entry
empty = record { rule = 2; span = record { flag = 1; start = 7; end = 9 }; path = 1 ∷ 0 ∷ [] }

heading : (words depth ≡ 10 ∷ 0 ∷ 0 ∷ 0 ∷ 1 ∷ 0 ∷ []) × (list_if true 10 nowhere (0 ∷ []) ≡ depth ∷ []) × (list_if false 10 nowhere (0 ∷ []) ≡ [])
unfolding words list_if
heading = (refl, refl, refl)

two-words : flat ((depth ∷ []) ⊕ (empty ∷ [])) ≡ 10 ∷ 0 ∷ 0 ∷ 0 ∷ 1 ∷ 0 ∷ 2 ∷ 1 ∷ 7 ∷ 9 ∷ 2 ∷ 1 ∷ 0 ∷ []
unfolding flat words ◌⊕◌
two-words = refl

-- a report of 11 words has room for the first and none for the second: its words past the first stay
second_short : put (21 ∷ 22 ∷ 23 ∷ 24 ∷ 25 ∷ 26 ∷ 27 ∷ 28 ∷ 29 ∷ 30 ∷ 31 ∷ []) empty_tally (depth ∷ empty ∷ []) ≡ 10 ∷ 0 ∷ 0 ∷ 0 ∷ 1 ∷ 0 ∷ 27 ∷ 28 ∷ 29 ∷ 30 ∷ 31 ∷ []
unfolding put over words
second_short = refl

-- one of 13 words holds both, and one of 14 keeps its last word
both-fit : (put (21 ∷ 22 ∷ 23 ∷ 24 ∷ 25 ∷ 26 ∷ 27 ∷ 28 ∷ 29 ∷ 30 ∷ 31 ∷ 32 ∷ 33 ∷ []) empty_tally (depth ∷ empty ∷ []) ≡ flat (depth ∷ empty ∷ [])) × (put (21 ∷ 22 ∷ 23 ∷ 24 ∷ 25 ∷ 26 ∷ 27 ∷ 28 ∷ 29 ∷ 30 ∷ 31 ∷ 32 ∷ 33 ∷ 34 ∷ []) empty_tally (depth ∷ empty ∷ []) ≡ flat (depth ∷ empty ∷ []) ++ 34 ∷ [])
unfolding put over words flat
both-fit = (refl, refl)

-- what does not fit is counted all the same, and what follows it is not written, though it would fit
counted-all : (after empty_tally (depth ∷ empty ∷ []) ≡ record { words = 13; entries = 2 }) × (put (21 ∷ 22 ∷ 23 ∷ 24 ∷ 25 ∷ 26 ∷ []) empty_tally (empty ∷ depth ∷ []) ≡ 21 ∷ 22 ∷ 23 ∷ 24 ∷ 25 ∷ 26 ∷ []) × (fitting 12 (depth ∷ empty ∷ []) ≡ depth ∷ []) × (fitting 13 (depth ∷ empty ∷ []) ≡ depth ∷ empty ∷ [])
unfolding after put over words fitting
counted-all = (refl, refl, refl, refl)

-- two entries read back, and what stands behind them is left alone
read : entries_in 2 (10 ∷ 0 ∷ 0 ∷ 0 ∷ 1 ∷ 0 ∷ 2 ∷ 1 ∷ 7 ∷ 9 ∷ 2 ∷ 1 ∷ 0 ∷ 77 ∷ 78 ∷ []) ≡ depth ∷ empty ∷ []
unfolding entries_in
read = refl
