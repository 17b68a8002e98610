-- For each stop a sheet that it stops, with the record and the block's path, and its neighbour that it does not; and the marks. Computed from the definitions.
use mathlib.Core.Path.{◌≡◌, refl}
use mathlib.Core.List.{List, [], ◌∷◌, ◌++◌, get_last_d}
use Prim.Native.Nat.{ℕ, ◌+◌}
use Rattle.leaves.specs.Text.Part.{part_of}
use Rattle.leaves.specs.Text.Lines.{holds_line_ending}
use Rattle.leaves.specs.Sheet.Kinds.{paragraph, heading, block_quote, list, table, frontmatter, leaf_directive, container_directive, blank_line, item, row, cell, text, emphasis, code, link, autolink, image, soft_break, line_break}
use Rattle.leaves.specs.Sheet.Records.{record_at}
use Rattle.leaves.specs.Sheet.Forest.{records_from}
use Rattle.leaves.specs.Sheet.Texts.{text_of}
use Rattle.leaves.specs.Text.Marker.{written_marker}
use Rattle.setter.specs.Machine.{RunEnd, reached, stopped, opened_at, record_at_step, position, frame_path, block_path, run_of, run}
use Rattle.setter.specs.Marks.{mark_of, marks_of}
use Rattle.setter.specs.Stops.{stop_at, stop_of}
use Rattle.setter.specs.Seen.{columns, nearest, in_link, behind_list, only_empty, start_number}
use Rattle.setter.specs.Steps.{closings, remain, steps_from, steps_of}

-- ---- sheets over the text `a LF`
bytes : List ℕ
bytes = 97 ∷ 10 ∷ []

-- one record without a span: its kind, level, A, B, C, and its first text's start and length
abbrev rec : ℕ → ℕ → ℕ → ℕ → ℕ → ℕ → ℕ → List ℕ
rec kind level a b c start len = kind ∷ level ∷ 0 ∷ 0 ∷ 0 ∷ a ∷ b ∷ c ∷ start ∷ len ∷ 0 ∷ 0 ∷ []

abbrev bare : ℕ → ℕ → ℕ → ℕ → ℕ → List ℕ
bare kind level a b c = rec kind level a b c 0 0

-- the text `a` at a level, and a paragraph of it
abbrev word : ℕ → List ℕ
word level = rec text level 0 0 0 0 1

abbrev says : ℕ → List ℕ
says level = bare paragraph level 0 0 0 ++ word (level + 1)

-- how a run ended: the end; or the stop, the record and the path of the block
data Told : Type 0 where
  ended : Told
  stops : ℕ → ℕ → List ℕ → Told

abbrev told_of : RunEnd → Told
told_of reached = ended
told_of (stopped stop s) = stops stop (record_at_step s) (block_path (opened_at s))

-- how the run of a sheet ends
told : List ℕ → Told
told w = told_of (run w bytes).end

-- the marks after it, where every word was 77
marked : List ℕ → List ℕ
marked w = marks_of (run w bytes).steps (77 ∷ 77 ∷ 77 ∷ 77 ∷ 77 ∷ 77 ∷ [])

-- ---- 1, 2 and 3
tables : (told (bare table 1 1 0 0 ++ bare row 2 0 0 0 ++ bare cell 3 0 0 0 ++ bare cell 3 0 0 0) ≡ stops 1 3 (0 ∷ [])) × (told (bare table 1 2 0 0 ++ bare row 2 0 0 0 ++ bare cell 3 0 0 0 ++ bare cell 3 0 0 0) ≡ ended) × (told (says 1 ++ bare table 1 2 0 0 ++ bare row 2 0 0 0 ++ bare cell 3 0 0 0) ≡ stops 2 3 (1 ∷ [])) × (told (bare table 1 1 0 0) ≡ stops 3 0 (0 ∷ [])) × (told (bare table 1 0 0 0 ++ bare row 2 0 0 0) ≡ stops 3 0 (0 ∷ [])) × (told (bare table 1 1 0 0 ++ bare row 2 0 0 0 ++ bare cell 3 0 0 0) ≡ ended)
unfolding bytes told marked closings remain steps_from steps_of columns nearest in_link behind_list only_empty stop_at stop_of position frame_path block_path run_of run start_number get_last_d mark_of marks_of records_from record_at text_of part_of holds_line_ending written_marker
tables = (refl, refl, refl, refl, refl, refl)

-- ---- 4 and 11; a paragraph in a container directive is not its label
stops-at-breaks : (told (bare table 1 1 0 0 ++ bare row 2 0 0 0 ++ bare cell 3 0 0 0 ++ bare emphasis 4 0 0 0 ++ bare soft_break 5 0 0 0) ≡ stops 4 4 (0 ∷ [])) × (told (bare leaf_directive 1 0 0 0 ++ bare line_break 2 0 0 0) ≡ stops 4 1 (0 ∷ [])) × (told (bare container_directive 1 0 0 0 ++ bare line_break 2 0 0 0) ≡ stops 4 1 (0 ∷ [])) × (told (bare container_directive 1 0 0 0 ++ bare paragraph 2 0 0 0 ++ bare soft_break 3 0 0 0) ≡ ended) × (told (bare paragraph 1 0 0 0 ++ bare line_break 2 0 0 0 ++ bare soft_break 2 0 0 0) ≡ stops 11 2 (0 ∷ [])) × (told (bare paragraph 1 0 0 0 ++ bare soft_break 2 0 0 0 ++ bare line_break 2 1 0 0) ≡ stops 11 2 (0 ∷ [])) × (told (bare paragraph 1 0 0 0 ++ bare soft_break 2 0 0 0 ++ bare line_break 2 0 0 0) ≡ ended) × (told (bare paragraph 1 0 0 0 ++ bare soft_break 2 0 0 0 ++ word 2 ++ bare soft_break 2 0 0 0) ≡ ended)
unfolding bytes told marked closings remain steps_from steps_of columns nearest in_link behind_list only_empty stop_at stop_of position frame_path block_path run_of run start_number get_last_d mark_of marks_of records_from record_at text_of part_of holds_line_ending written_marker
stops-at-breaks = (refl, refl, refl, refl, refl, refl, refl, refl)

-- ---- 5, at any depth; an image is no link
links : (told (bare paragraph 1 0 0 0 ++ bare link 2 0 0 0 ++ bare emphasis 3 0 0 0 ++ bare autolink 4 0 0 0) ≡ stops 5 3 (0 ∷ [])) × (told (bare paragraph 1 0 0 0 ++ bare link 2 0 0 0 ++ bare image 3 0 0 0) ≡ ended) × (told (bare paragraph 1 0 0 0 ++ bare image 2 0 0 0 ++ bare link 3 0 0 0) ≡ ended) × (told (bare paragraph 1 0 0 0 ++ bare link 2 0 0 0 ++ bare link 2 0 0 0) ≡ ended)
unfolding bytes told marked closings remain steps_from steps_of columns nearest in_link behind_list only_empty stop_at stop_of position frame_path block_path run_of run start_number get_last_d mark_of marks_of records_from record_at text_of part_of holds_line_ending written_marker
links = (refl, refl, refl, refl)

-- ---- 6, 7 and 8; 7 looks at each item
numbers : (told (bare heading 1 0 0 0) ≡ stops 6 0 (0 ∷ [])) × (told (bare heading 1 7 0 0) ≡ stops 6 0 (0 ∷ [])) × (told (bare heading 1 1 0 0) ≡ ended) × (told (bare heading 1 6 0 0) ≡ ended) × (told (bare list 1 1 3 1 ++ bare item 2 0 1 1000000000) ≡ stops 7 1 (0 ∷ [])) × (told (bare list 1 1 3 1 ++ bare item 2 0 1 999999999) ≡ ended) × (told (bare list 1 1 3 1 ++ bare item 2 0 0 0 ++ bare item 2 0 1 1000000000) ≡ stops 7 2 (0 ∷ [])) × (told (bare list 1 0 0 1 ++ bare item 2 0 1 1) ≡ stops 8 1 (0 ∷ [])) × (told (bare list 1 0 0 1 ++ bare item 2 0 0 0) ≡ ended)
unfolding bytes told marked closings remain steps_from steps_of columns nearest in_link behind_list only_empty stop_at stop_of position frame_path block_path run_of run start_number get_last_d mark_of marks_of records_from record_at text_of part_of holds_line_ending written_marker
numbers = (refl, refl, refl, refl, refl, refl, refl, refl, refl)

-- ---- 9 and 10; an empty text is nothing
empty : (told (bare list 1 0 0 1) ≡ stops 9 0 (0 ∷ [])) × (told (bare paragraph 1 0 0 0) ≡ stops 10 0 (0 ∷ [])) × (told (bare paragraph 1 0 0 0 ++ bare text 2 0 0 0) ≡ stops 10 0 (0 ∷ [])) × (told (says 1) ≡ ended) × (told (says 1 ++ bare block_quote 1 0 0 0 ++ bare paragraph 2 0 0 0 ++ bare emphasis 3 0 0 0 ++ bare text 4 0 0 0) ≡ stops 10 4 (1 ∷ 0 ∷ [])) × (told (bare paragraph 1 0 0 0 ++ bare text 2 0 0 0 ++ bare code 2 0 0 0) ≡ ended)
unfolding bytes told marked closings remain steps_from steps_of columns nearest in_link behind_list only_empty stop_at stop_of position frame_path block_path run_of run start_number get_last_d mark_of marks_of records_from record_at text_of part_of holds_line_ending written_marker
empty = (refl, refl, refl, refl, refl, refl)

-- ---- 12, 13 and 14; items count in a path
others : (told (bare block_quote 1 0 0 0 ++ bare frontmatter 2 0 0 0) ≡ stops 12 1 (0 ∷ 0 ∷ [])) × (told (bare frontmatter 1 0 0 0) ≡ ended) × (told (bare paragraph 1 0 0 0 ++ rec text 2 0 0 0 0 2) ≡ stops 13 1 (0 ∷ [])) × (told (bare paragraph 1 0 0 0 ++ rec code 2 0 0 0 1 1) ≡ stops 13 1 (0 ∷ [])) × (told (bare paragraph 1 0 0 0 ++ rec code 2 0 0 0 0 1) ≡ ended) × (told (bare list 1 0 0 1 ++ bare item 2 0 0 0 ++ bare blank_line 1 0 0 0 ++ bare list 1 0 0 1 ++ bare item 2 0 0 0) ≡ stops 14 3 (2 ∷ [])) × (told (bare list 1 0 0 1 ++ bare item 2 0 0 0 ++ says 1 ++ bare list 1 0 0 1 ++ bare item 2 0 0 0) ≡ ended) × (told (bare list 1 0 0 1 ++ bare item 2 0 0 0 ++ bare list 1 0 1 1 ++ bare item 2 0 0 0) ≡ ended) × (told (bare list 1 0 0 1 ++ bare item 2 0 0 0 ++ bare item 2 0 0 0 ++ says 3 ++ bare heading 3 0 0 0) ≡ stops 6 5 (0 ∷ 1 ∷ 1 ∷ []))
unfolding bytes told marked closings remain steps_from steps_of columns nearest in_link behind_list only_empty stop_at stop_of position frame_path block_path run_of run start_number get_last_d mark_of marks_of records_from record_at text_of part_of holds_line_ending written_marker
others = (refl, refl, refl, refl, refl, refl, refl, refl, refl)

-- ---- marks: a depth, columns, numbers; a record that stops has none, nor what stands behind it
marks : (marked (bare heading 1 3 0 0) ≡ 3 ∷ 77 ∷ 77 ∷ 77 ∷ 77 ∷ 77 ∷ []) × (marked (bare table 1 2 0 0 ++ bare row 2 0 0 0 ++ bare cell 3 0 0 0 ++ bare cell 3 0 0 0) ≡ 0 ∷ 0 ∷ 1 ∷ 2 ∷ 77 ∷ 77 ∷ []) × (marked (bare list 1 1 3 1 ++ bare item 2 0 1 7 ++ bare item 2 0 1 3 ++ bare item 2 0 0 0) ≡ 0 ∷ 7 ∷ 8 ∷ 9 ∷ 77 ∷ 77 ∷ []) × (marked (bare list 1 1 3 1 ++ bare item 2 0 0 0 ++ bare item 2 0 1 7) ≡ 0 ∷ 1 ∷ 2 ∷ 77 ∷ 77 ∷ 77 ∷ []) × (marked (bare list 1 1 3 1 ++ bare item 2 0 1 0 ++ bare list 3 1 3 1 ++ bare item 4 0 1 4 ++ bare item 2 0 0 0) ≡ 0 ∷ 0 ∷ 0 ∷ 4 ∷ 1 ∷ 77 ∷ []) × (marked (bare list 1 0 0 1 ++ bare item 2 0 0 0) ≡ 0 ∷ 0 ∷ 77 ∷ 77 ∷ 77 ∷ 77 ∷ []) × (marked (says 1 ++ bare heading 1 9 0 0 ++ says 1) ≡ 0 ∷ 0 ∷ 77 ∷ 77 ∷ 77 ∷ 77 ∷ [])
unfolding bytes told marked closings remain steps_from steps_of columns nearest in_link behind_list only_empty stop_at stop_of position frame_path block_path run_of run start_number get_last_d mark_of marks_of records_from record_at text_of part_of holds_line_ending written_marker
marks = (refl, refl, refl, refl, refl, refl, refl)
