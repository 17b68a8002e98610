-- What the program prints for small films, computed from the definitions.
use mathlib.Core.Path.{◌≡◌, refl}
use mathlib.Core.List.{List, [], ◌∷◌, ◌++◌, get_last_d}
use Prim.Native.Nat.{ℕ}
use Rattle.leaves.specs.Sheet.Records.{record_at}
use Rattle.leaves.specs.Sheet.Siblings.{fold_siblings}
use Rattle.leaves.specs.Sheet.Forest.{records_from, deeper, after_deeper, grow, forest_at, forest_of, count_trees, count_kind}
use Rattle.leaves.specs.Text.Part.{part_of}
use Rattle.leaves.specs.Text.Utf8.{is_utf8, well_formed, follow}
use Rattle.leaves.specs.Refusal.Groups.{parent_group, other_group, child_group}
use Rattle.leaves.specs.Refusal.Places.{holds, place_in, place_of, before_children, after_child, misplaced, open_at}
use Rattle.leaves.specs.Refusal.Fields.{most_a, most_b, most_c, has_first, has_second, bad_text, bad_span, is_surrogate, bad_number, bad_field}
use Rattle.leaves.specs.Sheet.Texts.{text_of, text_outside, text_ill_formed}
use Rattle.leaves.specs.Refusal.Record.{level_before, bad_level, judge_texts, judge}
use Rattle.leaves.specs.Refusal.Judge.{judge_at, judge_from, judge_sheet}
use Rattle.leaves.specs.Refusal.Verdict.{or_else}
use Rattle.leaves.specs.Refusal.Tags.{lacks_tags, tags_from}
use Rattle.leaves.specs.Report.Entries.{words, flat, list_if, ◌⊕◌}
use Rattle.leaves.specs.Text.Over.{is_empty_list}
use Rattle.inlines.specs.Nodes.{inlines_of, break_entries, final_break, no_inline, validate_inline_nodes, validate_inline_nodes_after, validate_inlines}
use Rattle.blocks.specs.Heads.{validate_heading}
use Rattle.blocks.specs.Before.{takes_indented_code, validate_taken_block, before_next}
use Rattle.leaves.specs.Text.Marker.{written_marker}
use Rattle.blocks.specs.Holds.{holds_blocks}
use Rattle.blocks.specs.Block.{validate_own}
use Rattle.blocks.specs.Walk.{validate_block, validate_blocks, validate_document, validate_item, validate_list_items}
use Rattle.blocks.specs.Check.{check_outcome}
use Rattle.setter.specs.Steps.{closings, remain, steps_from, steps_of}
use Rattle.setter.specs.Seen.{columns, nearest, in_link, behind_list, only_empty, start_number}
use Rattle.setter.specs.Stops.{stop_at, stop_of}
use Rattle.setter.specs.Machine.{position, frame_path, block_path, run_of, run, run_answer}
use Rattle.leaves.specs.Text.Field.{front, field, past_spaces, read_digits, read_number, read_field}
use Rattle.leaves.specs.Text.Columns.{fields, line, are_fields, is_line, numbers}
use Rattle.setter.specs.Listing.Film.{are_records, sheet_of, film_sheet, text_behind, film_of}
use Rattle.setter.specs.Listing.Print.{refusal_line, entry_lines, list_lines}
use Rattle.setter.specs.Listing.Program.{sheet_lines, listing}

-- what is printed; a declaration that unfolds this unfolds all that it computes with
printed : List ℕ → List ℕ
unfolding listing sheet_lines refusal_line entry_lines list_lines are_records sheet_of film_sheet text_behind film_of front field past_spaces read_digits read_number read_field fields line are_fields is_line numbers check_outcome run closings remain steps_from steps_of columns nearest in_link behind_list only_empty stop_at stop_of position frame_path block_path run_of run_answer start_number records_from validate_document validate_blocks validate_block validate_list_items validate_item before_next holds_blocks validate_own takes_indented_code validate_heading validate_taken_block written_marker final_break break_entries inlines_of get_last_d no_inline is_empty_list validate_inline_nodes validate_inline_nodes_after validate_inlines words flat list_if ◌⊕◌ judge_sheet or_else judge_from judge_at judge judge_texts level_before bad_level tags_from lacks_tags record_at deeper after_deeper grow forest_at forest_of count_trees count_kind misplaced open_at fold_siblings before_children after_child parent_group other_group child_group holds place_in place_of bad_field bad_number most_a most_b most_c is_surrogate bad_span has_first has_second bad_text text_outside text_ill_formed text_of part_of is_utf8 well_formed follow Rattle.leaves.specs.Text.Utf8.table_3_7
printed s = listing s

-- a record with a kind, a level and A
abbrev rec : ℕ → ℕ → ℕ → List ℕ
rec kind level a = line (kind ∷ level ∷ 0 ∷ 0 ∷ 0 ∷ a ∷ 0 ∷ 0 ∷ 0 ∷ 0 ∷ 0 ∷ 0 ∷ [])

-- document 01: "One heading of depth 0, `2 1` and ten zeros", and the two lines that it prints
heading : listing (line (1 ∷ 0 ∷ []) ++ rec 2 1 0) ≡ line (10 ∷ 0 ∷ 0 ∷ 0 ∷ 1 ∷ 0 ∷ []) ++ line (1 ∷ 6 ∷ 0 ∷ [])
unfolding printed
heading = refl

-- a heading of depth 1 has no diagnostics, and the machine ends after one record; no records have none
comes-to-the-end : (listing (line (1 ∷ 0 ∷ []) ++ rec 2 1 1) ≡ line (0 ∷ 0 ∷ 1 ∷ [])) × (listing (line (0 ∷ 0 ∷ [])) ≡ line (0 ∷ 0 ∷ 0 ∷ []))
unfolding printed
comes-to-the-end = (refl, refl)

-- refusals: a second record of no kind (4, of record 1); nothing at all (13); 513 records (14)
refusals : (listing (line (2 ∷ 0 ∷ []) ++ rec 2 1 1 ++ rec 18 1 0) ≡ line (4 ∷ 1 ∷ [])) × (listing [] ≡ line (13 ∷ 0 ∷ [])) × (listing (line (513 ∷ 0 ∷ [])) ≡ line (14 ∷ 0 ∷ []))
unfolding printed
refusals = (refl, refl, refl)
