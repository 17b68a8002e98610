-- The check's answer and the report that it leaves, computed from the definitions for the words of whole sheets: the cases that document 01 has proved, and spans and paths of single rules.
use mathlib.Core.Path.{◌≡◌, refl}
use mathlib.Core.List.{List, [], ◌∷◌, ◌++◌, get_last_d, head_d}
use Prim.Native.Nat.{ℕ, ◌+◌}
use Rattle.leaves.specs.Text.Fence.{holds_fence_line, is_fence}
use Rattle.leaves.specs.Text.Edges.{has_blank_edge_line}
use Rattle.leaves.specs.Text.Lines.{holds_line_ending, is_blank, is_cr_of_crlf, lines, longer, starts_with}
use Rattle.leaves.specs.Text.Over.{is_empty_list}
use Rattle.leaves.specs.Text.Marker.{written_marker}
use Rattle.leaves.specs.Text.Name.{is_attribute_name, is_blank_identifier, is_directive_name, is_run, runs}
use Rattle.leaves.specs.Text.Part.{part_of}
use Rattle.leaves.specs.Text.Pipe.{has_odd_escaped_pipe, odd_pipe_after}
use Rattle.leaves.specs.Text.Same.{same_bytes}
use Rattle.leaves.specs.Text.Scalars.{scalars, decode, emit, lead_bits, trail_bits}
use Rattle.leaves.specs.Text.Title.{is_alert_title}
use Rattle.leaves.specs.Text.Trim.{trim, trim_cons, trim_end, trim_start}
use Rattle.leaves.specs.Text.UnicodeLetters.{letter_ranges, number_ranges, in_ranges, is_unicode_letter}
use Rattle.leaves.specs.Text.UnicodeLetters.{is_tag_name_char, is_tag_name_of, is_tag_name}
use Rattle.leaves.specs.Text.Utf8.{is_utf8, well_formed, follow}
use Rattle.leaves.specs.Text.White.{is_white, starts_with_white, ends_with_white}
use Rattle.leaves.specs.Sheet.Forest.{count_trees, count_kind, deeper, forest_at, forest_of, grow, after_deeper, records_in}
use Rattle.leaves.specs.Sheet.Kinds.{paragraph, heading, block_quote, list, table, leaf_directive, blank_line, item, row, cell, attribute, text, delete, code, link, autolink, soft_break, line_break, tag}
use Rattle.leaves.specs.Sheet.Records.{record_at}
use Rattle.leaves.specs.Sheet.Siblings.{fold_siblings}
use Rattle.leaves.specs.Sheet.Texts.{text_of, text_outside, text_ill_formed}
use Rattle.leaves.specs.Refusal.Fields.{most_a, most_b, most_c, has_first, has_second, bad_text, bad_span, is_surrogate, bad_number, bad_field}
use Rattle.leaves.specs.Refusal.Groups.{parent_group, other_group, child_group}
use Rattle.leaves.specs.Refusal.Judge.{judge_at, judge_from, judge_sheet}
use Rattle.leaves.specs.Refusal.Places.{holds, place_in, place_of, before_children, after_child, misplaced, open_at}
use Rattle.leaves.specs.Refusal.Record.{level_before, bad_level, judge_texts, judge}
use Rattle.leaves.specs.Refusal.Tags.{lacks_tags, tags_from}
use Rattle.leaves.specs.Refusal.Verdict.{Answer, answer, or_else}
use Rattle.leaves.specs.Report.Entries.{flat, list_if, words, ◌⊕◌}
use Rattle.inlines.specs.Attribute.{validate_directive_attributes}
use Rattle.inlines.specs.Depth.{each_record, validate_cell_values, validate_one_line}
use Rattle.inlines.specs.Link.{validate_link_text}
use Rattle.inlines.specs.Literal.{validate_code_inline, validate_text}
use Rattle.inlines.specs.Nodes.{all_empty, break_entries, ends_with_whitespace, final_break, holds_joined, inlines_of, is_one_joined, no_inline, starts_with_whitespace, without_empty_texts, validate_emphasis_container, validate_inline, validate_inline_nodes, validate_inline_nodes_after, validate_inline_values, validate_inlines, validate_node}
use Rattle.inlines.specs.Single.{validate_destination, validate_directive_name, validate_siblings, validate_tag}
use Rattle.inlines.specs.Values.{ends_white, is_bad_attribute, is_unwritable, starts_white}
use Rattle.blocks.specs.Before.{takes_indented_code, validate_taken_block, before_next}
use Rattle.blocks.specs.Block.{validate_own}
use Rattle.blocks.specs.Check.{check_outcome}
use Rattle.blocks.specs.Footnote.{blank_line_at, validate_footnote_definition}
use Rattle.blocks.specs.Frontmatter.{frontmatter_kind, validate_frontmatter}
use Rattle.blocks.specs.Heads.{validate_alert, validate_code_block, validate_definition, validate_heading}
use Rattle.blocks.specs.Holds.{holds_blocks}
use Rattle.blocks.specs.Html.{validate_tags, validate_tag_pair, validate_html_container}
use Rattle.blocks.specs.Item.{opens_with_paragraph, validate_blank_line, validate_item_blank_lines, validate_task_item}
use Rattle.blocks.specs.Label.{before_blocks, validate_directive}
use Rattle.blocks.specs.List.{count_full, holds_one_block, validate_list}
use Rattle.blocks.specs.Number.{item_number, validate_item_number}
use Rattle.blocks.specs.Paragraph.{validate_paragraph}
use Rattle.blocks.specs.Table.{header_width, validate_cell, validate_cells, validate_rows, validate_table}
use Rattle.blocks.specs.Walk.{validate_block, validate_blocks, validate_document, validate_item, validate_list_items}

-- the check; a declaration that unfolds this unfolds all that the answer and the report compute with
unfoldable pub checks : List ℕ → List ℕ → List ℕ → Answer × List ℕ
unfolding check_outcome flat words judge_sheet or_else judge_from judge_at judge judge_texts level_before bad_level tags_from lacks_tags count_kind misplaced open_at fold_siblings before_children after_child parent_group other_group child_group holds place_in place_of bad_field bad_number most_a most_b most_c is_surrogate bad_span has_first has_second bad_text text_outside text_ill_formed is_utf8 well_formed follow Rattle.leaves.specs.Text.Utf8.table_3_7 is_empty_list trim trim_cons trim_end trim_start holds_fence_line is_fence has_blank_edge_line holds_line_ending is_blank is_cr_of_crlf lines longer starts_with head_d get_last_d is_attribute_name is_blank_identifier is_directive_name is_run runs part_of has_odd_escaped_pipe odd_pipe_after same_bytes is_alert_title text_of count_trees deeper forest_at forest_of grow after_deeper list_if ◌⊕◌ record_at validate_code_inline validate_destination validate_directive_name validate_link_text validate_siblings validate_tag is_tag_name is_tag_name_of is_tag_name_char is_unicode_letter in_ranges letter_ranges number_ranges validate_text is_bad_attribute is_unwritable each_record records_in validate_cell_values validate_directive_attributes validate_one_line validate_emphasis_container all_empty starts_with_whitespace ends_with_whitespace without_empty_texts starts_white ends_white holds_joined is_one_joined starts_with_white ends_with_white is_white scalars decode emit lead_bits trail_bits final_break break_entries inlines_of no_inline validate_inline validate_inline_values validate_inline_nodes validate_inline_nodes_after validate_inlines validate_node blank_line_at count_full frontmatter_kind holds_one_block opens_with_paragraph takes_indented_code validate_alert validate_code_block validate_definition validate_footnote_definition validate_frontmatter validate_heading validate_tags validate_item_blank_lines validate_item_number validate_list validate_taken_block validate_task_item written_marker header_width validate_cell validate_cells validate_rows validate_table before_next validate_tag_pair item_number validate_blank_line before_blocks validate_paragraph holds_blocks validate_html_container validate_own validate_block validate_blocks validate_directive validate_document validate_item validate_list_items
checks w bytes report = check_outcome w bytes report

-- ---- sheets over the text `a \ | \ \ |`, and a report of nine words, each 77
abbrev bytes : List ℕ
bytes = 97 ∷ 92 ∷ 124 ∷ 92 ∷ 92 ∷ 124 ∷ []

abbrev report : List ℕ
report = 77 ∷ 77 ∷ 77 ∷ 77 ∷ 77 ∷ 77 ∷ 77 ∷ 77 ∷ 77 ∷ []

-- one record: kind, level; no span; A, B, C; its first text's start and length
abbrev bare : ℕ → ℕ → ℕ → ℕ → ℕ → ℕ → ℕ → List ℕ
bare kind level a b c start len = kind ∷ level ∷ 0 ∷ 0 ∷ 0 ∷ a ∷ b ∷ c ∷ start ∷ len ∷ 0 ∷ 0 ∷ []

-- .. with a span, from and to
abbrev spanned : ℕ → ℕ → ℕ → ℕ → ℕ → ℕ → ℕ → ℕ → ℕ → List ℕ
spanned kind level from to a b c start len = kind ∷ level ∷ 1 ∷ from ∷ to ∷ a ∷ b ∷ c ∷ start ∷ len ∷ 0 ∷ 0 ∷ []

-- .. with nothing but a span
abbrev at : ℕ → ℕ → ℕ → ℕ → List ℕ
at kind level from to = spanned kind level from to 0 0 0 0 0

-- the text `a`
abbrev says : ℕ → List ℕ
says level = bare text level 0 0 0 0 1

-- a paragraph that says it
abbrev block : ℕ → List ℕ
block level = bare paragraph level 0 0 0 0 0 ++ says (level + 1)

-- a table of one cell, and in it a record of the kind, code or tag, whose value or name is that part of the text
abbrev celled : ℕ → ℕ → ℕ → List ℕ
celled kind start len = bare table 1 1 0 0 0 0 ++ bare row 2 0 0 0 0 0 ++ bare cell 3 0 0 0 0 0 ++ spanned kind 4 5 9 0 0 0 start len

-- ---- document 01: "Proved cases, with the rule reported". An entry's words are rule, span flag, start, end, path length, path.
-- No records; depths 0 and 7, 1 and 6; numbers 999,999,999 and one more; list, blank line, list of one marker; a loose list with one item of one block, then of two; `\|` and `\\|` in cell code.
cases :
    (check_outcome [] bytes report ≡ (answer 0 0, report))
    × (check_outcome (bare heading 1 0 0 0 0 0) bytes report ≡ (answer 0 1, 10 ∷ 0 ∷ 0 ∷ 0 ∷ 1 ∷ 0 ∷ 77 ∷ 77 ∷ 77 ∷ []))
    × (check_outcome (block 1 ++ spanned heading 1 2 6 7 0 0 0 0) bytes report ≡ (answer 0 1, 10 ∷ 1 ∷ 2 ∷ 6 ∷ 1 ∷ 1 ∷ 77 ∷ 77 ∷ 77 ∷ []))
    × (check_outcome (spanned heading 1 2 6 1 0 0 0 0) bytes report ≡ (answer 0 0, report))
    × (check_outcome (spanned heading 1 2 6 6 0 0 0 0) bytes report ≡ (answer 0 0, report))
    × (check_outcome (spanned list 1 1 9 1 3 1 0 0 ++ spanned item 2 3 8 0 1 999999999 0 0) bytes report ≡ (answer 0 0, report))
    × (check_outcome (spanned list 1 1 9 1 3 1 0 0 ++ spanned item 2 3 8 0 1 1000000000 0 0) bytes report ≡ (answer 0 1, 50 ∷ 1 ∷ 3 ∷ 8 ∷ 2 ∷ 0 ∷ 0 ∷ 77 ∷ 77 ∷ []))
    × (check_outcome (spanned list 1 0 1 0 0 1 0 0 ++ bare item 2 0 0 0 0 0 ++ at blank_line 1 1 2 ++ spanned list 1 2 4 0 0 1 0 0 ++ bare item 2 0 0 0 0 0) bytes report ≡ (answer 0 1, 1 ∷ 1 ∷ 2 ∷ 4 ∷ 1 ∷ 2 ∷ 77 ∷ 77 ∷ 77 ∷ []))
    × (check_outcome (at list 1 4 8 ++ bare item 2 0 0 0 0 0 ++ block 3) bytes report ≡ (answer 0 1, 13 ∷ 1 ∷ 4 ∷ 8 ∷ 1 ∷ 0 ∷ 77 ∷ 77 ∷ 77 ∷ []))
    × (check_outcome (at list 1 4 8 ++ bare item 2 0 0 0 0 0 ++ block 3 ++ block 3) bytes report ≡ (answer 0 0, report))
    × (check_outcome (celled code 1 2) bytes report ≡ (answer 0 1, 21 ∷ 1 ∷ 5 ∷ 9 ∷ 3 ∷ 0 ∷ 0 ∷ 0 ∷ 77 ∷ []))
    × (check_outcome (celled code 3 3) bytes report ≡ (answer 0 0, report))
unfolding checks
cases = (refl, refl, refl, refl, refl, refl, refl, refl, refl, refl, refl, refl)

-- ---- the span and the path of 30 (the break), 37 (the second break), 38 (the second strikethrough), 42 (the inner link), 56 (the tag, in a cell); 55, whose record is the attribute, has no span
spans :
    (check_outcome (at block_quote 1 0 9 ++ at paragraph 2 1 8 ++ says 3 ++ at line_break 3 5 7) bytes report ≡ (answer 0 1, 30 ∷ 1 ∷ 5 ∷ 7 ∷ 2 ∷ 0 ∷ 0 ∷ 77 ∷ 77 ∷ []))
    × (check_outcome (block 1 ++ at paragraph 1 1 8 ++ at soft_break 2 2 3 ++ at soft_break 2 4 5 ++ says 2) bytes report ≡ (answer 0 1, 37 ∷ 1 ∷ 4 ∷ 5 ∷ 1 ∷ 1 ∷ 77 ∷ 77 ∷ 77 ∷ []))
    × (check_outcome (at paragraph 1 1 8 ++ at delete 2 2 3 ++ says 3 ++ at delete 2 4 5 ++ says 3) bytes report ≡ (answer 0 1, 38 ∷ 1 ∷ 4 ∷ 5 ∷ 1 ∷ 0 ∷ 77 ∷ 77 ∷ 77 ∷ []))
    × (check_outcome (at paragraph 1 1 8 ++ spanned link 2 2 7 0 0 0 0 1 ++ spanned autolink 3 3 6 0 0 0 0 1) bytes report ≡ (answer 0 1, 42 ∷ 1 ∷ 3 ∷ 6 ∷ 1 ∷ 0 ∷ 77 ∷ 77 ∷ 77 ∷ []))
    × (check_outcome (spanned leaf_directive 1 1 8 0 0 0 0 1 ++ bare attribute 2 0 0 0 1 1) bytes report ≡ (answer 0 1, 55 ∷ 0 ∷ 0 ∷ 0 ∷ 1 ∷ 0 ∷ 77 ∷ 77 ∷ 77 ∷ []))
    × (check_outcome (celled tag 1 2) bytes report ≡ (answer 0 1, 56 ∷ 1 ∷ 5 ∷ 9 ∷ 3 ∷ 0 ∷ 0 ∷ 0 ∷ 77 ∷ []))
unfolding checks
spans = (refl, refl, refl, refl, refl, refl)
