-- For each rule of the inline half a case that earns it and its neighbour that does not, computed from the definitions. The text is `a LF \ | space ` $ é \ \ |`.
use mathlib.Core.Path.{◌≡◌, refl}
use mathlib.Core.List.{List, [], ◌∷◌, map, get_last_d, head_d}
use Prim.Native.Nat.{ℕ}
use Rattle.leaves.specs.Text.Over.{is_empty_list}
use Rattle.leaves.specs.Text.Lines.{holds_line_ending, longer, starts_with}
use Rattle.leaves.specs.Text.Math.{holds_backtick_dollar}
use Rattle.leaves.specs.Text.Name.{is_directive_name, is_run, runs, is_attribute_name}
use Rattle.leaves.specs.Text.Part.{part_of}
use Rattle.leaves.specs.Text.Pipe.{has_odd_escaped_pipe, odd_pipe_after}
use Rattle.leaves.specs.Text.Scalars.{scalars, decode, emit, lead_bits, trail_bits}
use Rattle.leaves.specs.Text.UnicodeLetters.{letter_ranges, number_ranges, in_ranges, is_unicode_letter}
use Rattle.leaves.specs.Text.UnicodeLetters.{is_tag_name_char, is_tag_name_of, is_tag_name}
use Rattle.leaves.specs.Text.Utf8.{follow, table_3_7}
use Rattle.leaves.specs.Text.White.{is_white, starts_with_white, ends_with_white}
use Rattle.leaves.specs.Sheet.Texts.{text_of}
use Rattle.leaves.specs.Sheet.Forest.{Forest, no_tree, tree, records_in}
use Rattle.leaves.specs.Sheet.Kinds.{attribute, text, escape, emphasis, strong, delete, mark, code, link, autolink, image, link_reference, image_reference, soft_break, line_break, math, footnote_reference, inline_footnote, wiki_link, text_directive, tag}
use Rattle.leaves.specs.Report.Entries.{Entry, list_if, ◌⊕◌}
use Rattle.leaves.specs.declared.sheet.records.Rec.{Rec}
use Rattle.leaves.specs.declared.sheet.records.Text.{Text}
use Rattle.inlines.specs.Values.{starts_white, ends_white, is_unwritable, is_bad_attribute}
use Rattle.inlines.specs.Single.{validate_destination, validate_identifier, validate_escape, validate_directive_name, validate_tag, validate_siblings}
use Rattle.inlines.specs.Literal.{validate_text, validate_code_inline, validate_math_inline}
use Rattle.inlines.specs.Attribute.{validate_directive_attributes}
use Rattle.inlines.specs.Link.{validate_link_text}
use Rattle.inlines.specs.Depth.{validate_cell_values, validate_one_line, each_record}
use Rattle.inlines.specs.Nodes.{inlines_of, no_inline, all_empty, without_empty_texts, starts_with_whitespace, ends_with_whitespace, is_one_joined, holds_joined, validate_text_directive, break_entries, final_break, validate_emphasis_container, validate_inline, validate_inline_values, validate_node, validate_inline_nodes_after, validate_inline_nodes, validate_inlines}

-- ---- records over the text
bytes : List ℕ
bytes = 97 ∷ 10 ∷ 92 ∷ 124 ∷ 32 ∷ 96 ∷ 36 ∷ 0xC3 ∷ 0xA9 ∷ 92 ∷ 92 ∷ 124 ∷ []

-- parts of it: nothing, `a`, `a LF`, `\|`, a space, `` `$ ``, é, and `\\|`
abbrev part : ℕ → ℕ → Text
part start len = record { start = start; len = len }

abbrev rec : ℕ → ℕ → ℕ → Text → Text → Rec
rec kind a b first second = record { kind = kind; level = 2; span = record { flag = 1; start = kind; end = a }; a = a; b = b; c = 0; first = first; second = second }

abbrev leaf : ℕ → Forest → Forest
leaf kind rest = tree (rec kind 0 0 (part 0 0) (part 0 0)) no_tree rest

abbrev says : ℕ → ℕ → Forest → Forest
says start len rest = tree (rec text 0 0 (part start len) (part 0 0)) no_tree rest

abbrev holds : ℕ → ℕ → Forest → Forest
holds kind a kids = tree (rec kind a 0 (part 0 1) (part 0 0)) kids no_tree

abbrev one : ℕ → ℕ → ℕ → Text → Text → Forest
one kind a b first second = tree (rec kind a b first second) no_tree no_tree

abbrev rule_of : Entry → ℕ
rule_of e = e.rule

listed : Forest → List ℕ
listed f = map rule_of (validate_inlines bytes (0 ∷ []) f)

-- ---- 25, 31 to 36, 43 to 48, 54, 55: one record
singles : (listed (one link 0 0 (part 0 0) (part 0 0)) ≡ 25 ∷ []) × (listed (one link 1 0 (part 0 0) (part 0 0)) ≡ []) × (listed (one image 0 0 (part 0 0) (part 0 0)) ≡ 25 ∷ []) × (listed (one image 0 0 (part 0 1) (part 0 0)) ≡ []) × (listed (says 0 2 no_tree) ≡ 31 ∷ []) × (listed (says 0 1 no_tree) ≡ []) × (listed (one link_reference 0 0 (part 0 0) (part 0 0)) ≡ 32 ∷ []) × (listed (one link_reference 0 0 (part 4 1) (part 0 0)) ≡ []) × (listed (one image_reference 0 0 (part 0 0) (part 0 0)) ≡ 33 ∷ []) × (listed (one image_reference 0 0 (part 0 1) (part 0 0)) ≡ []) × (listed (one footnote_reference 0 0 (part 0 0) (part 0 0)) ≡ 34 ∷ []) × (listed (one footnote_reference 0 0 (part 0 1) (part 0 0)) ≡ []) × (listed (one inline_footnote 0 0 (part 0 0) (part 0 0)) ≡ 35 ∷ []) × (listed (holds inline_footnote 0 (says 0 0 no_tree)) ≡ []) × (listed (one wiki_link 0 0 (part 0 0) (part 0 0)) ≡ 36 ∷ []) × (listed (one wiki_link 0 0 (part 0 1) (part 0 0)) ≡ [])
unfolding listed bytes validate_inlines validate_identifier validate_text final_break break_entries inlines_of get_last_d validate_inline_nodes validate_node validate_inline_nodes_after validate_siblings validate_inline validate_inline_values validate_destination validate_link_text no_inline is_empty_list holds_line_ending text_of part_of list_if ◌⊕◌
singles = (refl, refl, refl, refl, refl, refl, refl, refl, refl, refl, refl, refl, refl, refl, refl, refl)

values : (listed (one escape 0x2F 0 (part 0 0) (part 0 0)) ≡ []) × (listed (one escape 0x30 0 (part 0 0) (part 0 0)) ≡ 43 ∷ []) × (listed (one code 0 0 (part 0 0) (part 0 0)) ≡ 44 ∷ []) × (listed (one code 0 0 (part 0 2) (part 0 0)) ≡ 45 ∷ []) × (listed (one code 0 0 (part 0 1) (part 0 0)) ≡ []) × (listed (one math 0 0 (part 0 0) (part 0 0)) ≡ 46 ∷ 47 ∷ []) × (listed (one math 0 1 (part 0 1) (part 0 0)) ≡ []) × (listed (one math 1 0 (part 5 2) (part 0 0)) ≡ 48 ∷ []) × (listed (one math 0 1 (part 5 2) (part 0 0)) ≡ []) × (listed (one text_directive 0 0 (part 0 1) (part 0 0)) ≡ []) × (listed (one text_directive 0 0 (part 0 0) (part 0 0)) ≡ 54 ∷ []) × (listed (tree (rec text_directive 0 0 (part 4 1) (part 0 0)) (one attribute 0 0 (part 4 1) (part 0 0)) no_tree) ≡ 54 ∷ 55 ∷ []) × (listed (holds text_directive 0 (one attribute 0 0 (part 0 1) (part 0 0))) ≡ []) × (listed (one math 0 0 (part 0 1) (part 0 0)) ≡ 47 ∷ []) × (listed (one math 1 0 (part 0 0) (part 0 0)) ≡ 46 ∷ [])
unfolding listed bytes validate_inlines validate_identifier validate_text final_break break_entries inlines_of get_last_d validate_inline_nodes validate_node validate_inline_nodes_after validate_siblings validate_inline validate_inline_values validate_escape validate_code_inline validate_math_inline validate_text_directive validate_directive_name validate_directive_attributes is_bad_attribute is_directive_name is_run runs longer is_attribute_name holds_line_ending holds_backtick_dollar starts_with text_of part_of list_if ◌⊕◌
values = (refl, refl, refl, refl, refl, refl, refl, refl, refl, refl, refl, refl, refl, refl, refl)

-- ---- 56: `a` and `é` are tag names; nothing, a space and `a LF` are not. It is listed behind the entries of the inline before it and before those of the next
tags : (listed (one tag 0 0 (part 0 1) (part 0 0)) ≡ []) × (listed (one tag 0 0 (part 7 2) (part 0 0)) ≡ []) × (listed (one tag 0 0 (part 0 0) (part 0 0)) ≡ 56 ∷ []) × (listed (one tag 0 0 (part 4 1) (part 0 0)) ≡ 56 ∷ []) × (listed (one tag 0 0 (part 0 2) (part 0 0)) ≡ 56 ∷ []) × (listed (holds mark 0 (leaf soft_break (leaf soft_break (leaf tag (one code 0 0 (part 0 0) (part 0 0)))))) ≡ 40 ∷ 37 ∷ 56 ∷ 44 ∷ [])
unfolding listed bytes validate_inlines validate_identifier validate_text final_break break_entries inlines_of get_last_d validate_inline_nodes validate_node validate_inline_nodes_after validate_siblings validate_inline validate_inline_values validate_tag is_tag_name is_tag_name_of is_tag_name_char is_unicode_letter in_ranges letter_ranges number_ranges validate_code_inline validate_emphasis_container all_empty starts_with_whitespace ends_with_whitespace without_empty_texts starts_white ends_white holds_joined is_one_joined no_inline is_empty_list starts_with_white ends_with_white is_white head_d scalars decode emit lead_bits trail_bits follow table_3_7 holds_line_ending text_of part_of list_if ◌⊕◌
tags = (refl, refl, refl, refl, refl, refl)

-- ---- 30: the last inline; it is not asked of the last child of a link, image, reference, inline footnote or text directive
lasts : (listed (says 0 1 (leaf line_break no_tree)) ≡ 30 ∷ []) × (listed (leaf line_break (says 0 1 no_tree)) ≡ []) × (listed (says 0 1 (leaf soft_break no_tree)) ≡ []) × (listed (holds link 0 (says 0 1 (leaf line_break no_tree))) ≡ []) × (listed (holds image 0 (leaf line_break no_tree)) ≡ []) × (listed (holds link_reference 0 (leaf line_break no_tree)) ≡ []) × (listed (holds image_reference 0 (leaf line_break no_tree)) ≡ []) × (listed (holds inline_footnote 0 (leaf line_break no_tree)) ≡ []) × (listed (holds text_directive 0 (leaf line_break no_tree)) ≡ [])
unfolding listed bytes validate_inlines validate_identifier validate_text final_break break_entries inlines_of get_last_d validate_inline_nodes validate_node validate_inline_nodes_after validate_siblings validate_inline validate_inline_values validate_destination validate_link_text no_inline is_empty_list validate_text_directive validate_directive_name validate_directive_attributes is_bad_attribute is_directive_name is_run runs longer holds_line_ending text_of part_of list_if ◌⊕◌
lasts = (refl, refl, refl, refl, refl, refl, refl, refl, refl)

-- ---- 37 after each kind of break, and not for a backslash break; an empty text between is not passed over. 38
rules-of-breaks : (listed (leaf soft_break (leaf soft_break (says 0 1 no_tree))) ≡ 37 ∷ []) × (listed (leaf line_break (leaf soft_break (says 0 1 no_tree))) ≡ 37 ∷ []) × (listed (leaf soft_break (leaf line_break (says 0 1 no_tree))) ≡ []) × (listed (leaf soft_break (tree (rec line_break 1 0 (part 0 0) (part 0 0)) no_tree (says 0 1 no_tree))) ≡ 37 ∷ []) × (listed (leaf soft_break (says 0 0 (leaf soft_break no_tree))) ≡ []) × (listed (tree (rec delete 0 0 (part 0 0) (part 0 0)) (says 0 1 no_tree) (holds delete 0 (says 0 1 no_tree))) ≡ 38 ∷ []) × (listed (tree (rec mark 0 0 (part 0 0) (part 0 0)) (says 0 1 no_tree) (holds mark 0 (says 0 1 no_tree))) ≡ []) × (listed (tree (rec line_break 1 0 (part 0 0) (part 0 0)) no_tree (leaf soft_break (says 0 1 no_tree))) ≡ 37 ∷ []) × (listed (tree (rec line_break 1 0 (part 0 0) (part 0 0)) no_tree (leaf line_break (says 0 1 no_tree))) ≡ []) × (listed (holds link 0 (leaf soft_break (leaf soft_break no_tree))) ≡ 37 ∷ [])
unfolding listed bytes validate_destination validate_link_text validate_inlines validate_identifier validate_text final_break break_entries inlines_of get_last_d validate_inline_nodes validate_node validate_inline_nodes_after validate_siblings validate_inline validate_inline_values validate_emphasis_container all_empty starts_with_whitespace ends_with_whitespace without_empty_texts starts_white ends_white holds_joined is_one_joined no_inline is_empty_list starts_with_white ends_with_white is_white head_d scalars decode emit lead_bits trail_bits follow table_3_7 holds_line_ending text_of part_of list_if ◌⊕◌
rules-of-breaks = (refl, refl, refl, refl, refl, refl, refl, refl, refl, refl)

-- ---- 39 before 40, and never both; 41 beside them. Empty texts are passed over by 39 and 40, and not by 41
emphases : (listed (holds emphasis 0 (says 0 0 no_tree)) ≡ 39 ∷ []) × (listed (holds strong 0 no_tree) ≡ 39 ∷ []) × (listed (holds emphasis 0 (says 0 1 no_tree)) ≡ []) × (listed (holds emphasis 0 (says 0 0 (says 4 1 (says 0 1 no_tree)))) ≡ 40 ∷ []) × (listed (holds emphasis 0 (says 0 1 (leaf soft_break (says 0 0 no_tree)))) ≡ 40 ∷ []) × (listed (holds mark 0 (leaf line_break (says 0 1 no_tree))) ≡ []) × (listed (holds mark 0 (says 0 1 (leaf line_break no_tree))) ≡ 40 ∷ 30 ∷ []) × (listed (holds emphasis 1 (holds emphasis 1 (says 0 1 no_tree))) ≡ 41 ∷ []) × (listed (holds emphasis 1 (holds emphasis 0 (says 0 1 no_tree))) ≡ []) × (listed (holds strong 0 (holds emphasis 0 (says 0 1 no_tree))) ≡ 41 ∷ []) × (listed (holds strong 0 (holds strong 0 (says 0 1 no_tree))) ≡ []) × (listed (holds delete 0 (holds delete 0 (says 0 1 no_tree))) ≡ 41 ∷ []) × (listed (holds emphasis 0 (says 0 0 (holds emphasis 0 (says 0 1 no_tree)))) ≡ []) × (listed (holds emphasis 0 (holds emphasis 0 no_tree)) ≡ 41 ∷ 39 ∷ []) × (listed (holds emphasis 0 (holds emphasis 0 (says 4 1 no_tree))) ≡ 41 ∷ 40 ∷ []) × (listed (holds mark 0 (holds mark 0 (says 0 1 no_tree))) ≡ 41 ∷ []) × (listed (holds mark 0 (holds delete 0 (says 0 1 no_tree))) ≡ [])
unfolding listed bytes validate_inlines validate_identifier validate_text final_break break_entries inlines_of get_last_d validate_inline_nodes validate_node validate_inline_nodes_after validate_siblings validate_inline validate_inline_values validate_emphasis_container all_empty starts_with_whitespace ends_with_whitespace without_empty_texts starts_white ends_white holds_joined is_one_joined no_inline is_empty_list starts_with_white ends_with_white is_white head_d scalars decode emit lead_bits trail_bits follow table_3_7 holds_line_ending text_of part_of list_if ◌⊕◌
emphases = (refl, refl, refl, refl, refl, refl, refl, refl, refl, refl, refl, refl, refl, refl, refl, refl, refl)

-- ---- 42 at depth, and not below a link that was found; three links in each other give two entries. 20, 21 at depth
links : (listed (holds link 0 (holds mark 0 (one autolink 0 0 (part 0 1) (part 0 0)))) ≡ 42 ∷ []) × (listed (holds link 0 (holds link 0 (holds link 0 (says 0 1 no_tree)))) ≡ 42 ∷ 42 ∷ []) × (listed (holds image 0 (one autolink 0 0 (part 0 1) (part 0 0))) ≡ []) × (map rule_of (validate_one_line 20 (0 ∷ []) (holds mark 0 (leaf soft_break (leaf line_break no_tree)))) ≡ 20 ∷ 20 ∷ []) × (map rule_of (validate_cell_values bytes (0 ∷ []) (holds mark 0 (one code 0 0 (part 2 2) (part 0 0)))) ≡ 21 ∷ []) × (map rule_of (validate_cell_values bytes (0 ∷ []) (one wiki_link 0 0 (part 2 2) (part 2 2))) ≡ 21 ∷ []) × (map rule_of (validate_cell_values bytes (0 ∷ []) (says 2 2 no_tree)) ≡ []) × (listed (holds link 0 (holds image 0 (one autolink 0 0 (part 0 1) (part 0 0)))) ≡ 42 ∷ []) × (listed (holds link_reference 0 (one wiki_link 0 0 (part 0 1) (part 0 0))) ≡ 42 ∷ []) × (listed (holds link 0 (says 0 1 no_tree)) ≡ []) × (map rule_of (validate_one_line 22 (0 ∷ []) (leaf soft_break no_tree)) ≡ 22 ∷ []) × (map rule_of (validate_one_line 23 (0 ∷ []) (holds mark 0 (says 0 2 no_tree))) ≡ []) × (map rule_of (validate_cell_values bytes (0 ∷ []) (one code 0 0 (part 9 3) (part 0 0))) ≡ []) × (map rule_of (validate_cell_values bytes (0 ∷ []) (one link_reference 0 0 (part 2 2) (part 9 3))) ≡ []) × (map rule_of (validate_cell_values bytes (0 ∷ []) (one link_reference 0 0 (part 9 3) (part 2 2))) ≡ 21 ∷ [])
unfolding listed bytes validate_inlines validate_identifier validate_text final_break break_entries inlines_of get_last_d validate_inline_nodes validate_node validate_inline_nodes_after validate_siblings validate_inline validate_inline_values validate_destination validate_link_text validate_one_line validate_cell_values each_record records_in is_unwritable has_odd_escaped_pipe odd_pipe_after validate_emphasis_container all_empty starts_with_whitespace ends_with_whitespace without_empty_texts starts_white ends_white holds_joined is_one_joined no_inline is_empty_list starts_with_white ends_with_white is_white head_d scalars decode emit lead_bits trail_bits follow table_3_7 holds_line_ending text_of part_of list_if ◌⊕◌
links = (refl, refl, refl, refl, refl, refl, refl, refl, refl, refl, refl, refl, refl, refl, refl)
