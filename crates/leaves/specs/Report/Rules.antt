-- The rules. Document 01: "Rules numbered as their messages stand in source document 000, dropped ones skipped".
-- Document 02: "Bring back the dropped tag message as rule 56".
use Rattle.std.specs.Prelude.{ℕ}

-- "adjacent lists cannot use the same marker"
abbrev pub adjacent_lists : ℕ
adjacent_lists = 1

-- "paragraph cannot be empty"
abbrev pub empty_paragraph : ℕ
empty_paragraph = 2

-- "footnote definition identifier cannot be empty"
abbrev pub empty_footnote_definition : ℕ
empty_footnote_definition = 3

-- "a footnote definition cannot open or end with a blank line"
abbrev pub blank_line_in_footnote : ℕ
blank_line_in_footnote = 4

-- "HTML container opening tag name cannot be empty"
abbrev pub empty_opening_name : ℕ
empty_opening_name = 5

-- "HTML container closing tag name cannot be empty"
abbrev pub empty_closing_name : ℕ
empty_closing_name = 6

-- "HTML container opening and closing tag names must match"
abbrev pub tag_names_differ : ℕ
tag_names_differ = 7

-- "HTML container opening tag source cannot be empty"
abbrev pub empty_opening_source : ℕ
empty_opening_source = 8

-- "HTML container closing tag source cannot be empty"
abbrev pub empty_closing_source : ℕ
empty_closing_source = 9

-- "heading depth must be in the range 1..=6"
abbrev pub heading_depth : ℕ
heading_depth = 10

-- "alert title cannot be empty or start or end with a space or a tab"
abbrev pub alert_title : ℕ
alert_title = 11

-- "list must hold at least one item"
abbrev pub empty_list : ℕ
empty_list = 12

-- "a loose list must hold two items or an item of two blocks"
abbrev pub loose_list : ℕ
loose_list = 13

-- "task list item must hold a non-empty paragraph after its leading definitions"
abbrev pub task_item : ℕ
task_item = 14

-- "an indented code block must not be read as part of the block before it"
abbrev pub indented_code_taken : ℕ
indented_code_taken = 15

-- "table must contain at least a header row"
abbrev pub table_without_row : ℕ
table_without_row = 16

-- "table header row must contain at least one cell"
abbrev pub table_without_cell : ℕ
table_without_cell = 17

-- "table alignment count must match header width"
abbrev pub alignment_count : ℕ
alignment_count = 18

-- "table row width must match header width"
abbrev pub row_width : ℕ
row_width = 19

-- "a table cell cannot hold a line break"
abbrev pub break_in_cell : ℕ
break_in_cell = 20

-- "a value in a table cell cannot hold a `|` after an odd run of backslashes"
abbrev pub pipe_in_cell : ℕ
pipe_in_cell = 21

-- "a leaf directive label cannot hold a line break"
abbrev pub break_in_leaf_label : ℕ
break_in_leaf_label = 22

-- "a container directive label cannot hold a line break"
abbrev pub break_in_container_label : ℕ
break_in_container_label = 23

-- "definition identifier cannot be empty"
abbrev pub blank_definition : ℕ
blank_definition = 24

-- "a bare destination cannot be empty"
abbrev pub empty_bare_destination : ℕ
empty_bare_destination = 25

-- "code block info string cannot be empty"
abbrev pub empty_info : ℕ
empty_info = 26

-- "indented code cannot be empty or start or end with a blank line"
abbrev pub blank_edge_in_code : ℕ
blank_edge_in_code = 27

-- "frontmatter cannot be inside a container"
abbrev pub frontmatter_inside : ℕ
frontmatter_inside = 28

-- "frontmatter value cannot hold its own fence line"
abbrev pub fence_in_frontmatter : ℕ
fence_in_frontmatter = 29

-- "hard line break cannot be the final inline of its container"
abbrev pub final_hard_break : ℕ
final_hard_break = 30

-- "text cannot hold a line ending; a line ends with a soft or hard break"
abbrev pub line_ending_in_text : ℕ
line_ending_in_text = 31

-- "link reference identifier cannot be empty"
abbrev pub empty_link_reference : ℕ
empty_link_reference = 32

-- "image reference identifier cannot be empty"
abbrev pub empty_image_reference : ℕ
empty_image_reference = 33

-- "footnote reference identifier cannot be empty"
abbrev pub empty_footnote_reference : ℕ
empty_footnote_reference = 34

-- "inline footnote cannot be empty"
abbrev pub empty_inline_footnote : ℕ
empty_inline_footnote = 35

-- "wikilink target cannot be empty"
abbrev pub empty_wiki_link : ℕ
empty_wiki_link = 36

-- "a soft break or a spaces hard break cannot follow a line break"
abbrev pub break_after_break : ℕ
break_after_break = 37

-- "adjacent strikethroughs cannot be written"
abbrev pub adjacent_strikethroughs : ℕ
adjacent_strikethroughs = 38

-- "emphasis-like inline container cannot have empty children"
abbrev pub empty_emphasis : ℕ
empty_emphasis = 39

-- "emphasis-like inline content cannot start or end with whitespace"
abbrev pub white_emphasis : ℕ
white_emphasis = 40

-- "emphasis-like span cannot hold only a span written with the same delimiter"
abbrev pub joined_emphasis : ℕ
joined_emphasis = 41

-- "link text cannot hold a link"
abbrev pub link_in_link : ℕ
link_in_link = 42

-- "escaped value must be an ASCII punctuation character"
abbrev pub escaped_value : ℕ
escaped_value = 43

-- "inline code value cannot be empty"
abbrev pub empty_code : ℕ
empty_code = 44

-- "inline code value cannot hold a line ending"
abbrev pub line_ending_in_code : ℕ
line_ending_in_code = 45

-- "inline math value cannot be empty"
abbrev pub empty_math : ℕ
empty_math = 46

-- "dollar-fenced inline math must have a fence length of at least 1"
abbrev pub math_without_fence : ℕ
math_without_fence = 47

-- "code-form inline math value cannot contain a backtick followed by `$`"
abbrev pub backtick_dollar_in_math : ℕ
backtick_dollar_in_math = 48

-- "a bullet list item cannot hold a number"
abbrev pub bullet_number : ℕ
bullet_number = 49

-- "ordered list item number must be representable in at most 9 digits"
abbrev pub long_number : ℕ
long_number = 50

-- "a tight list cannot hold a blank line"
abbrev pub blank_line_in_tight_list : ℕ
blank_line_in_tight_list = 51

-- "a list item cannot open with a blank line"
abbrev pub blank_line_first : ℕ
blank_line_first = 52

-- "the last item of a list cannot end with a blank line"
abbrev pub blank_line_last : ℕ
blank_line_last = 53

-- "directive name must be runs of ASCII letters joined by single `-`"
abbrev pub directive_name : ℕ
directive_name = 54

-- "directive attribute name must start with a letter, `_`, or `-`"
abbrev pub attribute_name : ℕ
attribute_name = 55

-- "tag name must be a Unicode letter followed by letters, numbers, `/`, `_`, or `-`"
abbrev pub tag_name : ℕ
tag_name = 56
