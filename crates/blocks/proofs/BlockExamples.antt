-- For each rule of the block half a case that earns it and its neighbour that does not, computed from the definitions on sheets of words. The cases that document 01 has proved are in AnswerExamples.antt.
use mathlib.Core.Path.{◌≡◌, refl}
use mathlib.Core.List.{List, [], ◌∷◌, ◌++◌, map}
use Prim.Native.Nat.{ℕ, ◌+◌}
use Rattle.leaves.specs.Sheet.Kinds.{paragraph, heading, block_quote, alert, list, code_block, html_container, definition, footnote_definition, table, frontmatter, leaf_directive, container_directive, blank_line, item, row, cell, html_tag, text, soft_break}
use Rattle.leaves.specs.Report.Entries.{Entry}
use Rattle.blocks.specs.Walk.{validate_document}
use Rattle.blocks.proofs.AnswerExamples.{checks}

-- ---- sheets over the text `a \ | \ \ | - - - LF space`
abbrev bytes : List ℕ
bytes = 97 ∷ 92 ∷ 124 ∷ 92 ∷ 92 ∷ 124 ∷ 45 ∷ 45 ∷ 45 ∷ 10 ∷ 32 ∷ []

-- one record without a span: its kind, level, A, B, C and its two texts
abbrev rec : ℕ → ℕ → ℕ → ℕ → ℕ → List ℕ → List ℕ
rec kind level a b c texts = kind ∷ level ∷ 0 ∷ 0 ∷ 0 ∷ a ∷ b ∷ c ∷ texts

abbrev unnamed : List ℕ
unnamed = 0 ∷ 0 ∷ 0 ∷ 0 ∷ []

-- .. that names nothing
abbrev bare : ℕ → ℕ → ℕ → ℕ → ℕ → List ℕ
bare kind level a b c = rec kind level a b c unnamed

-- a paragraph at a level, with the text `a`
abbrev says : ℕ → List ℕ
says level = bare paragraph level 0 0 0 ++ rec text (level + 1) 0 0 0 (0 ∷ 1 ∷ 0 ∷ 0 ∷ [])

abbrev rule_of : Entry → ℕ
rule_of e = e.rule

listed : List ℕ → List ℕ
listed w = map rule_of (validate_document w bytes)

-- ---- 2; 3; 4 at either end, and once; 11; 28 and 29
plain : (listed (bare paragraph 1 0 0 0) ≡ 2 ∷ []) × (listed (says 1) ≡ []) × (listed (bare footnote_definition 1 0 0 0) ≡ 3 ∷ []) × (listed (rec footnote_definition 1 0 0 0 (0 ∷ 1 ∷ 0 ∷ 0 ∷ [])) ≡ []) × (listed (rec footnote_definition 1 0 0 0 (0 ∷ 1 ∷ 0 ∷ 0 ∷ []) ++ bare blank_line 2 0 0 0 ++ says 2) ≡ 4 ∷ []) × (listed (rec footnote_definition 1 0 0 0 (0 ∷ 1 ∷ 0 ∷ 0 ∷ []) ++ says 2 ++ bare blank_line 2 0 0 0) ≡ 4 ∷ []) × (listed (rec footnote_definition 1 0 0 0 (0 ∷ 1 ∷ 0 ∷ 0 ∷ []) ++ bare blank_line 2 0 0 0 ++ says 2 ++ bare blank_line 2 0 0 0) ≡ 4 ∷ []) × (listed (rec footnote_definition 1 0 0 0 (0 ∷ 1 ∷ 0 ∷ 0 ∷ []) ++ says 2 ++ bare blank_line 2 0 0 0 ++ says 2) ≡ []) × (listed (rec alert 1 1 0 0 (10 ∷ 1 ∷ 0 ∷ 0 ∷ [])) ≡ 11 ∷ []) × (listed (rec alert 1 1 0 0 (0 ∷ 1 ∷ 0 ∷ 0 ∷ [])) ≡ []) × (listed (bare alert 1 0 0 0) ≡ []) × (listed (bare block_quote 1 0 0 0 ++ rec frontmatter 2 0 0 0 (0 ∷ 1 ∷ 0 ∷ 0 ∷ [])) ≡ 28 ∷ []) × (listed (rec frontmatter 1 0 0 0 (0 ∷ 1 ∷ 0 ∷ 0 ∷ [])) ≡ []) × (listed (rec frontmatter 1 0 0 0 (6 ∷ 4 ∷ 0 ∷ 0 ∷ [])) ≡ 29 ∷ []) × (listed (rec frontmatter 1 1 0 0 (6 ∷ 4 ∷ 0 ∷ 0 ∷ [])) ≡ [])
unfolding checks listed
plain = (refl, refl, refl, refl, refl, refl, refl, refl, refl, refl, refl, refl, refl, refl, refl)

-- ---- 5 to 9: the names, whether they match, the sources
tags : (listed (bare html_container 1 0 0 0 ++ bare html_tag 2 0 0 0 ++ bare html_tag 2 0 0 0) ≡ 5 ∷ 6 ∷ 8 ∷ 9 ∷ []) × (listed (bare html_container 1 0 0 0 ++ rec html_tag 2 0 0 0 (0 ∷ 1 ∷ 0 ∷ 1 ∷ []) ++ rec html_tag 2 0 0 0 (1 ∷ 1 ∷ 0 ∷ 1 ∷ [])) ≡ 7 ∷ []) × (listed (bare html_container 1 0 0 0 ++ rec html_tag 2 0 0 0 (0 ∷ 1 ∷ 0 ∷ 1 ∷ []) ++ rec html_tag 2 0 0 0 (0 ∷ 1 ∷ 0 ∷ 1 ∷ []) ++ says 2) ≡ []) × (listed (bare html_container 1 1 0 0 ++ rec html_tag 2 0 0 0 (0 ∷ 1 ∷ 0 ∷ 1 ∷ []) ++ rec html_tag 2 0 0 0 (0 ∷ 1 ∷ 0 ∷ 1 ∷ []) ++ rec text 2 0 0 0 (6 ∷ 4 ∷ 0 ∷ 0 ∷ [])) ≡ 31 ∷ [])
unfolding checks listed
tags = (refl, refl, refl, refl)

-- ---- 12; 14 behind definitions; 49; 51, else 52, else 53; 1 for each marker
items : (listed (bare list 1 0 0 0) ≡ 12 ∷ []) × (listed (bare list 1 0 0 1 ++ bare item 2 0 0 0) ≡ []) × (listed (bare list 1 0 0 1 ++ bare item 2 1 0 0 ++ bare paragraph 3 0 0 0) ≡ 14 ∷ 2 ∷ []) × (listed (bare list 1 0 0 1 ++ bare item 2 2 0 0 ++ rec definition 3 0 0 0 (0 ∷ 1 ∷ 0 ∷ 1 ∷ []) ++ says 3) ≡ []) × (listed (bare list 1 0 0 1 ++ bare item 2 0 1 5) ≡ 49 ∷ []) × (listed (bare list 1 0 0 1 ++ bare item 2 0 0 0 ++ bare blank_line 3 0 0 0) ≡ 51 ∷ []) × (listed (bare list 1 0 0 0 ++ bare item 2 0 0 0 ++ bare blank_line 3 0 0 0 ++ says 3 ++ bare item 2 0 0 0 ++ says 3) ≡ 52 ∷ []) × (listed (bare list 1 0 0 0 ++ bare item 2 0 0 0 ++ says 3 ++ bare item 2 0 0 0 ++ says 3 ++ bare blank_line 3 0 0 0) ≡ 53 ∷ []) × (listed (bare list 1 0 0 0 ++ bare item 2 0 0 0 ++ says 3 ++ bare blank_line 3 0 0 0 ++ bare item 2 0 0 0 ++ says 3) ≡ []) × (listed (bare list 1 0 1 1 ++ bare item 2 0 0 0 ++ bare list 1 0 0 1 ++ bare item 2 0 0 0) ≡ []) × (listed (bare list 1 0 3 1 ++ bare item 2 0 0 0 ++ bare list 1 0 0 1 ++ bare item 2 0 0 0) ≡ 1 ∷ []) × (listed (bare list 1 1 4 1 ++ bare item 2 0 0 0 ++ bare list 1 1 3 1 ++ bare item 2 0 0 0) ≡ [])
unfolding checks listed
items = (refl, refl, refl, refl, refl, refl, refl, refl, refl, refl, refl, refl)

-- ---- 16 alone; 17, 18; 19; 20
tables : (listed (bare table 1 1 0 0) ≡ 16 ∷ []) × (listed (bare table 1 0 0 0 ++ bare row 2 0 0 0) ≡ 17 ∷ []) × (listed (bare table 1 1 0 0 ++ bare row 2 0 0 0) ≡ 17 ∷ 18 ∷ []) × (listed (bare table 1 1 0 0 ++ bare row 2 0 0 0 ++ bare cell 3 0 0 0) ≡ []) × (listed (bare table 1 2 0 0 ++ bare row 2 0 0 0 ++ bare cell 3 0 0 0) ≡ 18 ∷ []) × (listed (bare table 1 1 0 0 ++ bare row 2 0 0 0 ++ bare cell 3 0 0 0 ++ bare row 2 0 0 0) ≡ 19 ∷ []) × (listed (bare table 1 1 0 0 ++ bare row 2 0 0 0 ++ bare cell 3 0 0 0 ++ bare soft_break 4 0 0 0) ≡ 20 ∷ [])
unfolding checks listed
tables = (refl, refl, refl, refl, refl, refl, refl)

-- ---- 15; 22; 23, and not in the blocks of a container directive; 24, 25; 26, 27
others : (listed (rec code_block 1 1 0 0 (0 ∷ 1 ∷ 0 ∷ 0 ∷ []) ++ bare blank_line 1 0 0 0 ++ rec code_block 1 1 0 0 (0 ∷ 1 ∷ 0 ∷ 0 ∷ [])) ≡ 15 ∷ []) × (listed (rec code_block 1 0 0 0 (0 ∷ 1 ∷ 0 ∷ 0 ∷ []) ++ rec code_block 1 1 0 0 (0 ∷ 1 ∷ 0 ∷ 0 ∷ [])) ≡ []) × (listed (rec footnote_definition 1 0 0 0 (0 ∷ 1 ∷ 0 ∷ 0 ∷ []) ++ rec code_block 1 1 0 0 (0 ∷ 1 ∷ 0 ∷ 0 ∷ [])) ≡ 15 ∷ []) × (listed (rec footnote_definition 1 0 0 0 (0 ∷ 1 ∷ 0 ∷ 0 ∷ []) ++ rec code_block 1 0 0 0 (0 ∷ 1 ∷ 0 ∷ 0 ∷ [])) ≡ []) × (listed (rec leaf_directive 1 0 0 0 (0 ∷ 1 ∷ 0 ∷ 0 ∷ []) ++ bare soft_break 2 0 0 0) ≡ 22 ∷ []) × (listed (rec leaf_directive 1 0 0 0 (0 ∷ 1 ∷ 0 ∷ 0 ∷ []) ++ rec text 2 0 0 0 (0 ∷ 1 ∷ 0 ∷ 0 ∷ [])) ≡ []) × (listed (rec container_directive 1 0 0 0 (0 ∷ 1 ∷ 0 ∷ 0 ∷ []) ++ bare soft_break 2 0 0 0) ≡ 23 ∷ []) × (listed (rec container_directive 1 0 0 0 (0 ∷ 1 ∷ 0 ∷ 0 ∷ []) ++ bare paragraph 2 0 0 0 ++ bare soft_break 3 0 0 0) ≡ []) × (listed (rec definition 1 0 0 0 (10 ∷ 1 ∷ 0 ∷ 1 ∷ [])) ≡ 24 ∷ []) × (listed (rec definition 1 0 0 0 (0 ∷ 1 ∷ 0 ∷ 0 ∷ [])) ≡ 25 ∷ []) × (listed (rec definition 1 1 0 0 (0 ∷ 1 ∷ 0 ∷ 0 ∷ [])) ≡ []) × (listed (rec code_block 1 0 1 0 (0 ∷ 0 ∷ 0 ∷ 0 ∷ [])) ≡ 26 ∷ []) × (listed (rec code_block 1 0 1 0 (0 ∷ 0 ∷ 0 ∷ 1 ∷ [])) ≡ []) × (listed (bare code_block 1 1 0 0) ≡ 27 ∷ []) × (listed (rec code_block 1 1 0 0 (6 ∷ 5 ∷ 0 ∷ 0 ∷ [])) ≡ 27 ∷ []) × (listed (rec code_block 1 1 0 0 (6 ∷ 4 ∷ 0 ∷ 0 ∷ [])) ≡ [])
unfolding checks listed
others = (refl, refl, refl, refl, refl, refl, refl, refl, refl, refl, refl, refl, refl, refl, refl, refl)

-- ---- the path of an entry: of a block, of the blank line of rules 4 and 51, of a row, of a cell; and the tag's span at the container's path
abbrev place_of : Entry → List ℕ
place_of e = e.rule ∷ e.span.start ∷ e.path

places : List ℕ → List (List ℕ)
places w = map place_of (validate_document w bytes)

placed : (places (says 1 ++ bare block_quote 1 0 0 0 ++ says 2 ++ bare heading 2 9 0 0) ≡ (10 ∷ 0 ∷ 1 ∷ 1 ∷ []) ∷ []) × (places (rec footnote_definition 1 0 0 0 (0 ∷ 1 ∷ 0 ∷ 0 ∷ []) ++ says 2 ++ bare blank_line 2 0 0 0) ≡ (4 ∷ 0 ∷ 0 ∷ 1 ∷ []) ∷ []) × (places (bare list 1 0 0 1 ++ bare item 2 0 0 0 ++ bare item 2 0 0 0 ++ says 3 ++ bare blank_line 3 0 0 0) ≡ (51 ∷ 0 ∷ 0 ∷ 1 ∷ 1 ∷ []) ∷ []) × (places (bare table 1 1 0 0 ++ bare row 2 0 0 0 ++ bare cell 3 0 0 0 ++ bare soft_break 4 0 0 0 ++ bare row 2 0 0 0) ≡ (20 ∷ 0 ∷ 0 ∷ 0 ∷ 0 ∷ []) ∷ (19 ∷ 0 ∷ 0 ∷ 1 ∷ []) ∷ []) × (places (bare html_container 1 0 0 0 ++ (html_tag ∷ 2 ∷ 1 ∷ 5 ∷ 8 ∷ 0 ∷ 0 ∷ 0 ∷ 0 ∷ 1 ∷ 0 ∷ 0 ∷ []) ++ rec html_tag 2 0 0 0 (0 ∷ 1 ∷ 0 ∷ 1 ∷ []) ++ bare heading 2 7 0 0) ≡ (8 ∷ 5 ∷ 0 ∷ []) ∷ (10 ∷ 0 ∷ 0 ∷ 0 ∷ []) ∷ [])
unfolding checks places
placed = (refl, refl, refl, refl, refl)
