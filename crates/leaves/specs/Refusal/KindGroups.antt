-- The table that the code reads: the two groups of each kind, from kind 0 on, as a parent whose A is 0 and as a child.
-- A reader need not believe it: the proofs equate it with `parent_group` and `child_group`.
use Rattle.std.specs.Prelude.{ℕ, List, [], ◌∷◌}

unfoldable pub kind_groups : List (List ℕ)
kind_groups =
    (9 ∷ 7 ∷ [])  -- 0: no kind
    ∷ (4 ∷ 0 ∷ [])  -- paragraph
    ∷ (4 ∷ 0 ∷ [])  -- heading
    ∷ (9 ∷ 0 ∷ [])  -- thematic break
    ∷ (0 ∷ 0 ∷ [])  -- block quote
    ∷ (0 ∷ 0 ∷ [])  -- alert
    ∷ (1 ∷ 0 ∷ [])  -- list
    ∷ (9 ∷ 0 ∷ [])  -- code block
    ∷ (9 ∷ 0 ∷ [])  -- HTML block
    ∷ (7 ∷ 0 ∷ [])  -- HTML container
    ∷ (9 ∷ 0 ∷ [])  -- definition
    ∷ (0 ∷ 0 ∷ [])  -- footnote definition
    ∷ (2 ∷ 0 ∷ [])  -- table
    ∷ (9 ∷ 0 ∷ [])  -- math block
    ∷ (9 ∷ 0 ∷ [])  -- frontmatter
    ∷ (5 ∷ 0 ∷ [])  -- leaf directive
    ∷ (6 ∷ 0 ∷ [])  -- container directive
    ∷ (9 ∷ 0 ∷ [])  -- blank line
    ∷ (9 ∷ 7 ∷ [])  -- 18: no kind
    ∷ (9 ∷ 7 ∷ [])  -- 19: no kind
    ∷ (0 ∷ 1 ∷ [])  -- item
    ∷ (3 ∷ 2 ∷ [])  -- row
    ∷ (4 ∷ 3 ∷ [])  -- cell
    ∷ (9 ∷ 4 ∷ [])  -- HTML tag
    ∷ (9 ∷ 5 ∷ [])  -- attribute
    ∷ (9 ∷ 7 ∷ [])  -- 25: no kind
    ∷ (9 ∷ 7 ∷ [])  -- 26: no kind
    ∷ (9 ∷ 7 ∷ [])  -- 27: no kind
    ∷ (9 ∷ 7 ∷ [])  -- 28: no kind
    ∷ (9 ∷ 7 ∷ [])  -- 29: no kind
    ∷ (9 ∷ 7 ∷ [])  -- 30: no kind
    ∷ (9 ∷ 6 ∷ [])  -- text
    ∷ (9 ∷ 6 ∷ [])  -- escape
    ∷ (9 ∷ 6 ∷ [])  -- character reference
    ∷ (4 ∷ 6 ∷ [])  -- emphasis
    ∷ (4 ∷ 6 ∷ [])  -- strong
    ∷ (4 ∷ 6 ∷ [])  -- delete
    ∷ (4 ∷ 6 ∷ [])  -- mark
    ∷ (9 ∷ 6 ∷ [])  -- shortcode
    ∷ (9 ∷ 6 ∷ [])  -- code
    ∷ (4 ∷ 6 ∷ [])  -- link
    ∷ (9 ∷ 6 ∷ [])  -- autolink
    ∷ (4 ∷ 6 ∷ [])  -- image
    ∷ (4 ∷ 6 ∷ [])  -- link reference
    ∷ (4 ∷ 6 ∷ [])  -- image reference
    ∷ (9 ∷ 6 ∷ [])  -- HTML inline
    ∷ (9 ∷ 6 ∷ [])  -- soft break
    ∷ (9 ∷ 6 ∷ [])  -- line break
    ∷ (9 ∷ 6 ∷ [])  -- math
    ∷ (9 ∷ 6 ∷ [])  -- footnote reference
    ∷ (4 ∷ 6 ∷ [])  -- inline footnote
    ∷ (9 ∷ 6 ∷ [])  -- wikilink
    ∷ (5 ∷ 6 ∷ [])  -- text directive
    ∷ (9 ∷ 6 ∷ [])  -- tag
    ∷ []
