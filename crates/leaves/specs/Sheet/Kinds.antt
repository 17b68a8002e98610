-- Kinds of records. Document 01: "Blocks 1–17 in the order of `Block` in `src/ast.rs`, inlines 31–53 in the order
-- of `Inline`, and 20 item, 21 row, 22 cell, 23 HTML tag, 24 attribute (no span)."
use Rattle.std.specs.Prelude.{ℕ, Bool, false, ◌||◌, List, [], ◌∷◌, eqb}
use Rattle.leaves.specs.Text.Bytes.{between}

-- no kind: what stands for that of a record where there is none
abbrev pub no_kind : ℕ
no_kind = 0

-- blocks
abbrev pub paragraph : ℕ
paragraph = 1

abbrev pub heading : ℕ
heading = 2

abbrev pub thematic_break : ℕ
thematic_break = 3

abbrev pub block_quote : ℕ
block_quote = 4

abbrev pub alert : ℕ
alert = 5

abbrev pub list : ℕ
list = 6

abbrev pub code_block : ℕ
code_block = 7

abbrev pub html_block : ℕ
html_block = 8

abbrev pub html_container : ℕ
html_container = 9

abbrev pub definition : ℕ
definition = 10

abbrev pub footnote_definition : ℕ
footnote_definition = 11

abbrev pub table : ℕ
table = 12

abbrev pub math_block : ℕ
math_block = 13

abbrev pub frontmatter : ℕ
frontmatter = 14

abbrev pub leaf_directive : ℕ
leaf_directive = 15

abbrev pub container_directive : ℕ
container_directive = 16

abbrev pub blank_line : ℕ
blank_line = 17

-- parts of blocks
abbrev pub item : ℕ
item = 20

abbrev pub row : ℕ
row = 21

abbrev pub cell : ℕ
cell = 22

abbrev pub html_tag : ℕ
html_tag = 23

abbrev pub attribute : ℕ
attribute = 24

-- inlines
abbrev pub text : ℕ
text = 31

abbrev pub escape : ℕ
escape = 32

abbrev pub character_reference : ℕ
character_reference = 33

abbrev pub emphasis : ℕ
emphasis = 34

abbrev pub strong : ℕ
strong = 35

abbrev pub delete : ℕ
delete = 36

abbrev pub mark : ℕ
mark = 37

abbrev pub shortcode : ℕ
shortcode = 38

abbrev pub code : ℕ
code = 39

abbrev pub link : ℕ
link = 40

abbrev pub autolink : ℕ
autolink = 41

abbrev pub image : ℕ
image = 42

abbrev pub link_reference : ℕ
link_reference = 43

abbrev pub image_reference : ℕ
image_reference = 44

abbrev pub html : ℕ
html = 45

abbrev pub soft_break : ℕ
soft_break = 46

abbrev pub line_break : ℕ
line_break = 47

abbrev pub math : ℕ
math = 48

abbrev pub footnote_reference : ℕ
footnote_reference = 49

abbrev pub inline_footnote : ℕ
inline_footnote = 50

abbrev pub wiki_link : ℕ
wiki_link = 51

abbrev pub text_directive : ℕ
text_directive = 52

abbrev pub tag : ℕ
tag = 53

-- whether k is one of the kinds listed
abbrev pub or_among : Bool → ℕ → List ℕ → Bool
or_among found k [] = found
or_among found k (n ∷ ns) = or_among (found || eqb k n) k ns

abbrev pub among : ℕ → List ℕ → Bool
among k [] = false
among k (n ∷ ns) = or_among (eqb k n) k ns

abbrev pub is_block : ℕ → Bool
is_block k = between 1 17 k

abbrev pub is_inline : ℕ → Bool
is_inline k = between 31 53 k

-- a kind that is listed (refusal 4)
abbrev pub is_kind : ℕ → Bool
is_kind k = is_block k || between 20 24 k || is_inline k
