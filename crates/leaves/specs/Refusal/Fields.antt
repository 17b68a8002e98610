-- The fields of a record (refusal 7: "value out of range, unused word not 0").
use Rattle.std.specs.Prelude.{ℕ, Bool, not, ◌&&◌, ◌||◌, [], ◌∷◌, eqb, ltb, if◌then◌else◌}
use Rattle.leaves.specs.Text.Bytes.{between}
use Rattle.leaves.specs.Sheet.Kinds.{among, heading, alert, list, code_block, html_container, definition}
use Rattle.leaves.specs.Sheet.Kinds.{footnote_definition, table, frontmatter, leaf_directive}
use Rattle.leaves.specs.Sheet.Kinds.{container_directive, item, html_tag, attribute, text, escape, emphasis}
use Rattle.leaves.specs.Sheet.Kinds.{strong, code, link, autolink, image, link_reference, image_reference}
use Rattle.leaves.specs.Sheet.Kinds.{html, line_break, math, footnote_reference, wiki_link, text_directive, tag}
use Rattle.leaves.specs.declared.sheet.records.Rec.{Rec}
use Rattle.leaves.specs.declared.sheet.records.Span.{Span}
use Rattle.leaves.specs.declared.sheet.records.Text.{Text}

-- Document 01: "A: heading depth, 0–255; alert title present; list ordered; code block 0 fenced, 1 indented; HTML
-- container 0 blocks, 1 inlines; destination 0 bare, 1 angle, 2 omitted (definition, link, image); table's alignment
-- count; frontmatter 0 YAML, 1 TOML; item checked 0 none, 1 false, 2 true; escape's scalar value (to 10FFFF
-- hexadecimal, no surrogate); delimiter 0 asterisk, 1 underscore (emphasis, strong); line break 0 backslash, 1 spaces;
-- math 0 dollar, 1 code."
-- The most that A may be; 0 where it is not used.
unfoldable pub most_a : ℕ → ℕ
most_a kind =
    if eqb kind heading
    then 255
    else if among kind
    (alert ∷ list ∷ code_block ∷ html_container ∷ frontmatter
    ∷ emphasis ∷ strong ∷ line_break ∷ math ∷ [])
    then 1
    else if among kind (definition ∷ item ∷ link ∷ image ∷ [])
    then 2
    else if eqb kind table
    then 0xFFFFFFFF
    else if eqb kind escape
    then 0x10FFFF
    else 0

-- "B: list delimiter 0–4 in source order; info present; number present; dollars, 0–255 (0 for code math)."
unfoldable pub most_b : ℕ → ℕ → ℕ
most_b kind a =
    if eqb kind list
    then 4
    else if among kind (code_block ∷ item ∷ [])
    then 1
    else if eqb kind math && eqb a 0
    then 255
    else 0

-- "C: list tight; item number (0 when absent)."
unfoldable pub most_c : ℕ → ℕ → ℕ
most_c kind b =
    if eqb kind list
    then 1
    else if eqb kind item && eqb b 1
    then 0xFFFFFFFF
    else 0

-- "First text: title (alert); value (code block, frontmatter, text, code, HTML inline, math); identifier (definition,
-- footnote definition, the three references); name (directives, HTML tag, attribute, tag); destination (link, image);
-- text (autolink); target (wikilink)." An alert's title is there where A is 1.
unfoldable pub has_first : ℕ → ℕ → Bool
has_first kind a =
    eqb kind alert && eqb a 1
    || among kind (code_block ∷ frontmatter ∷ text ∷ code ∷ html ∷ math ∷ [])
    || among kind
    (definition ∷ footnote_definition ∷ link_reference ∷ image_reference ∷ footnote_reference ∷ [])
    || among kind (leaf_directive ∷ container_directive ∷ text_directive ∷ html_tag ∷ attribute ∷ tag ∷ [])
    || among kind (link ∷ image ∷ autolink ∷ wiki_link ∷ [])

-- "Second: info; definition's destination; HTML tag's raw; label (references, wikilink)." The info is there where B
-- is 1.
unfoldable pub has_second : ℕ → ℕ → Bool
has_second kind b =
    eqb kind code_block && eqb b 1
    || among kind
    (definition ∷ html_tag ∷ link_reference ∷ image_reference ∷ footnote_reference ∷ wiki_link ∷ [])

-- "An absent text is 0, 0."
unfoldable pub bad_text : Bool → Text → Bool
bad_text has t = not has && not (eqb t.start 0 && eqb t.len 0)

-- "Flags are 0 or 1. Without a span, start and end are 0." An attribute has no span.
unfoldable pub bad_span : ℕ → Span → Bool
bad_span kind s =
    ltb 1 s.flag
    || eqb s.flag 0 && not (eqb s.start 0 && eqb s.end 0)
    || eqb kind attribute && not (eqb s.flag 0)

-- "no surrogate"
unfoldable pub is_surrogate : ℕ → ℕ → Bool
is_surrogate kind a = eqb kind escape && between 0xD800 0xDFFF a

-- A, B or C is out of range
unfoldable pub bad_number : Rec → Bool
bad_number r =
    ltb (most_a r.kind) r.a
    || ltb (most_b r.kind r.a) r.b
    || ltb (most_c r.kind r.b) r.c
    || is_surrogate r.kind r.a

unfoldable pub bad_field : Rec → Bool
bad_field r =
    bad_number r
    || bad_span r.kind r.span
    || bad_text (has_first r.kind r.a) r.first
    || bad_text (has_second r.kind r.b) r.second
