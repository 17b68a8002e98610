-- Sheets and the answer for each, computed from the definitions. Each stands beside its nearest neighbour.
use Rattle.std.specs.Prelude.{Err, Ok}
use mathlib.Core.Path.{◌≡◌, refl}
use mathlib.Core.List.{List, [], ◌∷◌, ◌++◌}
use Prim.Native.Nat.{ℕ, zero, suc, ◌+◌, ◌*◌}
use lib.ListN.{length, take}
use Rattle.leaves.specs.Text.Part.{part_of}
use Rattle.leaves.specs.Text.Utf8.{is_utf8, well_formed, follow}
use Rattle.leaves.specs.Sheet.Kinds.{paragraph, heading, thematic_break, block_quote, alert, list, code_block, html_block, html_container, definition, footnote_definition, table, math_block, frontmatter, leaf_directive, container_directive, blank_line, item, row, cell, html_tag, attribute, text, escape, character_reference, emphasis, strong, delete, mark, shortcode, code, link, autolink, image, link_reference, image_reference, html, soft_break, line_break, math, footnote_reference, inline_footnote, wiki_link, text_directive, tag}
use Rattle.leaves.specs.Sheet.Records.{record_at}
use Rattle.leaves.specs.Sheet.Siblings.{fold_siblings}
use Rattle.leaves.specs.Sheet.Forest.{deeper, after_deeper, grow, forest_at, count_kind}
use Rattle.leaves.specs.Refusal.Groups.{parent_group, other_group, child_group}
use Rattle.leaves.specs.Refusal.Places.{holds, place_in, place_of, before_children, after_child, misplaced, open_at}
use Rattle.leaves.specs.Refusal.Fields.{most_a, most_b, most_c, has_first, has_second, bad_text, bad_span, is_surrogate, bad_number, bad_field}
use Rattle.leaves.specs.Sheet.Texts.{text_of, text_outside, text_ill_formed}
use Rattle.leaves.specs.Refusal.Verdict.{answer, refusal_answer, or_else, Judged}
use Rattle.leaves.specs.Refusal.Record.{level_before, bad_level, judge_texts, judge}
use Rattle.leaves.specs.Refusal.Judge.{judge_at, judge_from, judge_sheet}
use Rattle.leaves.specs.Refusal.Tags.{lacks_tags, tags_from}
use Rattle.leaves.specs.declared.refusal.verdict.Malformed.TheVariants.{OddSheet, LongSheet, LongText, UnknownKind, BadLevel, Misplaced, BadField, TextOutside, NotUtf8, TagsMissing}

-- the answer; a declaration that unfolds this unfolds all that the answer computes with
computed : List ℕ → List ℕ → Judged
unfolding judge_sheet or_else judge_from judge_at judge judge_texts level_before bad_level tags_from lacks_tags record_at deeper after_deeper grow forest_at count_kind misplaced open_at fold_siblings before_children after_child parent_group other_group child_group holds place_in place_of bad_field bad_number most_a most_b most_c is_surrogate bad_span has_first has_second bad_text text_outside text_ill_formed text_of part_of is_utf8 well_formed follow Rattle.leaves.specs.Text.Utf8.table_3_7
computed w bytes = judge_sheet w bytes

-- ---- records, a word at a time: kind, level; span; A, B, C; texts

-- only a kind and a level
abbrev plain : ℕ → ℕ → List ℕ
plain kind level = kind ∷ level ∷ 0 ∷ 0 ∷ 0 ∷ 0 ∷ 0 ∷ 0 ∷ 0 ∷ 0 ∷ 0 ∷ 0 ∷ []

-- with a span: flag, start, end
abbrev spanned : ℕ → ℕ → ℕ → ℕ → ℕ → List ℕ
spanned kind level flag start end = kind ∷ level ∷ flag ∷ start ∷ end ∷ 0 ∷ 0 ∷ 0 ∷ 0 ∷ 0 ∷ 0 ∷ 0 ∷ []

-- with A, B and C
abbrev valued : ℕ → ℕ → ℕ → ℕ → ℕ → List ℕ
valued kind level a b c = kind ∷ level ∷ 0 ∷ 0 ∷ 0 ∷ a ∷ b ∷ c ∷ 0 ∷ 0 ∷ 0 ∷ 0 ∷ []

-- with A, B and a first text: start, length
abbrev naming : ℕ → ℕ → ℕ → ℕ → ℕ → ℕ → List ℕ
naming kind level a b start len = kind ∷ level ∷ 0 ∷ 0 ∷ 0 ∷ a ∷ b ∷ 0 ∷ start ∷ len ∷ 0 ∷ 0 ∷ []

-- with A, B and both texts
abbrev naming2 : ℕ → ℕ → ℕ → ℕ → ℕ → ℕ → ℕ → ℕ → List ℕ
naming2 kind level a b start len start2 len2 = kind ∷ level ∷ 0 ∷ 0 ∷ 0 ∷ a ∷ b ∷ 0 ∷ start ∷ len ∷ start2 ∷ len2 ∷ []

-- block quotes, each in the one before, from a level on
abbrev quotes : ℕ → ℕ → List ℕ
quotes zero level = []
quotes (suc n) level = plain block_quote level ++ quotes n (suc level)

-- `a` and the euro sign: four bytes
abbrev euro : List ℕ
euro = 0x61 ∷ 0xE2 ∷ 0x82 ∷ 0xAC ∷ []

-- ---- accepted

-- document 01: no records, and one heading of depth 0 (`2 1` and ten zeros)
first : (judge_sheet [] [] ≡ Ok tt) × (judge_sheet (plain heading 1) [] ≡ Ok tt)
unfolding computed
first = (refl, refl)

-- a sheet of every kind
abbrev everything : List ℕ
everything =
    naming frontmatter 1 1 0 0 1
    ++ plain blank_line 1
    ++ valued heading 1 255 0 0
    ++ naming text 2 0 0 0 4
    ++ spanned paragraph 1 1 9 3
    ++ naming text 2 0 0 1 3
    ++ valued escape 2 0x10FFFF 0 0
    ++ plain character_reference 2
    ++ valued emphasis 2 1 0 0
    ++ naming text 3 0 0 4 0
    ++ plain strong 2
    ++ plain delete 2
    ++ plain mark 2
    ++ plain shortcode 2
    ++ naming code 2 0 0 0 1
    ++ naming link 2 2 0 0 1
    ++ naming image 3 1 0 0 1
    ++ naming autolink 2 0 0 0 1
    ++ naming2 link_reference 2 0 0 0 1 1 3
    ++ naming2 image_reference 2 0 0 0 1 1 3
    ++ naming html 2 0 0 0 1
    ++ plain soft_break 2
    ++ valued line_break 2 1 0 0
    ++ naming math 2 0 255 0 1
    ++ naming math 2 1 0 0 1
    ++ naming2 footnote_reference 2 0 0 0 1 1 3
    ++ plain inline_footnote 2
    ++ plain text 3
    ++ naming2 wiki_link 2 0 0 0 1 1 3
    ++ naming text_directive 2 0 0 0 1
    ++ naming attribute 3 0 0 0 1
    ++ plain text 3
    ++ naming tag 2 0 0 0 1
    ++ plain thematic_break 1
    ++ plain block_quote 1
    ++ plain paragraph 2
    ++ naming alert 1 1 0 0 1
    ++ plain paragraph 2
    ++ valued list 1 1 4 1
    ++ valued item 2 2 1 4294967295
    ++ plain paragraph 3
    ++ plain item 2
    ++ naming2 code_block 1 1 1 0 1 1 3
    ++ plain html_block 1
    ++ plain html_container 1
    ++ naming2 html_tag 2 0 0 0 1 1 3
    ++ plain html_tag 2
    ++ plain paragraph 2
    ++ valued html_container 1 1 0 0
    ++ plain html_tag 2
    ++ plain html_tag 2
    ++ plain text 2
    ++ naming2 definition 1 2 0 0 1 1 3
    ++ naming footnote_definition 1 0 0 0 1
    ++ plain paragraph 2
    ++ valued table 1 4294967295 0 0
    ++ plain row 2
    ++ plain cell 3
    ++ plain text 4
    ++ plain math_block 1
    ++ naming leaf_directive 1 0 0 0 1
    ++ plain attribute 2
    ++ plain attribute 2
    ++ plain text 2
    ++ naming container_directive 1 0 0 0 1
    ++ plain attribute 2
    ++ plain text 2
    ++ plain paragraph 2

-- it is accepted
every-kind : judge_sheet everything euro ≡ Ok tt
unfolding computed
every-kind = refl

-- ---- 1: odd sheet; 2: long sheet; 3: long text

-- 11 and 13 words, whatever they are
odd : (judge_sheet (take 11 (plain heading 1)) [] ≡ Err OddSheet) × (judge_sheet (plain heading 1 ++ 0 ∷ []) [] ≡ Err OddSheet) × (judge_sheet (take 11 (plain 18 0)) [] ≡ Err OddSheet)
unfolding computed
odd = (refl, refl, refl)

-- 65,536 records, with any text; one word more is an odd sheet; one record fewer is not too long, and then 16,777,217 bytes of text are
long-sheet : (w bytes : List ℕ) → length w ≡ 65536 * 12 → judge_sheet w bytes ≡ Err LongSheet
unfolding judge_sheet
long-sheet w bytes e = rw e

long-odd : (w bytes : List ℕ) → length w ≡ 65536 * 12 + 1 → judge_sheet w bytes ≡ Err OddSheet
unfolding judge_sheet
long-odd w bytes e = rw e

long-text : (w bytes : List ℕ) → length w ≡ 65535 * 12 → length bytes ≡ 16777217 → judge_sheet w bytes ≡ Err LongText
unfolding judge_sheet
long-text w bytes e f = rw (e, f)

-- 16,777,216 bytes are not too long
whole-text : (bytes : List ℕ) → length bytes ≡ 16777216 → judge_sheet (plain 18 1) bytes ≡ Err (UnknownKind 0)
unfolding computed
whole-text bytes e = rw e

-- their numbers, and their record, 0
short : (refusal_answer OddSheet ≡ answer 1 0) × (refusal_answer LongSheet ≡ answer 2 0) × (refusal_answer LongText ≡ answer 3 0)
short = (refl, refl, refl)

-- ---- 4: unknown kind

-- 0, 18, 19, 25, 30 and 54 are no kinds
unknown : (judge_sheet (plain 0 1) [] ≡ Err (UnknownKind 0)) × (judge_sheet (plain 18 1) [] ≡ Err (UnknownKind 0)) × (judge_sheet (plain 19 1) [] ≡ Err (UnknownKind 0)) × (judge_sheet (plain 25 1) [] ≡ Err (UnknownKind 0)) × (judge_sheet (plain 30 1) [] ≡ Err (UnknownKind 0)) × (judge_sheet (plain 54 1) [] ≡ Err (UnknownKind 0))
unfolding computed
unknown = (refl, refl, refl, refl, refl, refl)

-- 1, 17, 20, 24, 31 and 53 are
known : (judge_sheet (plain paragraph 1) [] ≡ Ok tt) × (judge_sheet (plain blank_line 1) [] ≡ Ok tt) × (judge_sheet (plain list 1 ++ plain item 2) [] ≡ Ok tt) × (judge_sheet (plain leaf_directive 1 ++ plain attribute 2) [] ≡ Ok tt) × (judge_sheet (plain paragraph 1 ++ plain text 2) [] ≡ Ok tt) × (judge_sheet (plain paragraph 1 ++ plain tag 2) [] ≡ Ok tt)
unfolding computed
known = (refl, refl, refl, refl, refl, refl)

-- ---- 5: bad level

-- level 0; a first record of level 2; a level that jumps by 2, against one that rises by 1 and one that falls by 2
levels : (judge_sheet (plain block_quote 0) [] ≡ Err (BadLevel 0)) × (judge_sheet (plain block_quote 2) [] ≡ Err (BadLevel 0)) × (judge_sheet (plain block_quote 1 ++ plain block_quote 0) [] ≡ Err (BadLevel 1)) × (judge_sheet (plain block_quote 1 ++ plain block_quote 3) [] ≡ Err (BadLevel 1)) × (judge_sheet (plain block_quote 1 ++ plain block_quote 2 ++ plain block_quote 3 ++ plain block_quote 1) [] ≡ Ok tt)
unfolding computed
levels = (refl, refl, refl, refl, refl)

-- 64 block quotes, each in the one before, and 65
deepest : (judge_sheet (quotes 64 1) [] ≡ Ok tt) × (judge_sheet (quotes 65 1) [] ≡ Err (BadLevel 64))
unfolding computed
deepest = (refl, refl)

-- ---- 6: misplaced

-- an item, an attribute, a tag and an inline under the sheet (`known` has an item under a list)
under-sheet : (judge_sheet (plain item 1) [] ≡ Err (Misplaced 0)) × (judge_sheet (plain attribute 1) [] ≡ Err (Misplaced 0)) × (judge_sheet (plain html_tag 1) [] ≡ Err (Misplaced 0)) × (judge_sheet (plain text 1) [] ≡ Err (Misplaced 0))
unfolding computed
under-sheet = (refl, refl, refl, refl)

-- a paragraph in a paragraph, in a list and in an item; an inline in a block quote; an inline under a text and under a strong
under-block : (judge_sheet (plain paragraph 1 ++ plain paragraph 2) [] ≡ Err (Misplaced 1)) × (judge_sheet (plain list 1 ++ plain paragraph 2) [] ≡ Err (Misplaced 1)) × (judge_sheet (plain list 1 ++ plain item 2 ++ plain paragraph 3) [] ≡ Ok tt) × (judge_sheet (plain block_quote 1 ++ plain text 2) [] ≡ Err (Misplaced 1)) × (judge_sheet (plain paragraph 1 ++ plain text 2 ++ plain text 3) [] ≡ Err (Misplaced 2)) × (judge_sheet (plain paragraph 1 ++ plain strong 2 ++ plain text 3) [] ≡ Ok tt)
unfolding computed
under-block = (refl, refl, refl, refl, refl, refl)

-- a cell under a table, and under a row; a row in a row
tables : (judge_sheet (plain table 1 ++ plain cell 2) [] ≡ Err (Misplaced 1)) × (judge_sheet (plain table 1 ++ plain row 2 ++ plain cell 3) [] ≡ Ok tt) × (judge_sheet (plain table 1 ++ plain row 2 ++ plain row 3) [] ≡ Err (Misplaced 2))
unfolding computed
tables = (refl, refl, refl)

-- a leaf directive: an attribute after an inline, also where a deeper record stands between; a block; an attribute, an inline
leaf : (judge_sheet (plain leaf_directive 1 ++ plain text 2 ++ plain attribute 2) [] ≡ Err (Misplaced 2)) × (judge_sheet (plain leaf_directive 1 ++ plain strong 2 ++ plain text 3 ++ plain attribute 2) [] ≡ Err (Misplaced 3)) × (judge_sheet (plain leaf_directive 1 ++ plain paragraph 2) [] ≡ Err (Misplaced 1)) × (judge_sheet (plain leaf_directive 1 ++ plain attribute 2 ++ plain text 2) [] ≡ Ok tt)
unfolding computed
leaf = (refl, refl, refl, refl)

-- a container directive: an inline after a block; an attribute after a block; blocks last. What stands under one directive does not bind the next
container : (judge_sheet (plain container_directive 1 ++ plain paragraph 2 ++ plain text 2) [] ≡ Err (Misplaced 2)) × (judge_sheet (plain container_directive 1 ++ plain paragraph 2 ++ plain attribute 2) [] ≡ Err (Misplaced 2)) × (judge_sheet (plain container_directive 1 ++ plain attribute 2 ++ plain text 2 ++ plain paragraph 2 ++ plain paragraph 2) [] ≡ Ok tt) × (judge_sheet (plain container_directive 1 ++ plain paragraph 2 ++ plain container_directive 1 ++ plain attribute 2) [] ≡ Ok tt)
unfolding computed
container = (refl, refl, refl, refl)

-- an HTML container: a third tag, right away or after content; content before the first tag, and before the second; a record under a tag
tags : (judge_sheet (plain html_container 1 ++ plain html_tag 2 ++ plain html_tag 2 ++ plain html_tag 2) [] ≡ Err (Misplaced 3)) × (judge_sheet (plain html_container 1 ++ plain html_tag 2 ++ plain html_tag 2 ++ plain paragraph 2 ++ plain html_tag 2) [] ≡ Err (Misplaced 4)) × (judge_sheet (plain html_container 1 ++ plain paragraph 2) [] ≡ Err (Misplaced 1)) × (judge_sheet (plain html_container 1 ++ plain html_tag 2 ++ plain paragraph 2) [] ≡ Err (Misplaced 2)) × (judge_sheet (plain html_container 1 ++ plain html_tag 2 ++ plain text 3) [] ≡ Err (Misplaced 2)) × (judge_sheet (plain html_container 1 ++ plain html_tag 2 ++ plain html_tag 2 ++ plain paragraph 2) [] ≡ Ok tt)
unfolding computed
tags = (refl, refl, refl, refl, refl, refl)

-- content of its sort: an inline in a container of blocks and in one of inlines; a block in one of inlines (`tags` has one in a container of blocks)
sorts : (judge_sheet (plain html_container 1 ++ plain html_tag 2 ++ plain html_tag 2 ++ plain text 2) [] ≡ Err (Misplaced 3)) × (judge_sheet (valued html_container 1 1 0 0 ++ plain html_tag 2 ++ plain html_tag 2 ++ plain text 2) [] ≡ Ok tt) × (judge_sheet (valued html_container 1 1 0 0 ++ plain html_tag 2 ++ plain html_tag 2 ++ plain paragraph 2) [] ≡ Err (Misplaced 3))
unfolding computed
sorts = (refl, refl, refl)

-- ---- 7: bad field

-- heading depth
depths : (judge_sheet (valued heading 1 256 0 0) [] ≡ Err (BadField 0)) × (judge_sheet (valued heading 1 255 0 0) [] ≡ Ok tt)
unfolding computed
depths = (refl, refl)

-- a list: ordered 2; delimiter 5, against 4; tight 2, against 1
lists : (judge_sheet (valued list 1 2 0 0) [] ≡ Err (BadField 0)) × (judge_sheet (valued list 1 1 5 0) [] ≡ Err (BadField 0)) × (judge_sheet (valued list 1 1 4 0) [] ≡ Ok tt) × (judge_sheet (valued list 1 0 0 2) [] ≡ Err (BadField 0)) × (judge_sheet (valued list 1 0 0 1) [] ≡ Ok tt)
unfolding computed
lists = (refl, refl, refl, refl, refl)

-- an item: checked 3; a number that is not present, and one that is
items : (judge_sheet (plain list 1 ++ valued item 2 3 0 0) [] ≡ Err (BadField 1)) × (judge_sheet (plain list 1 ++ valued item 2 0 0 1) [] ≡ Err (BadField 1)) × (judge_sheet (plain list 1 ++ valued item 2 0 2 1) [] ≡ Err (BadField 1)) × (judge_sheet (plain list 1 ++ valued item 2 2 1 1) [] ≡ Ok tt)
unfolding computed
items = (refl, refl, refl, refl)

-- an attribute has no span, another record may have one; flag 2; a start, or an end, without a span; a span that ends before it starts is not judged
spans : (judge_sheet (plain leaf_directive 1 ++ spanned attribute 2 1 0 0) [] ≡ Err (BadField 1)) × (judge_sheet (plain leaf_directive 1 ++ spanned text 2 1 0 0) [] ≡ Ok tt) × (judge_sheet (spanned heading 1 2 0 0) [] ≡ Err (BadField 0)) × (judge_sheet (spanned heading 1 0 1 0) [] ≡ Err (BadField 0)) × (judge_sheet (spanned heading 1 0 0 1) [] ≡ Err (BadField 0)) × (judge_sheet (spanned heading 1 1 9 3) [] ≡ Ok tt)
unfolding computed
spans = (refl, refl, refl, refl, refl, refl)

-- scalar values
scalars : (judge_sheet (plain paragraph 1 ++ valued escape 2 0xD7FF 0 0) [] ≡ Ok tt) × (judge_sheet (plain paragraph 1 ++ valued escape 2 0xD800 0 0) [] ≡ Err (BadField 1)) × (judge_sheet (plain paragraph 1 ++ valued escape 2 0xDFFF 0 0) [] ≡ Err (BadField 1)) × (judge_sheet (plain paragraph 1 ++ valued escape 2 0xE000 0 0) [] ≡ Ok tt) × (judge_sheet (plain paragraph 1 ++ valued escape 2 0x10FFFF 0 0) [] ≡ Ok tt) × (judge_sheet (plain paragraph 1 ++ valued escape 2 0x110000 0 0) [] ≡ Err (BadField 1))
unfolding computed
scalars = (refl, refl, refl, refl, refl, refl)

-- dollars: 256, against 255; code math has none
dollars : (judge_sheet (plain paragraph 1 ++ valued math 2 0 256 0) [] ≡ Err (BadField 1)) × (judge_sheet (plain paragraph 1 ++ valued math 2 0 255 0) [] ≡ Ok tt) × (judge_sheet (plain paragraph 1 ++ valued math 2 1 1 0) [] ≡ Err (BadField 1)) × (judge_sheet (plain paragraph 1 ++ valued math 2 1 0 0) [] ≡ Ok tt) × (judge_sheet (plain paragraph 1 ++ valued math 2 2 0 0) [] ≡ Err (BadField 1))
unfolding computed
dollars = (refl, refl, refl, refl, refl)

-- destination 3, against 2; an unused A, B, C, start and length
unused : (judge_sheet (valued definition 1 3 0 0) [] ≡ Err (BadField 0)) × (judge_sheet (valued definition 1 2 0 0) [] ≡ Ok tt) × (judge_sheet (valued paragraph 1 1 0 0) [] ≡ Err (BadField 0)) × (judge_sheet (valued paragraph 1 0 1 0) [] ≡ Err (BadField 0)) × (judge_sheet (valued paragraph 1 0 0 1) [] ≡ Err (BadField 0)) × (judge_sheet (naming paragraph 1 0 0 1 0) euro ≡ Err (BadField 0)) × (judge_sheet (naming paragraph 1 0 0 0 1) euro ≡ Err (BadField 0)) × (judge_sheet (naming2 footnote_definition 1 0 0 0 1 0 1) euro ≡ Err (BadField 0)) × (judge_sheet (naming footnote_definition 1 0 0 0 1) euro ≡ Ok tt)
unfolding computed
unused = (refl, refl, refl, refl, refl, refl, refl, refl, refl)

-- an alert's title without A, and with it; a code block's info without B, and with it
flagged : (judge_sheet (naming alert 1 0 0 0 1) euro ≡ Err (BadField 0)) × (judge_sheet (naming alert 1 1 0 0 1) euro ≡ Ok tt) × (judge_sheet (naming2 code_block 1 0 0 0 1 0 1) euro ≡ Err (BadField 0)) × (judge_sheet (naming2 code_block 1 0 1 0 1 0 1) euro ≡ Ok tt)
unfolding computed
flagged = (refl, refl, refl, refl)

-- ---- 8: text outside

-- one byte past the text, against its end; no bytes at the text's end, and behind it; a start whose sum with the length is over 32 bits; the second text
outside : (judge_sheet (plain paragraph 1 ++ naming text 2 0 0 1 4) euro ≡ Err (TextOutside 1)) × (judge_sheet (plain paragraph 1 ++ naming text 2 0 0 1 3) euro ≡ Ok tt) × (judge_sheet (plain paragraph 1 ++ naming text 2 0 0 4 0) euro ≡ Ok tt) × (judge_sheet (plain paragraph 1 ++ naming text 2 0 0 5 0) euro ≡ Err (TextOutside 1)) × (judge_sheet (plain paragraph 1 ++ naming text 2 0 0 0xFFFFFFFF 1) euro ≡ Err (TextOutside 1)) × (judge_sheet (naming2 definition 1 0 0 0 1 0 5) euro ≡ Err (TextOutside 0)) × (judge_sheet (naming2 definition 1 0 0 0 1 0 4) euro ≡ Ok tt)
unfolding computed
outside = (refl, refl, refl, refl, refl, refl, refl)

-- ---- 9: not UTF-8

-- a part that ends, or begins, inside the euro sign, against the whole sign; the second text
cut : (judge_sheet (plain paragraph 1 ++ naming text 2 0 0 1 2) euro ≡ Err (NotUtf8 1)) × (judge_sheet (plain paragraph 1 ++ naming text 2 0 0 2 2) euro ≡ Err (NotUtf8 1)) × (judge_sheet (plain paragraph 1 ++ naming text 2 0 0 1 3) euro ≡ Ok tt) × (judge_sheet (naming2 definition 1 0 0 0 1 1 2) euro ≡ Err (NotUtf8 0))
unfolding computed
cut = (refl, refl, refl, refl)

-- C0 80 is overlong, C2 80 is not; what no record names is not tested
overlong : (judge_sheet (plain paragraph 1 ++ naming text 2 0 0 0 2) (0xC0 ∷ 0x80 ∷ []) ≡ Err (NotUtf8 1)) × (judge_sheet (plain paragraph 1 ++ naming text 2 0 0 0 2) (0xC2 ∷ 0x80 ∷ []) ≡ Ok tt) × (judge_sheet (plain paragraph 1 ++ naming text 2 0 0 2 1) (0xC0 ∷ 0x80 ∷ 0x61 ∷ []) ≡ Ok tt)
unfolding computed
overlong = (refl, refl, refl)

-- ---- 10: tags missing

-- no tag, one, two; of a sibling's two tags none counts; the second container; one inside another
missing : (judge_sheet (plain html_container 1) [] ≡ Err (TagsMissing 0)) × (judge_sheet (plain html_container 1 ++ plain html_tag 2) [] ≡ Err (TagsMissing 0)) × (judge_sheet (plain html_container 1 ++ plain html_tag 2 ++ plain html_tag 2) [] ≡ Ok tt) × (judge_sheet (plain html_container 1 ++ plain html_container 1 ++ plain html_tag 2 ++ plain html_tag 2) [] ≡ Err (TagsMissing 0)) × (judge_sheet (plain html_container 1 ++ plain html_tag 2 ++ plain html_tag 2 ++ plain html_container 1 ++ plain html_tag 2) [] ≡ Err (TagsMissing 3)) × (judge_sheet (plain html_container 1 ++ plain html_tag 2 ++ plain html_tag 2 ++ plain html_container 2) [] ≡ Err (TagsMissing 3)) × (judge_sheet (plain html_container 1 ++ plain html_tag 2 ++ plain paragraph 1) [] ≡ Err (TagsMissing 0))
unfolding computed
missing = (refl, refl, refl, refl, refl, refl, refl)

-- ---- order

-- inside a record: 4 before 5, 7 and 8; 5 before 6 and 7; 6 before 7; 7 before 8; 8 of the second text before 9 of the first
inside : (judge_sheet (naming 18 0 256 0 9 9) [] ≡ Err (UnknownKind 0)) × (judge_sheet (valued item 0 3 0 0) [] ≡ Err (BadLevel 0)) × (judge_sheet (valued item 1 3 0 0) [] ≡ Err (Misplaced 0)) × (judge_sheet (plain paragraph 1 ++ naming text 2 1 0 9 9) [] ≡ Err (BadField 1)) × (judge_sheet (plain paragraph 1 ++ naming text 2 0 0 9 9) [] ≡ Err (TextOutside 1)) × (judge_sheet (naming2 definition 1 0 0 1 2 0 5) euro ≡ Err (TextOutside 0)) × (judge_sheet (naming2 definition 1 0 0 1 2 0 4) euro ≡ Err (NotUtf8 0))
unfolding computed
inside = (refl, refl, refl, refl, refl, refl, refl)

-- between records: the first record's, be it 9 or 4; a 9 before an earlier container's 10
between : (judge_sheet (naming definition 1 0 0 1 2 ++ plain 18 1) euro ≡ Err (NotUtf8 0)) × (judge_sheet (plain 18 1 ++ naming definition 1 0 0 1 2) euro ≡ Err (UnknownKind 0)) × (judge_sheet (plain html_container 1 ++ naming definition 1 0 0 1 2) euro ≡ Err (NotUtf8 1)) × (judge_sheet (plain html_container 1 ++ naming definition 1 0 0 1 3) euro ≡ Err (TagsMissing 0))
unfolding computed
between = (refl, refl, refl, refl)
