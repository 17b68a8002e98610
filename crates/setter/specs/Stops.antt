-- The stops of the setting machine: document 01's table, a row for each stop. The machine's definition and demand 3
-- both read it. The conditions name kinds as the paper does, and not by the classes that the check's rules go by.
use Rattle.std.specs.Prelude.{ℕ, Bool, true, false, not, ◌&&◌, ◌||◌, List, [], ◌∷◌, eqb, ltb, leb}
use Rattle.std.specs.Prelude.{if◌then◌else◌}
use Rattle.leaves.specs.Text.Bytes.{between}
use Rattle.leaves.specs.Text.Lines.{holds_line_ending}
use Rattle.leaves.specs.Sheet.Kinds
use Rattle.leaves.specs.Sheet.Kinds.{among}
use Rattle.leaves.specs.declared.sheet.records.Rec.{Rec}
use Rattle.leaves.specs.Sheet.Texts.{text_of}
use Rattle.leaves.specs.Refusal.Limits.{most_item_number}
use Rattle.setter.specs.Steps.{Step, opens, closes}
use Rattle.setter.specs.Seen.{Seen, seen}

-- a stop happens at an opening or at a closing
pub data Moment : Type 0 where
  opening : Moment
  closing : Moment

abbrev pub same_moment : Moment → Moment → Bool
same_moment opening opening = true
same_moment opening closing = false
same_moment closing opening = false
same_moment closing closing = true

-- "Stop | Condition | Rules"
pub record Row : Type 0 where
  -- the stop's number
  pub stop : ℕ
  -- whether it happens at an opening or at a closing
  pub moment : Moment
  -- the rules named beside it
  pub rules : List ℕ
  -- its condition: of the text, of the record that opens or closes, and of what is seen around it
  pub holds : List ℕ → Rec → Seen → Bool

abbrev pub stop_row : ℕ → Moment → List ℕ → (List ℕ → Rec → Seen → Bool) → Row
stop_row n moment rules holds = record { stop = n; moment = moment; rules = rules; holds = holds }

abbrev pub stops : List Row
stops =
    -- "cell position (from 0) not below table's A"
    stop_row 1 opening (16 ∷ 17 ∷ 18 ∷ 19 ∷ [])
    (λ bytes r s. eqb r.kind Kinds.cell && leb s.columns s.siblings_before)
    -- "row closed with under A cells"
    ∷ stop_row 2 closing (16 ∷ 17 ∷ 18 ∷ 19 ∷ [])
    (λ bytes r s. eqb r.kind Kinds.row && ltb s.kids s.columns)
    -- "table closed without row, or A = 0"
    ∷ stop_row 3 closing (16 ∷ 17 ∷ 18 ∷ 19 ∷ [])
    (λ bytes r s. eqb r.kind Kinds.table && (eqb s.kids 0 || eqb r.a 0))
    -- "inline break (so no thematic break) whose nearest open non-inline is a cell, leaf or container directive"
    ∷ stop_row 4 opening (20 ∷ 22 ∷ 23 ∷ [])
    (λ bytes r s.
    among r.kind (Kinds.soft_break ∷ Kinds.line_break ∷ [])
    && among s.nearest (Kinds.cell ∷ Kinds.leaf_directive ∷ Kinds.container_directive ∷ []))
    -- "link, autolink, link reference or wikilink under a link or link reference, at any depth"
    ∷ stop_row 5 opening (42 ∷ [])
    (λ bytes r s.
    among r.kind (Kinds.link ∷ Kinds.autolink ∷ Kinds.link_reference ∷ Kinds.wiki_link ∷ []) && s.linked)
    -- "heading depth not 1–6"
    ∷ stop_row 6 opening (10 ∷ []) (λ bytes r s. eqb r.kind Kinds.heading && not (between 1 6 r.a))
    -- "ordered item's own number over 999,999,999"
    ∷ stop_row 7 opening (50 ∷ [])
    (λ bytes r s. eqb r.kind Kinds.item && s.ordered && eqb r.b 1 && ltb most_item_number r.c)
    -- "bullet item with number"
    ∷ stop_row 8 opening (49 ∷ []) (λ bytes r s. eqb r.kind Kinds.item && not s.ordered && eqb r.b 1)
    -- "list closed without item"
    ∷ stop_row 9 closing (12 ∷ []) (λ bytes r s. eqb r.kind Kinds.list && eqb s.kids 0)
    -- "paragraph, emphasis, strong, delete or mark closed with nothing but empty texts"
    ∷ stop_row 10 closing (2 ∷ 39 ∷ [])
    (λ bytes r s.
    among r.kind (Kinds.paragraph ∷ Kinds.emphasis ∷ Kinds.strong ∷ Kinds.delete ∷ Kinds.mark ∷ [])
    && s.empty)
    -- "soft or spaces break straight after a sibling break": a line break whose A is 1 is one of spaces
    ∷ stop_row 11 opening (37 ∷ [])
    (λ bytes r s. (eqb r.kind Kinds.soft_break || eqb r.kind Kinds.line_break && eqb r.a 1) && s.broke)
    -- "frontmatter whose level exceeds 1"
    ∷ stop_row 12 opening (28 ∷ []) (λ bytes r s. eqb r.kind Kinds.frontmatter && ltb 1 r.level)
    -- "text or inline code (kinds 31, 39) with CR or LF"
    ∷ stop_row 13 opening (31 ∷ 45 ∷ [])
    (λ bytes r s. among r.kind (Kinds.text ∷ Kinds.code ∷ []) && holds_line_ending (text_of bytes r.first))
    -- "list straight after a sibling list of the same written marker, only blank lines skipped"
    ∷ stop_row 14 opening (1 ∷ []) (λ bytes r s. eqb r.kind Kinds.list && s.joins)
    ∷ []

-- "At one opening or closing the lowest stop wins": the first row of that moment whose condition holds, since the
-- numbers rise. 0 where there is none.
abbrev pub lowest : Moment → List ℕ → Rec → Seen → List Row → ℕ
lowest m bytes r s [] = 0
lowest m bytes r s (t ∷ ts) =
    if same_moment m t.moment && t.holds bytes r s then t.stop else lowest m bytes r s ts

unfoldable pub stop_at : Moment → List ℕ → Rec → Seen → ℕ
stop_at m bytes r s = lowest m bytes r s stops

-- the stop of an opening or a closing; 0 where it has none
unfoldable pub stop_of : List ℕ → Step → ℕ
stop_of bytes (opens f around) = stop_at opening bytes f.of (seen f around)
stop_of bytes (closes f around) = stop_at closing bytes f.of (seen f around)

-- ---- the table read the other way, for demand 3: rule n is named beside stop s (`beside`), or beside any (`named`)
abbrev pub beside_in : ℕ → ℕ → List Row → Bool
beside_in s n [] = false
beside_in s n (t ∷ ts) = eqb s t.stop && among n t.rules || beside_in s n ts

abbrev pub named_in : ℕ → List Row → Bool
named_in n [] = false
named_in n (t ∷ ts) = among n t.rules || named_in n ts

unfoldable pub beside : ℕ → ℕ → Bool
beside s n = beside_in s n stops

unfoldable pub named : ℕ → Bool
named n = named_in n stops
