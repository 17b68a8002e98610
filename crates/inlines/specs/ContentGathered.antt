-- What the code gathers in one pass over inlines side by side. No contract of a public function cites these
-- definitions: `ContentLaws` proves that they agree with those of `Content`.
use Rattle.std.specs.Prelude.{Option, Some, None, ℕ, true, false, not, ◌&&◌, ◌||◌, List, [], eqb}
use Rattle.std.specs.Prelude.{if◌then◌else◌}
use Rattle.leaves.specs.Sheet.Kinds.{is_inline, line_break}
use Rattle.leaves.specs.Sheet.Forest.{Forest, no_tree, tree}
use Rattle.leaves.specs.Report.Entries.{Entry, list_if}
use Rattle.leaves.specs.Report.Rules
use Rattle.leaves.specs.declared.sheet.records.Rec.{Rec}
use Rattle.leaves.specs.declared.sheet.records.Span.{Span}
use Rattle.leaves.specs.Sheet.Empty.{is_empty_text}
use Rattle.inlines.specs.Values.{starts_white, ends_white}
use Rattle.leaves.specs.Sheet.Classes.{is_joined}
use Rattle.inlines.specs.declared.content.Content.{Content}

-- what is gathered before the first inline
abbrev pub no_content : Content
no_content = record {
  some = false;
  empty = true;
  starts = false;
  ends = false;
  joined = false;
  last_break = None;
}

-- `c` with the record r added, in a container of the kind `outer` whose A is `a`. A record that is not an inline
-- changes nothing.
unfoldable pub with_inline : List ℕ → ℕ → ℕ → Content → Rec → Content
with_inline bytes outer a c r =
    if is_inline r.kind
    then record {
      some = true;
      empty = c.empty && is_empty_text r;
      starts = c.starts || c.empty && not (is_empty_text r) && starts_white bytes r;
      ends = if is_empty_text r then c.ends else ends_white bytes r;
      joined = not c.some && is_joined outer a r.kind r.a;
      last_break = if eqb r.kind line_break then Some r.span else None;
    }
    else c

-- `c` with all of the trees added
unfoldable pub content_after : List ℕ → ℕ → ℕ → Content → Forest → Content
content_after bytes outer a c no_tree = c
content_after bytes outer a c (tree r kids rest) = content_after bytes outer a (with_inline bytes outer a c r) rest

unfoldable pub content_of : List ℕ → ℕ → ℕ → Forest → Content
content_of bytes outer a f = content_after bytes outer a no_content f

-- 30, by the span of the last inline where that is a line break
unfoldable pub break_entry : List ℕ → Option Span → List Entry
break_entry path None = []
break_entry path (Some span) = list_if true Rules.final_hard_break span path
