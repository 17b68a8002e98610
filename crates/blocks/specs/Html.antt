-- `validate_html_container`, up to the walk of its blocks. `path` is the container's own.
use Rattle.std.specs.Prelude.{ℕ, not, List, [], eqb, if◌then◌else◌}
use Rattle.leaves.specs.Text.Same.{same_bytes}
use Rattle.leaves.specs.Sheet.Texts.{text_of}
use Rattle.leaves.specs.Sheet.Forest.{Forest, no_tree, tree}
use Rattle.leaves.specs.Report.Entries.{Entry, list_if, ◌⊕◌}
use Rattle.leaves.specs.declared.sheet.records.Rec.{Rec}
use Rattle.leaves.specs.declared.sheet.records.Span.{Span}
use Rattle.leaves.specs.Report.Rules
use Rattle.leaves.specs.Sheet.Empty.{is_empty}
use Rattle.inlines.specs.Nodes.{validate_inlines}

-- 5 to 9 of a container with two tags. 5, 6, 8 and 9 have the span of their tag, and 7 has `span`, the container's.
unfoldable pub validate_tag_pair : List ℕ → List ℕ → Span → Rec → Rec → List Entry
validate_tag_pair bytes path span opening closing =
    let same = same_bytes (text_of bytes opening.first) (text_of bytes closing.first) in
    list_if (is_empty opening.first) Rules.empty_opening_name opening.span path
    ⊕ list_if (is_empty closing.first) Rules.empty_closing_name closing.span path
    ⊕ list_if (not same) Rules.tag_names_differ span path
    ⊕ list_if (is_empty opening.second) Rules.empty_opening_source opening.span path
    ⊕ list_if (is_empty closing.second) Rules.empty_closing_source closing.span path

-- The tags are the first two children. Document 01: "HTML container: opening tag, closing tag, content of its sort."
-- A sheet whose container has fewer tags is refused (10).
unfoldable pub validate_tags : List ℕ → List ℕ → Span → Forest → List Entry
validate_tags bytes path span no_tree = []
validate_tags bytes path span (tree opening _ no_tree) = []
validate_tags bytes path span (tree opening _ (tree closing _ _)) = validate_tag_pair bytes path span opening closing

-- The tags, and the inlines where the container holds inlines (A is not 0).
unfoldable pub validate_html_container : List ℕ → List ℕ → Span → ℕ → Forest → List Entry
validate_html_container bytes path span a kids =
    validate_tags bytes path span kids ⊕ (if eqb a 0 then [] else validate_inlines bytes path kids)
