-- What validate.rs asks of inlines side by side. A definition has the name of its function where there is one.
-- validate.rs is given the list of the inlines: here it is `inlines_of` a forest, and all others look at that list.
-- `path` is the path of the enclosing block or cell.
use mathlib.Core.List.{get_last_d, head_d}
use Rattle.std.specs.Prelude.{ℕ, Bool, false, not, ◌&&◌, List, [], ◌∷◌, map, filter, eqb}
use Rattle.std.specs.Prelude.{if◌then◌else◌}
use Rattle.std.specs.List.{list_all}
use Rattle.leaves.specs.Text.Over.{is_empty_list}
use Rattle.leaves.specs.Sheet.Kinds.{is_inline, line_break}
use Rattle.leaves.specs.Sheet.Forest.{Forest, no_tree, tree}
use Rattle.leaves.specs.Report.Entries.{Entry, list_if}
use Rattle.leaves.specs.Report.Rules
use Rattle.leaves.specs.declared.sheet.records.Rec.{Rec}
use Rattle.leaves.specs.Sheet.Empty.{is_empty_text}
use Rattle.inlines.specs.Values.{starts_white, ends_white}
use Rattle.leaves.specs.Sheet.Classes.{is_joined}

-- The inlines side by side, in their order. Trees of another sort (attributes, tags, blocks) are passed over.
unfoldable pub inlines_of : Forest → List Rec
inlines_of no_tree = []
inlines_of (tree r kids rest) = if is_inline r.kind then r ∷ inlines_of rest else inlines_of rest

-- `children.is_empty()` of an inline footnote: there is no inline
unfoldable pub no_inline : Forest → Bool
no_inline f = is_empty_list (inlines_of f)

-- `inlines.iter().all(is_empty_text)`
unfoldable pub all_empty : Forest → Bool
all_empty f = list_all is_empty_text (inlines_of f)

-- the inlines that are not empty texts
unfoldable pub without_empty_texts : Forest → List Rec
without_empty_texts f = filter (λ r. not (is_empty_text r)) (inlines_of f)

-- `starts_with_whitespace`: the first inline that is not an empty text starts with white space; false where there is
-- none
unfoldable pub starts_with_whitespace : List ℕ → Forest → Bool
starts_with_whitespace bytes f = head_d (map (starts_white bytes) (without_empty_texts f)) false

-- `ends_with_whitespace`: the last inline that is not an empty text ends with white space; false where there is none
unfoldable pub ends_with_whitespace : List ℕ → Forest → Bool
ends_with_whitespace bytes f = get_last_d (map (ends_white bytes) (without_empty_texts f)) false

-- The slice pattern `[inner]`: there is exactly one record, and it is written with the delimiter of its container.
-- `outer` is the container's kind, and `a` its A.
unfoldable pub is_one_joined : ℕ → ℕ → List Rec → Bool
is_one_joined outer a [] = false
is_one_joined outer a (r ∷ later) = is_joined outer a r.kind r.a && is_empty_list later

-- `joined` of `validate_emphasis_container`: there is exactly one inline, and it is written with the container's
-- delimiter
unfoldable pub holds_joined : ℕ → ℕ → Forest → Bool
holds_joined outer a f = is_one_joined outer a (inlines_of f)

-- 30 for one inline: listed where that is a line break
unfoldable pub break_entries : List ℕ → Rec → List Entry
break_entries path r = list_if (eqb r.kind line_break) Rules.final_hard_break r.span path

-- the first part of `validate_inlines`, by `inlines.last()`: 30 for the last inline, and nothing where there is none
unfoldable pub final_break : List ℕ → Forest → List Entry
final_break path f = get_last_d (map (break_entries path) (inlines_of f)) []
