-- The entries that validate.rs reports for one inline, without those of its children. Each definition has its
-- function's name and gives its entries in its order. `kids` are the trees under the inline, and `path` is the path
-- of the enclosing block or cell.
use Rattle.std.specs.Prelude.{ℕ, not, ◌&&◌, ◌||◌, List, eqb, if◌then◌else◌}
use Rattle.leaves.specs.Sheet.Kinds.{link, link_reference, inline_footnote, text_directive}
use Rattle.leaves.specs.Sheet.Forest.{Forest}
use Rattle.leaves.specs.Report.Entries.{Entry, list_if, ◌⊕◌}
use Rattle.leaves.specs.declared.sheet.records.Rec.{Rec}
use Rattle.leaves.specs.declared.sheet.records.Span.{Span}
use Rattle.leaves.specs.declared.sheet.records.Text.{Text}
use Rattle.leaves.specs.Report.Rules
use Rattle.leaves.specs.Sheet.Classes.{is_emphasis_container}
use Rattle.inlines.specs.Single.{validate_destination, validate_identifier, validate_directive_name}
use Rattle.inlines.specs.Own.{validate_inline_values}
use Rattle.inlines.specs.Attribute.{validate_directive_attributes}
use Rattle.inlines.specs.Link.{validate_link_text}
use Rattle.inlines.specs.Content.{no_inline, all_empty, starts_with_whitespace, ends_with_whitespace}
use Rattle.inlines.specs.Content.{holds_joined, final_break}

-- `validate_text_directive`, up to the walk of its label: 54, then 55
unfoldable pub validate_text_directive : List ℕ → List ℕ → Span → Text → Forest → List Entry
validate_text_directive bytes path span name kids =
    validate_directive_name bytes path span name
    ⊕ validate_directive_attributes bytes path kids

-- `validate_emphasis_container`, up to the walk of its children: 39, else 40; then 41; and 30
unfoldable pub validate_emphasis_container : List ℕ → List ℕ → Span → ℕ → ℕ → Forest → List Entry
validate_emphasis_container bytes path span kind a kids =
    let white = starts_with_whitespace bytes kids || ends_with_whitespace bytes kids in
    list_if (all_empty kids) Rules.empty_emphasis span path
    ⊕ list_if (not (all_empty kids) && white) Rules.white_emphasis span path
    ⊕ list_if (holds_joined kind a kids) Rules.joined_emphasis span path
    ⊕ final_break path kids

-- The match of `validate_inline_nodes` on one inline, up to the walk of its children. The kinds whose rules look at
-- what they hold stand here: emphasis, strong, delete, mark, link, link reference, text directive and inline footnote.
-- `validate_inline_values` takes the rest.
unfoldable pub validate_inline : List ℕ → List ℕ → Rec → Forest → List Entry
validate_inline bytes path r kids =
    if is_emphasis_container r.kind
    then validate_emphasis_container bytes path r.span r.kind r.a kids
    else if eqb r.kind link
    then validate_destination path r.span r.a r.first ⊕ validate_link_text path kids
    else if eqb r.kind link_reference
    then validate_identifier path Rules.empty_link_reference r.span r.first ⊕ validate_link_text path kids
    else if eqb r.kind text_directive
    then validate_text_directive bytes path r.span r.first kids
    else if eqb r.kind inline_footnote
    then list_if (no_inline kids) Rules.empty_inline_footnote r.span path
    else validate_inline_values bytes path r
