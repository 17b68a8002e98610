-- The match of `validate_block` on one block, up to the walk of the blocks or items that it holds: the entries of each
-- kind in validate.rs's order, without the messages that document 01 drops. `path` is the block's own.
use Rattle.std.specs.Prelude.{ℕ, List, [], eqb, if◌then◌else◌}
use Rattle.leaves.specs.Sheet.Kinds.{paragraph, heading, alert, list, code_block, html_container, definition}
use Rattle.leaves.specs.Sheet.Kinds.{footnote_definition, table, frontmatter, leaf_directive, container_directive}
use Rattle.leaves.specs.Sheet.Forest.{Forest}
use Rattle.leaves.specs.Report.Entries.{Entry}
use Rattle.leaves.specs.declared.sheet.records.Rec.{Rec}
use Rattle.blocks.specs.Heads.{validate_heading, validate_alert, validate_code_block, validate_definition}
use Rattle.blocks.specs.Frontmatter.{validate_frontmatter}
use Rattle.blocks.specs.Html.{validate_html_container}
use Rattle.blocks.specs.Footnote.{validate_footnote_definition}
use Rattle.blocks.specs.List.{validate_list}
use Rattle.blocks.specs.Paragraph.{validate_paragraph}
use Rattle.blocks.specs.Label.{validate_leaf_directive, validate_container_directive}
use Rattle.blocks.specs.Table.{validate_table}

-- The arms of the match. validate.rs says of a definition: "Checked with its siblings in `validate_blocks`." That is
-- done just before this match, so the definition has an arm here. The kinds that are left list nothing: quotes have no
-- message of their own, and thematic breaks, HTML blocks, math blocks and blank lines none that is kept.
unfoldable pub validate_own : List ℕ → List ℕ → Rec → Forest → List Entry
validate_own bytes path r kids =
    if eqb r.kind paragraph
    then validate_paragraph bytes path r.span kids
    else if eqb r.kind heading
    then validate_heading bytes path r.span r.a kids
    else if eqb r.kind alert
    then validate_alert bytes path r.span r.a r.first
    else if eqb r.kind list
    then validate_list path r.span r.c kids
    else if eqb r.kind table
    then validate_table bytes path r.span r.a kids
    else if eqb r.kind footnote_definition
    then validate_footnote_definition path r.span r.first kids
    else if eqb r.kind definition
    then validate_definition bytes path r.span r.a r.first r.second
    else if eqb r.kind leaf_directive
    then validate_leaf_directive bytes path r.span r.first kids
    else if eqb r.kind container_directive
    then validate_container_directive bytes path r.span r.first kids
    else if eqb r.kind html_container
    then validate_html_container bytes path r.span r.a kids
    else if eqb r.kind code_block
    then validate_code_block bytes path r.span r.a r.b r.first r.second
    else if eqb r.kind frontmatter
    then validate_frontmatter bytes path r.span r.level r.a r.first
    else []
