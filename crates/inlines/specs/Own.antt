-- The entries that validate.rs reports for one inline by its own values, in its order.
-- `path` is the path of the enclosing block or cell.
use Rattle.std.specs.Prelude.{ℕ, List, [], eqb, if◌then◌else◌}
use Rattle.leaves.specs.Sheet.Kinds.{text, escape, code, image, image_reference, math, tag}
use Rattle.leaves.specs.Sheet.Kinds.{footnote_reference, wiki_link}
use Rattle.leaves.specs.Report.Entries.{Entry}
use Rattle.leaves.specs.declared.sheet.records.Rec.{Rec}
use Rattle.leaves.specs.Report.Rules
use Rattle.inlines.specs.Single.{validate_destination, validate_identifier, validate_escape, validate_tag}
use Rattle.inlines.specs.Literal.{validate_text, validate_code_inline, validate_math_inline}

-- The match of `validate_inline_nodes` on one inline, for the kinds whose rules look at nothing but its own values.
-- Shortcodes, autolinks and character references have only messages that are dropped; raw HTML and breaks have none.
unfoldable pub validate_inline_values : List ℕ → List ℕ → Rec → List Entry
validate_inline_values bytes path r =
    if eqb r.kind text
    then validate_text bytes path r.span r.first
    else if eqb r.kind tag
    then validate_tag bytes path r.span r.first
    else if eqb r.kind image
    then validate_destination path r.span r.a r.first
    else if eqb r.kind image_reference
    then validate_identifier path Rules.empty_image_reference r.span r.first
    else if eqb r.kind escape
    then validate_escape path r.span r.a
    else if eqb r.kind footnote_reference
    then validate_identifier path Rules.empty_footnote_reference r.span r.first
    else if eqb r.kind wiki_link
    then validate_identifier path Rules.empty_wiki_link r.span r.first
    else if eqb r.kind code
    then validate_code_inline bytes path r.span r.first
    else if eqb r.kind math
    then validate_math_inline bytes path r.span r.a r.b r.first
    else []
