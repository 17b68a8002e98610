-- Which blocks hold blocks: the arms of `validate_block` that call `validate_blocks`.
use Rattle.std.specs.Prelude.{ℕ, Bool, ◌&&◌, ◌||◌, eqb}
use Rattle.leaves.specs.Sheet.Kinds.{block_quote, alert, html_container, footnote_definition, container_directive}

-- Quotes, alerts, footnote definitions, container directives, and HTML containers of blocks (A is 0)
unfoldable pub holds_blocks : ℕ → ℕ → Bool
holds_blocks kind a =
    eqb kind block_quote
    || eqb kind alert
    || eqb kind footnote_definition
    || eqb kind container_directive
    || eqb kind html_container && eqb a 0
