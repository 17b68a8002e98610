-- `leaves::text::edges::has_blank_edge_line` meets its contract.
use mathlib.Core.Bool.{true}
use mathlib.Core.Path.{◌∙◌, ap}
use Rattle.leaves.specs.Text.EdgeScans.{last_blank}
use Rattle.leaves.proofs.text.ChainLaws.{tail-all}
use Rattle.leaves.proofs.text.LineLaws.{edge_none, edge-first, edge-last}
use Rattle.leaves.proofs.text.edges.has_blank_edge_line.Goals as goal

pub returns-in-empty : goal.returns-in-empty
returns-in-empty c = edge_none _ _ c.leading_blanks.ensures _ (tail-all c.args.s.now c.leading_blanks.result) c.in-empty.len_below

pub returns-then-is_line_ending_byte : goal.returns-then-is_line_ending_byte
returns-then-is_line_ending_byte c = edge-first _ _ c.leading_blanks.ensures _ (tail-all c.args.s.now c.leading_blanks.result) c.in-len1-up.len_at_least c.is_line_ending_byte.ensures c.if-is_line_ending_byte.true

pub returns-else-is_line_ending_byte : goal.returns-else-is_line_ending_byte
returns-else-is_line_ending_byte c = edge-last _ _ c.leading_blanks.ensures _ (tail-all c.args.s.now c.leading_blanks.result) c.in-len1-up.len_at_least c.is_line_ending_byte.ensures c.if-is_line_ending_byte.false c.last_solid.ensures (c.last_line_is_blank.ensures ∙ ap (last_blank true true) (tail-all _ c.last_solid.result))
