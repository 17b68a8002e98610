-- The numbers of the rules, as the report holds them.
use Rattle.std.specs.Prelude.{ℕ}
use Rattle.leaves.specs.Report.Rules
use Rattle.leaves.specs.declared.report.rules.Rule.{Rule}

-- the number of a rule
abbrev pub rule_number : Rule → ℕ
rule_number Rule.AdjacentLists = Rules.adjacent_lists
rule_number Rule.EmptyParagraph = Rules.empty_paragraph
rule_number Rule.EmptyFootnoteDefinition = Rules.empty_footnote_definition
rule_number Rule.BlankLineInFootnote = Rules.blank_line_in_footnote
rule_number Rule.EmptyOpeningName = Rules.empty_opening_name
rule_number Rule.EmptyClosingName = Rules.empty_closing_name
rule_number Rule.TagNamesDiffer = Rules.tag_names_differ
rule_number Rule.EmptyOpeningSource = Rules.empty_opening_source
rule_number Rule.EmptyClosingSource = Rules.empty_closing_source
rule_number Rule.HeadingDepth = Rules.heading_depth
rule_number Rule.AlertTitle = Rules.alert_title
rule_number Rule.EmptyList = Rules.empty_list
rule_number Rule.LooseList = Rules.loose_list
rule_number Rule.TaskItem = Rules.task_item
rule_number Rule.IndentedCodeTaken = Rules.indented_code_taken
rule_number Rule.TableWithoutRow = Rules.table_without_row
rule_number Rule.TableWithoutCell = Rules.table_without_cell
rule_number Rule.AlignmentCount = Rules.alignment_count
rule_number Rule.RowWidth = Rules.row_width
rule_number Rule.BreakInCell = Rules.break_in_cell
rule_number Rule.PipeInCell = Rules.pipe_in_cell
rule_number Rule.BreakInLeafLabel = Rules.break_in_leaf_label
rule_number Rule.BreakInContainerLabel = Rules.break_in_container_label
rule_number Rule.BlankDefinition = Rules.blank_definition
rule_number Rule.EmptyBareDestination = Rules.empty_bare_destination
rule_number Rule.EmptyInfo = Rules.empty_info
rule_number Rule.BlankEdgeInCode = Rules.blank_edge_in_code
rule_number Rule.FrontmatterInside = Rules.frontmatter_inside
rule_number Rule.FenceInFrontmatter = Rules.fence_in_frontmatter
rule_number Rule.FinalHardBreak = Rules.final_hard_break
rule_number Rule.LineEndingInText = Rules.line_ending_in_text
rule_number Rule.EmptyLinkReference = Rules.empty_link_reference
rule_number Rule.EmptyImageReference = Rules.empty_image_reference
rule_number Rule.EmptyFootnoteReference = Rules.empty_footnote_reference
rule_number Rule.EmptyInlineFootnote = Rules.empty_inline_footnote
rule_number Rule.EmptyWikiLink = Rules.empty_wiki_link
rule_number Rule.BreakAfterBreak = Rules.break_after_break
rule_number Rule.AdjacentStrikethroughs = Rules.adjacent_strikethroughs
rule_number Rule.EmptyEmphasis = Rules.empty_emphasis
rule_number Rule.WhiteEmphasis = Rules.white_emphasis
rule_number Rule.JoinedEmphasis = Rules.joined_emphasis
rule_number Rule.LinkInLink = Rules.link_in_link
rule_number Rule.EscapedValue = Rules.escaped_value
rule_number Rule.EmptyCode = Rules.empty_code
rule_number Rule.LineEndingInCode = Rules.line_ending_in_code
rule_number Rule.EmptyMath = Rules.empty_math
rule_number Rule.MathWithoutFence = Rules.math_without_fence
rule_number Rule.BacktickDollarInMath = Rules.backtick_dollar_in_math
rule_number Rule.BulletNumber = Rules.bullet_number
rule_number Rule.LongNumber = Rules.long_number
rule_number Rule.BlankLineInTightList = Rules.blank_line_in_tight_list
rule_number Rule.BlankLineFirst = Rules.blank_line_first
rule_number Rule.BlankLineLast = Rules.blank_line_last
rule_number Rule.DirectiveName = Rules.directive_name
rule_number Rule.AttributeName = Rules.attribute_name
rule_number Rule.TagName = Rules.tag_name
