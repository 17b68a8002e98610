-- `blocks::label::validate_directive` meets its contract.
use Rattle.blocks.proofs.LabelLaws.{label-inside, directive-done}
use Rattle.blocks.proofs.label.validate_directive.Goals as goal

pub until-label-requires : goal.until-label-requires
until-label-requires c = label-inside c.args.records.now _ c.label_end.ensures

pub returns : goal.returns
returns c = directive-done _ _ _ c.label_end.ensures c.validate_directive_name.ensures c.until-label.ensures c.validate_directive_attributes.ensures c.validate_inlines.ensures (rw c.number.ensures at c.validate_one_line.ensures)
