-- `setter::exports::reedsander_check` meets its contract.
use Rattle.setter.proofs.ExportLaws.{check-fits}
use Rattle.setter.proofs.exports.reedsander_check.Goals as goal

pub packed-requires : goal.packed-requires
packed-requires c = check-fits _ _ _ c.check-checked.ensures c.answer_number.ensures c.answer_value.ensures
