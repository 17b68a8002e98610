-- `setter::exports::reedsander_set` meets its contract.
use Rattle.setter.proofs.ExportLaws.{set-fits}
use Rattle.setter.proofs.exports.reedsander_set.Goals as goal

pub packed-requires : goal.packed-requires
packed-requires c = set-fits _ _ _ c.set-set.ensures c.setting_number.ensures c.setting_value.ensures
