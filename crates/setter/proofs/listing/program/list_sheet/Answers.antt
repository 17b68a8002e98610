-- `setter::listing::program::list_sheet` meets its contract.
use mathlib.Core.Path.{refl}
use borrow.Author.Rules.{rules}
use Rattle.setter.proofs.listing.ProgramLaws.{counted-answer, error-answer, value-fits, refusal-printed, list-few, at-fits, list-printed}
use Rattle.setter.proofs.listing.program.list_sheet.Goals as goal

pub overflow_cast-setting_value : goal.overflow_cast-setting_value
overflow_cast-setting_value c = at-fits _ _ _ c.check_and_set-both.ensures.check (search rules) (counted-answer c.in-Ok.is) refl _ c.check_and_set-both.ensures.machine c.requires (search rules) c.setting_number.ensures c.setting_value.ensures

pub write_list-requires : goal.write_list-requires
write_list-requires c = list-few _ _ _ c.check_and_set-both.ensures.check (search rules) (counted-answer c.in-Ok.is) refl

pub overflow_cast-record : goal.overflow_cast-record
overflow_cast-record c = value-fits _ _ _ c.check_and_set-both.ensures.check (search rules) (error-answer c.in-Err.is c.number.ensures c.«record».ensures)

pub returns-in-Ok : goal.returns-in-Ok
returns-in-Ok c = list-printed _ _ _ c.check_and_set-both.ensures.check (search rules) (counted-answer c.in-Ok.is) refl _ c.check_and_set-both.ensures.machine c.requires (search rules) c.setting_number.ensures c.setting_value.ensures c.write_list.ensures

pub returns-in-Err : goal.returns-in-Err
returns-in-Err c = refusal-printed _ _ _ c.check_and_set-both.ensures.check (search rules) (error-answer c.in-Err.is c.number.ensures c.«record».ensures) _ c.number.ensures c.write_refusal.ensures
