-- `setter::listing::program::list` meets its contract.
use native.Mathlib.Omega.{arith}
use Rattle.setter.proofs.listing.ProgramLaws.{film-printed, ready-few, ready-room, ready-long, ready-printed, page}
use Rattle.setter.proofs.listing.program.list.Goals as goal

pub returns-in-Err : goal.returns-in-Err
returns-in-Err c = page _ _ _ _ (film-printed c.in-Err.ensures c.number.ensures c.write_refusal.ensures)

pub overflow_mul-sheet : goal.overflow_mul-sheet
overflow_mul-sheet c = let few = ready-few c.in-Ok.ensures in record { fits = omega arith }

pub slice_bounds-sheet-end : goal.slice_bounds-sheet-end
slice_bounds-sheet-end c = ready-room c.in-Ok.ensures

pub slice_bounds-list_sheet-end : goal.slice_bounds-list_sheet-end
slice_bounds-list_sheet-end c = ready-long c.in-Ok.ensures

pub text_behind-requires : goal.text_behind-requires
text_behind-requires c = ready-few c.in-Ok.ensures

pub returns-in-Ok : goal.returns-in-Ok
returns-in-Ok c = page _ _ _ _ (ready-printed c.in-Ok.ensures c.text_behind.ensures c.list_sheet.ensures)
