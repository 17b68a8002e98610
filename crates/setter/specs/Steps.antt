-- The openings and closings of the setting machine where nothing stops it. "It opens records in order and closes
-- innermost first: before a record opens, it closes every open one of that level or deeper; after the last, all that
-- are open, and then it is at the end."
use Rattle.std.specs.Prelude.{ℕ, suc, List, [], ◌∷◌, ◌++◌, leb, if◌then◌else◌}
use Rattle.leaves.specs.Sheet.Kinds.{no_kind}
use Rattle.leaves.specs.Sheet.Records.{records_of, no_span}
use Rattle.leaves.specs.Sheet.Forest.{records_from}
use Rattle.leaves.specs.declared.sheet.records.Rec.{Rec}

-- an open record: its number from 0, itself, and its children that have closed, the newest first
pub record Frame : Type 0 where
  pub at : ℕ
  pub of : Rec
  pub kids : List Rec

abbrev pub fresh : ℕ → Rec → Frame
fresh i r = record { at = i; of = r; kids = [] }

-- the open record f once its child r has closed
abbrev pub with_kid : Rec → Frame → Frame
with_kid r f = record { at = f.at; of = f.of; kids = r ∷ f.kids }

-- the sheet itself, which holds the records of level 1 and never closes
abbrev pub the_sheet : Frame
the_sheet =
    fresh 0 (record {
      kind = no_kind;
      level = 0;
      span = no_span;
      a = 0;
      b = 0;
      c = 0;
      first = record { start = 0; len = 0 };
      second = record { start = 0; len = 0 };
    })

-- an opening or a closing: its record, and what is open around it, the innermost first and the sheet last
pub data Step : Type 0 where
  opens : Frame → List Frame → Step
  closes : Frame → List Frame → Step

-- all that is open: the innermost, and what is open around it
pub record Opened : Type 0 where
  pub top : Frame
  pub around : List Frame

-- the closings of every open record of level l or deeper, innermost first
unfoldable pub closings : ℕ → Frame → List Frame → List Step
closings l f [] = []
closings l f (g ∷ around) =
    let later = closings l (with_kid f.of g) around in
    if leb l f.of.level then closes f (g ∷ around) ∷ later else []

-- what is open after those closings
unfoldable pub remain : ℕ → Frame → List Frame → Opened
remain l f [] = record { top = f; around = [] }
remain l f (g ∷ around) =
    let later = remain l (with_kid f.of g) around in
    if leb l f.of.level then later else record { top = f; around = g ∷ around }

-- the openings and closings from record i on, where o is open
unfoldable pub steps_from : Opened → ℕ → List Rec → List Step
steps_from o i [] = closings 1 o.top o.around
steps_from o i (r ∷ rs) =
    let q = remain r.level o.top o.around in
    closings r.level o.top o.around
    ++ (opens (fresh i r) (q.top ∷ q.around)
    ∷ steps_from (record { top = fresh i r; around = q.top ∷ q.around }) (suc i) rs)

-- the openings and closings of a whole sheet where nothing stops the machine
unfoldable pub steps_of : List ℕ → List Step
steps_of w = steps_from (record { top = the_sheet; around = [] }) 0 (records_from w (records_of w) 0)
