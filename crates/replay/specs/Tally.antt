-- What is counted: records, answers that are compared, and those that differ.
use Rattle.std.specs.Prelude.{ℕ, ◌+◌, Bool, true, false, leb, if◌then◌else◌}
use Rattle.replay.specs.declared.tally.Tally.{Tally}

-- where sums stop; no file comes near it
abbrev pub most : ℕ
most = 0x1000000000000000

-- a sum of two counts, and `most` where one of them is `most` or more
unfoldable pub sum_of : ℕ → ℕ → ℕ
sum_of a b = if leb most a then most else if leb most b then most else a + b

-- how many differences a comparison adds: none where the two are the same, and one where they are not
unfoldable pub differences_of : Bool → ℕ
differences_of true = 0
differences_of false = 1

-- nothing is counted yet
abbrev pub no_records : Tally
no_records = record { records = 0; compared = 0; differ = 0 }

-- one record more
unfoldable pub recorded : Tally → Tally
recorded t = record { records = sum_of t.records 1; compared = t.compared; differ = t.differ }

-- one difference more, without a comparison
unfoldable pub differing : Tally → Tally
differing t = record { records = t.records; compared = t.compared; differ = sum_of t.differ 1 }

-- one comparison more, with the differences that it adds
unfoldable pub comparing : Bool → Tally → Tally
comparing same t =
    record {
      records = t.records;
      compared = sum_of t.compared 1;
      differ = sum_of t.differ (differences_of same);
    }

-- the two tallies added
unfoldable pub together : Tally → Tally → Tally
together t u =
    record {
      records = sum_of t.records u.records;
      compared = sum_of t.compared u.compared;
      differ = sum_of t.differ u.differ;
    }
