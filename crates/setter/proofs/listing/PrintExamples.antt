-- What is printed, computed from the definitions.
use mathlib.Core.Path.{◌≡◌, refl}
use mathlib.Core.List.{List, [], ◌∷◌, ◌++◌}
use Prim.Native.Nat.{ℕ}
use lib.ListN.{replicate}
use Rattle.leaves.specs.Text.Bytes.{space, lf}
use Rattle.leaves.specs.Report.Entries.{Entry, words}
use Rattle.leaves.specs.Text.Field.{front, field}
use Rattle.leaves.specs.Text.Columns.{fields, line}
use Rattle.setter.specs.Listing.Print.{refusal_line, entry_lines, list_lines, output_bytes}

-- a field as it stands on the page: its digits behind spaces
abbrev one : ℕ → List ℕ
one d = replicate 10 space ++ d ∷ []

-- document 01's entry of the heading of depth 0
abbrev depth : Entry
depth = record { rule = 10; span = record { flag = 0; start = 0; end = 0 }; path = 0 ∷ [] }

-- document 01's two lines, byte for byte
heading : list_lines (depth ∷ []) 6 0 ≡ ((replicate 9 space ++ 49 ∷ 48 ∷ []) ++ one 48 ++ one 48 ++ one 48 ++ one 49 ++ one 48 ++ lf ∷ []) ++ (one 49 ++ one 54 ++ one 48 ++ lf ∷ [])
unfolding list_lines entry_lines words line fields field front
heading = refl

-- an empty list of a sheet of no records; refusal 13
short : (list_lines [] 0 0 ≡ one 48 ++ one 48 ++ one 48 ++ lf ∷ []) × (refusal_line 13 0 ≡ (replicate 9 space ++ 49 ∷ 51 ∷ []) ++ one 48 ++ lf ∷ [])
unfolding list_lines entry_lines refusal_line line fields field front
short = (refl, refl)

largest : output_bytes ≡ 49186
largest = refl
