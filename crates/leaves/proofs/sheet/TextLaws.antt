-- A text of no bytes is well-formed.
use mathlib.Core.Path.{◌≡◌, refl}
use mathlib.Core.Bool.{Bool, true, false, not}
use mathlib.Core.List.{List, []}
use Prim.Native.Nat.{ℕ, ◌+◌}
use lib.Dec.{leb}
use lib.ListN.{length}
use Rattle.std.specs.Prelude.{if◌then◌else◌}
use Rattle.leaves.specs.Text.Part.{part_of}
use Rattle.leaves.specs.Text.Utf8.{is_utf8, well_formed}
use Rattle.leaves.specs.declared.sheet.records.Text.{Text}
use Rattle.leaves.specs.Sheet.Texts.{text_of, text_ill_formed}

pub no_bytes : (bytes : List ℕ) (t : Text) → t.len ≡ 0 → false ≡ text_ill_formed bytes t
unfolding text_ill_formed text_of part_of is_utf8 well_formed
no_bytes bytes t e = rw e (go (leb (t.start + 0) (length bytes)))
  where
    go : (b : Bool) → false ≡ not (is_utf8 (if b then [] else []))
    go true = refl
    go false = refl
