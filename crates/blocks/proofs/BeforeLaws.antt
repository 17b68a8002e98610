-- The first block has no block before it, and lists nothing because of it.
use mathlib.Core.Path.{◌≡◌, refl}
use mathlib.Core.Bool.{Bool, true, false}
use mathlib.Core.List.{List, []}
use Prim.Native.Nat.{ℕ}
use lib.Dec.{eqb}
use Rattle.leaves.specs.Sheet.Kinds.{code_block}
use Rattle.leaves.specs.Report.Entries.{list_if, ◌⊕◌}
use Rattle.leaves.specs.declared.sheet.records.Span.{Span}
use Rattle.blocks.specs.Before.{no_block, takes_indented_code, validate_taken_block}

pub taken-none : (path : List ℕ) (span : Span) (kind a b : ℕ) → validate_taken_block path span no_block kind a b ≡ []
unfolding validate_taken_block takes_indented_code list_if ◌⊕◌
taken-none path span kind a b = go (eqb kind code_block) refl (eqb a 1) refl
  where
    go : (x : Bool) → eqb kind code_block ≡ x → (y : Bool) → eqb a 1 ≡ y → validate_taken_block path span no_block kind a b ≡ []
    go false e y f = rw e refl
    go true e false f = rw (e, f) refl
    go true e true f = rw (e, f) refl
