-- How what stands before a record under its parent changes with one record more.
use mathlib.Core.Path.{◌≡◌}
use mathlib.Core.List.{List}
use Prim.Native.Nat.{ℕ, ◌+◌, ◌<◌}
use Rattle.leaves.specs.Sheet.Records.{record_at}
use Rattle.leaves.specs.Sheet.Forest.{under, size}
use Rattle.leaves.specs.declared.sheet.records.Rec.{Rec}
use Rattle.leaves.proofs.sheet.SiblingLaws.{siblings-kid, siblings-next, siblings-deeper, siblings-past}
use Rattle.leaves.specs.Refusal.Groups.{parent_of_blocks, parent_group}
use Rattle.leaves.specs.Refusal.Places.{before_children, after_child, open_at}
use Rattle.leaves.specs.declared.refusal.places.Open.{Open}

abbrev under-record : Rec → Open
under-record r = before_children (parent_group r.kind r.a)

abbrev after-child : Open → Rec → Open
after-child o r = after_child o r.kind

module _ (w : List ℕ) (i l : ℕ) where
  pub open-kid : (record_at w i).level ≡ l → open_at w (l + 1) (i + 1) ≡ before_children (parent_group (record_at w i).kind (record_at w i).a)
  unfolding open_at
  open-kid = siblings-kid (before_children parent_of_blocks) under-record after-child w i l

  pub open-same : (record_at w i).level ≡ l → open_at w l (i + 1) ≡ after_child (open_at w l i) (record_at w i).kind
  unfolding open_at
  open-same = siblings-next (before_children parent_of_blocks) under-record after-child w i l

  pub open_above : l < (record_at w i).level → open_at w l (i + 1) ≡ open_at w l i
  unfolding open_at
  open_above = siblings-deeper (before_children parent_of_blocks) under-record after-child w i l

pub open-past : (w : List ℕ) (n m s j : ℕ) → size (under w n j m) ≡ s → open_at w m (j + s) ≡ open_at w m j
unfolding open_at
open-past w n m s j = siblings-past (before_children parent_of_blocks) under-record after-child w n m s j
