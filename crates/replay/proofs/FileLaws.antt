-- What the records of a file lead to.
use mathlib.Core.List.{List}
use Prim.Native.Nat.{ℕ}
use Rattle.replay.specs.declared.tally.Tally.{Tally}
use Rattle.replay.specs.File.{Went, went, Finished, ended, broke, Reached, follows, Found, whole, broken}

module _ {replayed : List ℕ → Tally → Tally} {t u : Tally} where
  -- a record was replayed, and the tally behind it is reached
  pub step-on : Reached replayed t → Went replayed t u → Reached replayed u
  step-on h (went r e) = follows u t r h e

  -- no other record follows
  pub step-over : Reached replayed t → Finished t u → Found replayed u
  step-over h (ended e) = whole (rw e h)
  step-over h (broke e) = broken t h e
