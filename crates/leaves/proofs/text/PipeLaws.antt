-- The definition of `Pipe`, a byte at a time: where the byte decides, and where what is left does.
use mathlib.Core.Path.{◌≡◌, sym}
use mathlib.Core.Bool.{Bool, true, false, not, ◌&&◌, and-false, false≢true}
use mathlib.Core.List.{List}
use Prim.Native.Nat.{ℕ, ◌<◌, ◌≤◌}
use native.Mathlib.Omega.{arith}
use borrow.Author.Tests.{not-true}
use lib.ListN.{length, get_or, drop, drop_of_length-le}
use lib.Dec.{eqb}
use Rattle.leaves.specs.Text.Bytes.{pipe, backslash}
use Rattle.leaves.specs.Text.Pipe.{odd_pipe_after}
use Rattle.leaves.proofs.text.ScanLaws.{next}
use Rattle.leaves.specs.Text.Chunk.{is_other, Skipped}
use Rattle.leaves.proofs.text.ChunkLaws.{leap}

-- the loop: a byte that decides, a byte that does not, no byte
module _ (odd : Bool) (s : List ℕ) where
  pub pipe-yes : 1 ≤ length s → (eqb (get_or s 0 0) pipe && odd) ≡ true → true ≡ odd_pipe_after odd s
  unfolding odd_pipe_after
  pipe-yes h e = rw (next s 0 h, e)

  pub pipe-no : 1 ≤ length s → (eqb (get_or s 0 0) pipe && odd) ≡ false → odd_pipe_after odd s ≡ odd_pipe_after (eqb (get_or s 0 0) backslash && not odd) (drop 1 s)
  unfolding odd_pipe_after
  pipe-no h e = rw (next s 0 h, e)

  pub pipe-end : length s < 1 → false ≡ odd_pipe_after odd s
  unfolding odd_pipe_after
  pipe-end h = rw (drop_of_length-le s {i = 0} (omega arith))

-- no backslash, where no odd run of them stands before
pub pipe-leap : (odd : Bool) {s rest : List ℕ} → odd ≡ false → Skipped (is_other backslash) s rest → odd_pipe_after odd s ≡ odd_pipe_after odd rest
unfolding odd_pipe_after
pipe-leap false e p = leap (is_other backslash) (odd_pipe_after false) (λ b t q. rw (and-false, not-true (eqb b backslash) q)) p
pipe-leap true e p = absurd (false≢true (sym e))
