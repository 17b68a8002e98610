-- Bytes that end no line are passed over.
use mathlib.Core.Path.{◌≡◌, refl, sym, ◌∙◌}
use mathlib.Core.Bool.{Bool, true, false, not, ◌&&◌, ◌||◌, false≢true}
use mathlib.Core.List.{List, ◌∷◌}
use Prim.Native.Nat.{ℕ}
use lib.Dec.{eqb}
use Rattle.leaves.specs.Text.Bytes.{lf, cr, is_line_ending_byte}
use Rattle.leaves.specs.Text.Chunk.{is_neither, Skipped}
use Rattle.leaves.specs.Text.Lines.{holds_line_ending}
use Rattle.std.specs.List.{list_any}
use Rattle.leaves.proofs.text.ChunkLaws.{leap}

-- bytes that are neither of two, where a test asks for no other
pub any-leap : (test : ℕ → Bool) (x y : ℕ) {s rest : List ℕ} → ((b : ℕ) → is_neither x y b ≡ true → test b ≡ false) → Skipped (is_neither x y) s rest → list_any test s ≡ list_any test rest
any-leap test x y n p = leap (is_neither x y) (list_any test) quiet p
  where
    quiet : (b : ℕ) (t : List ℕ) → is_neither x y b ≡ true → list_any test (b ∷ t) ≡ list_any test t
    quiet b t h = rw (n b h)

no-ending : (b : ℕ) → is_neither lf cr b ≡ true → is_line_ending_byte b ≡ false
no-ending b = go (eqb b lf) (eqb b cr)
  where
    go : (t u : Bool) → (not t && not u) ≡ true → (t || u) ≡ false
    go false false e = refl
    go false true e = absurd (false≢true e)
    go true u e = absurd (false≢true e)

pub endings-past : {r : Bool} {s rest : List ℕ} → Skipped (is_neither lf cr) s rest → r ≡ list_any is_line_ending_byte rest → r ≡ holds_line_ending s
unfolding holds_line_ending
endings-past p e = e ∙ sym (any-leap is_line_ending_byte lf cr no-ending p)
