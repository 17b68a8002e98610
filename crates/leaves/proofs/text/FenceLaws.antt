-- Fence lines as the code reads them: how many bytes of a fence are to come in the line.
use mathlib.Core.Path.{◌≡◌, refl, sym, ap, ◌∙◌}
use mathlib.Core.Bool.{Bool, true, false, ◌||◌, or-false}
use mathlib.Core.List.{List, [], ◌∷◌}
use Prim.Native.Nat.{ℕ, suc, ◌-◌}
use native.Mathlib.Omega.{arith}
use lib.Dec.{eqb, eqb-suc-zero}
use lib.ListN.{replicate}
use borrow.Author.Tests.{eq-eqb, eqb-true}
use Rattle.leaves.specs.Text.Bytes.{is_blank_byte, is_line_ending_byte}
use Rattle.std.specs.List.{list_any}
use Rattle.leaves.specs.Text.Lines.{longer, is_cr_of_crlf, lines}
use Rattle.leaves.specs.Text.Fence.{fence_byte, is_fence, holds_fence_line}
use Rattle.leaves.specs.Text.Same.{same_bytes}
use Rattle.leaves.specs.Text.FenceScans.{fence_left, is_whole, fence_from}
use Rattle.leaves.specs.Text.Trim.{trim_cons, trim_end}
use Rattle.leaves.specs.declared.text.fence.FrontmatterKind.{FrontmatterKind}
use Rattle.leaves.specs.declared.text.fence.FrontmatterKind.TheVariants.{Yaml, Toml}
use Rattle.std.proofs.Common.{Option, Some, None}

-- ---- one line
abbrev line_left : ℕ → Option ℕ → List ℕ → Option ℕ
line_left c left [] = left
line_left c left (b ∷ l) = line_left c (fence_left c left b) l

module _ (c left b : ℕ) where
  left-blank : is_blank_byte b ≡ true → fence_left c (Some 0) b ≡ Some 0
  unfolding fence_left
  left-blank y = rw y

  left-solid : is_blank_byte b ≡ false → fence_left c (Some 0) b ≡ None
  unfolding fence_left
  left-solid n = rw n

  left-next : eqb b c ≡ true → fence_left c (Some (suc left)) b ≡ Some left
  unfolding fence_left
  left-next y = let d : suc left - 1 ≡ left = omega arith in rw (eqb-suc-zero left, y, d)

  left-never : eqb b c ≡ false → fence_left c (Some (suc left)) b ≡ None
  unfolding fence_left
  left-never n = rw (eqb-suc-zero left, n)

never : (c : ℕ) (l : List ℕ) → line_left c None l ≡ None
unfolding fence_left
never c [] = refl
never c (b ∷ l) = never c l

-- lines that are a fence once trimmed, of `left` bytes
abbrev Ends : ℕ → ℕ → Type 0
Ends c left = (l : List ℕ) → same_bytes (trim_end l) (replicate left c) ≡ is_whole (line_left c (Some left) l)

cons-blank : (b : ℕ) (t : List ℕ) → is_blank_byte b ≡ true → same_bytes (trim_cons b t) [] ≡ same_bytes t []
unfolding same_bytes trim_cons
cons-blank b [] e = rw e
cons-blank b (x ∷ t) e = refl

cons-solid : (b : ℕ) (t : List ℕ) → is_blank_byte b ≡ false → same_bytes (trim_cons b t) [] ≡ false
unfolding same_bytes trim_cons
cons-solid b [] e = rw e
cons-solid b (x ∷ t) e = refl

ends-none : (c : ℕ) → Ends c 0
unfolding same_bytes trim_end
ends-none c [] = refl
ends-none c (b ∷ l) = go (is_blank_byte b) refl (ends-none c l)
  where
    go : (t : Bool) → is_blank_byte b ≡ t → same_bytes (trim_end l) [] ≡ is_whole (line_left c (Some 0) l) → same_bytes (trim_cons b (trim_end l)) [] ≡ is_whole (line_left c (fence_left c (Some 0) b) l)
    go true e h = rw (cons-blank b (trim_end l) e, left-blank c 0 b e) h
    go false e h = rw (cons-solid b (trim_end l) e, left-solid c 0 b e, never)

module _ (c : ℕ) (solid : is_blank_byte c ≡ false) where
  cons_same : (b : ℕ) (t w : List ℕ) → eqb b c ≡ true → same_bytes (trim_cons b t) (c ∷ w) ≡ same_bytes t w
  unfolding same_bytes trim_cons
  cons_same b [] w e = rw (eqb-true b c e, solid, eq-eqb c c refl)
  cons_same b (x ∷ t) w e = rw e

  cons-other : (b : ℕ) (t w : List ℕ) → eqb b c ≡ false → same_bytes (trim_cons b t) (c ∷ w) ≡ false
  unfolding same_bytes trim_cons
  cons-other b [] w e = go (is_blank_byte b) refl
    where
      go : (t : Bool) → is_blank_byte b ≡ t → same_bytes (trim_cons b []) (c ∷ w) ≡ false
      go true f = rw f
      go false f = rw (f, e)
  cons-other b (x ∷ t) w e = rw e

  ends_more : (k : ℕ) → Ends c k → Ends c (suc k)
  unfolding same_bytes trim_end
  ends_more k h [] = sym (eqb-suc-zero k)
  ends_more k h (b ∷ l) = go (eqb b c) refl
    where
      go : (t : Bool) → eqb b c ≡ t → same_bytes (trim_cons b (trim_end l)) (c ∷ replicate k c) ≡ is_whole (line_left c (fence_left c (Some (suc k)) b) l)
      go true e = rw (cons_same b (trim_end l) (replicate k c) e, left-next c k b e) (h l)
      go false e = rw (cons-other b (trim_end l) (replicate k c) e, left-never c k b e, never)

  one_line : (l : List ℕ) → is_fence c l ≡ is_whole (line_left c (Some 3) l)
  unfolding is_fence
  one_line l = ends_more 2 (ends_more 1 (ends_more 0 (ends-none c))) l

  -- ---- the lines of a text
  abbrev fences_from : Option ℕ → List (List ℕ) → Bool
  fences_from left [] = is_whole left
  fences_from left (l ∷ ls) = is_whole (line_left c left l) || list_any (is_fence c) ls

  from_start : (ls : List (List ℕ)) → fences_from (Some 3) ls ≡ list_any (is_fence c) ls
  from_start [] = refl
  from_start (l ∷ ls) = ap (λ t. t || list_any (is_fence c) ls) (sym (one_line l))

  fence-holds : (left : Option ℕ) (b : ℕ) (ls : List (List ℕ)) → fences_from (fence_left c left b) ls ≡ fences_from left (longer b ls)
  unfolding longer
  fence-holds left b [] = sym (or-false (is_whole (fence_left c left b)))
  fence-holds left b (l ∷ ls) = refl

  fence-lines : (left : Option ℕ) (s : List ℕ) → fence_from c left s ≡ fences_from left (lines s)
  unfolding fence_from lines
  fence-lines left [] = refl
  fence-lines left (b ∷ s) = go (is_cr_of_crlf b s) (is_line_ending_byte b) refl refl (fence-lines left s) (fence-lines (Some 3) s) (fence-lines (fence_left c left b) s)
    where
      go : (t u : Bool) → is_cr_of_crlf b s ≡ t → is_line_ending_byte b ≡ u → fence_from c left s ≡ fences_from left (lines s) → fence_from c (Some 3) s ≡ fences_from (Some 3) (lines s) → fence_from c (fence_left c left b) s ≡ fences_from (fence_left c left b) (lines s) → fence_from c left (b ∷ s) ≡ fences_from left (lines (b ∷ s))
      go true u p q x y z = rw p x
      go false true p q x y z = rw (p, q) (ap (λ t. is_whole left || t) (y ∙ from_start (lines s)))
      go false false p q x y z = rw (p, q) (z ∙ fence-holds left b (lines s))

solid : (kind : FrontmatterKind) → is_blank_byte (fence_byte kind) ≡ false
solid Yaml = refl
solid Toml = refl

-- c is the byte that was found of the kind, and r what was answered of it
pub fences : (kind : FrontmatterKind) (s : List ℕ) {c : ℕ} {r : Bool} → r ≡ fence_from c (Some 3) s → c ≡ fence_byte kind → r ≡ holds_fence_line kind s
unfolding holds_fence_line
fences kind s f e = f ∙ rw e (fence-lines (fence_byte kind) (solid kind) (Some 3) s ∙ from_start (fence_byte kind) (solid kind) (lines s))

-- a turn of the loop: the CR of a CRLF, a byte of the line, its end
module _ (c : ℕ) (left : Option ℕ) (b : ℕ) (s : List ℕ) where
  pub fence-skip : is_cr_of_crlf b s ≡ true → fence_from c left (b ∷ s) ≡ fence_from c left s
  unfolding fence_from
  fence-skip y = rw y

  module _ (n : is_cr_of_crlf b s ≡ false) where
    pub fence-in : is_line_ending_byte b ≡ false → fence_from c left (b ∷ s) ≡ fence_from c (fence_left c left b) s
    unfolding fence_from
    fence-in m = rw (n, m)

    pub fence-whole : is_line_ending_byte b ≡ true → is_whole left ≡ true → true ≡ fence_from c left (b ∷ s)
    unfolding fence_from
    fence-whole e y = rw (n, e, y)

    pub fence-ends : is_line_ending_byte b ≡ true → is_whole left ≡ false → fence_from c left (b ∷ s) ≡ fence_from c (Some 3) s
    unfolding fence_from
    fence-ends e m = rw (n, e, m)

pub fence-end : (c : ℕ) (left : Option ℕ) → is_whole left ≡ fence_from c left []
unfolding fence_from
fence-end c left = refl
