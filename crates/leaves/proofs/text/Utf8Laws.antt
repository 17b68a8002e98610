-- UTF-8 as the code reads it: what is expected of a sequence, and the value of its bits so far.
use mathlib.Core.Path.{◌≡◌, refl, sym, ap, ◌∙◌}
use mathlib.Core.Bool.{Bool, true, false, not, ◌&&◌, ◌||◌, false≢true}
use mathlib.Core.List.{List, [], ◌∷◌}
use Prim.Native.Nat.{ℕ, zero, suc, ◌-◌, ◌<◌, ◌≤◌}
use native.Mathlib.Omega.{arith}
use lib.Dec.{eqb, leb, ltb, eqb-suc-zero}
use lib.ListN.{length, replicate, length-replicate}
use borrow.Author.Tests.{lt-leb, lt-ltb, le-ltb, le-leb, ltb-true, leb-true, leb-false, eqb-true, not-true, not-false}
use Rattle.leaves.specs.Text.Bytes.{between}
use Rattle.std.specs.Prelude.{if◌then◌else◌}
use Rattle.leaves.specs.Text.Over.{is_empty_list}
use Rattle.leaves.specs.Text.Utf8.{Range, ◌to◌, within, trail, table_3_7, follow, well_formed}
use Rattle.leaves.specs.Text.Utf8Scans.{breaks_character, expected_after}
use Rattle.leaves.specs.Text.Utf8Expected.{trail_columns, expects, trails, expecting, Expects}
use Rattle.leaves.specs.declared.text.utf8.Expected.{Expected}
use Rattle.leaves.proofs.text.TestLaws.{all_below, and_left, and_right, each}
use Rattle.leaves.specs.Text.Chunk.{is_ascii, Skipped}
use Rattle.leaves.proofs.text.ChunkLaws.{leap}

-- ---- what follows a first byte
same-ranges : List Range → List Range → Bool
same-ranges [] [] = true
same-ranges [] (r ∷ q) = false
same-ranges (r ∷ p) [] = false
same-ranges (r ∷ p) (s ∷ q) = eqb r.low s.low && eqb r.high s.high && same-ranges p q

ranges : (p q : List Range) → same-ranges p q ≡ true → p ≡ q
unfolding same-ranges
ranges [] [] e = refl
ranges [] (r ∷ q) e = absurd (false≢true e)
ranges (r ∷ p) [] e = absurd (false≢true e)
ranges (r ∷ p) (s ∷ q) e =
    let ab : (eqb r.low s.low && eqb r.high s.high) ≡ true = and_left _ (same-ranges p q) e in
    let a : r.low ≡ s.low = eqb-true _ _ (and_left (eqb r.low s.low) (eqb r.high s.high) ab) in
    let b : r.high ≡ s.high = eqb-true _ _ (and_right (eqb r.low s.low) (eqb r.high s.high) ab) in
    let c : p ≡ q = ranges p q (and_right (eqb r.low s.low && eqb r.high s.high) (same-ranges p q) e) in
    λ i. record { low = a i; high = b i } ∷ c i

row-test : (ℕ → Bool) → List Range → ℕ → Bool
row-test these cs b = not (these b) || same-ranges cs (follow table_3_7 b)

-- these bytes are followed by the columns cs, by a test of all bytes
followed : (these : ℕ → Bool) (cs : List Range) → all_below (row-test these cs) 256 ≡ true → (b : ℕ) → b < 256 → these b ≡ true → cs ≡ follow table_3_7 b
unfolding row-test
followed these cs e b h p = ranges cs (follow table_3_7 b) (rw p at (each (row-test these cs) 256 e b h))

module _ (b : ℕ) where
  pub from-to : (low high : ℕ) → low ≤ b → b ≤ high → between low high b ≡ true
  from-to low high p q = rw (le-leb low b p, le-leb b high q)

  pub ascii-alone : b < 0x80 → [] ≡ follow table_3_7 b
  unfolding all_below row-test same-ranges follow table_3_7
  ascii-alone h = followed (between 0 0x7F) [] refl b (omega arith) (from-to 0 0x7F (omega arith) (omega arith))

-- ---- what is expected
test-not : (a b : ℕ) → ltb a b ≡ not (leb b a)
test-not a b = go (leb b a) refl
  where
    go : (t : Bool) → leb b a ≡ t → ltb a b ≡ not t
    go true e = le-ltb a b (leb-true b a e)
    go false e = lt-ltb a b (leb-false b a e)

pub outside : (low high b : ℕ) → (ltb b low || ltb high b) ≡ not (between low high b)
outside low high b = rw (test-not b low, test-not high b) (go (leb low b) (leb b high))
  where
    go : (t u : Bool) → (not t || not u) ≡ not (t && u)
    go true u = refl
    go false u = refl

columns-trail : (n : ℕ) → trail_columns n 0x80 0xBF ≡ replicate n trail
columns-trail zero = refl
columns-trail (suc n) = refl

expecting-trail : (n : ℕ) → expects n 0x80 0xBF ≡ expecting (replicate n trail)
unfolding expecting
expecting-trail zero = refl
expecting-trail (suc n) = ap (λ k. expects (suc k) 0x80 0xBF) (sym (length-replicate n trail))

pub trailing : (n : ℕ) {o : Expected} → o ≡ expects n 0x80 0xBF → Expects (trails n) o
trailing n e = rw e (record { is = expecting-trail n; all = columns-trail n })

pub breaks_is : (more low high b : ℕ) → breaks_character (trail_columns more low high) b ≡ (not (eqb more 0) && (ltb b low || ltb high b))
unfolding breaks_character
breaks_is zero low high b = refl
breaks_is (suc m) low high b = rw (eqb-suc-zero m) (sym (outside low high b))

pub expected_is : (more low high b : ℕ) → expected_after (trail_columns more low high) b ≡ (if eqb more 0 || breaks_character (trail_columns more low high) b then follow table_3_7 b else trails (more - 1))
unfolding expected_after breaks_character
expected_is zero low high b = refl
expected_is (suc m) low high b = let d : suc m - 1 ≡ m = omega arith in rw (eqb-suc-zero m, d) (go (within (low to high) b))
  where
    go : (t : Bool) → (if t then trails m else follow table_3_7 b) ≡ (if not t then follow table_3_7 b else trails m)
    go true = refl
    go false = refl

module _ (more low high : ℕ) where
  pub whole : is_empty_list (trail_columns more low high) ≡ eqb more 0
  unfolding is_empty_list
  whole = go more
    where
      go : (m : ℕ) → is_empty_list (trail_columns m low high) ≡ eqb m 0
      go zero = refl
      go (suc m) = sym (eqb-suc-zero m)

-- ---- well-formed bytes
module _ (o : List Range) (b : ℕ) (s : List ℕ) {r : Bool} (e : r ≡ breaks_character o b) where
  pub utf8-no : r ≡ true → false ≡ well_formed o (b ∷ s)
  unfolding breaks_character well_formed
  utf8-no y = go o (sym e ∙ y)
    where
      go : (p : List Range) → breaks_character p b ≡ true → false ≡ well_formed p (b ∷ s)
      go [] h = absurd (false≢true h)
      go (x ∷ p) h = rw (not-true (within x b) h)

  pub utf8-yes : {o' : List Range} → r ≡ false → o' ≡ expected_after o b → well_formed o (b ∷ s) ≡ well_formed o' s
  unfolding breaks_character well_formed expected_after
  utf8-yes n f = rw f (go o (sym e ∙ n))
    where
      go : (p : List Range) → breaks_character p b ≡ false → well_formed p (b ∷ s) ≡ well_formed (expected_after p b) s
      go [] h = refl
      go (x ∷ p) h = rw (not-false (within x b) h)

pub utf8-ascii : (b : ℕ) (s : List ℕ) → b < 0x80 → well_formed [] (b ∷ s) ≡ well_formed [] s
unfolding well_formed
utf8-ascii b s h = ap (λ o. well_formed o s) (sym (ascii-alone b h))

-- bytes of ASCII where nothing is expected
pub utf8-leap : (more low high : ℕ) {s rest : List ℕ} → more ≡ 0 → Skipped is_ascii s rest → well_formed (trail_columns more low high) s ≡ well_formed (trail_columns more low high) rest
utf8-leap zero low high e p = leap is_ascii (well_formed []) (λ b t q. utf8-ascii b t (ltb-true b 0x80 q)) p
utf8-leap (suc m) low high e p = absurd (omega (arith, e))

-- what follows a byte that begins nothing: no text is well-formed after it
pub utf8-never : (s : List ℕ) → well_formed (follow table_3_7 0xFF) s ≡ false
unfolding well_formed follow table_3_7
utf8-never [] = refl
utf8-never (b ∷ s) = rw (never (leb 0xBF b) refl)
  where
    never : (t : Bool) → leb 0xBF b ≡ t → (leb 0xBF b && leb b 0x80) ≡ false
    never true e = rw (e, lt-leb b 0x80 (omega (arith, leb-true 0xBF b e)))
    never false e = rw e

pub utf8-end : (more low high : ℕ) (s : List ℕ) → length s ≡ 0 → eqb more 0 ≡ well_formed (trail_columns more low high) s
unfolding well_formed
utf8-end zero low high [] e = refl
utf8-end (suc n) low high [] e = eqb-suc-zero n
utf8-end more low high (b ∷ s) e = absurd (omega arith)
