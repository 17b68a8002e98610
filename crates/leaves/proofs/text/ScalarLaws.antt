-- The scalar values of a text, a byte at a time.
use mathlib.Core.Path.{◌≡◌, refl, sym, ap, ◌∙◌}
use mathlib.Core.Bool.{Bool, true, false, not, ◌||◌, true≢false}
use mathlib.Core.List.{List, [], ◌∷◌}
use Prim.Native.Nat.{ℕ, zero, suc, ◌+◌, ◌*◌, ◌%◌, ◌<◌}
use native.Mathlib.Omega.{arith}
use lib.Dec.{eqb, ltb, eqb-suc-zero}
use lib.ListN.{length}
use borrow.Author.Tests.{ltb-true, lt-ltb}
use Rattle.std.specs.Prelude.{if◌then◌else◌}
use Rattle.leaves.specs.Text.Utf8.{Range, ◌to◌, within, trail, table_3_7, follow}
use Rattle.leaves.specs.Text.Scalars.{replacement, lead_bits, trail_bits, emit, decode}
use Rattle.leaves.specs.Text.Utf8Scans.{breaks_character, expected_after}
use Rattle.leaves.specs.Text.ScalarScans.{value_after, room}
use Rattle.leaves.specs.Text.Utf8Expected.{trail_columns, expecting, Expects}
use Rattle.leaves.specs.declared.text.utf8.Expected.{Expected}
use Rattle.leaves.proofs.text.TestLaws.{all_below, each}
use Rattle.leaves.proofs.text.Utf8Laws.{ascii-alone}

-- ---- the value of the bits

-- a value stays within its room
room_falls : (m value b : ℕ) → value < room (suc m) → trail_bits value b < room m
unfolding trail_bits
room_falls zero value b h = omega arith
room_falls (suc zero) value b h = omega arith
room_falls (suc (suc zero)) value b h = omega arith
room_falls (suc (suc (suc m))) value b h = absurd (omega arith)

lead-test : ℕ → Bool
lead-test b = ltb (lead_bits b) (room (length (follow table_3_7 b)))

lead-fits : (b : ℕ) → b < 256 → lead_bits b < room (length (follow table_3_7 b))
unfolding all_below lead-test lead_bits follow table_3_7
lead-fits b h = ltb-true _ _ (each lead-test 256 refl b h)

fits_after : (o : List Range) (value b : ℕ) → b < 256 → value < room (length o) → value_after o value b < room (length (expected_after o b))
unfolding value_after expected_after
fits_after [] value b h k = lead-fits b h
fits_after (r ∷ o) value b h k = go (within r b) refl
  where
    go : (t : Bool) → within r b ≡ t → value_after (r ∷ o) value b < room (length (expected_after (r ∷ o) b))
    go true e = rw e (room_falls (length o) value b k)
    go false e = rw e (lead-fits b h)

long : (more low high : ℕ) → length (trail_columns more low high) ≡ more
long zero low high = refl
long (suc n) low high = ap suc (lib.ListN.length-replicate n trail)

pub value_is : (more low high value b : ℕ) → value_after (trail_columns more low high) value b ≡ (if eqb more 0 || breaks_character (trail_columns more low high) b then lead_bits b else value * 0x40 + b % 0x40)
unfolding value_after breaks_character trail_bits
value_is zero low high value b = refl
value_is (suc m) low high value b = rw (eqb-suc-zero m) (go (within (low to high) b))
  where
    go : (t : Bool) → (if t then trail_bits value b else lead_bits b) ≡ (if not t then lead_bits b else value * 0x40 + b % 0x40)
    go true = refl
    go false = refl

-- a value has room for the bits that are expected after b
pub room_kept : (more low high : ℕ) (before : ℕ) (l h : ℕ) (value b : ℕ) → b < 256 → value < room before → trail_columns more low high ≡ expected_after (trail_columns before l h) b → value_after (trail_columns before l h) value b < room more
room_kept more low high before l h value b k f e =
    let g : value < room (length (trail_columns before l h)) = rw (long before l h) f in
    let r : value_after (trail_columns before l h) value b < room (length (trail_columns more low high)) = rw e (fits_after (trail_columns before l h) value b k g) in
    rw (long more low high) at r

pub none_expected : (more low high : ℕ) → eqb more 0 ≡ true → trail_columns more low high ≡ []
none_expected zero low high z = refl
none_expected (suc m) low high z = absurd (true≢false (sym z ∙ eqb-suc-zero m))

-- a byte of ASCII where none is expected is a character by itself
module _ (more low high value b : ℕ) (z : eqb more 0 ≡ true) (h : b < 0x80) where
  pub ascii_expected : [] ≡ expected_after (trail_columns more low high) b
  unfolding expected_after
  ascii_expected = rw (none_expected more low high z) (ascii-alone b h)

  pub ascii_value : b ≡ value_after (trail_columns more low high) value b
  unfolding value_after lead_bits
  ascii_value = rw (none_expected more low high z, lt-ltb b 0x80 h) refl

pub ascii_room : {o : Expected} {value : ℕ} → Expects [] o → value < 0x80 → value < room o.more
unfolding expecting
ascii_room e h = rw e.is (omega (arith, h))

-- ---- one byte more

-- one byte more: U+FFFD where it breaks what is expected, and then what it begins or goes on with
abbrev pub step_next : List Range → ℕ → ℕ → List ℕ → List ℕ
step_next o v b s = emit (expected_after o b) (value_after o v b) (decode (expected_after o b) (value_after o v b) s)

pub decode-step : (o : List Range) (v b : ℕ) (s : List ℕ) → decode o v (b ∷ s) ≡ (if breaks_character o b then replacement ∷ step_next o v b s else step_next o v b s)
unfolding decode expected_after value_after breaks_character
decode-step [] v b s = refl
decode-step (r ∷ o) v b s = go (within r b) refl
  where
    go : (t : Bool) → within r b ≡ t → decode (r ∷ o) v (b ∷ s) ≡ (if breaks_character (r ∷ o) b then replacement ∷ step_next (r ∷ o) v b s else step_next (r ∷ o) v b s)
    go true e = rw e refl
    go false e = rw e refl
