-- The loop over the characters of a tag name; and names of ASCII, whose bytes are their characters.
use mathlib.Core.Path.{◌≡◌, refl, sym, ap, ◌∙◌}
use mathlib.Core.Bool.{Bool, true, false, not, ◌&&◌, true≢false, and-false}
use mathlib.Core.List.{List, [], ◌∷◌, head_d}
use Prim.Native.Nat.{ℕ, zero, suc, ◌<◌, ◌≤◌}
use native.Mathlib.Omega.{arith}
use lib.Dec.{eqb, leb, ltb, eqb-suc-zero}
use lib.ListN.{length, get_or}
use borrow.Author.Tests.{ltb-true, ltb-false, lt-ltb, lt-leb, ne_eqb}
use Rattle.std.specs.List.{list_all}
use Rattle.leaves.specs.Text.Bytes.{is_letter, slash, underscore, hyphen}
use Rattle.leaves.specs.Text.Utf8.{Range}
use Rattle.leaves.specs.Text.Scalars.{replacement, lead_bits, emit, decode, scalars}
use Rattle.leaves.specs.Text.Utf8Scans.{breaks_character, expected_after}
use Rattle.leaves.specs.Text.ScalarScans.{value_after}
use Rattle.leaves.specs.Text.Utf8Expected.{trail_columns}
use Rattle.leaves.specs.Text.UnicodeLetters.{letter_ranges, number_ranges, in_ranges, is_unicode_letter, is_tag_name_char, is_tag_name_of, is_tag_name}
use Rattle.leaves.specs.Text.TagNameScans.{is_ascii_tag_name_char, is_ascii_tag_name, fits_tag_name}
use Rattle.leaves.proofs.text.TestLaws.{and_left, and_right}
use Rattle.leaves.proofs.text.LetterRangeLaws.{ascii_letter, ascii_char}
use Rattle.leaves.proofs.text.ScanLaws.{ScanAt}
use Rattle.leaves.proofs.text.Utf8Laws.{ascii-alone}
use Rattle.leaves.proofs.text.ScalarLaws.{none_expected, step_next, decode-step}

-- the characters that are left of a name, from its front (`first`) or behind others
abbrev pub rest_of_name : Bool → List ℕ → Bool
rest_of_name true cs = is_tag_name_of cs
rest_of_name false cs = list_all is_tag_name_char cs

unfoldable pub tag_from : Bool → List Range → ℕ → List ℕ → Bool
tag_from first o v s = rest_of_name first (decode o v s)

rest-cons : (first : Bool) (c : ℕ) (cs : List ℕ) → rest_of_name first (c ∷ cs) ≡ (fits_tag_name first c && rest_of_name false cs)
unfolding fits_tag_name is_tag_name_of
rest-cons true c cs = refl
rest-cons false c cs = refl

-- U+FFFD is no letter and no number
no-tag : (first : Bool) → fits_tag_name first replacement ≡ false
unfolding fits_tag_name is_unicode_letter is_tag_name_char in_ranges letter_ranges number_ranges
no-tag true = refl
no-tag false = refl

module _ (first : Bool) (o : List Range) (v b : ℕ) (s : List ℕ) {r : Bool} (e : r ≡ breaks_character o b) where
  pub tag-broken : r ≡ true → false ≡ tag_from first o v (b ∷ s)
  unfolding tag_from
  tag-broken y = rw (decode-step o v b s, ← e, y, rest-cons first replacement (step_next o v b s), no-tag first) refl

  module _ (more low high : ℕ) {v' : ℕ} (n : r ≡ false) (f : trail_columns more low high ≡ expected_after o b) (g : v' ≡ value_after o v b) where
    steps : tag_from first o v (b ∷ s) ≡ rest_of_name first (emit (trail_columns more low high) v' (decode (trail_columns more low high) v' s))
    unfolding tag_from
    steps = rw (decode-step o v b s, ← e, n, f, g) refl

    ends-character : eqb more 0 ≡ true → emit (trail_columns more low high) v' (decode (trail_columns more low high) v' s) ≡ v' ∷ decode (trail_columns more low high) v' s
    unfolding emit
    ends-character z = rw (none_expected more low high z) refl

    pub tag-wrong : {w : Bool} → eqb more 0 ≡ true → w ≡ fits_tag_name first v' → w ≡ false → false ≡ tag_from first o v (b ∷ s)
    tag-wrong z h k = rw (steps, ends-character z, rest-cons first v' (decode (trail_columns more low high) v' s), ← h, k) refl

    pub tag-right : {w : Bool} → eqb more 0 ≡ true → w ≡ fits_tag_name first v' → w ≡ true → tag_from first o v (b ∷ s) ≡ tag_from false (trail_columns more low high) v' s
    unfolding tag_from
    tag-right z h k = rw (steps, ends-character z, rest-cons first v' (decode (trail_columns more low high) v' s), ← h, k) refl

    pub tag-more : eqb more 0 ≡ false → tag_from first o v (b ∷ s) ≡ tag_from first (trail_columns more low high) v' s
    unfolding tag_from emit
    tag-more z = steps ∙ go more z
      where
        go : (m : ℕ) → eqb m 0 ≡ false → rest_of_name first (emit (trail_columns m low high) v' (decode (trail_columns m low high) v' s)) ≡ rest_of_name first (decode (trail_columns m low high) v' s)
        go zero z = absurd (true≢false z)
        go (suc m) z = refl

pub tag_init : (s : List ℕ) {o : List Range} {v : ℕ} → o ≡ [] → v ≡ 0 → ScanAt (is_tag_name s) (tag_from true o v) s 0
unfolding is_tag_name scalars tag_from
tag_init s e f = rw (e, f) (record { within = omega arith; same = refl })

pub tag-end : (first : Bool) (more low high v : ℕ) {w : Bool} → w ≡ eqb more 0 → (not first && w) ≡ tag_from first (trail_columns more low high) v []
unfolding tag_from decode is_tag_name_of
tag-end true zero low high v e = refl
tag-end false zero low high v e = e
tag-end true (suc n) low high v e = sym (rest-cons true replacement [] ∙ rw (no-tag true) refl)
tag-end false (suc n) low high v e = e ∙ eqb-suc-zero n ∙ sym (rest-cons false replacement [] ∙ rw (no-tag false) refl)

-- ---- names of ASCII
ascii-below : (c : ℕ) → is_ascii_tag_name_char c ≡ true → c < 0x80
ascii-below c e = go (ltb c 0x80) refl
  where
    no_other : 0x80 ≤ c → is_ascii_tag_name_char c ≡ false
    no_other h = rw (lt-leb c 90 (omega arith), lt-leb c 122 (omega arith), lt-leb c 57 (omega arith), ne_eqb c slash (λ e. absurd (omega arith)), ne_eqb c underscore (λ e. absurd (omega arith)), ne_eqb c hyphen (λ e. absurd (omega arith)), and-false (leb 65 c), and-false (leb 97 c), and-false (leb 48 c)) refl

    go : (t : Bool) → ltb c 0x80 ≡ t → c < 0x80
    go true f = ltb-true c 0x80 f
    go false f = absurd (true≢false (sym e ∙ no_other (ltb-false c 0x80 f)))

ascii-decode : (v : ℕ) (s : List ℕ) → list_all is_ascii_tag_name_char s ≡ true → decode [] v s ≡ s
unfolding decode emit lead_bits
ascii-decode v [] e = refl
ascii-decode v (b ∷ s) e =
    let h : b < 0x80 = ascii-below b (and_left (is_ascii_tag_name_char b) (list_all is_ascii_tag_name_char s) e) in
    rw (← ascii-alone b h, lt-ltb b 0x80 h) (ap (λ t. b ∷ t) (ascii-decode b s (and_right (is_ascii_tag_name_char b) (list_all is_ascii_tag_name_char s) e)))

ascii-all : (s : List ℕ) → list_all is_ascii_tag_name_char s ≡ true → list_all is_tag_name_char s ≡ true
ascii-all [] e = refl
ascii-all (b ∷ s) e =
    let f : is_ascii_tag_name_char b ≡ true = and_left (is_ascii_tag_name_char b) (list_all is_ascii_tag_name_char s) e in
    let c : true ≡ is_tag_name_char b = ascii_char (ascii-below b f) (sym f) in
    rw (← c) (ascii-all s (and_right (is_ascii_tag_name_char b) (list_all is_ascii_tag_name_char s) e))

ascii-is : (s : List ℕ) → is_ascii_tag_name s ≡ true → true ≡ is_tag_name s
unfolding is_ascii_tag_name is_tag_name scalars is_tag_name_of decode head_d
ascii-is [] e = sym e
ascii-is (b ∷ s) e =
    let all : list_all is_ascii_tag_name_char (b ∷ s) ≡ true = and_right (is_letter b) (list_all is_ascii_tag_name_char (b ∷ s)) e in
    let h : b < 0x80 = ascii-below b (and_left (is_ascii_tag_name_char b) (list_all is_ascii_tag_name_char s) all) in
    let l : true ≡ is_unicode_letter b = ascii_letter h (sym (and_left (is_letter b) (list_all is_ascii_tag_name_char (b ∷ s)) e)) in
    rw (ascii-decode 0 (b ∷ s) all, ← l) (sym (ascii-all s (and_right (is_ascii_tag_name_char b) (list_all is_ascii_tag_name_char s) all)))

pub ascii_name : (s : List ℕ) {t : Bool} → t ≡ is_ascii_tag_name s → t ≡ true → true ≡ is_tag_name s
ascii_name s e y = ascii-is s (sym e ∙ y)

pub ascii_empty : (s : List ℕ) → length s < 1 → false ≡ is_ascii_tag_name s
unfolding is_ascii_tag_name head_d
ascii_empty [] h = refl
ascii_empty (b ∷ s) h = absurd (omega arith)

pub ascii_first : (s : List ℕ) → head_d s 0 ≡ get_or s 0 0
unfolding head_d
ascii_first [] = refl
ascii_first (b ∷ s) = refl
