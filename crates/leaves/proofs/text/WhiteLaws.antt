-- White space at the ends of a text: the loops, and the last character from where it begins.
use mathlib.Core.Path.{◌≡◌, refl, sym, ap, ◌∙◌}
use mathlib.Core.Bool.{Bool, true, false, ◌&&◌, true≢false}
use mathlib.Core.List.{List, [], ◌∷◌, ◌++◌, get_last_d, head_d}
use Prim.Native.Nat.{ℕ, zero, suc, ◌+◌, ◌-◌, ◌≤◌}
use native.Mathlib.Omega.{arith}
use lib.Dec.{eqb, leb, eqb-suc-zero}
use lib.ListN.{length, take, drop, get_or, take-append-drop, length-drop}
use lib.Seq.{take_all}
use borrow.Author.Tests.{leb-true}
use Rattle.std.specs.Prelude.{if◌then◌else◌}
use Rattle.leaves.specs.Text.Over.{is_empty_list}
use Rattle.leaves.specs.Text.Utf8.{Range, within, trail, table_3_7, follow}
use Rattle.leaves.specs.Text.Scalars.{replacement, lead_bits, emit, decode, scalars}
use Rattle.leaves.specs.Text.Utf8Scans.{breaks_character, expected_after}
use Rattle.leaves.specs.Text.ScalarScans.{value_after, BeginsScalar}
use Rattle.leaves.specs.Text.Utf8Expected.{trail_columns}
use Rattle.leaves.specs.Text.White.{is_white, starts_with_white, ends_with_white}
use Rattle.leaves.proofs.text.ScanLaws.{ScanAt, next}
use Rattle.leaves.proofs.text.TestLaws.{and_left, and_right}
use Rattle.leaves.proofs.text.Utf8Laws.{whole, from-to}
use Rattle.leaves.proofs.text.ScanLaws.{scan}
use Rattle.leaves.proofs.text.LastLaws.{last-cons}
use Rattle.leaves.proofs.text.ScalarLaws.{step_next, decode-step}

-- ---- one byte more
last-emit : (o : List Range) (v d : ℕ) (s : List ℕ) → get_last_d (emit o v s) d ≡ get_last_d s (if is_empty_list o then v else d)
unfolding emit is_empty_list
last-emit [] v d s = last-cons v d s
last-emit (r ∷ o) v d s = refl

last_step : (o : List Range) (v d b : ℕ) (s : List ℕ) → get_last_d (decode o v (b ∷ s)) d ≡ get_last_d (decode (expected_after o b) (value_after o v b) s) (if is_empty_list (expected_after o b) then value_after o v b else if breaks_character o b then replacement else d)
last_step o v d b s = ap (λ xs. get_last_d xs d) (decode-step o v b s) ∙ go (breaks_character o b)
  where
    go : (t : Bool) → get_last_d (if t then replacement ∷ step_next o v b s else step_next o v b s) d ≡ get_last_d (decode (expected_after o b) (value_after o v b) s) (if is_empty_list (expected_after o b) then value_after o v b else if t then replacement else d)
    go true = last-cons replacement d (step_next o v b s) ∙ last-emit (expected_after o b) (value_after o v b) replacement (decode (expected_after o b) (value_after o v b) s)
    go false = last-emit (expected_after o b) (value_after o v b) d (decode (expected_after o b) (value_after o v b) s)

last-broken : (r : Range) (o : List Range) (v d b : ℕ) (s : List ℕ) → within r b ≡ false → get_last_d (decode (r ∷ o) v (b ∷ s)) d ≡ get_last_d (decode [] 0 (b ∷ s)) replacement
unfolding decode
last-broken r o v d b s e = rw e (last-cons replacement d (emit (follow table_3_7 b) (lead_bits b) (decode (follow table_3_7 b) (lead_bits b) s)))

first-emit : (o : List Range) (v d : ℕ) (s : List ℕ) → head_d (emit o v s) d ≡ (if is_empty_list o then v else head_d s d)
unfolding emit head_d is_empty_list
first-emit [] v d s = refl
first-emit (r ∷ o) v d s = refl

first_step : (o : List Range) (v b : ℕ) (s : List ℕ) → head_d (decode o v (b ∷ s)) replacement ≡ (if breaks_character o b then replacement else if is_empty_list (expected_after o b) then value_after o v b else head_d (decode (expected_after o b) (value_after o v b) s) replacement)
unfolding head_d
first_step o v b s = ap (λ xs. head_d xs replacement) (decode-step o v b s) ∙ go (breaks_character o b)
  where
    go : (t : Bool) → head_d (if t then replacement ∷ step_next o v b s else step_next o v b s) replacement ≡ (if t then replacement else if is_empty_list (expected_after o b) then value_after o v b else head_d (decode (expected_after o b) (value_after o v b) s) replacement)
    go true = refl
    go false = first-emit (expected_after o b) (value_after o v b) replacement (decode (expected_after o b) (value_after o v b) s)

-- ---- the last character, from where it begins
pick : (p : List Range) (w c d : ℕ) (s : List ℕ) → ((x y : ℕ) → is_empty_list p ≡ false → get_last_d (decode p w s) x ≡ get_last_d (decode p w s) y) → get_last_d (decode p w s) (if is_empty_list p then w else c) ≡ get_last_d (decode p w s) (if is_empty_list p then w else d)
unfolding is_empty_list
pick [] w c d s later = refl
pick (r ∷ p) w c d s later = later c d refl

-- where something is expected a scalar value is to come, so what stands for none does not matter
settled-end : (o : List Range) (v c d : ℕ) → is_empty_list o ≡ false → get_last_d (decode o v []) c ≡ get_last_d (decode o v []) d
unfolding is_empty_list decode get_last_d
settled-end [] v c d h = absurd (true≢false h)
settled-end (r ∷ o) v c d h = refl

settled : (o : List Range) (v c d : ℕ) (s : List ℕ) → is_empty_list o ≡ false → get_last_d (decode o v s) c ≡ get_last_d (decode o v s) d
settled o v c d [] h = settled-end o v c d h
settled o v c d (b ∷ s) h =
    last_step o v c b s
    ∙ pick (expected_after o b) (value_after o v b) _ _ s (λ x y k. settled (expected_after o b) (value_after o v b) x y s k)
    ∙ sym (last_step o v d b s)

fresh : (v w c d b : ℕ) (s : List ℕ) → get_last_d (decode [] v (b ∷ s)) c ≡ get_last_d (decode [] w (b ∷ s)) d
unfolding expected_after value_after breaks_character
fresh v w c d b s =
    last_step [] v c b s
    ∙ pick (follow table_3_7 b) (lead_bits b) c d s (λ x y k. settled (follow table_3_7 b) (lead_bits b) x y s k)
    ∙ sym (last_step [] w d b s)

-- only bytes from 0x80 to 0xBF are ever expected
trails : List Range → Bool
trails [] = true
trails (r ∷ o) = leb 0x80 r.low && leb r.high 0xBF && trails o

rows-trail : List (List Range) → Bool
rows-trail [] = true
rows-trail ([] ∷ rows) = rows-trail rows
rows-trail ((first ∷ others) ∷ rows) = trails others && rows-trail rows

follow-trails : (rows : List (List Range)) (b : ℕ) → rows-trail rows ≡ true → trails (follow rows b) ≡ true
unfolding rows-trail trails follow
follow-trails [] b h = refl
follow-trails ([] ∷ rows) b h = follow-trails rows b h
follow-trails ((first ∷ others) ∷ rows) b h = go (within first b) refl (follow-trails rows b (and_right (trails others) (rows-trail rows) h))
  where
    go : (t : Bool) → within first b ≡ t → trails (follow rows b) ≡ true → trails (follow ((first ∷ others) ∷ rows) b) ≡ true
    go true e k = rw e (and_left (trails others) (rows-trail rows) h)
    go false e k = rw e k

table-trails : (b : ℕ) → trails (follow table_3_7 b) ≡ true
unfolding table_3_7 rows-trail trails
table-trails b = follow-trails table_3_7 b refl

after-trails : (o : List Range) (b : ℕ) → trails o ≡ true → trails (expected_after o b) ≡ true
unfolding trails expected_after
after-trails [] b h = table-trails b
after-trails (r ∷ o) b h = go (within r b) refl
  where
    go : (t : Bool) → within r b ≡ t → trails (expected_after (r ∷ o) b) ≡ true
    go true e = rw e (and_right (leb 0x80 r.low && leb r.high 0xBF) (trails o) h)
    go false e = rw e (table-trails b)

-- a byte that is none of these breaks what is expected
no-trail : (r : Range) (o : List Range) (b : ℕ) → trails (r ∷ o) ≡ true → within trail b ≡ false → within r b ≡ false
unfolding trails
no-trail r o b h f = go (within r b) refl
  where
    go : (t : Bool) → within r b ≡ t → within r b ≡ false
    go false e = e
    go true e =
        let ends : (leb 0x80 r.low && leb r.high 0xBF) ≡ true = and_left _ (trails o) h in
        let p : 0x80 ≤ r.low = leb-true _ _ (and_left (leb 0x80 r.low) (leb r.high 0xBF) ends) in
        let q : r.high ≤ 0xBF = leb-true _ _ (and_right (leb 0x80 r.low) (leb r.high 0xBF) ends) in
        let l : r.low ≤ b = leb-true _ _ (and_left (leb r.low b) (leb b r.high) e) in
        let m : b ≤ r.high = leb-true _ _ (and_right (leb r.low b) (leb b r.high) e) in
        absurd (true≢false (sym (from-to b 0x80 0xBF (omega arith) (omega arith)) ∙ f))

resync : (xs : List ℕ) (o : List Range) (v c d b : ℕ) (s : List ℕ) → trails o ≡ true → within trail b ≡ false → get_last_d (decode o v (xs ++ b ∷ s)) c ≡ get_last_d (decode [] 0 (b ∷ s)) d
resync [] [] v c d b s h f = fresh v 0 c d b s
resync [] (r ∷ o) v c d b s h f = broken
  where
    broken : get_last_d (decode (r ∷ o) v (b ∷ s)) c ≡ get_last_d (decode [] 0 (b ∷ s)) d
    broken = last-broken r o v c b s (no-trail r o b h f) ∙ fresh 0 0 replacement d b s
resync (x ∷ xs) o v c d b s h f = last_step o v c x (xs ++ b ∷ s) ∙ resync xs (expected_after o x) (value_after o v x) _ d b s (after-trails o x h) f

pub ends-from : (s : List ℕ) (at : ℕ) → BeginsScalar s at → ends_with_white (drop at s) ≡ ends_with_white s
unfolding ends_with_white scalars trails
ends-from s zero g = refl
ends-from s (suc n) g =
    let (h, f) = g.fresh (omega arith) in
    let e : drop (suc n) s ≡ get_or s (suc n) 0 ∷ drop (suc n + 1) s = next s (suc n) h in
    let whole-text : take (suc n) s ++ (get_or s (suc n) 0 ∷ drop (suc n + 1) s) ≡ s = rw (← e) (take-append-drop (suc n) s) in
    let both : get_last_d (decode [] 0 (take (suc n) s ++ (get_or s (suc n) 0 ∷ drop (suc n + 1) s))) replacement ≡ get_last_d (decode [] 0 (get_or s (suc n) 0 ∷ drop (suc n + 1) s)) replacement = resync (take (suc n) s) [] 0 replacement replacement (get_or s (suc n) 0) (drop (suc n + 1) s) refl f in
    rw e (ap is_white (sym (rw whole-text at both)))

-- r is what was answered of the part from there on
pub ends-part : (s : List ℕ) (at : ℕ) {r : Bool} → r ≡ ends_with_white (take (length s - at) (drop at s)) → BeginsScalar s at → r ≡ ends_with_white s
ends-part s at e g =
    let l : length (drop at s) ≤ length s - at = simp length-drop (omega arith) in
    e ∙ rw (take_all (length s - at) (drop at s) l) (ends-from s at g)

-- ---- the loops
unfoldable pub start_from : List Range → ℕ → List ℕ → Bool
start_from o v s = is_white (head_d (decode o v s) replacement)

unfoldable pub end_from : ℕ → List Range → ℕ → List ℕ → Bool
end_from d o v s = is_white (get_last_d (decode o v s) d)

no-white : is_white replacement ≡ false
unfolding is_white
no-white = refl

module _ (o : List Range) (v b : ℕ) (s : List ℕ) {r : Bool} (e : r ≡ breaks_character o b) where
  pub start-broken : r ≡ true → false ≡ start_from o v (b ∷ s)
  unfolding start_from
  start-broken y = rw (first_step o v b s, ← e, y) (sym no-white)

  module _ (more low high : ℕ) {v' : ℕ} (n : r ≡ false) (f : trail_columns more low high ≡ expected_after o b) (g : v' ≡ value_after o v b) where
    pub start-whole : {w : Bool} → eqb more 0 ≡ true → w ≡ is_white v' → w ≡ start_from o v (b ∷ s)
    unfolding start_from
    start-whole z h = h ∙ rw (first_step o v b s, ← e, n, ← f, whole more low high, z, ← g)

    pub start-more : eqb more 0 ≡ false → start_from o v (b ∷ s) ≡ start_from (trail_columns more low high) v' s
    unfolding start_from
    start-more z = rw (first_step o v b s, ← e, n, ← f, whole more low high, z, ← g)

pub start_init : (s : List ℕ) {o : List Range} {v : ℕ} → o ≡ [] → v ≡ 0 → ScanAt (starts_with_white s) (start_from o v) s 0
unfolding starts_with_white scalars start_from
start_init s e f = rw (e, f) (record { within = omega arith; same = refl })

start-expected : (o : List Range) (v : ℕ) → head_d (decode o v []) replacement ≡ replacement
unfolding head_d decode
start-expected [] v = refl
start-expected (r ∷ o) v = refl

pub start_none : (o : List Range) (v : ℕ) → false ≡ start_from o v []
unfolding start_from
start_none o v = rw start-expected (sym no-white)

pub end_init : (s : List ℕ) {o : List Range} {v : ℕ} → o ≡ [] → v ≡ 0 → ScanAt (ends_with_white s) (end_from replacement o v) s 0
unfolding ends_with_white scalars end_from
end_init s e f = rw (e, f) (record { within = omega arith; same = refl })

module _ (d : ℕ) (o : List Range) (v b : ℕ) (s : List ℕ) (more low high : ℕ) {r : Bool} {v' d' : ℕ} (e : r ≡ breaks_character o b) (f : trail_columns more low high ≡ expected_after o b) (g : v' ≡ value_after o v b) where
  pub end-whole : d' ≡ v' → eqb more 0 ≡ true → end_from d o v (b ∷ s) ≡ end_from d' (trail_columns more low high) v' s
  unfolding end_from
  end-whole k z = rw (last_step o v d b s, ← f, whole more low high, z, k, ← g)

  pub end-broken : d' ≡ replacement → eqb more 0 ≡ false → r ≡ true → end_from d o v (b ∷ s) ≡ end_from d' (trail_columns more low high) v' s
  unfolding end_from
  end-broken k z y = rw (last_step o v d b s, ← f, whole more low high, z, ← e, y, k, ← g)

  pub end-kept : d' ≡ d → eqb more 0 ≡ false → r ≡ false → end_from d o v (b ∷ s) ≡ end_from d' (trail_columns more low high) v' s
  unfolding end_from
  end-kept k z n = rw (last_step o v d b s, ← f, whole more low high, z, ← e, n, k, ← g)

pub end-done : (d more low high v : ℕ) {w : Bool} → eqb more 0 ≡ true → w ≡ is_white d → w ≡ end_from d (trail_columns more low high) v []
unfolding end_from decode get_last_d
end-done d zero low high v z e = e
end-done d (suc n) low high v z e = absurd (true≢false (sym z ∙ eqb-suc-zero n))

pub end-open : (d more low high v : ℕ) {w : Bool} → eqb more 0 ≡ false → w ≡ false → w ≡ end_from d (trail_columns more low high) v []
unfolding end_from decode get_last_d
end-open d zero low high v z e = absurd (true≢false z)
end-open d (suc n) low high v z e = e ∙ sym no-white

pub ruleset white-laws = (start-broken, start_none, scan)

pub ruleset white_ends = (ends-part)
