-- Laws of the report: listing some entries and then others is listing both; what is counted, what is written, and what is read back.
use mathlib.Core.Path.{◌≡◌, refl, sym, ◌∙◌}
use mathlib.Core.Bool.{Bool, true, false}
use mathlib.Core.List.{List, [], ◌∷◌, ◌++◌, append_assoc, append-nil}
use Prim.Native.Nat.{ℕ, zero, suc, min, ◌+◌, ◌-◌, ◌*◌, ◌^◌, ◌≤◌, ◌<◌}
use native.Mathlib.Nat.{zero-add, sub-zero, le_refl}
use native.Mathlib.Numerals.{add-one}
use native.Mathlib.Omega.{arith}
use lib.Dec.{leb}
use lib.ListN.{length, get_or, set, take, drop, length-set, length-append, length-drop, take-append-drop, drop_of_length-le}
use lib.Seq.{paste, paste-zero, paste-suc, take-length, take_all, take-nil, drop-drop, take-append_seam, drop-append_seam}
use borrow.Author.Rules.{rules}
use borrow.Author.Tests.{leb-true, leb-false, le-leb, lt-leb}
use borrow.Rule.Slice.PartMut.{put_mid}
use Rattle.leaves.specs.declared.sheet.records.Span.{Span}
use Rattle.leaves.specs.Report.Entries.{Entry, words, head_words, flat, ◌⊕◌, list_if, cap, capped, empty_tally, counted, after, put, WritesEntries, fitting, entries_in}
use Rattle.std.specs.Prelude.{if◌then◌else◌}
use Rattle.leaves.specs.Text.Over.{over}
use Rattle.leaves.specs.declared.report.entries.Tally.{Tally}
use Rattle.leaves.proofs.text.OverLaws.{length_over, over-fits, over-nil, over-not, over-two}

-- ---- joining

pub join-assoc : (es fs gs : List Entry) → (es ⊕ fs) ⊕ gs ≡ es ⊕ (fs ⊕ gs)
unfolding ◌⊕◌
join-assoc es fs gs = append_assoc es fs gs

pub join-none : (es : List Entry) → es ⊕ [] ≡ es
unfolding ◌⊕◌
join-none es = append-nil es

pub none-join : (es : List Entry) → [] ⊕ es ≡ es
unfolding ◌⊕◌
none-join es = refl

pub length-join : (es fs : List Entry) → length (es ⊕ fs) ≡ length es + length fs
unfolding ◌⊕◌
length-join es fs = length-append es fs

pub length-if : (b : Bool) (rule : ℕ) (span : Span) (path : List ℕ) → length (list_if b rule span path) ≡ (if b then 1 else 0)
unfolding list_if
length-if true rule span path = refl
length-if false rule span path = refl

pub few-if : (b : Bool) (rule : ℕ) (span : Span) (path : List ℕ) → length (list_if b rule span path) ≤ 1
unfolding list_if
few-if true rule span path = omega arith
few-if false rule span path = omega arith

pub after-append : (s : Tally) (es fs : List Entry) → after s (es ⊕ fs) ≡ after (after s es) fs
unfolding after ◌⊕◌
after-append s [] fs = refl
after-append s (e ∷ es) fs = after-append (counted s (length (words e))) es fs

pub put-append : (w : List ℕ) (s : Tally) (es fs : List Entry) → put w s (es ⊕ fs) ≡ put (put w s es) (after s es) fs
unfolding after put ◌⊕◌
put-append w s [] fs = refl
put-append w s (e ∷ es) fs = put-append (over w s.words (words e)) (counted s (length (words e))) es fs

pub lists-none : {s : Tally} {x : List ℕ} → WritesEntries s s x x []
unfolding after put
lists-none = record { tally = refl; written = refl }

pub lists-then : {s t u : Tally} {x y z : List ℕ} {es fs : List Entry} → WritesEntries s t x y es → WritesEntries t u y z fs → WritesEntries s u x z (es ⊕ fs)
lists-then {s} {x = x} {es = es} {fs} a b =
    record {
      tally = rw (after-append s es fs, ← a.tally) b.tally;
      written = rw (put-append x s es fs, ← a.tally, ← a.written) b.written;
    }

-- ---- an entry's words

pub length-words : (e : Entry) → length (words e) ≡ head_words + length e.path
unfolding words
length-words e = omega arith

-- ---- the functions of `entries`, one law for each way through

-- `copy_at`: the first i words of s stand over those of d from `at` on
pub record Copying (d : List ℕ) (at : ℕ) (s : List ℕ) (i : ℕ) (e : List ℕ) : Type 0 where
  pub inside : i ≤ length s
  pub same : length e ≡ length d
  pub is : e ≡ paste d at s i

pub copy_start : (d : List ℕ) (at : ℕ) (s : List ℕ) → Copying d at s 0 d
copy_start d at s = record { inside = omega arith; same = refl; is = paste-zero d at s }

module _ {d s e : List ℕ} {at i : ℕ} (copy : Copying d at s i e) (room : at + length s ≤ length d) where
  pub copy-next : i < length s → Copying d at s (i + 1) (set e (at + i) (get_or s i 0))
  copy-next h =
      record { inside = omega arith; same = length-set e (at + i) (get_or s i 0) ∙ copy.same; is = rw (copy.is, add-one i) (paste-suc d at s i 0 (omega arith) h) }

  pub copy-end : length s ≤ i → e ≡ over d at s
  copy-end h = let n : i ≡ length s = omega arith in copy.is ∙ rw (n, take-length) (sym (over-fits d at s room))

-- `write_entry`: the head, and the path behind it; or nothing
module _ (w p : List ℕ) (rule : ℕ) (span : Span) where
  pub write_done : {x y : List ℕ} → head_words + length p ≤ length w → x ≡ over w 0 (rule ∷ span.flag ∷ span.start ∷ span.end ∷ length p ∷ []) → y ≡ over x head_words p → y ≡ over w 0 (words (record { rule = rule; span = span; path = p }))
  unfolding words
  write_done {x} h f g = let two = over-two w (rule ∷ span.flag ∷ span.start ∷ span.end ∷ length p ∷ []) p 0 (omega arith) in g ∙ rw f two

  pub write-none : length w < head_words + length p → w ≡ over w 0 (words (record { rule = rule; span = span; path = p }))
  write-none h = sym (over-not w 0 _ (omega (arith, length-words (record { rule = rule; span = span; path = p }))))

-- `write_at`: the tail that was lent is back with the entry at its front; or there is no room for an entry
module _ (x : List ℕ) (at : ℕ) where
  tail-is : take (length x - at) (drop at x) ≡ drop at x
  tail-is = take_all (length x - at) (drop at x) (simp length-drop (le_refl _))

  back_is : (y : List ℕ) → put_mid at (length x - at) x y ≡ take at x ++ y
  back_is y = simp (drop_of_length-le (drop at x) {i = length x - at} (simp length-drop (le_refl _)), append-nil)

  over-tail : (e : List ℕ) → at ≤ length x → take at x ++ over (drop at x) 0 e ≡ over x at e
  over-tail e h = go (leb (at + length e) (length x)) refl
    where
      go : (b : Bool) → leb (at + length e) (length x) ≡ b → take at x ++ over (drop at x) 0 e ≡ over x at e
      go true l =
          let fits = leb-true (at + length e) (length x) l in
          rw (over-fits (drop at x) 0 e (simp (zero-add, length-drop) (omega arith)), over-fits x at e fits) (simp (zero-add, drop-drop, append_assoc))
      go false l =
          let short = leb-false (at + length e) (length x) l in
          rw (over-not (drop at x) 0 e (simp (zero-add, length-drop) (omega arith)), over-not x at e short) (simp take-append-drop)

  module _ (e : List ℕ) where
    pub tail-back : {y : List ℕ} → at ≤ length x → y ≡ over (take (length x - at) (drop at x)) 0 e → put_mid at (length x - at) x y ≡ over x at e
    tail-back {y} h q = back_is y ∙ rw (q, tail-is) (over-tail e h)

    pub tail-past : length x < at → x ≡ over x at e
    tail-past h = sym (over-not x at e (omega arith))

pub ruleset reports = (copy_start, copy-next, copy-end, write_done, write-none, tail-back, tail-past, rules)

-- ---- counting

pub after-words : (s : Tally) (es : List Entry) → s.words ≤ cap → (after s es).words ≡ capped s.words (length (flat es))
unfolding after flat
after-words s [] h = omega arith
after-words s (e ∷ es) h = after-words (counted s (length (words e))) es (omega arith) ∙ simp length-append (omega arith)

pub after-entries : (s : Tally) (es : List Entry) → s.entries ≤ cap → (after s es).entries ≡ capped s.entries (length es)
unfolding after
after-entries s [] h = omega arith
after-entries s (e ∷ es) h = after-entries (counted s (length (words e))) es (omega arith) ∙ omega arith

pub some_words : (e : Entry) → 0 < length (words e)
some_words e = omega (arith, length-words e)

pub few-entries : (es : List Entry) → length es ≤ length (flat es)
unfolding flat
few-entries [] = omega arith
few-entries (e ∷ es) = simp length-append (omega (arith, few-entries es, some_words e))

-- the tally of a whole list: its words and its entries, up to the cap
module _ (es : List Entry) where
  pub words-counted : (after empty_tally es).words ≡ min cap (length (flat es))
  words-counted = after-words empty_tally es (omega arith) ∙ rw zero-add

  pub entries-counted : (after empty_tally es).entries ≡ min cap (length es)
  entries-counted = after-entries empty_tally es (omega arith) ∙ rw zero-add

  -- a report is short just where the list has more words than it
  module _ (x : List ℕ) (room : length x * 4 < 2 ^ 63) where
    pub counted-fits : (after empty_tally es).words ≤ length x → length (flat es) ≤ length x
    counted-fits h = omega (arith, words-counted)

    pub counted-short : length x < (after empty_tally es).words → length x < length (flat es)
    counted-short h = omega (arith, words-counted)

    -- where the counted words fit into a report, nothing was capped
    pub counted-whole : (after empty_tally es).words ≤ length x → after empty_tally es ≡ record { words = length (flat es); entries = length es }
    counted-whole h =
        let a : (after empty_tally es).words ≡ length (flat es) = omega (arith, words-counted) in
        let b : (after empty_tally es).entries ≡ length es = omega (arith, words-counted, entries-counted, few-entries es) in
        λ i. record { words = a i; entries = b i }

-- ---- writing: what is written is the longest beginning of the list that fits

pub put-past : (w : List ℕ) (s : Tally) (es : List Entry) → length w < cap → length w ≤ s.words → put w s es ≡ w
unfolding put
put-past w s [] c h = refl
put-past w s (e ∷ es) c h = rw (over-not w s.words (words e) (omega (arith, some_words e))) (put-past w (counted s (length (words e))) es c (omega (arith, some_words e)))

fitting-here : (n : ℕ) (e : Entry) (es : List Entry) → length (words e) ≤ n → fitting n (e ∷ es) ≡ e ∷ fitting (n - length (words e)) es
unfolding fitting
fitting-here n e es h = rw (le-leb _ _ h)

fitting-not : (n : ℕ) (e : Entry) (es : List Entry) → n < length (words e) → fitting n (e ∷ es) ≡ []
unfolding fitting
fitting-not n e es h = rw (lt-leb _ _ h)

pub fitting-all : (n : ℕ) (es : List Entry) → length (flat es) ≤ n → fitting n es ≡ es
unfolding flat fitting
fitting-all n [] h = refl
fitting-all n (e ∷ es) h =
    let k : length (words e ++ flat es) ≡ length (words e) + length (flat es) = length-append (words e) (flat es) in
    fitting-here n e es (omega arith) ∙ rw (fitting-all (n - length (words e)) es (omega arith))

-- the beginning that fits, by whether its first entry does
fitting-cases : (P : List Entry → Type 0) (n : ℕ) (e : Entry) (es : List Entry) → (length (words e) ≤ n → P (e ∷ fitting (n - length (words e)) es)) → P [] → P (fitting n (e ∷ es))
fitting-cases P n e es f g = go (leb (length (words e)) n) refl
  where
    go : (b : Bool) → leb (length (words e)) n ≡ b → P (fitting n (e ∷ es))
    go true l = let h = leb-true (length (words e)) n l in rw (fitting-here n e es h) (f h)
    go false l = rw (fitting-not n e es (leb-false (length (words e)) n l)) g

pub fitting-fits : (n : ℕ) (es : List Entry) → length (flat (fitting n es)) ≤ n
unfolding flat fitting
fitting-fits n [] = omega arith
fitting-fits n (e ∷ es) = fitting-cases (λ fs. length (flat fs) ≤ n) n e es (λ h. simp length-append (omega (arith, fitting-fits (n - length (words e)) es))) (omega arith)

-- and no longer beginning fits
pub fitting-longest : (n k : ℕ) (es : List Entry) → length (flat (take k es)) ≤ n → length (take k es) ≤ length (fitting n es)
unfolding flat
fitting-longest n k [] h = rw take-nil (omega arith)
fitting-longest n zero (e ∷ es) h = omega arith
fitting-longest n (suc k) (e ∷ es) h =
    let l : length (words e ++ flat (take k es)) ≡ length (words e) + length (flat (take k es)) = length-append (words e) (flat (take k es)) in
    rw (fitting-here n e es (omega arith)) (omega (arith, fitting-longest (n - length (words e)) k es (omega arith)))

-- the entries from a tally on
abbrev pub FromTally : List ℕ → Tally → List Entry → Type 0
FromTally w s es = length w < cap → s.words ≤ length w → put w s es ≡ over w s.words (flat (fitting (length w - s.words) es))

put-here : (w : List ℕ) (s : Tally) (e : Entry) (es : List Entry) → FromTally (over w s.words (words e)) (counted s (length (words e))) es → FromTally w s (e ∷ es)
unfolding put flat
put-here w s e es later c h = go (leb (length (words e)) (length w - s.words)) refl
  where
    go : (b : Bool) → leb (length (words e)) (length w - s.words) ≡ b → put w s (e ∷ es) ≡ over w s.words (flat (fitting (length w - s.words) (e ∷ es)))
    go true l =
        let fits = leb-true (length (words e)) (length w - s.words) l in
        let n : length (over w s.words (words e)) ≡ length w = length_over w s.words (words e) in
        let q : (counted s (length (words e))).words ≡ s.words + length (words e) = omega arith in
        let d : length w - (s.words + length (words e)) ≡ length w - s.words - length (words e) = omega arith in
        let fs = fitting (length w - s.words - length (words e)) es in
        let small : length (flat fs) ≤ length w - s.words - length (words e) = fitting-fits (length w - s.words - length (words e)) es in
        rw (fitting-here (length w - s.words) e es fits) (later (omega arith) (omega arith) ∙ rw (q, n, d) (over-two w (words e) (flat fs) s.words (omega arith)))
    go false l =
        let short = leb-false (length (words e)) (length w - s.words) l in
        rw (fitting-not (length w - s.words) e es short, over-nil, over-not w s.words (words e) (omega arith)) (put-past w (counted s (length (words e))) es c (omega arith))

pub put-fitting : (w : List ℕ) (s : Tally) (es : List Entry) → FromTally w s es
unfolding put flat fitting
put-fitting w s [] = λ c h. sym (over-nil w s.words)
put-fitting w s (e ∷ es) = put-here w s e es (put-fitting (over w s.words (words e)) (counted s (length (words e))) es)

-- the whole list, into a report that is a slice: what fits of it is written at the front, and the words past that stay
module _ (x : List ℕ) (es : List Entry) (room : length x * 4 < 2 ^ 63) where
  pub put-start : put x empty_tally es ≡ flat (fitting (length x) es) ++ drop (length (flat (fitting (length x) es))) x
  put-start =
      put-fitting x empty_tally es (omega arith) (omega arith) ∙ rw sub-zero (over-fits x 0 (flat (fitting (length x) es)) (simp zero-add (fitting-fits (length x) es)) ∙ rw zero-add)

  -- a list that fits is written whole
  pub put_whole : length (flat es) ≤ length x → put x empty_tally es ≡ flat es ++ drop (length (flat es)) x
  put_whole h = rw (fitting-all (length x) es h) at put-start

-- ---- reading back

pub read_back : (es : List Entry) (rest : List ℕ) → entries_in (length es) (flat es ++ rest) ≡ es
unfolding entries_in flat words
read_back [] rest = refl
read_back (e ∷ es) rest = rw (append_assoc e.path (flat es) rest, take-append_seam, drop-append_seam, read_back es rest)
