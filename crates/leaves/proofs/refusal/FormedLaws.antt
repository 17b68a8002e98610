-- A sheet that is accepted holds a tree that is formed.
use Rattle.std.specs.Prelude.{Ok, is_ok}
use mathlib.Core.Path.{◌≡◌, refl, ap, ◌∙◌}
use mathlib.Core.Bool.{Bool, true, false, false≢true}
use mathlib.Core.List.{List}
use Prim.Native.Nat.{ℕ, zero, suc, ◌+◌, ◌-◌, ◌%◌, ◌<◌, ◌≤◌}
use native.Mathlib.Nat.{add-zero, zero-add}
use native.Mathlib.Numerals.{add-one}
use native.Mathlib.Omega.{arith}
use borrow.Author.Tests.{not-false, ltb-true, ltb-false, eqb-true}
use lib.Dec.{eqb, ltb}
use lib.ListN.{length}
use Rattle.leaves.specs.Text.Utf8.{is_utf8}
use Rattle.leaves.specs.Sheet.Records.{record_at, record_words, records_of}
use Rattle.leaves.specs.Sheet.Forest.{no_tree, forest_at, forest_of, under, size}
use Rattle.leaves.specs.Refusal.Groups.{parent_of_blocks, parent_group}
use Rattle.leaves.specs.Refusal.Places.{before_children, after_child, open_at}
use Rattle.leaves.specs.Sheet.Texts.{text_of, text_outside, text_ill_formed}
use Rattle.leaves.specs.Refusal.Verdict.{or_else}
use Rattle.leaves.specs.Refusal.Limits.{most_records, most_bytes}
use Rattle.leaves.specs.Refusal.Record.{level_before}
use Rattle.leaves.specs.Refusal.Tags.{tags_from, lacks_tags}
use Rattle.leaves.specs.Refusal.TagsPlaced.{Placed}
use Rattle.leaves.specs.Refusal.Judge.{judge_from, judge_sheet}
use Rattle.leaves.specs.Refusal.Formed.{NamedText, Head, Formed, Sound}
use Rattle.leaves.specs.declared.sheet.records.Text.{Text}
use Rattle.leaves.proofs.text.TestLaws.{or_left, or_right}
use Rattle.leaves.proofs.refusal.OpenLaws.{open-kid, open-same, open-past}
use Rattle.leaves.proofs.refusal.PassLaws.{Passed, deep}
use Rattle.leaves.proofs.sheet.SiblingLaws.{level-past}
use Rattle.leaves.specs.Sheet.Siblings.{fold_siblings}
use Rattle.leaves.proofs.refusal.VerdictLaws.{both_first, both-second}
use Rattle.leaves.proofs.refusal.AcceptLaws.{every-passed}
use Rattle.leaves.proofs.refusal.TagLaws.{next_level}
use Rattle.leaves.proofs.sheet.ForestLaws.{under-end, under-out, under-in, under-fits, all_under}

-- ---- one record
named : (bytes : List ℕ) (t : Text) → text_outside bytes t ≡ false → text_ill_formed bytes t ≡ false → NamedText bytes t
unfolding text_outside text_ill_formed
named bytes t a b = record { inside = ltb-false _ _ a; formed = not-false (is_utf8 (text_of bytes t)) b }

module _ (w bytes : List ℕ) (n : ℕ) (pass : (i : ℕ) → i < n → Passed bytes (record_at w i) (level_before w i) (open_at w (record_at w i).level i)) (tags : (i : ℕ) → i < n → lacks_tags w n i ≡ false) where
  placed : Placed w n
  placed = record { level = λ i h. (pass i h).level; place = λ i h. (pass i h).place }

  head : (i l : ℕ) → i < n → (record_at w i).level ≡ l + 1 → Head bytes l (open_at w (l + 1) i) (record_at w i) (under w n (i + 1) (record_at w i).level)
  unfolding lacks_tags
  head i l h e =
      let p = pass i h in
      let d = deep (level_before w i) (record_at w i).level p.level in
      record {
        kind = p.kind;
        level = e;
        most = d.most;
        place = rw (ap (λ m. open_at w m i) e) at p.place;
        field = p.field;
        first = named bytes (record_at w i).first (or_left _ (text_outside bytes (record_at w i).second) p.inside) (or_left _ (text_ill_formed bytes (record_at w i).second) p.formed);
        second = named bytes (record_at w i).second (or_right (text_outside bytes (record_at w i).first) _ p.inside) (or_right (text_ill_formed bytes (record_at w i).first) _ p.formed);
        tags = rw (add-one i) (tags i h);
      }

  -- the trees from record i on that are deeper than l, where record i is at most one level deeper
  abbrev From : ℕ → ℕ → Type 0
  From i l = i ≤ n → (i < n → (record_at w i).level ≤ l + 1) → Formed bytes l (open_at w (l + 1) i) (under w n i l)

  formed-step : (i l : ℕ) → i < n → l < (record_at w i).level → (record_at w i).level ≤ l + 1 → ((j m : ℕ) → i < j → From j m) → Formed bytes l (open_at w (l + 1) i) (under w n i l)
  unfolding Formed
  formed-step i l h d u later =
      let e : (record_at w i).level ≡ l + 1 = omega arith in
      let kids-at : Formed bytes (l + 1) (open_at w (l + 1 + 1) (i + 1)) (under w n (i + 1) (l + 1)) = later (i + 1) (l + 1) (omega arith) (omega arith) (λ g. omega (arith, next_level w n placed i g)) in
      let kids : Formed bytes (l + 1) (before_children (parent_group (record_at w i).kind (record_at w i).a)) (under w n (i + 1) (record_at w i).level) = rw e (rw (open-kid w i (l + 1) e) at kids-at) in
      let s = size (under w n (i + 1) (record_at w i).level) in
      let s-is : size (under w n (i + 1) (l + 1)) ≡ s = rw e refl in
      let past : open_at w (l + 1) (i + 1 + s) ≡ after_child (open_at w (l + 1) i) (record_at w i).kind = open-past w n (l + 1) s (i + 1) s-is ∙ open-same w i (l + 1) e in
      let fits : i + 1 + s ≤ n = under-fits w n (i + 1) (record_at w i).level (omega arith) in
      let rest : Formed bytes l (after_child (open_at w (l + 1) i) (record_at w i).kind) (under w n (i + 1 + s) l) = rw past at (later (i + 1 + s) l (omega arith) fits (λ g. level-past w n (l + 1) s (i + 1) s-is g)) in
      rw (under-in w n i l h d) (head i l h e, kids, rest)

  formed-none : (i l : ℕ) → under w n i l ≡ no_tree → Formed bytes l (open_at w (l + 1) i) (under w n i l)
  unfolding Formed
  formed-none i l e = rw e tt

  formed-from : (k i l : ℕ) → n - i ≤ k → From i l
  formed-from zero i l b h edge = formed-none i l (under-end w n i l (omega arith))
  formed-from (suc k) i l b h edge = go (ltb i n) (ltb l (record_at w i).level) refl refl (λ j m g. formed-from k j m (omega arith))
    where
      go : (t u : Bool) → ltb i n ≡ t → ltb l (record_at w i).level ≡ u → ((j m : ℕ) → i < j → From j m) → Formed bytes l (open_at w (l + 1) i) (under w n i l)
      go false u x y later = formed-none i l (under-end w n i l (ltb-false _ _ x))
      go true false x y later = formed-none i l (under-out w n i l (ltb-true _ _ x) (ltb-false _ _ y))
      go true true x y later = formed-step i l (ltb-true _ _ x) (ltb-true _ _ y) (edge (ltb-true _ _ x)) later

  some_level : (m : ℕ) → m < n → 0 < (record_at w (0 + m)).level
  some_level m h = rw zero-add (deep (level_before w m) (record_at w m).level (pass m h).level).some

  pub formed-all : Formed bytes 0 (before_children parent_of_blocks) (forest_at w n 0)
  unfolding open_at fold_siblings level_before
  formed-all = rw (← all_under w n 0 some_level) (formed-from n 0 0 (omega arith) (omega arith) (λ h. (deep 0 (record_at w 0).level (pass 0 h).level).near))

-- ---- the whole sheet
each-tag : (w : List ℕ) (n k i m : ℕ) → m < k → is_ok (tags_from w n k i) ≡ true → lacks_tags w n (i + m) ≡ false
unfolding tags_from
each-tag w n zero i m b h = absurd (omega arith)
each-tag w n (suc k) i m b h = go (lacks_tags w n i) refl m b (λ p q. each-tag w n k (suc i) p q)
  where
    go : (t : Bool) → lacks_tags w n i ≡ t → (m : ℕ) → m < suc k → ((p : ℕ) → p < k → is_ok (tags_from w n k (suc i)) ≡ true → lacks_tags w n (suc i + p) ≡ false) → lacks_tags w n (i + m) ≡ false
    go true e m b later = absurd (false≢true (rw e at h))
    go false e zero b later = rw add-zero e
    go false e (suc m) b later = let p : i + suc m ≡ suc i + m = omega arith in rw p (later m (omega arith) (rw e at h))

-- what an accepted sheet has passed
record Through (w bytes : List ℕ) : Type 0 where
  pub even : length w % record_words ≡ 0
  pub few : records_of w ≤ most_records
  pub short : length bytes ≤ most_bytes
  pub records : is_ok (judge_from w bytes (records_of w) 0) ≡ true
  pub tags : is_ok (tags_from w (records_of w) (records_of w) 0) ≡ true

through : (w bytes : List ℕ) → judge_sheet w bytes ≡ Ok tt → Through w bytes
unfolding judge_sheet
through w bytes j = go (eqb (length w % record_words) 0) (ltb most_records (records_of w)) (ltb most_bytes (length bytes)) refl refl refl
  where
    go : (t u v : Bool) → eqb (length w % record_words) 0 ≡ t → ltb most_records (records_of w) ≡ u → ltb most_bytes (length bytes) ≡ v → Through w bytes
    go false u v a b c = absurd (false≢true (ap is_ok (rw a at j)))
    go true true v a b c = absurd (false≢true (ap is_ok (rw (a, b) at j)))
    go true false true a b c = absurd (false≢true (ap is_ok (rw (a, b, c) at j)))
    go true false false a b c =
        let both : or_else (judge_from w bytes (records_of w) 0) (tags_from w (records_of w) (records_of w) 0) ≡ Ok tt = rw (a, b, c) at j in
        record {
          even = eqb-true _ _ a;
          few = ltb-false _ _ b;
          short = ltb-false _ _ c;
          records = both_first (judge_from w bytes (records_of w) 0) (tags_from w (records_of w) (records_of w) 0) (ap is_ok both);
          tags = both-second (judge_from w bytes (records_of w) 0) (tags_from w (records_of w) (records_of w) 0) (ap is_ok both);
        }

-- each record of it passed, where it stands
pub each-passed : (w bytes : List ℕ) → judge_sheet w bytes ≡ Ok tt → (i : ℕ) → i < records_of w → Passed bytes (record_at w i) (level_before w i) (open_at w (record_at w i).level i)
each-passed w bytes j = every-passed w bytes (records_of w) (through w bytes j).records

pub accepted : (w bytes : List ℕ) → judge_sheet w bytes ≡ Ok tt → Sound w bytes
unfolding forest_of
accepted w bytes j =
    let t = through w bytes j in
    let even : length w % 12 ≡ 0 = t.even in
    let tags : (i : ℕ) → i < records_of w → lacks_tags w (records_of w) i ≡ false = λ i h. rw zero-add at (each-tag w (records_of w) (records_of w) 0 i h t.tags) in
    record {
      whole = omega arith;
      few = t.few;
      short = t.short;
      shallow = λ i h. (deep (level_before w i) (record_at w i).level (each-passed w bytes j i h).level).most;
      tree = formed-all w bytes (records_of w) (each-passed w bytes j) tags;
    }
