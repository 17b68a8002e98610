-- Refusal 10: once the records are placed, a container's tags are the two records after it.
use Rattle.std.specs.Prelude.{Err, Ok, if◌then◌else◌}
use mathlib.Core.Path.{◌≡◌, refl, sym, ap, ◌∙◌}
use mathlib.Core.Bool.{Bool, true, false, not, ◌&&◌, ◌||◌, true≢false, and-false, and-true}
use mathlib.Core.List.{List}
use Prim.Native.Nat.{ℕ, suc, ◌+◌, ◌-◌, ◌<◌, ◌≤◌}
use native.Mathlib.Numerals.{add-one}
use native.Mathlib.Nat.{sub-zero, add-zero}
use native.Mathlib.Omega.{arith}
use borrow.Author.Rules.{rules}
use borrow.Author.Tests.{not-false, le-ltb, ltb-true, ltb-false, eq-eqb, ne_eqb, eqb-true}
use lib.Dec.{eqb, ltb, leb}
use Rattle.leaves.specs.Sheet.Kinds.{html_container, html_tag}
use Rattle.leaves.specs.Sheet.Records.{record_at}
use Rattle.leaves.specs.Sheet.Forest.{Forest, no_tree, tree, under, size, count_kind}
use Rattle.leaves.specs.Refusal.Groups.{parent_of_tags_and_blocks, parent_of_tags_and_inlines, parent_group, other_group}
use Rattle.leaves.specs.Refusal.Places.{holds, place_in, place_of, before_children, after_child, misplaced, open_at}
use Rattle.leaves.specs.Refusal.Record.{level_before}
use Rattle.leaves.specs.Refusal.Tags.{lacks_tags, tags_from}
use Rattle.leaves.specs.Refusal.TagsPlaced.{Placed, tag_under}
use Rattle.leaves.specs.declared.sheet.records.Rec.{Rec}
use Rattle.leaves.specs.declared.refusal.places.Open.{Open}
use Rattle.leaves.specs.declared.refusal.verdict.Malformed.TheVariants.{TagsMissing}
use Rattle.leaves.proofs.text.TestLaws.{or_right}
use Rattle.leaves.proofs.refusal.OpenLaws.{open-kid, open-same}
use Rattle.leaves.proofs.refusal.PassLaws.{Deep, deep}
use Rattle.leaves.proofs.sheet.ForestLaws.{under-end, under-out, under-in}

-- ---- what may stand in a container
pub container-group : (a : ℕ) → (eqb (parent_group html_container a) parent_of_tags_and_blocks || eqb (parent_group html_container a) parent_of_tags_and_inlines) ≡ true
unfolding parent_group other_group
container-group a = go (eqb a 0) refl
  where
    go : (t : Bool) → eqb a 0 ≡ t → (eqb (parent_group html_container a) parent_of_tags_and_blocks || eqb (parent_group html_container a) parent_of_tags_and_inlines) ≡ true
    go true e = rw e
    go false e = rw e

-- under a container with fewer than two tags only a tag is not misplaced
pub container-tag : (o : Open) (k : ℕ) → (eqb o.group parent_of_tags_and_blocks || eqb o.group parent_of_tags_and_inlines) ≡ true → ltb o.tags 2 ≡ true → misplaced o k ≡ false → eqb k html_tag ≡ true
unfolding misplaced
container-tag o k c t h =
    let place = place_of o.group k in
    let last : ((eqb o.group parent_of_tags_and_blocks || eqb o.group parent_of_tags_and_inlines) && not (eqb k html_tag) && ltb o.tags 2) ≡ false = or_right (eqb place 0 || ltb place o.stage || eqb k html_tag && leb 2 o.tags) _ h in
    not-false (eqb k html_tag) (rw (c, t, and-true) at last)

-- nothing may stand under a tag
pub nothing-under : (a k : ℕ) → misplaced (before_children (parent_group html_tag a)) k ≡ false → ⊥
unfolding misplaced before_children parent_group other_group place_of holds place_in
nothing-under a k h = true≢false h

-- ---- counting
count_none : (k : ℕ) → count_kind k no_tree ≡ 0
unfolding count_kind
count_none k = refl

count-one : (k : ℕ) (r : Rec) (kids rest : Forest) → r.kind ≡ k → count_kind k (tree r kids rest) ≡ suc (count_kind k rest)
unfolding count_kind
count-one k r kids rest e = rw (eq-eqb r.kind k e)

many : (x : ℕ) → ltb (suc (suc x)) 2 ≡ false
many x = le-ltb (suc (suc x)) 2 (omega arith)

module _ (w : List ℕ) (n i l : ℕ) where
  tag-end : ltb i n ≡ false → tag_under w n i l ≡ false
  unfolding tag_under
  tag-end a = rw a

  tag-out : ltb l (record_at w i).level ≡ false → tag_under w n i l ≡ false
  unfolding tag_under
  tag-out b = rw (b, and-false, and-false)

  tag-there : ltb i n ≡ true → (record_at w i).kind ≡ html_tag → ltb l (record_at w i).level ≡ true → tag_under w n i l ≡ true
  unfolding tag_under
  tag-there a e b = rw (a, eq-eqb (record_at w i).kind html_tag e, b)

-- ---- levels
module _ (w : List ℕ) (n : ℕ) (p : Placed w n) where
  at_level : (i : ℕ) → i < n → Deep (level_before w i) (record_at w i).level
  at_level i h = deep (level_before w i) (record_at w i).level (p.level i h)

  level-after : (i : ℕ) → level_before w (i + 1) ≡ (record_at w i).level
  unfolding level_before
  level-after i = rw (add-one i)

  pub next_level : (i : ℕ) → i + 1 < n → (record_at w (i + 1)).level ≤ (record_at w i).level + 1
  next_level i h = rw (level-after i) at (at_level (i + 1) h).near

  -- the record after a record and deeper is its first child
  first-child : (i : ℕ) → i + 1 < n → (record_at w i).level < (record_at w (i + 1)).level → misplaced (before_children (parent_group (record_at w i).kind (record_at w i).a)) (record_at w (i + 1)).kind ≡ false
  first-child i h d =
      let e : (record_at w (i + 1)).level ≡ (record_at w i).level + 1 = omega (arith, next_level i h) in
      rw (e, open-kid w i (record_at w i).level refl) at (p.place (i + 1) h)

  -- no record stands under a tag
  tag-flat : (i : ℕ) → (record_at w i).kind ≡ html_tag → i + 1 < n → (record_at w (i + 1)).level ≤ (record_at w i).level
  tag-flat i e h = go (ltb (record_at w i).level (record_at w (i + 1)).level) refl
    where
      group : parent_group (record_at w i).kind (record_at w i).a ≡ parent_group html_tag (record_at w i).a
      group = ap (λ k. parent_group k (record_at w i).a) e

      go : (t : Bool) → ltb (record_at w i).level (record_at w (i + 1)).level ≡ t → (record_at w (i + 1)).level ≤ (record_at w i).level
      go false a = ltb-false _ _ a
      go true a = absurd (nothing-under (record_at w i).a (record_at w (i + 1)).kind (rw group at (first-child i h (ltb-true _ _ a))))

  tag-alone : (i : ℕ) → (record_at w i).kind ≡ html_tag → under w n (i + 1) (record_at w i).level ≡ no_tree
  tag-alone i e = go (ltb (i + 1) n) refl
    where
      go : (t : Bool) → ltb (i + 1) n ≡ t → under w n (i + 1) (record_at w i).level ≡ no_tree
      go false a = under-end w n (i + 1) (record_at w i).level (ltb-false _ _ a)
      go true a = under-out w n (i + 1) (record_at w i).level (ltb-true _ _ a) (tag-flat i e (ltb-true _ _ a))

  -- ---- the two records after a container
  module _ (i : ℕ) (c : (record_at w i).kind ≡ html_container) where
    group : parent_group (record_at w i).kind (record_at w i).a ≡ parent_group html_container (record_at w i).a
    group = ap (λ k. parent_group k (record_at w i).a) c

    first-tag : i + 1 < n → (record_at w i).level < (record_at w (i + 1)).level → (record_at w (i + 1)).kind ≡ html_tag
    unfolding before_children
    first-tag h d = eqb-true _ _ (container-tag (before_children (parent_group html_container (record_at w i).a)) (record_at w (i + 1)).kind (container-group (record_at w i).a) refl (rw group at (first-child i h d)))

    module _ (h : i + 1 < n) (d : (record_at w i).level < (record_at w (i + 1)).level) where
      deeper-by-one : (record_at w (i + 1)).level ≡ (record_at w i).level + 1
      deeper-by-one = omega (arith, next_level i h)

      second-tag : i + 1 + 1 < n → (record_at w i).level < (record_at w (i + 1 + 1)).level → (record_at w (i + 1 + 1)).kind ≡ html_tag
      unfolding before_children after_child
      second-tag h2 d2 =
          let e : (record_at w (i + 1 + 1)).level ≡ (record_at w i).level + 1 = omega (arith, tag-flat (i + 1) (first-tag h d) h2, deeper-by-one) in
          let o : open_at w ((record_at w i).level + 1) (i + 1 + 1) ≡ after_child (before_children (parent_group html_container (record_at w i).a)) html_tag = open-same w (i + 1) ((record_at w i).level + 1) deeper-by-one ∙ rw (open-kid w i (record_at w i).level refl, group) (ap (after_child (before_children (parent_group html_container (record_at w i).a))) (first-tag h d)) in
          eqb-true _ _ (container-tag (after_child (before_children (parent_group html_container (record_at w i).a)) html_tag) (record_at w (i + 1 + 1)).kind (container-group (record_at w i).a) refl (rw (e, o) at (p.place (i + 1 + 1) h2)))

      kids : under w n (i + 1) (record_at w i).level ≡ tree (record_at w (i + 1)) no_tree (under w n (i + 1 + 1) (record_at w i).level)
      unfolding size
      kids = under-in w n (i + 1) (record_at w i).level h d ∙ rw (tag-alone (i + 1) (first-tag h d), add-zero)

      count-first : count_kind html_tag (under w n (i + 1) (record_at w i).level) ≡ suc (count_kind html_tag (under w n (i + 1 + 1) (record_at w i).level))
      count-first = rw kids (count-one html_tag (record_at w (i + 1)) no_tree _ (first-tag h d))

      second-count : not (tag_under w n (i + 1 + 1) (record_at w i).level) ≡ ltb (suc (count_kind html_tag (under w n (i + 1 + 1) (record_at w i).level))) 2
      second-count = go (ltb (i + 1 + 1) n) (ltb (record_at w i).level (record_at w (i + 1 + 1)).level) refl refl
        where
          go : (t u : Bool) → ltb (i + 1 + 1) n ≡ t → ltb (record_at w i).level (record_at w (i + 1 + 1)).level ≡ u → not (tag_under w n (i + 1 + 1) (record_at w i).level) ≡ ltb (suc (count_kind html_tag (under w n (i + 1 + 1) (record_at w i).level))) 2
          go false u a b = rw (tag-end w n (i + 1 + 1) (record_at w i).level a, under-end w n (i + 1 + 1) (record_at w i).level (ltb-false _ _ a), count_none)
          go true false a b = rw (tag-out w n (i + 1 + 1) (record_at w i).level b, under-out w n (i + 1 + 1) (record_at w i).level (ltb-true _ _ a) (ltb-false _ _ b), count_none)
          go true true a b =
              let e : (record_at w (i + 1 + 1)).kind ≡ html_tag = second-tag (ltb-true _ _ a) (ltb-true _ _ b) in
              rw (tag-there w n (i + 1 + 1) (record_at w i).level a e b, under-in w n (i + 1 + 1) (record_at w i).level (ltb-true _ _ a) (ltb-true _ _ b), count-one, many)

    two : not (tag_under w n (i + 1) (record_at w i).level && tag_under w n (i + 1 + 1) (record_at w i).level) ≡ ltb (count_kind html_tag (under w n (i + 1) (record_at w i).level)) 2
    two = go (ltb (i + 1) n) (ltb (record_at w i).level (record_at w (i + 1)).level) refl refl
      where
        go : (t u : Bool) → ltb (i + 1) n ≡ t → ltb (record_at w i).level (record_at w (i + 1)).level ≡ u → not (tag_under w n (i + 1) (record_at w i).level && tag_under w n (i + 1 + 1) (record_at w i).level) ≡ ltb (count_kind html_tag (under w n (i + 1) (record_at w i).level)) 2
        go false u a b = rw (tag-end w n (i + 1) (record_at w i).level a, under-end w n (i + 1) (record_at w i).level (ltb-false _ _ a), count_none)
        go true false a b = rw (tag-out w n (i + 1) (record_at w i).level b, under-out w n (i + 1) (record_at w i).level (ltb-true _ _ a) (ltb-false _ _ b), count_none)
        go true true a b =
            let h : i + 1 < n = ltb-true _ _ a in
            let d : (record_at w i).level < (record_at w (i + 1)).level = ltb-true _ _ b in
            rw (tag-there w n (i + 1) (record_at w i).level a (first-tag h d) b, count-first h d) (second-count h d)

  -- k is the kind of record i, l its level, t and u are what was answered of the two records after it
  lacks : (i : ℕ) {k l : ℕ} {t u : Bool} → k ≡ (record_at w i).kind → l ≡ (record_at w i).level → t ≡ tag_under w n (i + 1) l → u ≡ tag_under w n (i + 1 + 1) l → (eqb k html_container && not (t && u)) ≡ lacks_tags w n i
  unfolding lacks_tags
  lacks i e z f g = rw (e, f, g, z) (go (eqb (record_at w i).kind html_container) refl)
    where
      go : (t : Bool) → eqb (record_at w i).kind html_container ≡ t → (eqb (record_at w i).kind html_container && not (tag_under w n (i + 1) (record_at w i).level && tag_under w n (i + 1 + 1) (record_at w i).level)) ≡ (eqb (record_at w i).kind html_container && ltb (count_kind html_tag (under w n (suc i) (record_at w i).level)) 2)
      go false a = rw a
      go true a = rw (a, ← add-one i) (two i (eqb-true _ _ a))

  -- r is what was answered of a container's two records
  pub lacks-two : (i : ℕ) {k l : ℕ} {t u r : Bool} → k ≡ (record_at w i).kind → l ≡ (record_at w i).level → t ≡ tag_under w n (i + 1) l → u ≡ tag_under w n (i + 2) l → k ≡ html_container → r ≡ (t && u) → not r ≡ lacks_tags w n i
  lacks-two i {k} e z f g c h =
      let two : i + 2 ≡ i + 1 + 1 = omega arith in
      rw h (rw (eq-eqb k html_container c) at (lacks i e z f (rw two at g)))

  pub lacks-not : (i : ℕ) {k : ℕ} → k ≡ (record_at w i).kind → (k ≡ html_container → ⊥) → false ≡ lacks_tags w n i
  unfolding lacks_tags
  lacks-not i {k} e c = rw (← e, ne_eqb k html_container c)

-- ---- the loop over the containers
pub record Tagging (w : List ℕ) (n i : ℕ) : Type 0 where
  pub within : i ≤ n
  pub same : tags_from w n n 0 ≡ tags_from w n (n - i) i

pub tagging-start : (w : List ℕ) (n : ℕ) → Tagging w n 0
tagging-start w n = record { within = omega arith; same = rw sub-zero }

tags-step : (w : List ℕ) (n i : ℕ) → i < n → tags_from w n (n - i) i ≡ (if lacks_tags w n i then Err (TagsMissing i) else tags_from w n (n - (i + 1)) (i + 1))
unfolding tags_from
tags-step w n i h = let e : n - i ≡ suc (n - (i + 1)) = omega arith in rw (e, add-one i)

module _ (w : List ℕ) (n i : ℕ) (h : i < n) (v : Tagging w n i) {t : Bool} (e : t ≡ lacks_tags w n i) where
  pub tagging-stop : t ≡ true → Err (TagsMissing i) ≡ tags_from w n n 0
  tagging-stop y = sym (v.same ∙ tags-step w n i h ∙ rw (← e, y))

  pub tagging-turn : t ≡ false → Tagging w n (i + 1)
  tagging-turn o = record { within = omega arith; same = v.same ∙ tags-step w n i h ∙ rw (← e, o) }

pub tagging-end : (w : List ℕ) (n i : ℕ) → n ≤ i → Tagging w n i → Ok tt ≡ tags_from w n n 0
unfolding tags_from
tagging-end w n i h v = let e : n - i ≡ 0 = omega (arith, v.within) in sym (v.same ∙ rw e)

pub ruleset tagging = (tagging-start, tagging-stop, tagging-turn, tagging-end, rules)
