-- Trees side by side: whether one stands here, and how many there are behind it.
use mathlib.Core.Path.{◌≡◌, refl, sym, ◌∙◌}
use mathlib.Core.Bool.{Bool, true, false, true≢false}
use mathlib.Core.List.{List}
use Prim.Native.Nat.{ℕ, suc, ◌+◌, ◌<◌, ◌≤◌}
use native.Mathlib.Omega.{arith}
use borrow.Author.Tests.{leb-true, leb-false, ltb-true, ltb-false, ne_eqb, eqb-true}
use lib.Dec.{eqb, leb, ltb}
use Rattle.leaves.specs.Sheet.Records.{record_at}
use Rattle.leaves.specs.Sheet.Forest.{under, count_trees, size}
use Rattle.leaves.proofs.sheet.ForestLaws.{behind_kids, under-in, under-out, under-end, under-fits, size_step, size-out, size-end}

pub suc-some : (k : ℕ) → false ≡ eqb (suc k) 0
suc-some k = sym (ne_eqb (suc k) 0 (λ e. omega arith))

module _ (w : List ℕ) (n i l : ℕ) where
  pub count-end : n ≤ i → count_trees (under w n i l) ≡ 0
  unfolding count_trees
  count-end h = rw (under-end w n i l h)

  pub count-out : i < n → (record_at w i).level ≤ l → count_trees (under w n i l) ≡ 0
  unfolding count_trees
  count-out h d = rw (under-out w n i l h d)

  pub count-in : i < n → l < (record_at w i).level → count_trees (under w n i l) ≡ suc (count_trees (under w n (behind_kids w n i) l))
  unfolding count_trees
  count-in h d = rw (under-in w n i l h d)

  -- `no_tree_at`
  pub no_tree-end : n ≤ i → true ≡ eqb (count_trees (under w n i l)) 0
  no_tree-end h = rw (count-end h)

  pub ends_at : {m : ℕ} → i < n → m ≡ (record_at w i).level → leb m l ≡ eqb (count_trees (under w n i l)) 0
  ends_at {m} h e = go (leb m l) refl
    where
      go : (b : Bool) → leb m l ≡ b → b ≡ eqb (count_trees (under w n i l)) 0
      go true t = let d : (record_at w i).level ≤ l = rw e at (leb-true m l t) in rw (count-out h d)
      go false t = let d : l < (record_at w i).level = rw e at (leb-false m l t) in rw (count-in h d) (suc-some (count_trees (under w n (behind_kids w n i) l)))

  -- what its answer says: a tree that is deeper than l stands here
  pub no_tree-deep : {e : Bool} → e ≡ eqb (count_trees (under w n i l)) 0 → e ≡ false → (i < n) × (l < (record_at w i).level)
  no_tree-deep q f = go (ltb i n) (ltb l (record_at w i).level) refl refl
    where
      go : (a b : Bool) → ltb i n ≡ a → ltb l (record_at w i).level ≡ b → (i < n) × (l < (record_at w i).level)
      go false b g h = absurd (true≢false (no_tree-end (ltb-false _ _ g) ∙ sym q ∙ f))
      go true false g h = absurd (true≢false (sym (rw (count-out (ltb-true _ _ g) (ltb-false _ _ h)) at q) ∙ f))
      go true true g h = (ltb-true _ _ g, ltb-true _ _ h)

-- `skip`: what is left to pass over from record i on
module _ (w : List ℕ) (n from level : ℕ) {i : ℕ} (v : i + size (under w n i level) ≡ from + size (under w n from level)) where
  pub skip-turn : {m : ℕ} → i < n → m ≡ (record_at w i).level → level < m → i + 1 + size (under w n (i + 1) level) ≡ from + size (under w n from level)
  skip-turn h e d = let f : level < (record_at w i).level = rw e at d in omega (arith, size_step w n i level h f, v)

  pub skip-out : {m : ℕ} → i < n → m ≡ (record_at w i).level → m ≤ level → i ≡ from + size (under w n from level)
  skip-out h e d = let f : (record_at w i).level ≤ level = rw e at d in omega (arith, size-out w n i level h f, v)

  pub skip-end : n ≤ i → i ≡ from + size (under w n from level)
  skip-end h = omega (arith, size-end w n i level h, v)

-- `count_trees`: the trees that were counted and those to come are all of them
pub record Counting (w : List ℕ) (n from level i trees : ℕ) : Type 0 where
  pub inside : i ≤ n
  pub few : trees ≤ i
  pub all : trees + count_trees (under w n i level) ≡ count_trees (under w n from level)

module _ (w : List ℕ) (n from level : ℕ) where
  pub counting-start : from ≤ n → Counting w n from level from 0
  counting-start h = record { inside = h; few = omega arith; all = omega arith }

  module _ {i trees : ℕ} {e : Bool} (v : Counting w n from level i trees) (q : e ≡ eqb (count_trees (under w n i level)) 0) where
    pub counting-turn : {m j : ℕ} → e ≡ false → m ≡ (record_at w i).level → j ≡ i + 1 + size (under w n (i + 1) m) → Counting w n from level j (trees + 1)
    counting-turn {j = j} f k g =
        let d = no_tree-deep w n i level q f in
        let g' : j ≡ behind_kids w n i = rw k at g in
        let c : count_trees (under w n i level) ≡ suc (count_trees (under w n (behind_kids w n i) level)) = count-in w n i level d.0 d.1 in
        let h : behind_kids w n i ≤ n = under-fits w n (i + 1) (record_at w i).level (omega arith) in
        rw g' (record { inside = h; few = omega (arith, v.few); all = omega (arith, v.all) })

    pub counting-end : e ≡ true → trees ≡ count_trees (under w n from level)
    counting-end t = let z : count_trees (under w n i level) ≡ 0 = eqb-true _ _ (sym q ∙ t) in omega (arith, v.all)
