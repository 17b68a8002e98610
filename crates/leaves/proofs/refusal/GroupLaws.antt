-- The groups that the code reads are those of the definitions, for every kind.
use mathlib.Core.Path.{◌≡◌, refl, ◌∙◌}
use mathlib.Core.Bool.{Bool, true, ◌&&◌}
use mathlib.Core.List.{List, []}
use Prim.Native.Nat.{ℕ, ◌<◌}
use lib.Dec.{eqb}
use lib.ListN.{get_or}
use borrow.Author.Rules.{rules}
use borrow.Author.Tests.{eqb-true, ne_eqb}
use Rattle.leaves.proofs.text.TestLaws.{all_below, each, and_left, and_right}
use Rattle.leaves.specs.Sheet.Kinds.{is_kind, html_container}
use Rattle.leaves.proofs.sheet.KindLaws.{kind-below}
use Rattle.leaves.specs.Refusal.KindGroups.{kind_groups}
use Rattle.leaves.specs.Refusal.Groups.{other_group, parent_group, child_group, parent_of_tags_and_inlines}

of-parent : ℕ → ℕ
of-parent k = get_or (get_or kind_groups k []) 0 0

of-child : ℕ → ℕ
of-child k = get_or (get_or kind_groups k []) 1 0

-- both groups of a kind, by one computed test of all kinds
group-test : ℕ → Bool
group-test k = eqb (of-parent k) (parent_group k 0) && eqb (of-child k) (child_group k)

grouped : (k : ℕ) → k < 54 → group-test k ≡ true
unfolding all_below group-test of-parent of-child kind_groups parent_group other_group child_group
grouped k h = each group-test 54 refl k h

-- only of an HTML container does the group go by A
any-a : (k a : ℕ) → (k ≡ html_container → ⊥) → parent_group k 0 ≡ parent_group k a
unfolding parent_group other_group
any-a k a n = rw (ne_eqb k html_container n)

pub parent-inlines : (k a : ℕ) → k ≡ html_container → (a ≡ 0 → ⊥) → parent_of_tags_and_inlines ≡ parent_group k a
unfolding parent_group other_group
parent-inlines k a e n = rw (e, ne_eqb a 0 n)

module _ (groups : List (List ℕ)) (k : ℕ) (e : groups ≡ kind_groups) (h : is_kind k ≡ true) where
  pub child-group : get_or (get_or groups k []) 1 0 ≡ child_group k
  unfolding group-test of-child
  child-group = rw e (eqb-true _ _ (and_right (eqb (of-parent k) (parent_group k 0)) (eqb (of-child k) (child_group k)) (grouped k (kind-below k h))))

  of-kind : get_or (get_or groups k []) 0 0 ≡ parent_group k 0
  unfolding group-test of-parent
  of-kind = rw e (eqb-true _ _ (and_left (eqb (of-parent k) (parent_group k 0)) (eqb (of-child k) (child_group k)) (grouped k (kind-below k h))))

  pub parent-zero : (a : ℕ) → a ≡ 0 → get_or (get_or groups k []) 0 0 ≡ parent_group k a
  parent-zero a z = rw z of-kind

  pub parent-other : (a : ℕ) → (k ≡ html_container → ⊥) → get_or (get_or groups k []) 0 0 ≡ parent_group k a
  parent-other a n = of-kind ∙ any-a k a n

pub ruleset group_laws = (kind-below, child-group, rules)
