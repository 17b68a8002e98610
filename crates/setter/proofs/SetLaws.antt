-- The number of a stop tells which stop it is, and the machine's number and value which answer.
use Rattle.std.specs.Prelude.{Err, Ok}
use mathlib.Core.Path.{◌≡◌, refl, sym, ap, ◌∙◌}
use mathlib.Core.List.{[], ◌∷◌}
use Prim.Native.Nat.{ℕ, ◌≤◌}
use native.Mathlib.Omega.{arith}
use lib.ListN.{get_or}
use Rattle.leaves.specs.Refusal.Verdict.{refusal_answer}
use Rattle.leaves.proofs.refusal.VerdictLaws.{same_number, same-value, refusal-numbered, refusal-one}
use Rattle.leaves.specs.declared.refusal.verdict.Malformed.{Malformed}
use Rattle.setter.specs.Answer.{stop_number, last_stop, SetAnswer, setting_answer}
use Rattle.setter.specs.declared.answer.Stop.{Stop}
use Rattle.setter.specs.declared.answer.Stop.TheVariants.{CellTooMany, CellTooFew, EmptyTable, BreakInLine, LinkInLink, HeadingDepth, ItemNumber, BulletNumber, EmptyList, EmptyContent, BreakAfterBreak, InnerFrontmatter, LineEnding, AdjacentLists}
use Rattle.setter.specs.declared.answer.Setting.TheVariants.{Ended, Stopped}
use Rattle.setter.specs.declared.answer.SetError.TheVariants.{Malformed as IsMalformed, ShortMarks}

-- ---- a stop's number is one of the table's, and tells which stop it is
pub record Placed (n : ℕ) : Type 0 where
  pub low : 1 ≤ n
  pub high : n ≤ last_stop

pub stop-numbered : (stop : Stop) → Placed (stop_number stop)
stop-numbered CellTooMany = record { low = omega arith; high = omega arith }
stop-numbered CellTooFew = record { low = omega arith; high = omega arith }
stop-numbered EmptyTable = record { low = omega arith; high = omega arith }
stop-numbered BreakInLine = record { low = omega arith; high = omega arith }
stop-numbered LinkInLink = record { low = omega arith; high = omega arith }
stop-numbered HeadingDepth = record { low = omega arith; high = omega arith }
stop-numbered ItemNumber = record { low = omega arith; high = omega arith }
stop-numbered BulletNumber = record { low = omega arith; high = omega arith }
stop-numbered EmptyList = record { low = omega arith; high = omega arith }
stop-numbered EmptyContent = record { low = omega arith; high = omega arith }
stop-numbered BreakAfterBreak = record { low = omega arith; high = omega arith }
stop-numbered InnerFrontmatter = record { low = omega arith; high = omega arith }
stop-numbered LineEnding = record { low = omega arith; high = omega arith }
stop-numbered AdjacentLists = record { low = omega arith; high = omega arith }

read : ℕ → Stop
read n = get_or (CellTooMany ∷ CellTooMany ∷ CellTooFew ∷ EmptyTable ∷ BreakInLine ∷ LinkInLink ∷ HeadingDepth ∷ ItemNumber ∷ BulletNumber ∷ EmptyList ∷ EmptyContent ∷ BreakAfterBreak ∷ InnerFrontmatter ∷ LineEnding ∷ AdjacentLists ∷ []) n CellTooMany

stop-back : (stop : Stop) → read (stop_number stop) ≡ stop
unfolding read
stop-back CellTooMany = refl
stop-back CellTooFew = refl
stop-back EmptyTable = refl
stop-back BreakInLine = refl
stop-back LinkInLink = refl
stop-back HeadingDepth = refl
stop-back ItemNumber = refl
stop-back BulletNumber = refl
stop-back EmptyList = refl
stop-back EmptyContent = refl
stop-back BreakAfterBreak = refl
stop-back InnerFrontmatter = refl
stop-back LineEnding = refl
stop-back AdjacentLists = refl

pub stop-one : (a b : Stop) → stop_number a ≡ stop_number b → a ≡ b
stop-one a b e = sym (stop-back a) ∙ ap read e ∙ stop-back b

-- ---- number and value tell which answer it is

-- a refusal's own answer, from that of the machine
refusal-same : (r s : Malformed) → setting_answer (Err (IsMalformed r)) ≡ setting_answer (Err (IsMalformed s)) → refusal_answer r ≡ refusal_answer s
refusal-same r s e =
    let n : (refusal_answer r).number ≡ (refusal_answer s).number = omega (arith, same_number e) in
    let v : (refusal_answer r).value ≡ (refusal_answer s).value = same-value e in
    λ i. record { number = n i; value = v i }

pub setting-one : (s t : SetAnswer) → setting_answer s ≡ setting_answer t → s ≡ t
setting-one (Ok (Ended m)) (Ok (Ended n)) e = ap (λ k. Ok (Ended k)) (same-value e)
setting-one (Ok (Ended m)) (Ok (Stopped b j)) e = absurd (omega (arith, same_number e, stop-numbered b))
setting-one (Ok (Ended m)) (Err (IsMalformed r)) e = absurd (omega (arith, same_number e))
setting-one (Ok (Ended m)) (Err ShortMarks) e = absurd (omega (arith, same_number e))
setting-one (Ok (Stopped a i)) (Ok (Ended n)) e = absurd (omega (arith, same_number e, stop-numbered a))
setting-one (Ok (Stopped a i)) (Ok (Stopped b j)) e = λ k. Ok (Stopped (stop-one a b (same_number e) k) (same-value e k))
setting-one (Ok (Stopped a i)) (Err (IsMalformed r)) e = absurd (omega (arith, same_number e, stop-numbered a))
setting-one (Ok (Stopped a i)) (Err ShortMarks) e = absurd (omega (arith, same_number e, stop-numbered a))
setting-one (Err (IsMalformed r)) (Ok (Ended n)) e = absurd (omega (arith, same_number e))
setting-one (Err (IsMalformed r)) (Ok (Stopped b j)) e = absurd (omega (arith, same_number e, stop-numbered b))
setting-one (Err (IsMalformed r)) (Err (IsMalformed t)) e = ap (λ m. Err (IsMalformed m)) (refusal-one r t (refusal-same r t e))
setting-one (Err (IsMalformed r)) (Err ShortMarks) e = absurd (omega (arith, same_number e, (refusal-numbered r).most))
setting-one (Err ShortMarks) (Ok (Ended n)) e = absurd (omega (arith, same_number e))
setting-one (Err ShortMarks) (Ok (Stopped b j)) e = absurd (omega (arith, same_number e, stop-numbered b))
setting-one (Err ShortMarks) (Err (IsMalformed r)) e = absurd (omega (arith, same_number e, (refusal-numbered r).most))
setting-one (Err ShortMarks) (Err ShortMarks) e = refl
