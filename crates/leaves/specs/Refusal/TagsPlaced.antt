-- What the code knows when it looks for tags. A reader need not believe these: `judge_tags` asks for them, `accept`
-- gives them, and the promise of `accept` does not cite them.
use Rattle.std.specs.Prelude.{◌≡◌, ℕ, ◌*◌, ◌<◌, ◌≤◌, Bool, false, ◌&&◌, List, eqb, ltb}
use Rattle.std.specs.Prelude.{length}
use Rattle.leaves.specs.Sheet.Kinds.{html_tag}
use Rattle.leaves.specs.Sheet.Records.{record_words, record_at}
use Rattle.leaves.specs.Refusal.Places.{misplaced, open_at}
use Rattle.leaves.specs.Refusal.Limits.{most_records}
use Rattle.leaves.specs.Refusal.Record.{level_before, bad_level}

-- every record passes the tests 5 and 6
pub record Placed (w : List ℕ) (n : ℕ) : Type 0 where
  pub level : (i : ℕ) → i < n → bad_level (level_before w i) (record_at w i).level ≡ false
  pub place : (i : ℕ) → i < n → misplaced (open_at w (record_at w i).level i) (record_at w i).kind ≡ false

-- n placed records that the sheet holds
pub record Containers (w : List ℕ) (n : ℕ) : Type 0 where
  pub whole : n * record_words ≤ length w
  pub few : n ≤ most_records
  pub placed : Placed w n

-- record i is there, is an HTML tag, and is deeper than a level
unfoldable pub tag_under : List ℕ → ℕ → ℕ → ℕ → Bool
tag_under w n i l = ltb i n && (eqb (record_at w i).kind html_tag && ltb l (record_at w i).level)
