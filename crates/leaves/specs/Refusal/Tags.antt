-- Refusal 10. Document 01, 'The call': "then 10 over all records, giving the first such container".
use Rattle.std.specs.Prelude.{ℕ, zero, suc, Bool, ◌&&◌, List, eqb, ltb, Err, Ok, if◌then◌else◌}
use Rattle.leaves.specs.Sheet.Kinds.{html_container, html_tag}
use Rattle.leaves.specs.Sheet.Records.{record_at}
use Rattle.leaves.specs.Sheet.Forest.{under, count_kind}
use Rattle.leaves.specs.Refusal.Verdict.{Judged}
use Rattle.leaves.specs.declared.refusal.verdict.Malformed.TheVariants.{TagsMissing}

-- 10: "HTML container with fewer than two tags"
unfoldable pub lacks_tags : List ℕ → ℕ → ℕ → Bool
lacks_tags w n i =
    eqb (record_at w i).kind html_container
    && ltb (count_kind html_tag (under w n (suc i) (record_at w i).level)) 2

-- of k records from record i on, the first such container; n is how many records there are in all
unfoldable pub tags_from : List ℕ → ℕ → ℕ → ℕ → Judged
tags_from w n zero i = Ok tt
tags_from w n (suc k) i =
    let later = tags_from w n k (suc i) in
    if lacks_tags w n i then Err (TagsMissing i) else later
