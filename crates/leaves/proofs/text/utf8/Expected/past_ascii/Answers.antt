-- `leaves::text::utf8::Expected::past_ascii` meets its contract.
use mathlib.Core.Path.{sym}
use Rattle.leaves.specs.Text.Chunk.{is_ascii}
use Rattle.leaves.proofs.text.ChunkLaws.{shorter}
use Rattle.leaves.proofs.text.Utf8Laws.{utf8-leap}
use Rattle.leaves.proofs.text.utf8.Expected.past_ascii.Goals as goal

pub returns-then-self-eq0 : goal.returns-then-self-eq0
returns-then-self-eq0 c =
    let o = c.args.self in
    (shorter is_ascii c.skip_passing.ensures, sym (utf8-leap o.more o.low o.high c.if-self-eq0.true c.skip_passing.ensures))
