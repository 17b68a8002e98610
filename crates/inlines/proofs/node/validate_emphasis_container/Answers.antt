-- `inlines::node::validate_emphasis_container` meets its contract.
use mathlib.Core.Path.{refl}
use borrow.Author.Rules.{rules}
use Rattle.leaves.specs.Report.Listed.{path_of}
use Rattle.leaves.proofs.report.ListedLaws.{adds_both, adds_three}
use Rattle.inlines.specs.Node.{validate_emphasis_container}
use Rattle.inlines.proofs.ContentLaws.{says-empty, says-starts, says-ends, says-joined, says_last}
use Rattle.inlines.proofs.node.validate_emphasis_container.Goals as goal

pub returns : goal.returns
unfolding validate_emphasis_container
returns c =
    let g = c.gather-c.ensures in
    let empty = says-empty _ _ _ _ g in
    let starts = says-starts _ _ _ _ g in
    let ends = says-ends _ _ _ _ g in
    let joined = says-joined _ _ _ _ g in
    let last = says_last _ _ _ _ g (path_of c.args.report.now) in
    adds_both c.list_if.ensures (adds_three c.list_if-2.ensures c.list_if-3.ensures c.validate_last_break.ensures refl) (search rules)
