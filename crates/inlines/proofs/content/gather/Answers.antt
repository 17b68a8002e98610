-- `inlines::content::gather` meets its contract.
use mathlib.Core.Path.{refl}
use borrow.Author.Rules.{rules}
use Rattle.inlines.specs.ContentGathered.{with_inline, content_after, content_of}
use Rattle.leaves.proofs.sheet.RootLaws.{fold-of}
use Rattle.inlines.proofs.content.gather.Goals as goal

pub returns : goal.returns
unfolding content_of content_after
returns c =
    let bytes = c.args.records.now.bytes.now in
    let outer = c.args.outer in
    let a = c.args.a in
    rw c.no_content.ensures at (fold-of (λ k r _. with_inline bytes outer a k r) (content_after bytes outer a) c.fold.ensures.ran c.roots.ensures (λ k t d q h. search rules) (λ k. refl) (λ k r kids rest. refl))
