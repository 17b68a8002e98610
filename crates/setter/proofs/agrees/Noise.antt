-- The entries of rules that no stop goes by: they are clean, whatever holds.
use mathlib.Core.Path.{◌≡◌, refl}
use mathlib.Core.Bool.{Bool, true, false, ◌&&◌, ◌||◌}
use mathlib.Core.List.{List, [], ◌∷◌, ◌++◌, map, get_last_d}
use Prim.Native.Nat.{ℕ, suc}
use lib.Dec.{eqb}
use Rattle.std.specs.Prelude.{if◌then◌else◌}
use Rattle.leaves.specs.Sheet.Kinds.{is_inline, line_break, blank_line}
use Rattle.leaves.specs.Sheet.Forest.{Forest, no_tree, tree, count_trees, records_in}
use Rattle.leaves.specs.declared.sheet.records.Rec.{Rec}
use Rattle.leaves.specs.declared.sheet.records.Span.{Span}
use Rattle.leaves.specs.declared.sheet.records.Text.{Text}
use Rattle.leaves.specs.Report.Entries.{Entry}
use Rattle.inlines.specs.Single.{validate_destination, validate_identifier, validate_escape, validate_directive_name, validate_tag}
use Rattle.inlines.specs.Literal.{validate_math_inline}
use Rattle.inlines.specs.Attribute.{validate_directive_attributes}
use Rattle.inlines.specs.Depth.{each_record, validate_cell_values}
use Rattle.inlines.specs.Content.{inlines_of, break_entries, final_break}
use Rattle.inlines.proofs.ContentLaws.{last-none, last-tree}
use Rattle.inlines.specs.Node.{validate_text_directive}
use Rattle.blocks.specs.Heads.{validate_alert, validate_code_block, validate_definition}
use Rattle.blocks.specs.Footnote.{blank_line_at, validate_footnote_definition}
use Rattle.blocks.specs.Item.{validate_blank_line, validate_item_blank_lines, validate_task_item}
use Rattle.blocks.specs.Html.{validate_tag_pair, validate_tags}
use Rattle.setter.specs.Stops.{named}
use Rattle.setter.proofs.agrees.Fits.{Clean, clean-none, clean-append, clean-noise}
use Rattle.inlines.proofs.DepthLaws.{each-tree}

clean-either : (b : Bool) {x y : List Entry} → Clean x → Clean y → Clean (if b then x else y)
clean-either true p q = p
clean-either false p q = q

-- ---- one record
module _ (bytes path : List ℕ) (span : Span) where
  pub clean-destination : (a : ℕ) (t : Text) → Clean (validate_destination path span a t)
  unfolding validate_destination named
  clean-destination a t = clean-noise _ 25 span path refl

  pub clean-identifier : (rule : ℕ) (t : Text) → named rule ≡ false → Clean (validate_identifier path rule span t)
  unfolding validate_identifier
  clean-identifier rule t e = clean-noise _ rule span path e

  pub clean-escape : (a : ℕ) → Clean (validate_escape path span a)
  unfolding validate_escape named
  clean-escape a = clean-noise _ 43 span path refl

  pub clean-math : (a b : ℕ) (t : Text) → Clean (validate_math_inline bytes path span a b t)
  unfolding validate_math_inline named
  clean-math a b t = clean-append (clean-noise _ 46 span path refl) (clean-append (clean-noise _ 47 span path refl) (clean-noise _ 48 span path refl))

  pub clean-name : (t : Text) → Clean (validate_directive_name bytes path span t)
  unfolding validate_directive_name named
  clean-name t = clean-noise _ 54 span path refl

  pub clean-tag : (t : Text) → Clean (validate_tag bytes path span t)
  unfolding validate_tag named
  clean-tag t = clean-noise _ 56 span path refl

  pub clean-alert : (a : ℕ) (t : Text) → Clean (validate_alert bytes path span a t)
  unfolding validate_alert named
  clean-alert a t = clean-noise _ 11 span path refl

  pub clean-code : (a b : ℕ) (t u : Text) → Clean (validate_code_block bytes path span a b t u)
  unfolding validate_code_block named
  clean-code a b t u = clean-append (clean-noise _ 26 span path refl) (clean-noise _ 27 span path refl)

  pub clean-definition : (a : ℕ) (t u : Text) → Clean (validate_definition bytes path span a t u)
  unfolding validate_definition named
  clean-definition a t u = clean-append (clean-noise _ 24 span path refl) (clean-destination a u)

  pub clean-task : (a : ℕ) (kids : Forest) → Clean (validate_task_item path span a kids)
  unfolding validate_task_item named
  clean-task a kids = clean-noise _ 14 span path refl

  pub clean-tags : (kids : Forest) → Clean (validate_tags bytes path span kids)
  unfolding validate_tags validate_tag_pair named
  clean-tags no_tree = clean-none
  clean-tags (tree o k no_tree) = clean-none
  clean-tags (tree o k (tree c l m)) =
      clean-append (clean-noise _ 5 o.span path refl) (clean-append (clean-noise _ 6 c.span path refl) (clean-append (clean-noise _ 7 span path refl) (clean-append (clean-noise _ 8 o.span path refl) (clean-noise _ 9 c.span path refl))))

-- ---- trees side by side
pub clean-attributes : (bytes path : List ℕ) (ts : Forest) → Clean (validate_directive_attributes bytes path ts)
unfolding validate_directive_attributes named
clean-attributes bytes path no_tree = clean-none
clean-attributes bytes path (tree r kids rest) = clean-append (clean-noise _ 55 _ path refl) (clean-attributes bytes path rest)

pub clean-text-directive : (bytes path : List ℕ) (span : Span) (t : Text) (kids : Forest) → Clean (validate_text_directive bytes path span t kids)
unfolding validate_text_directive
clean-text-directive bytes path span t kids = clean-append (clean-name bytes path span t) (clean-attributes bytes path kids)

clean-each : (entries : Rec → List Entry) → ((r : Rec) → Clean (entries r)) → (ts : Forest) → Clean (each_record entries ts)
unfolding each_record records_in
clean-each entries h no_tree = clean-none
clean-each entries h (tree r kids rest) = rw (each-tree entries r kids rest) (clean-append (h r) (clean-append (clean-each entries h kids) (clean-each entries h rest)))

pub clean-values : (bytes path : List ℕ) (ts : Forest) → Clean (validate_cell_values bytes path ts)
unfolding validate_cell_values named
clean-values bytes path ts = clean-each _ (λ r. clean-noise _ 21 r.span path refl) ts

clean-blank : (path : List ℕ) (span : Span) (blank tight first last : Bool) → Clean (validate_blank_line path span blank tight first last)
unfolding validate_blank_line named
clean-blank path span blank tight first last = clean-append (clean-noise _ 51 span path refl) (clean-append (clean-noise _ 52 span path refl) (clean-noise _ 53 span path refl))

pub clean-blanks : (path : List ℕ) (tight last : Bool) (k : ℕ) (ts : Forest) → Clean (validate_item_blank_lines path tight last k ts)
unfolding validate_item_blank_lines
clean-blanks path tight last k no_tree = clean-none
clean-blanks path tight last k (tree r kids rest) = clean-append (clean-blank _ _ _ tight _ _) (clean-blanks path tight last (suc k) rest)

clean_at : (path : List ℕ) (k : ℕ) (ts : Forest) → Clean (blank_line_at path k ts)
unfolding blank_line_at named
clean_at path k no_tree = clean-none
clean_at path k (tree r kids rest) = clean-either (eqb r.kind blank_line && (eqb k 0 || eqb (count_trees rest) 0)) (clean-noise true 4 r.span (path ++ k ∷ []) refl) (clean_at path (suc k) rest)

pub clean-footnote : (path : List ℕ) (span : Span) (t : Text) (kids : Forest) → Clean (validate_footnote_definition path span t kids)
unfolding validate_footnote_definition named
clean-footnote path span t kids = clean-append (clean-noise _ 3 span path refl) (clean_at path 0 kids)

clean_after : (path : List ℕ) (ts : Forest) (last : List Entry) → Clean last → Clean (get_last_d (map (break_entries path) (inlines_of ts)) last)
unfolding break_entries named
clean_after path no_tree last h = rw (last-none path last) h
clean_after path (tree r kids rest) last h = rw (last-tree r kids rest path last) (clean_after path rest _ (clean-either (is_inline r.kind) (clean-noise (eqb r.kind line_break) 30 r.span path refl) h))

pub clean-final : (path : List ℕ) (ts : Forest) → Clean (final_break path ts)
unfolding final_break
clean-final path ts = clean_after path ts [] clean-none
