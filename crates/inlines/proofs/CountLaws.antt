-- How many entries the walk of inlines lists. Each entry is charged to the record whose span it copies, so that a bound on what one record is charged with is a bound on the whole list.
use mathlib.Core.Path.{◌≡◌, refl, sym, ◌∙◌}
use mathlib.Core.Bool.{Bool, true, false, false≢true, not, ◌&&◌, ◌||◌, and-false}
use mathlib.Core.List.{List, []}
use Prim.Native.Nat.{ℕ, ◌+◌, ◌*◌, ◌≤◌}
use native.Mathlib.Nat.{le_refl}
use native.Mathlib.Omega.{arith}
use borrow.Author.Tests.{eqb-true}
use lib.Dec.{eqb}
use lib.ListN.{length}
use Rattle.std.specs.Prelude.{if◌then◌else◌}
use Rattle.leaves.specs.Sheet.Kinds.{is_inline, html_tag, attribute, text, escape, emphasis, strong, delete, mark, code, link, autolink, image, link_reference, image_reference, html, soft_break, line_break, math, footnote_reference, inline_footnote, wiki_link, text_directive, tag}
use Rattle.leaves.specs.Sheet.Classes.{is_break, is_link, is_emphasis_container, names_own_value, names_label}
use Rattle.leaves.specs.Sheet.Forest.{Forest, no_tree, tree, size, records_in}
use Rattle.leaves.specs.Report.Entries.{Entry, list_if, ◌⊕◌}
use Rattle.leaves.specs.Report.Rules
use Rattle.leaves.specs.declared.sheet.records.Rec.{Rec}
use Rattle.leaves.specs.declared.sheet.records.Span.{Span}
use Rattle.leaves.proofs.sheet.KindLaws.{kind-cases}
use Rattle.leaves.proofs.report.EntryLaws.{join-assoc, length-join, length-if, few-if}
use Rattle.inlines.specs.Values.{is_unwritable, is_bad_attribute}
use Rattle.inlines.specs.Single.{validate_destination, validate_identifier, validate_escape, validate_directive_name, validate_tag, validate_siblings}
use Rattle.inlines.specs.Literal.{validate_text, validate_code_inline, validate_math_inline}
use Rattle.inlines.specs.Own.{validate_inline_values}
use Rattle.inlines.specs.Link.{validate_link_text}
use Rattle.inlines.specs.Attribute.{validate_directive_attributes}
use Rattle.inlines.specs.Depth.{each_record, validate_cell_values, validate_one_line}
use Rattle.inlines.specs.Content.{no_inline, all_empty, starts_with_whitespace, ends_with_whitespace, holds_joined, break_entries, final_break}
use Rattle.inlines.proofs.ContentLaws.{final_break-none, final_break-tree}
use Rattle.inlines.specs.Node.{validate_text_directive, validate_emphasis_container, validate_inline}
use Rattle.inlines.specs.Nodes.{validate_node, validate_inline_nodes_after, validate_inline_nodes, validate_inlines}
use Rattle.inlines.proofs.DepthLaws.{each-tree}

-- ---- what is charged to one record

-- of the entries of `validate_inline` those with the inline's own span: all but those of its children (30, 42, 55)
unfoldable pub own_entries : List ℕ → List ℕ → Rec → Forest → List Entry
own_entries bytes path r kids =
    if is_emphasis_container r.kind
    then (list_if (all_empty kids) Rules.empty_emphasis r.span path
    ⊕ list_if (not (all_empty kids) && (starts_with_whitespace bytes kids || ends_with_whitespace bytes kids)) Rules.white_emphasis r.span path
    ⊕ list_if (holds_joined r.kind r.a kids) Rules.joined_emphasis r.span path)
    else if eqb r.kind link
    then validate_destination path r.span r.a r.first
    else if eqb r.kind link_reference
    then validate_identifier path Rules.empty_link_reference r.span r.first
    else if eqb r.kind text_directive
    then validate_directive_name bytes path r.span r.first
    else if eqb r.kind inline_footnote
    then list_if (no_inline kids) Rules.empty_inline_footnote r.span path
    else validate_inline_values bytes path r

-- as one of the inlines side by side, behind an inline of the kind `before`: 37, 38 and its own
unfoldable pub node_entries : List ℕ → List ℕ → ℕ → Rec → Forest → List Entry
node_entries bytes path before r kids =
    if is_inline r.kind then validate_siblings path r.span before r.kind r.a ⊕ own_entries bytes path r kids else []

-- as the last of them: `break_entries` of `Content` (30)

-- as a directive's attribute: 55
unfoldable pub attribute_entries : List ℕ → List ℕ → Rec → List Entry
attribute_entries bytes path r = list_if (is_bad_attribute bytes r) Rules.attribute_name (record { flag = 0; start = 0; end = 0 }) path

-- as a link in a link: 42
unfoldable pub link_entries : List ℕ → Rec → List Entry
link_entries path r = list_if (is_link r.kind) Rules.link_in_link r.span path

-- as a break in a cell or a label (20, 22 or 23, as the rule says) and as a value in a cell (21)
unfoldable pub line_entries : ℕ → List ℕ → Rec → List Entry
line_entries rule path r = list_if (is_break r.kind) rule r.span path

unfoldable pub cell_entries : List ℕ → List ℕ → Rec → List Entry
cell_entries bytes path r = list_if (is_unwritable bytes r) Rules.pipe_in_cell r.span path

-- all of these
unfoldable pub charged : List ℕ → List ℕ → ℕ → ℕ → Rec → Forest → List Entry
charged bytes path rule before r kids =
    node_entries bytes path before r kids
    ⊕ break_entries path r
    ⊕ attribute_entries bytes path r
    ⊕ link_entries path r
    ⊕ line_entries rule path r
    ⊕ cell_entries bytes path r

-- a number for each tree of those side by side
unfoldable pub sum_roots : (Rec → ℕ) → Forest → ℕ
sum_roots each no_tree = 0
sum_roots each (tree r kids rest) = each r + sum_roots each rest

-- ---- what a forest of inlines lists at most, whatever is asked of it: `extra` is what another walk charges to its trees
unfoldable pub spent : List ℕ → List ℕ → ℕ → (Rec → ℕ) → ℕ → Forest → ℕ
spent bytes path rule extra before f =
    length (validate_inline_nodes_after bytes path before f)
    + sum_roots (λ r. length (break_entries path r)) f
    + length (validate_directive_attributes bytes path f)
    + length (validate_link_text path f)
    + length (validate_one_line rule path f)
    + length (validate_cell_values bytes path f)
    + sum_roots extra f

either-length : (b : Bool) (x y : List Entry) → length (if b then x else y) ≤ length x + length y
either-length true x y = omega arith
either-length false x y = omega arith

-- at most one of the trees side by side is the last
pub final-few : (path : List ℕ) (f : Forest) → length (final_break path f) ≤ sum_roots (λ r. length (break_entries path r)) f
unfolding sum_roots
final-few path no_tree = rw (final_break-none path) (omega arith)
final-few path (tree r kids rest) = rw (final_break-tree r kids rest path) (omega (arith, final-few path rest, either-length (is_inline r.kind && no_inline rest) (break_entries path r) (final_break path rest)))

-- ---- one inline: what it lists of its children is charged to them
module _ (bytes path : List ℕ) (r : Rec) (kids : Forest) where
  -- m is what it lists of the links under it
  inline-own : (m : ℕ) → (eqb r.kind link ≡ true → length (validate_link_text path kids) ≤ m) → (eqb r.kind link_reference ≡ true → length (validate_link_text path kids) ≤ m) → length (validate_inline bytes path r kids) ≤ length (own_entries bytes path r kids) + sum_roots (λ r. length (break_entries path r)) kids + length (validate_directive_attributes bytes path kids) + m
  unfolding validate_inline validate_emphasis_container validate_text_directive own_entries
  inline-own m l n = go (is_emphasis_container r.kind) refl (eqb r.kind link) refl (eqb r.kind link_reference) refl (eqb r.kind text_directive) refl
    where
      go : (b : Bool) → is_emphasis_container r.kind ≡ b → (c : Bool) → eqb r.kind link ≡ c → (d : Bool) → eqb r.kind link_reference ≡ d → (t : Bool) → eqb r.kind text_directive ≡ t → length (validate_inline bytes path r kids) ≤ length (own_entries bytes path r kids) + sum_roots (λ r. length (break_entries path r)) kids + length (validate_directive_attributes bytes path kids) + m
      go true e c f d g t h = rw e (simp length-join (omega (arith, final-few path kids)))
      go false e true f d g t h = rw (e, f) (simp length-join (omega (arith, l f)))
      go false e false f true g t h = rw (e, f, g) (simp length-join (omega (arith, n g)))
      go false e false f false g true h = rw (e, f, g, h) (simp length-join (omega arith))
      go false e false f false g false h = rw (e, f, g, h) (omega arith)

  -- the links under it, where it is a link itself
  abbrev held_links : ℕ
  held_links = if is_link r.kind then length (validate_link_text path kids) else 0

  held : is_link r.kind ≡ true → length (validate_link_text path kids) ≤ held_links
  held e = rw e (le_refl _)

  link-is : eqb r.kind link ≡ true → is_link r.kind ≡ true
  link-is e = rw (eqb-true r.kind link e)

  reference-is : eqb r.kind link_reference ≡ true → is_link r.kind ≡ true
  reference-is e = rw (eqb-true r.kind link_reference e)

  inline-few : length (validate_inline bytes path r kids) ≤ length (own_entries bytes path r kids) + sum_roots (λ r. length (break_entries path r)) kids + length (validate_directive_attributes bytes path kids) + held_links
  inline-few = inline-own held_links (λ e. held (link-is e)) (λ e. held (reference-is e))

  node-few : (before : ℕ) (under : List Entry) → length (validate_node bytes path before r kids under) ≤ length (node_entries bytes path before r kids) + sum_roots (λ r. length (break_entries path r)) kids + length (validate_directive_attributes bytes path kids) + held_links + length under
  unfolding validate_node node_entries
  node-few before under = go (is_inline r.kind) refl
    where
      go : (b : Bool) → is_inline r.kind ≡ b → length (validate_node bytes path before r kids under) ≤ length (node_entries bytes path before r kids) + sum_roots (λ r. length (break_entries path r)) kids + length (validate_directive_attributes bytes path kids) + held_links + length under
      go true e = rw e (simp length-join (omega (arith, inline-few)))
      go false e = rw e (omega arith)

  -- a link is listed itself, and any other passes on the links under it
  link-step : (rest : Forest) → length (validate_link_text path (tree r kids rest)) + held_links ≡ length (link_entries path r) + length (validate_link_text path kids) + length (validate_link_text path rest)
  unfolding validate_link_text link_entries list_if
  link-step rest = go (is_link r.kind) refl
    where
      go : (b : Bool) → is_link r.kind ≡ b → length (validate_link_text path (tree r kids rest)) + held_links ≡ length (link_entries path r) + length (validate_link_text path kids) + length (validate_link_text path rest)
      go true e = rw e (simp length-join (omega arith))
      go false e = rw e (simp length-join (omega arith))

-- ---- the trees of a forest, one after the other
module _ (bytes path : List ℕ) (rule : ℕ) (extra : Rec → ℕ) where
  nodes-step : (before : ℕ) (r : Rec) (kids rest : Forest) → length (validate_inline_nodes_after bytes path before (tree r kids rest)) ≡ length (validate_node bytes path before r kids (validate_inline_nodes_after bytes path 0 kids)) + length (validate_inline_nodes_after bytes path (if is_inline r.kind then r.kind else before) rest)
  unfolding validate_inline_nodes_after
  nodes-step before r kids rest = length-join _ _

  attributes-step : (r : Rec) (kids rest : Forest) → length (validate_directive_attributes bytes path (tree r kids rest)) ≡ length (attribute_entries bytes path r) + length (validate_directive_attributes bytes path rest)
  unfolding validate_directive_attributes attribute_entries
  attributes-step r kids rest = length-join _ _

  line_step : (r : Rec) (kids rest : Forest) → length (validate_one_line rule path (tree r kids rest)) ≡ length (line_entries rule path r) + length (validate_one_line rule path kids) + length (validate_one_line rule path rest)
  unfolding validate_one_line line_entries
  line_step r kids rest = rw (each-tree _ r kids rest) (simp length-join (omega arith))

  cell-step : (r : Rec) (kids rest : Forest) → length (validate_cell_values bytes path (tree r kids rest)) ≡ length (cell_entries bytes path r) + length (validate_cell_values bytes path kids) + length (validate_cell_values bytes path rest)
  unfolding validate_cell_values cell_entries
  cell-step r kids rest = rw (each-tree _ r kids rest) (simp length-join (omega arith))

  roots-step : (each : Rec → ℕ) (r : Rec) (kids rest : Forest) → sum_roots each (tree r kids rest) ≡ each r + sum_roots each rest
  unfolding sum_roots
  roots-step each r kids rest = refl

  charged-is : (before : ℕ) (r : Rec) (kids : Forest) → length (charged bytes path rule before r kids) ≡ length (node_entries bytes path before r kids) + length (break_entries path r) + length (attribute_entries bytes path r) + length (link_entries path r) + length (line_entries rule path r) + length (cell_entries bytes path r)
  unfolding charged
  charged-is before r kids = simp length-join (omega arith)

  pub spent-none : (before : ℕ) → spent bytes path rule extra before no_tree ≡ 0
  unfolding spent validate_inline_nodes_after sum_roots validate_directive_attributes validate_link_text validate_one_line validate_cell_values each_record records_in
  spent-none before = refl

  pub spent-step : (before : ℕ) (r : Rec) (kids rest : Forest) → spent bytes path rule extra before (tree r kids rest) ≤ length (charged bytes path rule before r kids) + extra r + spent bytes path rule extra 0 kids + spent bytes path rule extra (if is_inline r.kind then r.kind else before) rest
  unfolding spent
  spent-step before r kids rest =
      omega (
        arith,
        nodes-step before r kids rest,
        node-few bytes path r kids before (validate_inline_nodes_after bytes path 0 kids),
        roots-step (λ r. length (break_entries path r)) r kids rest,
        roots-step extra r kids rest,
        attributes-step r kids rest,
        link-step bytes path r kids rest,
        line_step r kids rest,
        cell-step r kids rest,
        charged-is before r kids,
      )

-- ---- a bound for one record is a bound for all

-- no record is charged with more than `most`, whatever stands before it, under it and around it
abbrev pub EachInline : List ℕ → (Rec → ℕ) → ℕ → Type 0
EachInline bytes extra most = (path : List ℕ) (rule before : ℕ) (r : Rec) (kids : Forest) → length (charged bytes path rule before r kids) + extra r ≤ most

module _ (bytes : List ℕ) (extra : Rec → ℕ) (most : ℕ) (one : EachInline bytes extra most) (path : List ℕ) (rule : ℕ) where
  pub spent-most : (before : ℕ) (f : Forest) → spent bytes path rule extra before f ≤ most * size f
  unfolding size
  spent-most before no_tree = omega (arith, spent-none bytes path rule extra before)
  spent-most before (tree r kids rest) =
      omega (arith, spent-step bytes path rule extra before r kids rest, one path rule before r kids, spent-most 0 kids, spent-most (if is_inline r.kind then r.kind else before) rest)

-- the lists that are asked for of one forest
pub inlines-spent : (bytes path : List ℕ) (rule : ℕ) (extra : Rec → ℕ) (f : Forest) → length (validate_inlines bytes path f) + length (validate_directive_attributes bytes path f) + length (validate_one_line rule path f) + length (validate_cell_values bytes path f) + sum_roots extra f ≤ spent bytes path rule extra 0 f
unfolding spent validate_inlines validate_inline_nodes
inlines-spent bytes path rule extra f = simp length-join (omega (arith, final-few path f))

-- ---- the bound for one record, by its kind

-- an inline's own entries
unfoldable own_most : ℕ → ℕ
own_most k =
    if is_emphasis_container k
    then 2
    else if eqb k link
    then 1
    else if eqb k link_reference
    then 1
    else if eqb k text_directive
    then 1
    else if eqb k inline_footnote
    then 1
    else if eqb k text
    then 1
    else if eqb k tag
    then 1
    else if eqb k image
    then 1
    else if eqb k image_reference
    then 1
    else if eqb k escape
    then 1
    else if eqb k footnote_reference
    then 1
    else if eqb k wiki_link
    then 1
    else if eqb k code
    then 2
    else if eqb k math
    then 2
    else 0

-- at most n entries
pub record Few (es : List Entry) (n : ℕ) : Type 0 where
  pub few : length es ≤ n

pub no-entry : Few [] 0
no-entry = record { few = omega arith }

pub one_entry : (b : Bool) (rule : ℕ) (span : Span) (path : List ℕ) → Few (list_if b rule span path) 1
one_entry b rule span path = record { few = few-if b rule span path }

pub few-then : {x y : List Entry} {m n : ℕ} → Few x m → Few y n → Few (x ⊕ y) (m + n)
few-then p q = record { few = simp length-join (omega arith) }

pub few-either : (b : Bool) {x y : List Entry} {m n : ℕ} → Few x m → Few y n → Few (if b then x else y) (if b then m else n)
few-either true p q = p
few-either false p q = q

-- of two tests not both hold
pub one_of_two : (b c : Bool) (rule rule' : ℕ) (span span' : Span) (path : List ℕ) → (b ≡ true → c ≡ false) → Few (list_if b rule span path ⊕ list_if c rule' span' path) 1
one_of_two true c rule rule' span span' path h = record { few = rw (h refl) (simp (length-join, length-if) (omega arith)) }
one_of_two false c rule rule' span span' path h = record { few = simp (length-join, length-if false rule span path) (omega (arith, few-if c rule' span' path)) }

-- 39 or 40, and 41
emphasis-most : (path : List ℕ) (span : Span) (empty white joined : Bool) → Few (list_if empty Rules.empty_emphasis span path ⊕ list_if (not empty && white) Rules.white_emphasis span path ⊕ list_if joined Rules.joined_emphasis span path) 2
emphasis-most path span empty white joined =
    rw join-assoc at
    (few-then (one_of_two empty (not empty && white) Rules.empty_emphasis Rules.white_emphasis span span path (λ e. rw e)) (one_entry joined Rules.joined_emphasis span path))

-- 47 is of a dollar fence (A is 0) and 48 of the code form (A is 1)
fences-apart : (a : ℕ) (bare held : Bool) → (eqb a 0 && bare) ≡ true → (eqb a 1 && held) ≡ false
fences-apart a bare held =
    kind-cases (λ n. (eqb n 0 && bare) ≡ true → (eqb n 1 && held) ≡ false) a 0 (λ e. refl) (λ other e. absurd (false≢true (rw other at e)))

own-most : (bytes path : List ℕ) (r : Rec) (kids : Forest) → Few (own_entries bytes path r kids) (own_most r.kind)
unfolding own_entries own_most validate_inline_values validate_destination validate_identifier validate_escape validate_directive_name validate_tag validate_text validate_code_inline validate_math_inline
own-most bytes path r kids =
    let one : (b : Bool) (rule : ℕ) → Few (list_if b rule r.span path) 1 = λ b rule. one_entry b rule r.span path in
    few-either (is_emphasis_container r.kind) (emphasis-most path r.span (all_empty kids) (starts_with_whitespace bytes kids || ends_with_whitespace bytes kids) (holds_joined r.kind r.a kids))
    (few-either (eqb r.kind link) (one _ _)
    (few-either (eqb r.kind link_reference) (one _ _)
    (few-either (eqb r.kind text_directive) (one _ _)
    (few-either (eqb r.kind inline_footnote) (one _ _)
    (few-either (eqb r.kind text) (one _ _)
    (few-either (eqb r.kind tag) (one _ _)
    (few-either (eqb r.kind image) (one _ _)
    (few-either (eqb r.kind image_reference) (one _ _)
    (few-either (eqb r.kind escape) (one _ _)
    (few-either (eqb r.kind footnote_reference) (one _ _)
    (few-either (eqb r.kind wiki_link) (one _ _)
    (few-either (eqb r.kind code) (few-then (one _ _) (one _ _))
    (few-either (eqb r.kind math) (few-then (one _ _) (one_of_two _ _ _ _ _ _ _ (fences-apart r.a (eqb r.b 0) _))) no-entry)))))))))))))

-- as one of the inlines side by side: 37 is of a break, and 38 of a strikethrough
unfoldable siblings_most : ℕ → ℕ
siblings_most k = if is_break k then 1 else if eqb k delete then 1 else 0

siblings-most : (path : List ℕ) (span : Span) (before k a : ℕ) → Few (validate_siblings path span before k a) (siblings_most k)
unfolding validate_siblings siblings_most
siblings-most path span before k a =
    let Most : ℕ → Type 0 = λ k. Few (validate_siblings path span before k a) (siblings_most k) in
    kind-cases Most k soft_break (one_of_two _ _ _ _ _ _ _ (λ e. and-false (eqb before delete)))
    (λ e. kind-cases Most k line_break (one_of_two _ _ _ _ _ _ _ (λ e. and-false (eqb before delete)))
    (λ f. kind-cases Most k delete (one_of_two _ _ _ _ _ _ _ (λ e. absurd (false≢true (sym (and-false (is_break before)) ∙ e))))
    (λ g. record { few = rw (e, f, g) (simp (and-false, length-join, length-if) (omega arith)) })))

few-where : (b : Bool) {x : List Entry} {n : ℕ} → Few x n → Few (if b then x else []) n
few-where true p = p
few-where false p = record { few = omega arith }

node-most : (bytes path : List ℕ) (before : ℕ) (r : Rec) (kids : Forest) → Few (node_entries bytes path before r kids) (siblings_most r.kind + own_most r.kind)
unfolding node_entries
node-most bytes path before r kids = few-where (is_inline r.kind) (few-then (siblings-most path r.span before r.kind r.a) (own-most bytes path r kids))

-- as any other
pub test-entry : (b : Bool) (rule : ℕ) (span : Span) (path : List ℕ) → Few (list_if b rule span path) (if b then 1 else 0)
test-entry b rule span path = record { few = rw length-if (le_refl _) }

pub both_entry : (b c : Bool) (rule : ℕ) (span : Span) (path : List ℕ) → Few (list_if (b && c) rule span path) (if b then 1 else 0)
both_entry true c rule span path = one_entry c rule span path
both_entry false c rule span path = test-entry false rule span path

-- the kinds whose values a cell asks for
unfoldable in_cell : ℕ → Bool
in_cell k = names_own_value k || names_label k || eqb k wiki_link

cell-entry : (own label wiki b c : Bool) (rule : ℕ) (span : Span) (path : List ℕ) → Few (list_if ((own || wiki) && b || (label || wiki) && c) rule span path) (if own || label || wiki then 1 else 0)
cell-entry true label wiki b c rule span path = one_entry _ rule span path
cell-entry false true wiki b c rule span path = one_entry _ rule span path
cell-entry false false true b c rule span path = one_entry _ rule span path
cell-entry false false false b c rule span path = test-entry false rule span path

abbrev pub bit : Bool → ℕ
bit b = if b then 1 else 0

unfoldable charged_most : ℕ → ℕ
charged_most k = siblings_most k + own_most k + (bit (eqb k line_break) + (bit (eqb k attribute) + (bit (is_link k) + (bit (is_break k) + bit (in_cell k)))))

charged-most : (bytes path : List ℕ) (rule before : ℕ) (r : Rec) (kids : Forest) → Few (charged bytes path rule before r kids) (charged_most r.kind)
unfolding charged charged_most break_entries attribute_entries link_entries line_entries cell_entries is_bad_attribute is_unwritable in_cell
charged-most bytes path rule before r kids =
    let break : Few (break_entries path r) (bit (eqb r.kind line_break)) = test-entry _ _ _ _ in
    let named : Few (attribute_entries bytes path r) (bit (eqb r.kind attribute)) = both_entry (eqb r.kind attribute) _ _ _ _ in
    let linked : Few (link_entries path r) (bit (is_link r.kind)) = test-entry _ _ _ _ in
    let line : Few (line_entries rule path r) (bit (is_break r.kind)) = test-entry _ _ _ _ in
    let cell : Few (cell_entries bytes path r) (bit (in_cell r.kind)) = cell-entry (names_own_value r.kind) (names_label r.kind) (eqb r.kind wiki_link) _ _ _ _ _ in
    few-then (node-most bytes path before r kids) (few-then break (few-then named (few-then linked (few-then line cell))))

-- No record has more than three entries: a line break that is the last inline of a cell, behind another break, has 30, 37 and 20. An HTML tag has at most two, which the container lists.
abbrev pub entries_of_inline : ℕ
entries_of_inline = 3

-- what a container may list of one of its HTML tags
abbrev pub tag_most : ℕ → ℕ
tag_most k = if eqb k html_tag then 2 else 0

kind-most : (k : ℕ) → charged_most k + tag_most k ≤ entries_of_inline
unfolding charged_most siblings_most own_most in_cell
kind-most k =
    let Most : ℕ → Type 0 = λ k. charged_most k + tag_most k ≤ entries_of_inline in
    kind-cases Most k emphasis (omega arith) (λ e0.
    kind-cases Most k strong (omega arith) (λ e1.
    kind-cases Most k delete (omega arith) (λ e2.
    kind-cases Most k mark (omega arith) (λ e3.
    kind-cases Most k link (omega arith) (λ e4.
    kind-cases Most k link_reference (omega arith) (λ e5.
    kind-cases Most k text_directive (omega arith) (λ e6.
    kind-cases Most k inline_footnote (omega arith) (λ e7.
    kind-cases Most k text (omega arith) (λ e8.
    kind-cases Most k image (omega arith) (λ e9.
    kind-cases Most k image_reference (omega arith) (λ e10.
    kind-cases Most k escape (omega arith) (λ e11.
    kind-cases Most k footnote_reference (omega arith) (λ e12.
    kind-cases Most k wiki_link (omega arith) (λ e13.
    kind-cases Most k code (omega arith) (λ e14.
    kind-cases Most k math (omega arith) (λ e15.
    kind-cases Most k line_break (omega arith) (λ e16.
    kind-cases Most k soft_break (omega arith) (λ e17.
    kind-cases Most k autolink (omega arith) (λ e18.
    kind-cases Most k html (omega arith) (λ e19.
    kind-cases Most k attribute (omega arith) (λ e20.
    kind-cases Most k html_tag (omega arith) (λ e21.
    kind-cases Most k tag (omega arith) (λ e22.
    rw (e0, e1, e2, e3, e4, e5, e6, e7, e8, e9, e10, e11, e12, e13, e14, e15, e16, e17, e18, e19, e20, e21, e22) (omega arith))))))))))))))))))))))))

pub inline-most : (bytes : List ℕ) (extra : Rec → ℕ) → ((r : Rec) → extra r ≤ tag_most r.kind) → EachInline bytes extra entries_of_inline
inline-most bytes extra tags path rule before r kids =
    omega (arith, (charged-most bytes path rule before r kids).few, kind-most r.kind, tags r)
