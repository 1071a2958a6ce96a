-- Laws of `ExpansionPromises.antt`, in its order, and the steps of the functions of src/add_body.rt: a group, a use, and a body line by line.
-- Assumes nothing.
--
--   BodySoFar ..     a body was walked from its first line up to `at`: what is left of it decides what is added
use Rattle.std.specs.Prelude.{◌≡◌, Bool, false, ◌&&◌, List, [], ◌∷◌, length, get_or, take, Result, Ok, Err}
use Rattle.std.proofs.Math.Path.{refl, sym}
use Rattle.std.proofs.Common.{ap, ◌∙◌, arith}
use Prim.Native.Nat.{ℕ, zero, suc, ◌+◌, ◌-◌, ◌≤◌, ◌<◌}
use Rattle.std.proofs.Math.Bool.{true}
use Rattle.refusals.specs.declared.refusal.Refusal.TheVariants.{ComponentNotDefined}
use Rattle.line_forms.specs.declared.line.Line.{Line}
use Rattle.line_forms.specs.declared.line.Line.TheVariants.{Field, Group, Use, Unknown}
use Rattle.layouts.specs.Limits.{gate_limits}
use Rattle.ascending.specs.Sort.{is_in}
use Rattle.records.specs.Records.{Words32}
use Rattle.dictionary.specs.DictionaryCheck.{is_dictionary}
use Rattle.expansion.specs.declared.builder.Builder as Code
use Rattle.expansion.specs.declared.builder.Stop.{Stop}
use Rattle.expansion.specs.declared.builder.Stop.TheVariants.{Error, NoRoom}
use Rattle.expansion.specs.Dictionary.{ComponentRef, Body, GroupDef, Dictionary, Found, NotFound, group_def, with_field, with_group, with_use, innermost, around_it, component_of, fields_of, count_tag_of}
use Rattle.bodies.specs.DictionaryPlaces.{open_at, OnlyUses, IsOther, inside-body, at_field, at-group, at-use, at-end}
use Rattle.dictionary.specs.DictionaryWords.{word_lines}
use Rattle.bodies.specs.DictionaryInWords.{dictionary_in}
use Rattle.definitions.specs.Definitions.{line_numbered}
use Rattle.definitions.specs.WordLinesLaws.{lines-counted, line_at}
use Rattle.bodies.specs.DictionaryLookups.{body_at, around_at, BodyAt, body-there, lines-in_order}
use Rattle.expansion.specs.Expansion.{OpenLevel, Work, Granted, spend, add_member, add_field, close_group, fill_body, add_group, add_component}
use Rattle.expansion.specs.Trace.{Frame, InWork, with_level, work_of, Adds, SpendsNode, Fits, Grown, Grows, Enters, Leaves, entered, left}
use Rattle.expansion.specs.TraceLaws.{stops-later, same-work, adds_then, adds-stops, grown-then, grown_grows, done-grown, stopped_grows}
use Rattle.bodies.specs.FillLaws.{fill_field, fill_group, fill_use, fill_end, first-fill, adds_same}
use Rattle.bodies.specs.ExpansionPromises.{fill_at, nodes_left, Fills, Uses}

-- ---- the names of a path

-- the part of the names that is lent
pub names-lent : (names path : List ℕ) (name count : ℕ) → take count names ≡ name ∷ path → take (count - 0) names ≡ name ∷ path
names-lent names path name count written = let all : count - 0 ≡ count = omega arith in rw all written

-- ---- a node

-- a node that is granted leaves a depth
pub spent-deep : (builder next : Code.Builder) (name depth : ℕ) → SpendsNode builder name depth (Ok next) → 0 < depth
unfolding SpendsNode spend
spent-deep builder next name zero spent =
    let granted = spent.1 (record { members = []; required = []; groups = [] }) in
    let never : ◌≡◌ {A = ℕ} 0 1 = cc in
    absurd (omega arith)
spent-deep builder next name (suc depth) spent = omega arith

pub spent-below : (builder next : Code.Builder) (name depth : ℕ) → SpendsNode builder name depth (Ok next) → depth ≡ suc (depth - 1)
spent-below builder next name depth spent = omega (arith, spent-deep builder next name depth spent)

pub spent-room : (builder next : Code.Builder) (name depth : ℕ) → SpendsNode builder name depth (Ok next)
    → next.len + suc (builder.members + builder.required + builder.nodes) ≤ builder.len + (next.members + next.required + next.nodes)
unfolding SpendsNode
spent-room builder next name depth spent =
    let same = spent.0 in
    rw same (omega arith)

-- a node that is granted is one node less, and its body is one depth down
pub spent-falls : (builder node : Code.Builder) (name depth : ℕ)
    → SpendsNode builder name depth (Ok node)
    → Fits node
    → (depth - 1 < depth) × (nodes_left node < nodes_left builder)
unfolding SpendsNode
spent-falls builder node name depth spent fits =
    let count : node.nodes ≡ builder.nodes + 1 = rw spent.0 refl in
    (omega (arith, spent-deep builder node name depth spent), omega (arith, count, fits.nodes))

-- the node is no word of the trace
spent-stands : (builder node : Code.Builder) (name depth : ℕ) (trace : List ℕ) (frame : Frame) (outer : List Frame)
    → SpendsNode builder name depth (Ok node)
    → InWork builder trace frame outer
    → InWork node trace frame outer
unfolding SpendsNode
spent-stands builder node name depth trace frame outer spent stands = rw spent.0 stands

-- ---- add_group

module _ (dictionary : Dictionary) (path : List ℕ) (collect : Bool) (count delimiter : ℕ) (required : Bool) (inner : Body)
    (depth less : ℕ) (same-depth : depth ≡ suc less) (builder : Code.Builder) (before : List ℕ) where
  abbrev adds_group : Work → Work
  adds_group = add_group gate_limits dictionary depth path collect (group_def count delimiter required inner)

  -- the entry level, filled
  abbrev fills_entry : Work → Work
  fills_entry = fill_body gate_limits (add_group gate_limits dictionary less path true) (add_component gate_limits dictionary less path true) true inner

  module _ (node : Code.Builder) (spent : SpendsNode builder count depth (Ok node)) where
    group_is : (level : OpenLevel)
        → adds_group (work_of builder level)
        ≡ close_group (group_def count delimiter required inner) (required && collect) (add_member gate_limits count (work_of node level))
        (fills_entry (entered count delimiter (work_of node level)))
    unfolding add_group SpendsNode
    group_is level =
        let granted : spend gate_limits count (suc less) (work_of builder level) ≡ Granted (work_of node level) = rw same-depth at (spent.1 level) in
        rw (same-depth, granted) refl

    pub group-added : (entry filled last : Code.Builder) (middle inside after : List ℕ)
        → Enters count (required && collect) delimiter node before (Ok entry) middle
        → Adds fills_entry entry middle (Ok filled) inside
        → Leaves delimiter filled inside (Ok last) after
        → Adds adds_group builder before (Ok last) after
    unfolding Adds Enters Leaves
    group-added entry filled last middle inside after enters fills leaves = λ frame outer stands.
        let begun = work_of node frame.level in
        let around = add_member gate_limits count begun in
        let one = enters frame outer (spent-stands builder node count depth before frame outer spent stands) in
        let entry_frame : Frame = record { count_tag = count; needed = required && collect; level = (entered count delimiter begun).level } in
        let two = fills entry_frame (with_level around.level frame ∷ outer) one.0 in
        let equal = same-work entry (entered count delimiter begun) one.1 in
        let full = fills_entry (work_of entry (entered count delimiter begun).level) in
        let three = leaves.0 (with_level full.level entry_frame) (with_level around.level frame) outer two.0 in
        rw (group_is frame.level, equal) (three.0, two.1 ∙ sym three.1)

    pub group-entry_over : (stop : Stop) (middle : List ℕ)
        → Enters count (required && collect) delimiter node before (Err stop) middle
        → Adds adds_group builder before (Err stop) middle
    unfolding Adds Enters
    group-entry_over stop middle enters = λ frame outer stands.
        let first = enters frame outer (spent-stands builder node count depth before frame outer spent stands) in
        let begun = entered count delimiter (work_of node frame.level) in
        rw (group_is frame.level)
        (stops-later stop middle fills_entry begun (λ refusal met. first-fill gate_limits refusal dictionary less path true true inner begun met) first)

    -- with whatever delimiter it is left
    pub group-left_over : (last : ℕ) (filled : Code.Builder) (stop : Stop) (inside after : List ℕ)
        → Leaves last filled inside (Err stop) after
        → Adds adds_group builder before (Err stop) after
    unfolding Adds Leaves
    group-left_over last filled (Error refusal) inside after leaves = absurd leaves
    group-left_over last filled NoRoom inside after leaves = λ frame outer stands. leaves

    pub group-body_over : (entry : Code.Builder) (stop : Stop) (middle inside : List ℕ)
        → Enters count (required && collect) delimiter node before (Ok entry) middle
        → Adds fills_entry entry middle (Err stop) inside
        → Adds adds_group builder before (Err stop) inside
    unfolding Adds Enters
    group-body_over entry stop middle inside enters fills = λ frame outer stands.
        let begun = work_of node frame.level in
        let one = enters frame outer (spent-stands builder node count depth before frame outer spent stands) in
        let equal = same-work entry (entered count delimiter begun) one.1 in
        let entry_frame : Frame = record { count_tag = count; needed = required && collect; level = (entered count delimiter begun).level } in
        let first = fills entry_frame (with_level (add_member gate_limits count begun).level frame ∷ outer) one.0 in
        rw (group_is frame.level, equal) first

module _ (dictionary : Dictionary) (path : List ℕ) (collect : Bool) (depth : ℕ) (builder : Code.Builder) (before after : List ℕ) where
  pub group-denied : (group : GroupDef) (stop : Stop) → SpendsNode builder (count_tag_of group) depth (Err stop)
      → Adds (add_group gate_limits dictionary depth path collect group) builder before (Err stop) after
  group-denied group stop spent = denied depth stop spent
    where
      denied : (depth : ℕ) (stop : Stop) → SpendsNode builder (count_tag_of group) depth (Err stop)
          → Adds (add_group gate_limits dictionary depth path collect group) builder before (Err stop) after
      denied zero (Error refusal) spent = unfold add_group Adds SpendsNode in λ frame outer stands. rw (spent frame.level) ([], refl)
      denied (suc left) (Error refusal) spent = unfold add_group Adds SpendsNode in λ frame outer stands. rw (spent frame.level) ([], refl)
      denied depth NoRoom spent = absurd (unfold SpendsNode in spent)

-- ---- add_component

module _ (dictionary : Dictionary) (path : List ℕ) (collect : Bool) (component : ComponentRef) (depth less : ℕ) (same-depth : depth ≡ suc less)
    (builder node : Code.Builder) (before : List ℕ) (spent : SpendsNode builder component.name depth (Ok node)) where
  abbrev adds_component : Work → Work
  adds_component = add_component gate_limits dictionary depth path collect component

  component-granted : (level : OpenLevel) → spend gate_limits component.name (suc less) (work_of builder level) ≡ Granted (work_of node level)
  unfolding SpendsNode
  component-granted level = rw same-depth at (spent.1 level)

  pub component-undefined : (after : List ℕ) → component_of dictionary component.name ≡ NotFound
      → Adds adds_component builder before (Err (Error (ComponentNotDefined component.name))) after
  unfolding add_component Adds
  component-undefined after missing = λ frame outer stands. rw (same-depth, component-granted frame.level, missing) ([], refl)

  module _ (body : Body) (found : component_of dictionary component.name ≡ Found body) where
    pub component-open : is_in component.name path ≡ true → Adds adds_component builder before (Ok node) before
    unfolding add_component Adds
    component-open again = λ frame outer stands.
        rw (same-depth, component-granted frame.level, found, again) (spent-stands builder node component.name depth before frame outer spent stands, refl)

    pub component-added : (names : List ℕ) (needed : Bool) (added : Result Code.Builder Stop) (after : List ℕ)
        → is_in component.name path ≡ false
        → names ≡ component.name ∷ path
        → needed ≡ (collect && component.required)
        → Adds (fill_body gate_limits (add_group gate_limits dictionary less names needed) (add_component gate_limits dictionary less names needed) needed body)
        node before added after
        → Adds adds_component builder before added after
    unfolding add_component Adds
    component-added names needed (Ok next) after new longer same adds = λ frame outer stands.
        let one = adds frame outer (spent-stands builder node component.name depth before frame outer spent stands) in
        rw (same-depth, component-granted frame.level, found, new, ← longer, ← same) one
    component-added names needed (Err stop) after new longer same adds = λ frame outer stands.
        let one = adds frame outer (spent-stands builder node component.name depth before frame outer spent stands) in
        rw (same-depth, component-granted frame.level, found, new, ← longer, ← same) one

module _ (dictionary : Dictionary) (path : List ℕ) (collect : Bool) (builder : Code.Builder) (before after : List ℕ) where
  pub component-denied : (depth : ℕ) (component : ComponentRef) (stop : Stop) → SpendsNode builder component.name depth (Err stop)
      → Adds (add_component gate_limits dictionary depth path collect component) builder before (Err stop) after
  unfolding add_component Adds SpendsNode
  component-denied zero component (Error refusal) spent = λ frame outer stands. rw (spent frame.level) ([], refl)
  component-denied (suc left) component (Error refusal) spent = λ frame outer stands. rw (spent frame.level) ([], refl)
  component-denied depth component NoRoom spent = absurd spent

-- ---- add_body: the loop over the lines of a body

pub record BodySoFar (words : List ℕ) (depth : ℕ) (path : List ℕ) (collect : Bool) (place : ℕ) (builder : Code.Builder) (before : List ℕ)
    (at : ℕ) (so_far : Code.Builder) (written : List ℕ) : Type 0 where
  pub there : BodyAt (word_lines words) at
  pub around : around_at (word_lines words) at ≡ around_at (word_lines words) place
  pub from : place ≤ at
  pub grown : Grown builder so_far
  pub size : length written ≡ length before
  pub rest : (added : Result Code.Builder Stop) (after : List ℕ)
      → Adds (fill_at words depth path collect at) so_far written added after
      → Adds (fill_at words depth path collect place) builder before added after

pub body-begins : (words : List ℕ) (depth : ℕ) (path : List ℕ) (collect : Bool) (place : ℕ) (builder : Code.Builder) (before : List ℕ)
    → BodyAt (word_lines words) place
    → Fits builder
    → BodySoFar words depth path collect place builder before place builder before
body-begins words depth path collect place builder before there fits = record {
  there = there;
  around = refl;
  from = omega arith;
  grown = record { fits = fits; spent = omega arith; slack = omega arith };
  size = refl;
  rest = λ added after adds. adds;
}

-- nothing is added where nothing is left
adds_none : (builder : Code.Builder) (trace : List ℕ) (change : Work → Work) → ((work : Work) → change work ≡ work) → Adds change builder trace (Ok builder) trace
unfolding Adds
adds_none builder trace change none = λ frame outer stands. rw (none (work_of builder frame.level)) (stands, refl)

module _ {words : List ℕ} (small : Words32 words) (passed : is_dictionary words ≡ true) {depth : ℕ} {path : List ℕ} {collect : Bool} {place : ℕ}
    {builder : Code.Builder} {before : List ℕ} {at : ℕ} {so_far : Code.Builder} {written : List ℕ}
    (walked : BodySoFar words depth path collect place builder before at so_far written) where
  abbrev lines : List Line
  lines = word_lines words

  -- there is a line where a body is open
  pub body-inside : at < get_or words 0 0
  body-inside =
      let over = inside-body lines at (body_at lines at) (around_at lines at) walked.there in
      omega (arith, lines-counted words, over)

  -- the line there, as it is read from its record
  line_here : (line : Line) → line_numbered words at ≡ line → get_or lines at Unknown ≡ line
  line_here line read = sym (line_at words at body-inside) ∙ read

  -- and there is room for one more
  pub body-next : at + 1 < 18446744073709551616
  body-next = omega (arith, body-inside, small 0)

  line-inside : at < length lines
  line-inside = omega (arith, lines-counted words, body-inside)

  abbrev groups : GroupDef → Work → Work
  groups = add_group gate_limits (dictionary_in words) depth path collect

  abbrev uses : ComponentRef → Work → Work
  uses = add_component gate_limits (dictionary_in words) depth path collect

  -- the line at `at` makes this change, and this is left of the body behind it
  abbrev Splits : (Work → Work) → Body → Type 0
  Splits change left = (work : Work) → fill_at words depth path collect at work ≡ fill_body gate_limits groups uses collect left (change work)

  going_on : (change : Work → Work) (left : Body) (further : ℕ) (next : Code.Builder) (after : List ℕ)
      → Splits change left
      → at ≤ further
      → open_at lines further ≡ left ∷ around_at lines at
      → Adds change so_far written (Ok next) after
      → Grown so_far next
      → length after ≡ length written
      → BodySoFar words depth path collect place builder before further next after
  going_on change left further next after splits order open-there changed grows kept = record {
    there = body-there (open_at lines further) left (around_at lines at) open-there;
    around = ap around_it open-there ∙ walked.around;
    from = omega (arith, walked.from, order);
    grown = grown-then builder so_far next walked.grown grows;
    size = kept ∙ walked.size;
    rest = λ added end adds.
        walked.rest added end
        (adds_same (λ work. fill_at words depth path collect further (change work)) (fill_at words depth path collect at) so_far written added end
        (λ work. ap (λ (body : Body). fill_body gate_limits groups uses collect body (change work)) (ap innermost open-there) ∙ sym (splits work))
        (adds_then change (fill_at words depth path collect further) so_far written after next added end changed adds));
  }

  stops : (change : Work → Work) (left : Body) (stop : Stop) (after : List ℕ)
      → Splits change left
      → Adds change so_far written (Err stop) after
      → Fills (fill_at words depth path collect place) words place builder before (Err stop) after
  stops change left stop after splits changed =
      let fill : Work → Work = λ work. fill_body gate_limits groups uses collect left work in
      record {
        adds =
            walked.rest (Err stop) after
            (adds_same (λ work. fill (change work)) (fill_at words depth path collect at) so_far written (Err stop) after
            (λ work. sym (splits work))
            (adds-stops change fill so_far written after stop changed
            (λ refusal work first. first-fill gate_limits refusal (dictionary_in words) depth path collect collect left work first)));
        grows = stopped_grows builder stop;
        ends = tt;
      }

  -- a line `field=TAG,R`
  module _ (tag : ℕ) (required needed : Bool) (read : line_numbered words at ≡ Field tag required) (same : needed ≡ (collect && required)) where
    abbrev field_parts : (rest : Body)
        × ((open_at lines (at + 1) ≡ rest ∷ around_at lines at) × (body_at lines at ≡ with_field (record { tag = tag; required = required }) rest))
    field_parts = at_field lines at line-inside (lines-in_order words small passed) (body_at lines at) (around_at lines at) walked.there tag required (line_here (Field tag required) read)

    field_splits : Splits (add_field gate_limits tag needed) field_parts.0
    field_splits work =
        ap (λ (body : Body). fill_body gate_limits groups uses collect body work) field_parts.1.1
        ∙ fill_field gate_limits groups uses collect work (record { tag = tag; required = required }) field_parts.0
        ∙ ap (λ (flag : Bool). fill_body gate_limits groups uses collect field_parts.0 (add_field gate_limits tag flag work)) (sym same)

    pub body-field : (next : Code.Builder) (after : List ℕ)
        → Adds (add_field gate_limits tag needed) so_far written (Ok next) after
        → Grows so_far (Ok next)
        → length after ≡ length written
        → BodySoFar words depth path collect place builder before (at + 1) next after
    body-field next after changed grows kept =
        going_on (add_field gate_limits tag needed) field_parts.0 (at + 1) next after field_splits (omega arith) field_parts.1.0 changed
        (done-grown so_far next grows)
        kept

    pub body-field_over : (stop : Stop) (after : List ℕ)
        → Adds (add_field gate_limits tag needed) so_far written (Err stop) after
        → Fills (fill_at words depth path collect place) words place builder before (Err stop) after
    body-field_over stop after changed = stops (add_field gate_limits tag needed) field_parts.0 stop after field_splits changed

  -- a line `group=COUNT,DELIMITER,R`
  module _ (count delimiter : ℕ) (required : Bool) (read : line_numbered words at ≡ Group count delimiter required) where
    abbrev group_there : GroupDef
    group_there = group_def count delimiter required (body_at lines (at + 1))

    abbrev group_parts : (inner : Body)
        × ((rest : Body)
        × ((open_at lines (at + 1) ≡ inner ∷ rest ∷ around_at lines at)
        × ((body_at lines at ≡ with_group (group_def count delimiter required inner) rest) × (fields_of rest ≡ []))))
    group_parts = at-group lines at line-inside (lines-in_order words small passed) (body_at lines at) (around_at lines at) walked.there count delimiter required (line_here (Group count delimiter required) read)

    -- the body of the group is open behind its line
    pub group-there : BodyAt lines (at + 1)
    group-there = body-there (open_at lines (at + 1)) group_parts.0 (group_parts.1.0 ∷ around_at lines at) group_parts.1.1.0

    group-splits : Splits (groups group_there) group_parts.1.0
    group-splits work =
        ap (λ (body : Body). fill_body gate_limits groups uses collect body work) group_parts.1.1.1.0
        ∙ fill_group gate_limits groups uses collect work (group_def count delimiter required group_parts.0) group_parts.1.0 group_parts.1.1.1.1
        ∙ ap (λ (body : Body). fill_body gate_limits groups uses collect group_parts.1.0 (groups (group_def count delimiter required body) work))
        (sym (ap innermost group_parts.1.1.0))

    pub body-group : (behind : ℕ) (next : Code.Builder) (after : List ℕ)
        → Fills (groups group_there) words (at + 1) so_far written (Ok (behind, next)) after
        → length after ≡ length written
        → BodySoFar words depth path collect place builder before behind next after
    body-group behind next after fills kept =
        going_on (groups group_there) group_parts.1.0 behind next after group-splits (omega (arith, fills.ends.0))
        (fills.ends.1.1 ∙ ap around_it group_parts.1.1.0)
        fills.adds
        (done-grown so_far next fills.grows)
        kept

    pub body-group_over : (stop : Stop) (after : List ℕ)
        → Fills (groups group_there) words (at + 1) so_far written (Err stop) after
        → Fills (fill_at words depth path collect place) words place builder before (Err stop) after
    body-group_over stop after fills = stops (groups group_there) group_parts.1.0 stop after group-splits fills.adds

  -- a line `use=N,R`
  module _ (name : ℕ) (required : Bool) (read : line_numbered words at ≡ Use name required) where
    abbrev use_there : ComponentRef
    use_there = record { name = name; required = required }

    abbrev use_parts : (rest : Body) × ((open_at lines (at + 1) ≡ rest ∷ around_at lines at) × ((body_at lines at ≡ with_use use_there rest) × OnlyUses rest))
    use_parts = at-use lines at line-inside (lines-in_order words small passed) (body_at lines at) (around_at lines at) walked.there name required (line_here (Use name required) read)

    use_splits : Splits (uses use_there) use_parts.0
    use_splits work =
        ap (λ (body : Body). fill_body gate_limits groups uses collect body work) use_parts.1.1.0
        ∙ fill_use gate_limits groups uses collect work use_there use_parts.0 use_parts.1.1.1

    pub body-use : (next : Code.Builder) (after : List ℕ)
        → Uses (uses use_there) so_far written (Ok next) after
        → length after ≡ length written
        → BodySoFar words depth path collect place builder before (at + 1) next after
    body-use next after changed kept =
        going_on (uses use_there) use_parts.0 (at + 1) next after use_splits (omega arith) use_parts.1.0 changed.adds
        (done-grown so_far next changed.grows)
        kept

    pub body-use_over : (stop : Stop) (after : List ℕ)
        → Uses (uses use_there) so_far written (Err stop) after
        → Fills (fill_at words depth path collect place) words place builder before (Err stop) after
    body-use_over stop after changed = stops (uses use_there) use_parts.0 stop after use_splits changed.adds

  -- any other line ends the body
  pub body-ends : (line : Line)
      → line_numbered words at ≡ line
      → IsOther line
      → Fills (fill_at words depth path collect place) words place builder before (Ok ((at + 1), so_far)) written
  body-ends line read other =
      let parts = at-end lines at line-inside (lines-in_order words small passed) (body_at lines at) (around_at lines at) walked.there line (line_here line read) other in
      record {
        adds =
            walked.rest (Ok so_far) written
            (adds_none so_far written (fill_at words depth path collect at)
            (λ work.
            ap (λ (body : Body). fill_body gate_limits groups uses collect body work) parts.0
            ∙ fill_end gate_limits groups uses collect work));
        grows = grown_grows builder so_far walked.grown;
        ends = (omega (arith, walked.from), (omega (arith, body-inside), parts.1 ∙ walked.around));
      }

-- ---- the word that leaves a group has its place: the group's node

module _ (builder node entry filled : Code.Builder) (name depth : ℕ) (spent : SpendsNode builder name depth (Ok node))
    (enters : Grown node entry) (fills : Grown entry filled) where
  pub group-room : Fits builder → filled.len < filled.members + filled.required + filled.nodes
  group-room fits = omega (arith, fits.len, spent-room builder node name depth spent, enters.slack, fills.slack)

  pub group-grown : Fits node → (delimiter : ℕ) (inside after : List ℕ) (last : Code.Builder) → Leaves delimiter filled inside (Ok last) after → Grown builder last
  unfolding Leaves
  group-grown fits delimiter inside after last leaves = record {
    fits = leaves.1.1;
    spent = rw leaves.1.0 (omega (arith, (spent-falls builder node name depth spent fits).1, enters.spent, fills.spent));
    slack = rw leaves.1.0 (omega (arith, spent-room builder node name depth spent, enters.slack, fills.slack));
  }
