-- The loops of `count_parts`, `put_tags` and `put_groups`, turn by turn, and what `put_groups` promises. Assumes nothing.
--
--   CountsSoFar text first members required groups         the lines before `first` were counted
--   TagsTaken text first required tags count next index now   `index` tags were put behind the `count` of the row
--   StartsHold text starts place blocks                    from `place` on stands where the lines of each block begin
--   GroupsPut text rows starts groups blocks new_rows new_starts count   the rows and the starts of the blocks were put behind those of `groups` others
use Rattle.std.specs.Prelude.{◌≡◌, Bool, true, false, List, [], ◌∷◌, ◌++◌, map, length, get_or, set, take, drop, if◌then◌else◌, Option, Some, None}
use Rattle.std.proofs.Math.Path.{refl}
use Rattle.std.proofs.Common.{sym, ap, ◌∙◌, append_assoc, append-nil, length-append, length-set, get_or-set_same, get_or-set_other}
use Prim.Native.Nat.{ℕ, zero, suc, ◌+◌, ◌*◌, ◌-◌, ◌≤◌, ◌<◌}
use native.Mathlib.Omega.{arith}
use Rattle.std.proofs.Math.Numerals.{towards_suc}
use Rattle.std.proofs.lemmas.List.Edits.{sets, sets-eq}
use Rattle.std.specs.Int.{from_bool}
use borrow.Rule.Slice.PartMut.{put_mid, Post-is}
use Rattle.std.proofs.Math.Seq.{length-sets}
use Rattle.std.proofs.lemmas.List.{take-set-le}
use Rattle.layouts.specs.GatheredLayout.{column}
use Rattle.layouts.specs.GatheredLayoutLaws.{column-set, column-set_next, Storing, storing-begins, storing-goes_on, storing-ends}
use Rattle.layouts.specs.LayoutLaws.{map-append}
use Rattle.layout_text.specs.declared.level_line.LevelLine.{LevelLine}
use Rattle.layout_text.specs.declared.level_line.LevelLine.TheVariants.{MemberLine, RequiredLine, GroupLine, EndLine, OtherLine}
use Rattle.layout_text.specs.LevelLines.{lines_at, least_bytes}
use Rattle.layout_text.specs.LevelLinesLaws.{lines_none}
use Rattle.layout_text.specs.declared.layout_text.Part.{Part}
use Rattle.layout_text.specs.declared.layout_text.Part.TheVariants.{Members, Required, Blocks}
use Rattle.layout_text.specs.LayoutText.{takes_required}
use Rattle.layout_text.specs.InOrder.{InOrder}
use Rattle.layout_parts.specs.LayoutParts.{tag_of, own_tags, behind_tags, BlockStart, start_of, blocks_in, member_count, required_count, group_count}

abbrev pub flag_word : Bool → ℕ
flag_word required = if required then 1 else 0

-- ---- counts

pub record CountsSoFar (text : List ℕ) (first members required groups : ℕ) : Type 0 where
  pub part : Part
  pub depth : ℕ
  pub within : first ≤ length text
  pub order : InOrder part depth (lines_at text first)
  pub few_members : members ≤ first
  pub few_required : required ≤ first
  pub few_groups : 12 * groups ≤ first + 5 * depth
  pub some_groups : groups ≤ first
  pub of_members : members + member_count (lines_at text first) ≡ member_count (lines_at text 0)
  pub of_required : required + required_count (lines_at text first) ≡ required_count (lines_at text 0)
  pub of_groups : groups + group_count (lines_at text first) ≡ group_count (lines_at text 0)

pub counts-begin : (text : List ℕ) → InOrder Members 0 (lines_at text 0) → CountsSoFar text 0 0 0 0
counts-begin text order = record {
  part = Members;
  depth = 0;
  within = omega arith;
  order = order;
  few_members = omega arith;
  few_required = omega arith;
  few_groups = omega arith;
  some_groups = omega arith;
  of_members = omega arith;
  of_required = omega arith;
  of_groups = omega arith;
}

record OneLine (line : LevelLine) (lines : List LevelLine) (members required groups : ℕ) : Type 0 where
  of_members : member_count (line ∷ lines) ≡ members + member_count lines
  of_required : required_count (line ∷ lines) ≡ required + required_count lines
  of_groups : group_count (line ∷ lines) ≡ groups + group_count lines

one-member : (tag : ℕ) (lines : List LevelLine) → OneLine (MemberLine tag) lines 1 0 0
unfolding member_count required_count group_count
one-member tag lines = record { of_members = omega arith; of_required = omega arith; of_groups = omega arith }

one-required : (tag : ℕ) (lines : List LevelLine) → OneLine (RequiredLine tag) lines 0 1 0
unfolding member_count required_count group_count
one-required tag lines = record { of_members = omega arith; of_required = omega arith; of_groups = omega arith }

one_group : (count delimiter : ℕ) (flag : Bool) (lines : List LevelLine) → OneLine (GroupLine count delimiter flag) lines 0 0 1
unfolding member_count required_count group_count
one_group count delimiter flag lines = record { of_members = omega arith; of_required = omega arith; of_groups = omega arith }

one_end : (lines : List LevelLine) → OneLine EndLine lines 0 0 0
unfolding member_count required_count group_count
one_end lines = record { of_members = omega arith; of_required = omega arith; of_groups = omega arith }

no_lines : (member_count [] ≡ 0) × (required_count [] ≡ 0) × (group_count [] ≡ 0)
unfolding member_count required_count group_count
no_lines = (refl, refl, refl)

least-group : (count delimiter : ℕ) (flag : Bool) → least_bytes (GroupLine count delimiter flag) ≡ 7
unfolding least_bytes
least-group count delimiter flag = refl

least-end : least_bytes EndLine ≡ 5
unfolding least_bytes
least-end = refl

module _ (text : List ℕ) (first members required groups : ℕ) (so_far : CountsSoFar text first members required groups) where
  pub counts_end : length text ≤ first
      → (members ≡ member_count (lines_at text 0)) × (required ≡ required_count (lines_at text 0)) × (groups ≡ group_count (lines_at text 0)) × (12 * groups ≤ length text)
  counts_end over =
      let none = lines_none text first over in
      let closed : so_far.depth ≡ 0 = rw none at so_far.order in (
        omega (arith, so_far.of_members, ap member_count none, no_lines.0),
        omega (arith, so_far.of_required, ap required_count none, no_lines.1),
        omega (arith, so_far.of_groups, ap group_count none, no_lines.2),
        omega (arith, so_far.few_groups, so_far.within, closed),
      )

  module _ (line : LevelLine) (next : ℕ) (reads : lines_at text first ≡ line ∷ lines_at text next) (bounds : (first < next) × (next ≤ length text) × (first + least_bytes line ≤ next)) where
    after : (other : LevelLine) → line ≡ other → lines_at text first ≡ other ∷ lines_at text next
    after other is = reads ∙ ap {B = List LevelLine} (λ (each : LevelLine). each ∷ lines_at text next) is

    counted : (other : LevelLine) → line ≡ other → (more needed nested depth : ℕ) (part : Part) → OneLine other (lines_at text next) more needed nested → InOrder part depth (lines_at text next)
        → more ≤ 1 → needed ≤ 1 → nested ≤ 1 → 12 * (groups + nested) ≤ next + 5 * depth → CountsSoFar text next (members + more) (required + needed) (groups + nested)
    counted other is more needed nested depth part one order one_more one-needed one-nested few =
        let lines = after other is in
        record {
          part = part;
          depth = depth;
          within = bounds.1;
          order = order;
          few_members = omega (arith, so_far.few_members, bounds.0);
          few_required = omega (arith, so_far.few_required, bounds.0);
          few_groups = few;
          some_groups = omega (arith, so_far.some_groups, bounds.0);
          of_members = omega (arith, so_far.of_members, ap member_count lines, one.of_members);
          of_required = omega (arith, so_far.of_required, ap required_count lines, one.of_required);
          of_groups = omega (arith, so_far.of_groups, ap group_count lines, one.of_groups);
        }

    pub counts-member : (tag : ℕ) → line ≡ MemberLine tag → CountsSoFar text next (members + 1) required groups
    counts-member tag is =
        let order : (so_far.part ≡ Members) × InOrder so_far.part so_far.depth (lines_at text next) = rw (after (MemberLine tag) is) at so_far.order in
        let same : required + 0 ≡ required = omega arith in
        let also : groups + 0 ≡ groups = omega arith in
        rw (same, also) at
        (counted (MemberLine tag) is 1 0 0 so_far.depth so_far.part (one-member tag (lines_at text next)) order.1 (omega arith) (omega arith) (omega arith) (omega (arith, so_far.few_groups, bounds.0)))

    pub counts-required : (tag : ℕ) → line ≡ RequiredLine tag → CountsSoFar text next members (required + 1) groups
    counts-required tag is =
        let order : (takes_required so_far.part ≡ true) × InOrder Required so_far.depth (lines_at text next) = rw (after (RequiredLine tag) is) at so_far.order in
        let same : members + 0 ≡ members = omega arith in
        let also : groups + 0 ≡ groups = omega arith in
        rw (same, also) at
        (counted (RequiredLine tag) is 0 1 0 so_far.depth Required (one-required tag (lines_at text next)) order.1 (omega arith) (omega arith) (omega arith) (omega (arith, so_far.few_groups, bounds.0)))

    pub counts-group : (count delimiter : ℕ) (flag : Bool) → line ≡ GroupLine count delimiter flag → CountsSoFar text next members required (groups + 1)
    counts-group count delimiter flag is =
        let order : (so_far.depth < 40) × InOrder Members (so_far.depth + 1) (lines_at text next) = rw (after (GroupLine count delimiter flag) is) at so_far.order in
        let same : members + 0 ≡ members = omega arith in
        let also : required + 0 ≡ required = omega arith in
        rw (same, also) at
        (counted
        (GroupLine count delimiter flag)
        is
        0
        0
        1
        (so_far.depth + 1)
        Members
        (one_group count delimiter flag (lines_at text next))
        order.1
        (omega arith)
        (omega arith)
        (omega arith)
        (omega (arith, so_far.few_groups, bounds.2, ap least_bytes is, least-group count delimiter flag)))

    counts-close : line ≡ EndLine → CountsSoFar text next members required groups
    counts-close is =
        let order : (0 < so_far.depth) × InOrder Blocks (so_far.depth - 1) (lines_at text next) = rw (after EndLine is) at so_far.order in
        let same : members + 0 ≡ members = omega arith in
        let also : required + 0 ≡ required = omega arith in
        let third : groups + 0 ≡ groups = omega arith in
        rw (same, also, third) at
        (counted
        EndLine
        is
        0
        0
        0
        (so_far.depth - 1)
        Blocks
        (one_end (lines_at text next))
        order.1
        (omega arith)
        (omega arith)
        (omega arith)
        (omega (arith, so_far.few_groups, bounds.2, order.0, ap least_bytes is, least-end)))

    -- an accepted text has no other line
    pub counts-uncounted : (other : LevelLine) → line ≡ other → ((tag : ℕ) → line ≡ MemberLine tag → ⊥) → ((tag : ℕ) → line ≡ RequiredLine tag → ⊥)
        → ((count delimiter : ℕ) (flag : Bool) → line ≡ GroupLine count delimiter flag → ⊥) → CountsSoFar text next members required groups
    counts-uncounted (MemberLine tag) is no-member no-required no-group = absurd (no-member tag is)
    counts-uncounted (RequiredLine tag) is no-member no-required no-group = absurd (no-required tag is)
    counts-uncounted (GroupLine count delimiter flag) is no-member no-required no-group = absurd (no-group count delimiter flag is)
    counts-uncounted EndLine is no-member no-required no-group = counts-close is
    counts-uncounted OtherLine is no-member no-required no-group = absurd (rw (after OtherLine is) at so_far.order)

-- ---- the tags of a level

own-tag : (required : Bool) (lines later : List LevelLine) (line : LevelLine) (tag : ℕ) → lines ≡ line ∷ later → tag_of required line ≡ Some tag
    → (own_tags required lines ≡ tag ∷ own_tags required later) × (behind_tags required lines ≡ behind_tags required later)
unfolding own_tags behind_tags
own-tag required lines later line tag are is = (rw (are, is), rw (are, is))

no_tag : (required : Bool) (lines later : List LevelLine) (line : LevelLine) → lines ≡ line ∷ later → tag_of required line ≡ None
    → (own_tags required lines ≡ []) × (behind_tags required lines ≡ lines)
unfolding own_tags behind_tags
no_tag required lines later line are is = (rw (are, is), rw (are, is))

no_line : (required : Bool) (lines : List LevelLine) → lines ≡ [] → (own_tags required lines ≡ []) × (behind_tags required lines ≡ lines)
unfolding own_tags behind_tags
no_line required lines none = (rw none, rw none)

pub record TagsTaken (text : List ℕ) (first : ℕ) (required : Bool) (tags : List ℕ) (count next index : ℕ) (now : List ℕ) : Type 0 where
  pub within : next ≤ length text
  pub left : index + length (own_tags required (lines_at text next)) ≡ length (own_tags required (lines_at text first))
  pub storing : Storing tags (own_tags required (lines_at text first)) count index now (own_tags required (lines_at text next))
  pub behind : behind_tags required (lines_at text next) ≡ behind_tags required (lines_at text first)

pub taken-begin : (text : List ℕ) (first : ℕ) (required : Bool) (tags : List ℕ) (count : ℕ) → first ≤ length text → TagsTaken text first required tags count first 0 tags
taken-begin text first required tags count within =
    record { within = within; left = omega arith; storing = storing-begins tags (own_tags required (lines_at text first)) count; behind = refl }

module _ (text : List ℕ) (first : ℕ) (required : Bool) (tags : List ℕ) (count next index : ℕ) (now : List ℕ) (so_far : TagsTaken text first required tags count next index now) where
  ended : (own_tags required (lines_at text next) ≡ []) × (behind_tags required (lines_at text next) ≡ lines_at text next)
      → (now ≡ sets tags count (own_tags required (lines_at text first)))
      × (count + index ≡ count + length (own_tags required (lines_at text first)))
      × (next ≤ length text)
      × (lines_at text next ≡ behind_tags required (lines_at text first))
  ended none = (
    storing-ends tags (own_tags required (lines_at text first)) count index now (rw none.0 at so_far.storing),
    omega (arith, so_far.left, ap length none.0),
    so_far.within,
    sym none.1 ∙ so_far.behind,
  )

  pub taken-end : length text ≤ next
      → (now ≡ sets tags count (own_tags required (lines_at text first)))
      × (count + index ≡ count + length (own_tags required (lines_at text first)))
      × (next ≤ length text)
      × (lines_at text next ≡ behind_tags required (lines_at text first))
  taken-end over = ended (no_line required (lines_at text next) (lines_none text next over))

  module _ (line : LevelLine) (later : ℕ) (reads : lines_at text next ≡ line ∷ lines_at text later) (after : later ≤ length text) (found : Option ℕ) (told : found ≡ tag_of required line) where
    pub taken-stops : found ≡ None
        → (now ≡ sets tags count (own_tags required (lines_at text first)))
        × (count + index ≡ count + length (own_tags required (lines_at text first)))
        × (next ≤ length text)
        × (lines_at text next ≡ behind_tags required (lines_at text first))
    taken-stops is = ended (no_tag required (lines_at text next) (lines_at text later) line reads (sym told ∙ is))

    module _ (tag : ℕ) (is : found ≡ Some tag) where
      one_tag : (own_tags required (lines_at text next) ≡ tag ∷ own_tags required (lines_at text later)) × (behind_tags required (lines_at text next) ≡ behind_tags required (lines_at text later))
      one_tag = own-tag required (lines_at text next) (lines_at text later) line tag reads (sym told ∙ is)

      pub tag-inside : count + length (own_tags required (lines_at text first)) ≤ length tags → count + index < length now
      tag-inside room = omega (arith, so_far.left, ap length one_tag.0, so_far.storing.same)

      pub taken-goes_on : TagsTaken text first required tags count later (index + 1) (set now (count + index) tag)
      taken-goes_on = record {
        within = after;
        left = omega (arith, so_far.left, ap length one_tag.0);
        storing = storing-goes_on tags (own_tags required (lines_at text first)) count index now tag (own_tags required (lines_at text later)) (rw one_tag.0 at so_far.storing);
        behind = sym one_tag.1 ∙ so_far.behind;
      }

-- ---- three words of a row

flag-word : (flag : Bool) → from_bool flag ≡ flag_word flag
flag-word true = refl
flag-word false = refl

-- `rows[at..at + 3].copy_from_slice(&[one, two, three])`
pub row-put : (rows : List ℕ) (at : ℕ) (part : List ℕ) (one two three : ℕ) → part ≡ one ∷ two ∷ three ∷ [] → at + 3 ≤ length rows
    → put_mid at (at + 3 - at) rows part ≡ sets rows at (one ∷ two ∷ three ∷ [])
row-put rows at part one two three same room =
    rw (same, Post-is at (at + 3) rows (omega arith)) (sym (sets-eq (one ∷ two ∷ three ∷ []) rows at room ∙ append_assoc (take at rows) (one ∷ two ∷ three ∷ []) (drop (at + 3) rows)))

pub row-put_flag : (rows : List ℕ) (at : ℕ) (part : List ℕ) (one two word : ℕ) (flag : Bool) → word ≡ from_bool flag → part ≡ one ∷ two ∷ word ∷ [] → at + 3 ≤ length rows
    → put_mid at (at + 3 - at) rows part ≡ sets rows at (one ∷ two ∷ flag_word flag ∷ [])
row-put_flag rows at part one two word flag is same room = row-put rows at part one two (flag_word flag) (same ∙ rw (is, flag-word flag)) room

row-stores : (rows : List ℕ) (at one two three first second third : ℕ) → first ≡ one → second ≡ two → third ≡ three
    → set (set (set rows at first) (at + 1) second) (at + 2) third ≡ sets rows at (one ∷ two ∷ three ∷ [])
row-stores rows at one two three first second third of_one of_two of_three = rw (of_one, of_two, of_three) (simp towards_suc)

-- the next words of three columns side by side, where `at` is the place of the first
module _ (rows : List ℕ) (at one two three : ℕ) where
  stored : sets rows at (one ∷ two ∷ three ∷ []) ≡ set (set (set rows at one) (at + 1) two) (at + 2) three
  stored = sym (row-stores rows at one two three one two three refl refl refl)

  pub columns_beside : (field count : ℕ)
      → ((number : ℕ) → number < count → field + 6 * number ≡ at → ⊥)
      → ((number : ℕ) → number < count → field + 6 * number ≡ at + 1 → ⊥)
      → ((number : ℕ) → number < count → field + 6 * number ≡ at + 2 → ⊥)
      → column (sets rows at (one ∷ two ∷ three ∷ [])) field count ≡ column rows field count
  columns_beside field count first second third =
      ap (λ (each : List ℕ). column each field count) stored
      ∙ column-set (set (set rows at one) (at + 1) two) (at + 2) three field count third
      ∙ column-set (set rows at one) (at + 1) two field count second
      ∙ column-set rows at one field count first

  module _ (field count : ℕ) (here : at ≡ field + 6 * count) (room : at + 2 < length rows) where
    pub column-first : column (sets rows at (one ∷ two ∷ three ∷ [])) field (count + 1) ≡ column rows field count ++ (one ∷ [])
    column-first =
        ap (λ (each : List ℕ). column each field (count + 1)) stored
        ∙ column-set (set (set rows at one) (at + 1) two) (at + 2) three field (count + 1) (λ (number : ℕ) (below : number < count + 1) (same : field + 6 * number ≡ at + 2). omega arith)
        ∙ column-set (set rows at one) (at + 1) two field (count + 1) (λ (number : ℕ) (below : number < count + 1) (same : field + 6 * number ≡ at + 1). omega arith)
        ∙ ap (λ (place : ℕ). column (set rows place one) field (count + 1)) here
        ∙ column-set_next rows field count one (omega arith)

    pub column-second : column (sets rows at (one ∷ two ∷ three ∷ [])) (field + 1) (count + 1) ≡ column rows (field + 1) count ++ (two ∷ [])
    column-second =
        let there : at + 1 ≡ field + 1 + 6 * count = omega arith in
        ap (λ (each : List ℕ). column each (field + 1) (count + 1)) stored
        ∙ column-set (set (set rows at one) (at + 1) two) (at + 2) three (field + 1) (count + 1) (λ (number : ℕ) (below : number < count + 1) (same : field + 1 + 6 * number ≡ at + 2). omega arith)
        ∙ ap (λ (place : ℕ). column (set (set rows at one) place two) (field + 1) (count + 1)) there
        ∙ column-set_next (set rows at one) (field + 1) count two (omega (arith, length-set rows at one))
        ∙ ap (λ (before : List ℕ). before ++ (two ∷ [])) (column-set rows at one (field + 1) count (λ (number : ℕ) (below : number < count) (same : field + 1 + 6 * number ≡ at). omega arith))

    pub column-third : column (sets rows at (one ∷ two ∷ three ∷ [])) (field + 2) (count + 1) ≡ column rows (field + 2) count ++ (three ∷ [])
    column-third =
        let there : at + 2 ≡ field + 2 + 6 * count = omega arith in
        ap (λ (each : List ℕ). column each (field + 2) (count + 1)) stored
        ∙ ap (λ (place : ℕ). column (set (set (set rows at one) (at + 1) two) place three) (field + 2) (count + 1)) there
        ∙ column-set_next (set (set rows at one) (at + 1) two) (field + 2) count three (omega (arith, length-set rows at one, length-set (set rows at one) (at + 1) two))
        ∙ ap (λ (before : List ℕ). before ++ (three ∷ []))
        (column-set (set rows at one) (at + 1) two (field + 2) count (λ (number : ℕ) (below : number < count) (same : field + 2 + 6 * number ≡ at + 1). omega arith)
        ∙ column-set rows at one (field + 2) count (λ (number : ℕ) (below : number < count) (same : field + 2 + 6 * number ≡ at). omega arith))

-- ---- the blocks of a level

abbrev pub start_tag : BlockStart → ℕ
start_tag (start_of count delimiter flag lines) = count

abbrev pub start_delimiter : BlockStart → ℕ
start_delimiter (start_of count delimiter flag lines) = delimiter

abbrev pub start_flag : BlockStart → ℕ
start_flag (start_of count delimiter flag lines) = flag_word flag

abbrev pub start_lines : BlockStart → List LevelLine
start_lines (start_of count delimiter flag lines) = lines

unfoldable pub StartsHold : List ℕ → List ℕ → ℕ → List BlockStart → Type 0
StartsHold text starts place [] = Unit
StartsHold text starts place (first ∷ others) = (lines_at text (get_or starts place 0) ≡ start_lines first) × (get_or starts place 0 ≤ length text) × StartsHold text starts (place + 1) others

pub record GroupsPut (text rows starts : List ℕ) (groups : ℕ) (blocks : List BlockStart) (new_rows new_starts : List ℕ) (count : ℕ) : Type 0 where
  pub counted : count ≡ groups + length blocks
  pub row_room : length new_rows ≡ length rows
  pub start_room : length new_starts ≡ length starts
  pub count_tags : column new_rows 6 count ≡ column rows 6 groups ++ map start_tag blocks
  pub delimiters : column new_rows 7 count ≡ column rows 7 groups ++ map start_delimiter blocks
  pub flags : column new_rows 8 count ≡ column rows 8 groups ++ map start_flag blocks
  pub member_ends : (levels : ℕ) → column new_rows 3 levels ≡ column rows 3 levels
  pub required_ends : (levels : ℕ) → column new_rows 4 levels ≡ column rows 4 levels
  pub group_ends : (levels : ℕ) → column new_rows 5 levels ≡ column rows 5 levels
  pub kept : take groups new_starts ≡ take groups starts
  pub starts_hold : StartsHold text new_starts groups blocks

groups_none : (text rows starts : List ℕ) (groups : ℕ) → GroupsPut text rows starts groups [] rows starts groups
unfolding StartsHold
groups_none text rows starts groups = record {
  counted = omega arith;
  row_room = refl;
  start_room = refl;
  count_tags = sym (append-nil (column rows 6 groups));
  delimiters = sym (append-nil (column rows 7 groups));
  flags = sym (append-nil (column rows 8 groups));
  member_ends = λ levels. refl;
  required_ends = λ levels. refl;
  group_ends = λ levels. refl;
  kept = refl;
  starts_hold = tt;
}

-- one start more, behind those that are there
starts_more : (text starts : List ℕ) (place at next : ℕ) (blocks : List BlockStart) (block : BlockStart) → at ≡ place + length blocks → at < length starts → next ≤ length text
    → lines_at text next ≡ start_lines block → StartsHold text starts place blocks → StartsHold text (set starts at next) place (blocks ++ (block ∷ []))
unfolding StartsHold
starts_more text starts place at next [] block here inside within lines hold =
    let same : at ≡ place = omega arith in
    let word : get_or (set starts at next) place 0 ≡ next = rw same (get_or-set_same starts place next 0 (omega arith)) in
    (ap (lines_at text) word ∙ lines, omega (arith, word), tt)
starts_more text starts place at next (first ∷ blocks) block here inside within lines hold =
    let word : get_or (set starts at next) place 0 ≡ get_or starts place 0 = get_or-set_other starts at place next 0 (λ (same : place ≡ at). omega arith) in
    (ap (lines_at text) word ∙ hold.0, omega (arith, word, hold.1), starts_more text starts (place + 1) at next blocks block (omega arith) inside within lines hold.2)

module _ (text rows starts : List ℕ) (groups : ℕ) (blocks : List BlockStart) (new_rows new_starts : List ℕ) (count : ℕ) (so_far : GroupsPut text rows starts groups blocks new_rows new_starts count) where
  groups-more : (tag delimiter : ℕ) (flag : Bool) (next : ℕ) → next ≤ length text → count < length new_starts → 6 * count + 12 ≤ length new_rows → (put : List ℕ)
      → put ≡ sets new_rows (6 * count + 6) (tag ∷ delimiter ∷ flag_word flag ∷ [])
      → GroupsPut text rows starts groups (blocks ++ (start_of tag delimiter flag (lines_at text next) ∷ [])) put (set new_starts count next) (count + 1)
  groups-more tag delimiter flag next within inside room put is =
      let at = 6 * count + 6 in
      let word = flag_word flag in
      let block = start_of tag delimiter flag (lines_at text next) in
      let here : at ≡ 6 + 6 * count = omega arith in
      let one_more : (field last : ℕ) (read : BlockStart → ℕ) → column put field (count + 1) ≡ column new_rows field count ++ (last ∷ []) → last ≡ read block → column new_rows field count ≡ column rows field groups ++ map read blocks
      → column put field (count + 1) ≡ column rows field groups ++ map read (blocks ++ (block ∷ []))
      = λ field last read added told before.
      added
      ∙ ap (λ (list : List ℕ). list ++ (last ∷ [])) before
      ∙ append_assoc (column rows field groups) (map read blocks) (last ∷ [])
      ∙ ap (λ (list : List ℕ). column rows field groups ++ list) (ap (λ (each : ℕ). map read blocks ++ (each ∷ [])) told ∙ sym (map-append read blocks (block ∷ []))) in
      record {
        counted = omega (arith, so_far.counted, length-append blocks (block ∷ []));
        row_room = ap length is ∙ length-sets new_rows at (tag ∷ delimiter ∷ word ∷ []) ∙ so_far.row_room;
        start_room = length-set new_starts count next ∙ so_far.start_room;
        count_tags = one_more 6 tag start_tag (ap (λ (each : List ℕ). column each 6 (count + 1)) is ∙ column-first new_rows at tag delimiter word 6 count here (omega arith)) refl so_far.count_tags;
        delimiters = one_more 7 delimiter start_delimiter (ap (λ (each : List ℕ). column each 7 (count + 1)) is ∙ column-second new_rows at tag delimiter word 6 count here (omega arith)) refl so_far.delimiters;
        flags = one_more 8 word start_flag (ap (λ (each : List ℕ). column each 8 (count + 1)) is ∙ column-third new_rows at tag delimiter word 6 count here (omega arith)) refl so_far.flags;
        member_ends = λ levels.
            ap (λ (each : List ℕ). column each 3 levels) is
            ∙ columns_beside new_rows at tag delimiter word 3 levels
            (λ (number : ℕ) (below : number < levels) (same : 3 + 6 * number ≡ at). omega arith)
            (λ (number : ℕ) (below : number < levels) (same : 3 + 6 * number ≡ at + 1). omega arith)
            (λ (number : ℕ) (below : number < levels) (same : 3 + 6 * number ≡ at + 2). omega arith)
            ∙ so_far.member_ends levels;
        required_ends = λ levels.
            ap (λ (each : List ℕ). column each 4 levels) is
            ∙ columns_beside new_rows at tag delimiter word 4 levels
            (λ (number : ℕ) (below : number < levels) (same : 4 + 6 * number ≡ at). omega arith)
            (λ (number : ℕ) (below : number < levels) (same : 4 + 6 * number ≡ at + 1). omega arith)
            (λ (number : ℕ) (below : number < levels) (same : 4 + 6 * number ≡ at + 2). omega arith)
            ∙ so_far.required_ends levels;
        group_ends = λ levels.
            ap (λ (each : List ℕ). column each 5 levels) is
            ∙ columns_beside new_rows at tag delimiter word 5 levels
            (λ (number : ℕ) (below : number < levels) (same : 5 + 6 * number ≡ at). omega arith)
            (λ (number : ℕ) (below : number < levels) (same : 5 + 6 * number ≡ at + 1). omega arith)
            (λ (number : ℕ) (below : number < levels) (same : 5 + 6 * number ≡ at + 2). omega arith)
            ∙ so_far.group_ends levels;
        kept = take-set-le groups new_starts count next (omega (arith, so_far.counted)) ∙ so_far.kept;
        starts_hold = starts_more text new_starts groups count next blocks block so_far.counted inside within refl so_far.starts_hold;
      }

-- the loop: the blocks of the lines before `next` were put, and `depth` blocks are open
pub record BlocksSoFar (text : List ℕ) (first : ℕ) (rows starts : List ℕ) (groups next depth count : ℕ) (new_rows new_starts : List ℕ) : Type 0 where
  pub done : List BlockStart
  pub within : next ≤ length text
  pub deep : depth ≤ next
  pub put : GroupsPut text rows starts groups done new_rows new_starts count
  pub rest : blocks_in 0 (lines_at text first) ≡ done ++ blocks_in depth (lines_at text next)

pub blocks-begin : (text : List ℕ) (first : ℕ) (rows starts : List ℕ) (groups : ℕ) → first ≤ length text → BlocksSoFar text first rows starts groups first 0 groups rows starts
blocks-begin text first rows starts groups within = record { done = []; within = within; deep = omega arith; put = groups_none text rows starts groups; rest = refl }

-- the blocks behind a line
module _ (depth : ℕ) (lines later : List LevelLine) where
  blocks-open : (count delimiter : ℕ) (flag : Bool) → lines ≡ GroupLine count delimiter flag ∷ later → depth ≡ 0 → blocks_in depth lines ≡ start_of count delimiter flag later ∷ blocks_in 1 later
  unfolding blocks_in
  blocks-open count delimiter flag are none = rw (none, are)

  blocks-deeper : (count delimiter : ℕ) (flag : Bool) → lines ≡ GroupLine count delimiter flag ∷ later → (depth ≡ 0 → ⊥) → blocks_in depth lines ≡ blocks_in (depth + 1) later
  unfolding blocks_in
  blocks-deeper count delimiter flag are some = by depth refl
    where
      by : (deep : ℕ) → depth ≡ deep → blocks_in depth lines ≡ blocks_in (depth + 1) later
      by zero is = absurd (some is)
      by (suc deep) is = let next : suc deep + 1 ≡ suc (suc deep) = omega arith in rw (is, are, next)

  blocks-stop : lines ≡ EndLine ∷ later → depth ≡ 0 → blocks_in depth lines ≡ []
  unfolding blocks_in
  blocks-stop are none = rw (none, are)

  blocks-close : lines ≡ EndLine ∷ later → (depth ≡ 0 → ⊥) → blocks_in depth lines ≡ blocks_in (depth - 1) later
  unfolding blocks_in
  blocks-close are some = by depth refl
    where
      by : (deep : ℕ) → depth ≡ deep → blocks_in depth lines ≡ blocks_in (depth - 1) later
      by zero is = absurd (some is)
      by (suc deep) is = let next : suc deep - 1 ≡ deep = omega arith in rw (is, are, next)

  blocks-member : (tag : ℕ) → lines ≡ MemberLine tag ∷ later → blocks_in depth lines ≡ blocks_in depth later
  unfolding blocks_in
  blocks-member tag are = rw are

  blocks-required : (tag : ℕ) → lines ≡ RequiredLine tag ∷ later → blocks_in depth lines ≡ blocks_in depth later
  unfolding blocks_in
  blocks-required tag are = rw are

  blocks-other : lines ≡ OtherLine ∷ later → blocks_in depth lines ≡ blocks_in depth later
  unfolding blocks_in
  blocks-other are = rw are

no_blocks : (depth : ℕ) (lines : List LevelLine) → lines ≡ [] → blocks_in depth lines ≡ []
unfolding blocks_in
no_blocks depth lines none = rw none

module _ (text : List ℕ) (first : ℕ) (rows starts : List ℕ) (groups next depth count : ℕ) (new_rows new_starts : List ℕ) (so_far : BlocksSoFar text first rows starts groups next depth count new_rows new_starts) where
  all-put : blocks_in depth (lines_at text next) ≡ [] → GroupsPut text rows starts groups (blocks_in 0 (lines_at text first)) new_rows new_starts count
  all-put none = rw (so_far.rest, none, append-nil so_far.done) so_far.put

  pub blocks_end : length text ≤ next → GroupsPut text rows starts groups (blocks_in 0 (lines_at text first)) new_rows new_starts count
  blocks_end over = all-put (no_blocks depth (lines_at text next) (lines_none text next over))

  module _ (line : LevelLine) (later : ℕ) (reads : lines_at text next ≡ line ∷ lines_at text later) (ahead : next < later) (after : later ≤ length text) where
    behind : (other : LevelLine) → line ≡ other → lines_at text next ≡ other ∷ lines_at text later
    behind other is = reads ∙ ap {B = List LevelLine} (λ (each : LevelLine). each ∷ lines_at text later) is

    moved : (deeper : ℕ) → deeper ≤ later → blocks_in depth (lines_at text next) ≡ blocks_in deeper (lines_at text later) → BlocksSoFar text first rows starts groups later deeper count new_rows new_starts
    moved deeper deep same =
        record { done = so_far.done; within = after; deep = deep; put = so_far.put; rest = so_far.rest ∙ ap (λ (blocks : List BlockStart). so_far.done ++ blocks) same }

    blocks-at_member : (tag : ℕ) → line ≡ MemberLine tag → BlocksSoFar text first rows starts groups later depth count new_rows new_starts
    blocks-at_member tag is = moved depth (omega (arith, so_far.deep)) (blocks-member depth (lines_at text next) (lines_at text later) tag (behind (MemberLine tag) is))

    blocks-at_required : (tag : ℕ) → line ≡ RequiredLine tag → BlocksSoFar text first rows starts groups later depth count new_rows new_starts
    blocks-at_required tag is = moved depth (omega (arith, so_far.deep)) (blocks-required depth (lines_at text next) (lines_at text later) tag (behind (RequiredLine tag) is))

    blocks-at_other : line ≡ OtherLine → BlocksSoFar text first rows starts groups later depth count new_rows new_starts
    blocks-at_other is = moved depth (omega (arith, so_far.deep)) (blocks-other depth (lines_at text next) (lines_at text later) (behind OtherLine is))

    pub blocks-at_tag : (other : LevelLine) → line ≡ other → ((count delimiter : ℕ) (flag : Bool) → line ≡ GroupLine count delimiter flag → ⊥) → (line ≡ EndLine → ⊥)
        → BlocksSoFar text first rows starts groups later depth count new_rows new_starts
    blocks-at_tag (MemberLine tag) is no-group no-end = blocks-at_member tag is
    blocks-at_tag (RequiredLine tag) is no-group no-end = blocks-at_required tag is
    blocks-at_tag (GroupLine count_tag delimiter flag) is no-group no-end = absurd (no-group count_tag delimiter flag is)
    blocks-at_tag EndLine is no-group no-end = absurd (no-end is)
    blocks-at_tag OtherLine is no-group no-end = blocks-at_other is

    pub blocks-at_end : line ≡ EndLine → depth ≡ 0 → GroupsPut text rows starts groups (blocks_in 0 (lines_at text first)) new_rows new_starts count
    blocks-at_end is none = all-put (blocks-stop depth (lines_at text next) (lines_at text later) (behind EndLine is) none)

    pub blocks-at_close : line ≡ EndLine → (depth ≡ 0 → ⊥) → BlocksSoFar text first rows starts groups later (depth - 1) count new_rows new_starts
    blocks-at_close is some = moved (depth - 1) (omega (arith, so_far.deep)) (blocks-close depth (lines_at text next) (lines_at text later) (behind EndLine is) some)

    module _ (tag delimiter : ℕ) (flag : Bool) (is : line ≡ GroupLine tag delimiter flag) where
      pub blocks-at_deeper : (depth ≡ 0 → ⊥) → BlocksSoFar text first rows starts groups later (depth + 1) count new_rows new_starts
      blocks-at_deeper some = moved (depth + 1) (omega (arith, so_far.deep)) (blocks-deeper depth (lines_at text next) (lines_at text later) tag delimiter flag (behind (GroupLine tag delimiter flag) is) some)

      opened : depth ≡ 0 → blocks_in 0 (lines_at text first) ≡ so_far.done ++ (start_of tag delimiter flag (lines_at text later) ∷ blocks_in 1 (lines_at text later))
      opened none =
          so_far.rest
          ∙ ap (λ (blocks : List BlockStart). so_far.done ++ blocks) (blocks-open depth (lines_at text next) (lines_at text later) tag delimiter flag (behind (GroupLine tag delimiter flag) is) none)

      -- there is room for one more
      pub block_inside : depth ≡ 0 → groups + length (blocks_in 0 (lines_at text first)) ≤ length starts → 6 * (groups + length (blocks_in 0 (lines_at text first))) + 6 ≤ length rows
          → (count < length new_starts) × (6 * count + 12 ≤ length new_rows)
      block_inside none room room_of_rows =
          let all = ap length (opened none) in
          let parts = length-append so_far.done (start_of tag delimiter flag (lines_at text later) ∷ blocks_in 1 (lines_at text later)) in
          (omega (arith, all, parts, so_far.put.counted, so_far.put.start_room), omega (arith, all, parts, so_far.put.counted, so_far.put.row_room))

      pub blocks-at_group : depth ≡ 0 → count < length new_starts → 6 * count + 12 ≤ length new_rows → (put : List ℕ) → put ≡ sets new_rows (6 * count + 6) (tag ∷ delimiter ∷ flag_word flag ∷ []) → (start : ℕ) → start ≡ later
          → BlocksSoFar text first rows starts groups later 1 (count + 1) put (set new_starts count start)
      blocks-at_group none inside room put stored start at = record {
        done = so_far.done ++ (start_of tag delimiter flag (lines_at text later) ∷ []);
        within = after;
        deep = omega arith;
        put = rw at (groups-more text rows starts groups so_far.done new_rows new_starts count so_far.put tag delimiter flag later after inside room put stored);
        rest = opened none ∙ sym (append_assoc so_far.done (start_of tag delimiter flag (lines_at text later) ∷ []) (blocks_in 1 (lines_at text later)));
      }

-- ---- an accepted text has no other line

pub counts-no_other : (text : List ℕ) (first members required groups : ℕ) → CountsSoFar text first members required groups → (line : LevelLine) (next : ℕ)
    → lines_at text first ≡ line ∷ lines_at text next
    → line ≡ OtherLine
    → ⊥
counts-no_other text first members required groups so_far line next reads is =
    rw (reads ∙ ap {B = List LevelLine} (λ (each : LevelLine). each ∷ lines_at text next) is) at so_far.order
