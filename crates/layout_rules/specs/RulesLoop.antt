-- The loop of `first_broken`, turn by turn: the lines before `first` were read, and no group that they close breaks a rule. The bounds on the
-- rows follow from the bytes of the lines: 8 for a member, 12 for a block that is closed, 7 for one that is open. Assumes nothing.
--
--   RulesSoFar text members tags kept first    the rows hold the members and the count tags of the open levels, and the open blocks are kept
use Rattle.std.specs.Prelude.{◌≡◌, ℕ, suc, ◌+◌, ◌*◌, ◌-◌, ◌≤◌, ◌<◌, Bool, true, false, List, [], ◌∷◌, ◌++◌, length, take, drop, Option, Some, None}
use Rattle.std.specs.Option.{is_some}
use Rattle.std.proofs.Math.Path.{refl}
use Rattle.std.proofs.Common.{sym, ap, ◌∙◌, arith, length-append}
use Rattle.layouts.specs.Layout.{Level, group_of_lem, members_of, count_tags_of}
use Rattle.layout_text.specs.declared.level_line.LevelLine.{LevelLine}
use Rattle.layout_text.specs.declared.level_line.LevelLine.TheVariants.{MemberLine, RequiredLine, GroupLine, EndLine, OtherLine}
use Rattle.layout_rules.specs.declared.layout_rules.OpenBlock.{OpenBlock}
use Rattle.layout_text.specs.LevelLines.{lines_at, least_bytes, IsNextLine}
use Rattle.layout_text.specs.LevelLinesLaws.{lines_none}
use Rattle.layout_text.specs.LayoutOfText.{with_member, with_required, with_group, empty_level, Block, block_of, layout_of}
use Rattle.layout_text.specs.declared.layout_text.Part.{Part}
use Rattle.layout_text.specs.declared.layout_text.Part.TheVariants.{Members, Required, Blocks}
use Rattle.layout_text.specs.InOrder.{InOrder}
use Rattle.layout_rules.specs.FirstBroken.{own_broken, top_broken, first_broken}
use Rattle.layout_rules.specs.FirstBrokenLaws.{broken_from, first_broken-lines}
use Rattle.layout_rules.specs.OpenBlocks.{group_broken, level_broken, held_members, held_tags, kept_of, kept_blocks}
use Rattle.layout_rules.specs.OpenBlocksLaws.{group_broken-own, level_broken-top, held-member, held-tags_member, held-required, held-tags_required, held-group, held-tags_group, held-opened, held-tags_opened, on_top_count, on_top, below_top, kept_blocks-length, last-kept}

pub record RulesSoFar (text members tags : List ℕ) (kept : List OpenBlock) (first : ℕ) : Type 0 where
  -- the innermost open level, the open blocks, and what was read last of that level
  pub level : Level
  pub blocks : List Block
  pub part : Part
  pub within : first ≤ length text
  pub short : length text ≤ 65536
  pub shallow : length blocks ≤ 40
  pub few_members : 8 * length members ≤ first
  pub few_tags : 12 * length tags + 7 * length blocks ≤ first
  pub order : InOrder part (length blocks) (lines_at text first)
  pub members_held : members ≡ held_members level blocks
  pub tags_held : tags ≡ held_tags level blocks
  pub hold : kept ≡ kept_blocks blocks
  pub rest : first_broken (layout_of text) ≡ broken_from level blocks (lines_at text first)

pub rules-begin : (text : List ℕ) → length text ≤ 65536 → InOrder Members 0 (lines_at text 0) → RulesSoFar text [] [] [] 0
unfolding held_members held_tags kept_blocks
rules-begin text short order = record {
  level = empty_level;
  blocks = [];
  part = Members;
  within = omega arith;
  short = short;
  shallow = omega arith;
  few_members = omega arith;
  few_tags = omega arith;
  order = order;
  members_held = refl;
  tags_held = refl;
  hold = refl;
  rest = first_broken-lines text order;
}

-- ---- the first broken rule behind a line

module _ (level : Level) (blocks : List Block) (lines later : List LevelLine) where
  broken-member : (tag : ℕ) → lines ≡ MemberLine tag ∷ later → broken_from level blocks lines ≡ broken_from (with_member tag level) blocks later
  unfolding broken_from
  broken-member tag is = rw is

  broken-required : (tag : ℕ) → lines ≡ RequiredLine tag ∷ later → broken_from level blocks lines ≡ broken_from (with_required tag level) blocks later
  unfolding broken_from
  broken-required tag is = rw is

  broken-group : (count delimiter : ℕ) (flag : Bool) → lines ≡ GroupLine count delimiter flag ∷ later
      → broken_from level blocks lines ≡ broken_from empty_level (block_of count delimiter flag level ∷ blocks) later
  unfolding broken_from
  broken-group count delimiter flag is = rw is

  module _ (count delimiter : ℕ) (flag : Bool) (around : Level) (is : lines ≡ EndLine ∷ later) where
    broken-here : (broken : Option (ℕ × ℕ)) → is_some broken ≡ true → own_broken (group_of_lem count delimiter flag level) ≡ broken
        → broken_from level (block_of count delimiter flag around ∷ blocks) lines ≡ broken
    unfolding broken_from
    broken-here (Some (rule, tag)) some own = rw (is, own)
    broken-here None some own = cc

    broken-later : (broken : Option (ℕ × ℕ)) → is_some broken ≡ false → own_broken (group_of_lem count delimiter flag level) ≡ broken
        → broken_from level (block_of count delimiter flag around ∷ blocks) lines ≡ broken_from (with_group (group_of_lem count delimiter flag level) around) blocks later
    unfolding broken_from
    broken-later (Some (rule, tag)) none own = cc
    broken-later None none own = rw (is, own)

broken-top : (level : Level) (lines : List LevelLine) → lines ≡ [] → broken_from level [] lines ≡ top_broken level
unfolding broken_from
broken-top level lines none = rw none

held-top : (level : Level) → (held_members level [] ≡ members_of level) × (held_tags level [] ≡ count_tags_of level)
unfolding held_members held_tags
held-top level = (refl, refl)

module _ (level around : Level) (outer : List Block) (count delimiter : ℕ) (flag : Bool) where
  held_inner : held_members level (block_of count delimiter flag around ∷ outer) ≡ held_members around outer ++ members_of level
  unfolding held_members
  held_inner = refl

  held-tags_inner : held_tags level (block_of count delimiter flag around ∷ outer) ≡ held_tags around outer ++ count_tags_of level
  unfolding held_tags
  held-tags_inner = refl

-- the innermost of some open blocks
record Innermost (blocks : List Block) : Type 0 where
  count : ℕ
  delimiter : ℕ
  flag : Bool
  around : Level
  outer : List Block
  is : blocks ≡ block_of count delimiter flag around ∷ outer

innermost : (blocks : List Block) → 0 < length blocks → Innermost blocks
innermost [] some = absurd (omega arith)
innermost (block_of count delimiter flag around ∷ outer) some = record { count = count; delimiter = delimiter; flag = flag; around = around; outer = outer; is = refl }

least_of : (line other : LevelLine) → line ≡ other → least_bytes line ≡ least_bytes other
least_of line other is = ap least_bytes is

least-member : (tag : ℕ) → least_bytes (MemberLine tag) ≡ 8
unfolding least_bytes
least-member tag = refl

least-group : (count delimiter : ℕ) (flag : Bool) → least_bytes (GroupLine count delimiter flag) ≡ 7
unfolding least_bytes
least-group count delimiter flag = refl

least-end : least_bytes EndLine ≡ 5
unfolding least_bytes
least-end = refl

kept_inner : (count delimiter : ℕ) (flag : Bool) (around : Level) (outer : List Block)
    → kept_blocks (block_of count delimiter flag around ∷ outer) ≡ kept_blocks outer ++ (kept_of count delimiter around outer ∷ [])
unfolding kept_blocks
kept_inner count delimiter flag around outer = refl

module _ (text members tags : List ℕ) (kept : List OpenBlock) (first : ℕ) (so_far : RulesSoFar text members tags kept first) where
  -- the end of the text
  pub rules-end : length text ≤ first → first_broken (layout_of text) ≡ level_broken members tags
  rules-end over = so_far.rest ∙ ended so_far.level so_far.blocks (rw (lines_none text first over) at so_far.order) so_far.members_held so_far.tags_held
    where
      ended : (level : Level) (blocks : List Block) → length blocks ≡ 0 → members ≡ held_members level blocks → tags ≡ held_tags level blocks
          → broken_from level blocks (lines_at text first) ≡ level_broken members tags
      ended level [] none of_members of_tags =
          broken-top level (lines_at text first) (lines_none text first over)
          ∙ sym (level_broken-top level)
          ∙ rw (of_members, of_tags, (held-top level).0, (held-top level).1)
      ended level (block ∷ blocks) none of_members of_tags = absurd (omega arith)

  module _ (line : LevelLine) (next : ℕ) (is_next : IsNextLine text first line next) where
    after : (other : LevelLine) → line ≡ other → lines_at text first ≡ other ∷ lines_at text next
    after other is = is_next.reads ∙ ap {B = List LevelLine} (λ (each : LevelLine). each ∷ lines_at text next) is

    pub member-inside : (tag : ℕ) → line ≡ MemberLine tag → length members < 8192
    member-inside tag is = omega (arith, so_far.few_members, so_far.short, is_next.bounds, least_of line (MemberLine tag) is, least-member tag)

    pub rules-member : (tag : ℕ) → line ≡ MemberLine tag → RulesSoFar text (members ++ (tag ∷ [])) tags kept next
    rules-member tag is = record {
      level = with_member tag so_far.level;
      blocks = so_far.blocks;
      part = so_far.part;
      within = is_next.bounds.1;
      short = so_far.short;
      shallow = so_far.shallow;
      few_members = omega (arith, so_far.few_members, is_next.bounds.2, least_of line (MemberLine tag) is, least-member tag, length-append members (tag ∷ []));
      few_tags = omega (arith, so_far.few_tags, is_next.bounds.0);
      order = (rw (after (MemberLine tag) is) at so_far.order).1;
      members_held = ap (λ (held : List ℕ). held ++ (tag ∷ [])) so_far.members_held ∙ sym (held-member tag so_far.level so_far.blocks);
      tags_held = so_far.tags_held ∙ sym (held-tags_member tag so_far.level so_far.blocks);
      hold = so_far.hold;
      rest = so_far.rest ∙ broken-member so_far.level so_far.blocks (lines_at text first) (lines_at text next) tag (after (MemberLine tag) is);
    }

    pub rules-required : (tag : ℕ) → line ≡ RequiredLine tag → RulesSoFar text members tags kept next
    rules-required tag is = record {
      level = with_required tag so_far.level;
      blocks = so_far.blocks;
      part = Required;
      within = is_next.bounds.1;
      short = so_far.short;
      shallow = so_far.shallow;
      few_members = omega (arith, so_far.few_members, is_next.bounds.0);
      few_tags = omega (arith, so_far.few_tags, is_next.bounds.0);
      order = (rw (after (RequiredLine tag) is) at so_far.order).1;
      members_held = so_far.members_held ∙ sym (held-required tag so_far.level so_far.blocks);
      tags_held = so_far.tags_held ∙ sym (held-tags_required tag so_far.level so_far.blocks);
      hold = so_far.hold;
      rest = so_far.rest ∙ broken-required so_far.level so_far.blocks (lines_at text first) (lines_at text next) tag (after (RequiredLine tag) is);
    }

    module _ (count delimiter : ℕ) (flag : Bool) (is : line ≡ GroupLine count delimiter flag) where
      opens : (length so_far.blocks < 40) × InOrder Members (length so_far.blocks + 1) (lines_at text next)
      opens = rw (after (GroupLine count delimiter flag) is) at so_far.order

      pub room_of_block : length kept < 40
      room_of_block = omega (arith, opens.0, ap length so_far.hold, kept_blocks-length so_far.blocks)

      pub rules-group : RulesSoFar text members tags (kept ++ (record { count = count; delimiter = delimiter; members = length members; tags = length tags } ∷ [])) next
      rules-group =
          let one_more : length so_far.blocks + 1 ≡ suc (length so_far.blocks) = omega arith in
          record {
            level = empty_level;
            blocks = block_of count delimiter flag so_far.level ∷ so_far.blocks;
            part = Members;
            within = is_next.bounds.1;
            short = so_far.short;
            shallow = omega (arith, opens.0);
            few_members = omega (arith, so_far.few_members, is_next.bounds.0);
            few_tags = omega (arith, so_far.few_tags, is_next.bounds.2, least_of line (GroupLine count delimiter flag) is, least-group count delimiter flag);
            order = rw one_more at opens.1;
            members_held = so_far.members_held ∙ sym (held-opened so_far.level so_far.blocks count delimiter flag);
            tags_held = so_far.tags_held ∙ sym (held-tags_opened so_far.level so_far.blocks count delimiter flag);
            hold = rw (so_far.hold, so_far.members_held, so_far.tags_held) (sym (kept_inner count delimiter flag so_far.level so_far.blocks));
            rest = so_far.rest ∙ broken-group so_far.level so_far.blocks (lines_at text first) (lines_at text next) count delimiter flag (after (GroupLine count delimiter flag) is);
          }

    module _ (is : line ≡ EndLine) where
      ends : (0 < length so_far.blocks) × InOrder Blocks (length so_far.blocks - 1) (lines_at text next)
      ends = rw (after EndLine is) at so_far.order

      -- a block is open
      pub end-open : kept ≡ [] → ⊥
      end-open none = absurd (omega (arith, ends.0, ap length none, ap length so_far.hold, kept_blocks-length so_far.blocks))

      inner : Innermost so_far.blocks
      inner = innermost so_far.blocks ends.0

      outer-deep : length so_far.blocks - 1 ≡ length inner.outer
      outer-deep = omega (arith, ap length inner.is)

      module _ (outer_kept : List OpenBlock) (block : OpenBlock) (found : kept ≡ outer_kept ++ (block ∷ [])) where
        kept-parts : (outer_kept ≡ kept_blocks inner.outer) × (block ≡ kept_of inner.count inner.delimiter inner.around inner.outer)
        kept-parts =
            last-kept outer_kept (kept_blocks inner.outer) block (kept_of inner.count inner.delimiter inner.around inner.outer)
            (sym found ∙ so_far.hold ∙ ap kept_blocks inner.is ∙ kept_inner inner.count inner.delimiter inner.flag inner.around inner.outer)

        block_count : block.count ≡ inner.count
        block_count = ap (λ (each : OpenBlock). each.count) kept-parts.1

        block_delimiter : block.delimiter ≡ inner.delimiter
        block_delimiter = ap (λ (each : OpenBlock). each.delimiter) kept-parts.1

        block_members : block.members ≡ length (held_members inner.around inner.outer)
        block_members = ap (λ (each : OpenBlock). each.members) kept-parts.1

        block_tags : block.tags ≡ length (held_tags inner.around inner.outer)
        block_tags = ap (λ (each : OpenBlock). each.tags) kept-parts.1

        on_members : members ≡ held_members inner.around inner.outer ++ members_of so_far.level
        on_members =
            so_far.members_held
            ∙ ap (held_members so_far.level) inner.is
            ∙ held_inner so_far.level inner.around inner.outer inner.count inner.delimiter inner.flag

        on_tags : tags ≡ held_tags inner.around inner.outer ++ count_tags_of so_far.level
        on_tags =
            so_far.tags_held
            ∙ ap (held_tags so_far.level) inner.is
            ∙ held-tags_inner so_far.level inner.around inner.outer inner.count inner.delimiter inner.flag

        own-members : drop block.members members ≡ members_of so_far.level
        own-members = on_top members (held_members inner.around inner.outer) (members_of so_far.level) block.members on_members block_members

        own-tags : drop block.tags tags ≡ count_tags_of so_far.level
        own-tags = on_top tags (held_tags inner.around inner.outer) (count_tags_of so_far.level) block.tags on_tags block_tags

        below-members : length members ≡ block.members + length (members_of so_far.level)
        below-members = on_top_count members (held_members inner.around inner.outer) (members_of so_far.level) block.members on_members block_members

        below-tags : length tags ≡ block.tags + length (count_tags_of so_far.level)
        below-tags = on_top_count tags (held_tags inner.around inner.outer) (count_tags_of so_far.level) block.tags on_tags block_tags

        pub block_parts : (block.members ≤ length members) × (block.tags ≤ length tags) × (block.tags < 5461)
        block_parts = (
          omega (arith, below-members),
          omega (arith, below-tags),
          omega (arith, below-tags, so_far.few_tags, is_next.bounds.1, is_next.bounds.2, so_far.short, ends.0, least_of line EndLine is, least-end),
        )

        module _ (broken : Option (ℕ × ℕ)) (answer : broken ≡ group_broken (drop block.members members) block.delimiter (drop block.tags tags) block.count) where
          own : broken ≡ own_broken (group_of_lem inner.count inner.delimiter inner.flag so_far.level)
          own =
              answer
              ∙ rw (own-members, own-tags, block_delimiter, block_count)
              (group_broken-own so_far.level inner.count inner.delimiter inner.flag)

          pub rules-break : is_some broken ≡ true → first_broken (layout_of text) ≡ broken
          rules-break breaks =
              so_far.rest
              ∙ ap (λ (blocks : List Block). broken_from so_far.level blocks (lines_at text first)) inner.is
              ∙ broken-here so_far.level inner.outer (lines_at text first) (lines_at text next) inner.count inner.delimiter inner.flag inner.around (after EndLine is) broken breaks (sym own)

          pub rules-close : is_some broken ≡ false → RulesSoFar text (take block.members members) (take block.tags tags ++ (block.count ∷ [])) outer_kept next
          rules-close unbroken =
              let group = group_of_lem inner.count inner.delimiter inner.flag so_far.level in
              let below : take block.members members ≡ held_members inner.around inner.outer = below_top members (held_members inner.around inner.outer) (members_of so_far.level) block.members on_members block_members in
              let below_tags : take block.tags tags ≡ held_tags inner.around inner.outer = below_top tags (held_tags inner.around inner.outer) (count_tags_of so_far.level) block.tags on_tags block_tags in
              record {
                level = with_group group inner.around;
                blocks = inner.outer;
                part = Blocks;
                within = is_next.bounds.1;
                short = so_far.short;
                shallow = omega (arith, so_far.shallow, outer-deep);
                few_members = omega (arith, so_far.few_members, below-members, is_next.bounds.0, ap length below, block_members);
                few_tags = omega (
                  arith,
                  so_far.few_tags,
                  below-tags,
                  ends.0,
                  outer-deep,
                  is_next.bounds.2,
                  least_of line EndLine is,
                  least-end,
                  ap length below_tags,
                  block_tags,
                  length-append (take block.tags tags) (block.count ∷ []),
                );
                order = rw outer-deep at ends.1;
                members_held = below ∙ sym (held-group group inner.around inner.outer);
                tags_held =
                    ap (λ (held : List ℕ). held ++ (block.count ∷ [])) below_tags
                    ∙ ap (λ (tag : ℕ). held_tags inner.around inner.outer ++ (tag ∷ [])) block_count
                    ∙ sym (held-tags_group group inner.around inner.outer);
                hold = kept-parts.0;
                rest =
                    so_far.rest
                    ∙ ap (λ (blocks : List Block). broken_from so_far.level blocks (lines_at text first)) inner.is
                    ∙ broken-later so_far.level inner.outer (lines_at text first) (lines_at text next) inner.count inner.delimiter inner.flag inner.around (after EndLine is) broken unbroken (sym own);
              }

    -- an accepted text has no other line
    pub no_other : line ≡ OtherLine → ⊥
    no_other is = rw (after OtherLine is) at so_far.order

    -- a line that neither adds a member nor opens or closes a block
    pub rules-passed : (other : LevelLine) → line ≡ other → ((tag : ℕ) → line ≡ MemberLine tag → ⊥) → ((count delimiter : ℕ) (flag : Bool) → line ≡ GroupLine count delimiter flag → ⊥)
        → (line ≡ EndLine → ⊥) → RulesSoFar text members tags kept next
    rules-passed (MemberLine tag) is no-member no-group no-end = absurd (no-member tag is)
    rules-passed (RequiredLine tag) is no-member no-group no-end = rules-required tag is
    rules-passed (GroupLine count delimiter flag) is no-member no-group no-end = absurd (no-group count delimiter flag is)
    rules-passed EndLine is no-member no-group no-end = absurd (no-end is)
    rules-passed OtherLine is no-member no-group no-end = absurd (no_other is)
