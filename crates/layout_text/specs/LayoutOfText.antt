-- The layout that the lines of a layout text tell, read from the top: a `member` or `required` line adds its tag to the innermost open
-- level, a `group` line opens a block, and an `end` line closes it, which adds the group to the level around it. Document 01: "A hand-made
-- layout text has per level `member=TAG` lines, `required=TAG` lines, then group blocks as above." What the lines of a text that is refused
-- tell is of no account. That the lines of an accepted text are just those of the layout, in the order of that sentence, is `lines-told`
-- (LayoutOfTextLaws.antt). Assumes nothing.
--
--   with_member tag level, with_required tag level, with_group group level   the level with one more
--   Block                               an open block: its `group` line, and the level around it as read so far
--   level_from level blocks lines        the layout, from the innermost open level, the open blocks (the innermost first) and the lines to come
--   layout_of text                       the layout that a text tells
--   level_lines level rest               the lines of a level, with `rest` behind them: "per level .. lines, .. lines, then group blocks"
use Rattle.std.specs.Prelude.{ℕ, Bool, List, [], ◌∷◌, ◌++◌}
use Rattle.layouts.specs.Layout.{Level, Groups, Group, Layout, level_of_lem, no_groups, group_and, group_of_lem}
use Rattle.layout_text.specs.declared.level_line.LevelLine.{LevelLine}
use Rattle.layout_text.specs.declared.level_line.LevelLine.TheVariants.{MemberLine, RequiredLine, GroupLine, EndLine, OtherLine}
use Rattle.layout_text.specs.LevelLines.{lines_at}

abbrev pub groups_then : Groups → Group → Groups
groups_then no_groups group = group_and group no_groups
groups_then (group_and first others) group = group_and first (groups_then others group)

abbrev pub with_member : ℕ → Level → Level
with_member tag (level_of_lem members required groups) = level_of_lem (members ++ (tag ∷ [])) required groups

abbrev pub with_required : ℕ → Level → Level
with_required tag (level_of_lem members required groups) = level_of_lem members (required ++ (tag ∷ [])) groups

abbrev pub with_group : Group → Level → Level
with_group group (level_of_lem members required groups) = level_of_lem members required (groups_then groups group)

abbrev pub empty_level : Level
empty_level = level_of_lem [] [] no_groups

pub data Block : Type 0 where
  block_of : (count_tag delimiter : ℕ) (is_required : Bool) (around : Level) → Block

unfoldable pub level_from : Level → List Block → List LevelLine → Layout
level_from level blocks [] = level
level_from level blocks (MemberLine tag ∷ lines) = level_from (with_member tag level) blocks lines
level_from level blocks (RequiredLine tag ∷ lines) = level_from (with_required tag level) blocks lines
level_from level blocks (GroupLine count delimiter flag ∷ lines) = level_from empty_level (block_of count delimiter flag level ∷ blocks) lines
level_from level [] (EndLine ∷ lines) = level_from level [] lines
level_from level (block_of count delimiter flag around ∷ blocks) (EndLine ∷ lines) = level_from (with_group (group_of_lem count delimiter flag level) around) blocks lines
level_from level blocks (OtherLine ∷ lines) = level_from level blocks lines

unfoldable pub layout_of : List ℕ → Layout
layout_of text = level_from empty_level [] (lines_at text 0)

-- ---- the lines of a layout

unfoldable pub member_lines : List ℕ → List LevelLine → List LevelLine
member_lines [] rest = rest
member_lines (tag ∷ tags) rest = MemberLine tag ∷ member_lines tags rest

unfoldable pub required_lines : List ℕ → List LevelLine → List LevelLine
required_lines [] rest = rest
required_lines (tag ∷ tags) rest = RequiredLine tag ∷ required_lines tags rest

unfoldable mutual
  pub level_lines : Level → List LevelLine → List LevelLine
  level_lines (level_of_lem members required groups) rest = member_lines members (required_lines required (block_lines groups rest))

  pub block_lines : Groups → List LevelLine → List LevelLine
  block_lines no_groups rest = rest
  block_lines (group_and first others) rest = group_lines first (block_lines others rest)

  pub group_lines : Group → List LevelLine → List LevelLine
  group_lines (group_of_lem count delimiter flag inner) rest = GroupLine count delimiter flag ∷ level_lines inner (EndLine ∷ rest)
