-- Laws of `LayoutOfText.antt`: the lines of an accepted layout text are the lines of the layout that it tells, in the order of document 01's
-- sentence. Assumes nothing.
--
--   told_with level blocks rest   the lines of the open blocks and of the innermost open level as read so far, with `rest` behind them
--   MayTake part level           the level as read so far, where `part` of it was read last
--   lines-told                   "per level `member=TAG` lines, `required=TAG` lines, then group blocks"
use Rattle.std.specs.Prelude.{◌≡◌, refl, ℕ, ◌+◌, ◌-◌, Bool, true, List, [], ◌∷◌, ◌++◌, length}
use Rattle.std.proofs.Common.{sym, ap, ◌∙◌, arith}
use Rattle.std.proofs.lemmas.Bool.{false≢true}
use Rattle.layouts.specs.Layout.{Level, Groups, Group, level_of_lem, no_groups, group_and, group_of_lem}
use Rattle.layout_text.specs.declared.level_line.LevelLine.{LevelLine}
use Rattle.layout_text.specs.declared.level_line.LevelLine.TheVariants.{MemberLine, RequiredLine, GroupLine, EndLine, OtherLine}
use Rattle.layout_text.specs.LevelLines.{lines_at}
use Rattle.layout_text.specs.LayoutOfText.{groups_then, with_member, with_required, with_group, empty_level, Block, block_of, level_from, layout_of, member_lines, required_lines, level_lines, block_lines, group_lines}
use Rattle.layout_text.specs.declared.layout_text.Part.{Part}
use Rattle.layout_text.specs.declared.layout_text.Part.TheVariants.{Members, Required, Blocks}
use Rattle.layout_text.specs.LayoutText.{takes_required}
use Rattle.layout_text.specs.InOrder.{InOrder}

-- ---- the lines of a level with one more

member_lines-more : (tags : List ℕ) (tag : ℕ) (rest : List LevelLine) → member_lines (tags ++ (tag ∷ [])) rest ≡ member_lines tags (MemberLine tag ∷ rest)
unfolding member_lines
member_lines-more [] tag rest = refl
member_lines-more (first ∷ tags) tag rest = ap {B = List LevelLine} (λ lines. MemberLine first ∷ lines) (member_lines-more tags tag rest)

required_lines-more : (tags : List ℕ) (tag : ℕ) (rest : List LevelLine) → required_lines (tags ++ (tag ∷ [])) rest ≡ required_lines tags (RequiredLine tag ∷ rest)
unfolding required_lines
required_lines-more [] tag rest = refl
required_lines-more (first ∷ tags) tag rest = ap {B = List LevelLine} (λ lines. RequiredLine first ∷ lines) (required_lines-more tags tag rest)

block_lines_more : (groups : Groups) (group : Group) (rest : List LevelLine) → block_lines (groups_then groups group) rest ≡ block_lines groups (group_lines group rest)
unfolding level_lines
block_lines_more no_groups group rest = refl
block_lines_more (group_and first others) group rest = ap (group_lines first) (block_lines_more others group rest)

-- what was read last of a level: members alone, or no group yet
abbrev pub MayTake : Part → Level → Type 0
MayTake part (level_of_lem members required groups) = (part ≡ Members → required ≡ []) × (takes_required part ≡ true → groups ≡ no_groups)

level_lines-member : (tag : ℕ) (part : Part) (level : Level) (rest : List LevelLine) → MayTake part level → part ≡ Members → level_lines (with_member tag level) rest ≡ level_lines level (MemberLine tag ∷ rest)
unfolding level_lines required_lines
level_lines-member tag part (level_of_lem members required held_groups) rest so_far first = rw (so_far.0 first, so_far.1 (rw first refl)) (member_lines-more members tag rest)

level_lines-required : (tag : ℕ) (part : Part) (level : Level) (rest : List LevelLine) → MayTake part level → takes_required part ≡ true → level_lines (with_required tag level) rest ≡ level_lines level (RequiredLine tag ∷ rest)
unfolding level_lines
level_lines-required tag part (level_of_lem members required held_groups) rest so_far early =
    rw (so_far.1 early) (ap (member_lines members) (required_lines-more required tag rest))

level_lines-group : (group : Group) (level : Level) (rest : List LevelLine) → level_lines (with_group group level) rest ≡ level_lines level (group_lines group rest)
unfolding level_lines
level_lines-group group (level_of_lem members required groups) rest =
    ap (λ (lines : List LevelLine). member_lines members (required_lines required lines)) (block_lines_more groups group rest)

-- ---- level_from

unfoldable pub told_with : Level → List Block → List LevelLine → List LevelLine
told_with level [] rest = level_lines level rest
told_with level (block_of count delimiter flag around ∷ blocks) rest = told_with around blocks (GroupLine count delimiter flag ∷ level_lines level rest)

told_with-same : (level other : Level) (blocks : List Block) (rest also : List LevelLine) → level_lines level rest ≡ level_lines other also → told_with level blocks rest ≡ told_with other blocks also
unfolding told_with
told_with-same level other [] rest also same = same
told_with-same level other (block_of count delimiter flag around ∷ blocks) rest also same =
    ap (λ (lines : List LevelLine). told_with around blocks (GroupLine count delimiter flag ∷ lines)) same

taken-member : (tag : ℕ) (part : Part) (level : Level) → MayTake part level → MayTake part (with_member tag level)
taken-member tag part (level_of_lem members required held_groups) so_far = so_far

taken-required : (tag : ℕ) (part : Part) (level : Level) → MayTake part level → takes_required part ≡ true → MayTake Required (with_required tag level)
taken-required tag part (level_of_lem members required held_groups) so_far early = (λ first. cc, λ still. so_far.1 early)

taken-group : (group : Group) (level : Level) → MayTake Blocks (with_group group level)
taken-group group (level_of_lem members required held_groups) = (λ first. cc, λ early. absurd (false≢true early))

no_blocks : (level : Level) (blocks : List Block) → length blocks ≡ 0 → told_with level blocks [] ≡ level_lines level []
unfolding told_with
no_blocks level [] none = refl
no_blocks level (block ∷ blocks) none = absurd (omega arith)

opens : (level : Level) (blocks : List Block) (count delimiter : ℕ) (flag : Bool) (rest : List LevelLine)
    → told_with empty_level (block_of count delimiter flag level ∷ blocks) rest ≡ told_with level blocks (GroupLine count delimiter flag ∷ rest)
unfolding told_with level_lines member_lines required_lines
opens level blocks count delimiter flag rest = refl

closes : (level around : Level) (blocks : List Block) (count delimiter : ℕ) (flag : Bool) (rest : List LevelLine)
    → told_with (with_group (group_of_lem count delimiter flag level) around) blocks rest ≡ told_with level (block_of count delimiter flag around ∷ blocks) (EndLine ∷ rest)
unfolding told_with level_lines
closes level around blocks count delimiter flag rest =
    told_with-same (with_group (group_of_lem count delimiter flag level) around) around blocks rest (GroupLine count delimiter flag ∷ level_lines level (EndLine ∷ rest))
    (level_lines-group (group_of_lem count delimiter flag level) around rest)

pub level_from-told : (lines : List LevelLine) (level : Level) (blocks : List Block) (part : Part) (depth : ℕ) → depth ≡ length blocks → MayTake part level → InOrder part depth lines
    → level_lines (level_from level blocks lines) [] ≡ told_with level blocks lines
unfolding level_from
level_from-told [] level blocks part depth deep so_far order = sym (no_blocks level blocks (omega arith))
level_from-told (MemberLine tag ∷ lines) level blocks part depth deep so_far order =
    level_from-told lines (with_member tag level) blocks part depth deep (taken-member tag part level so_far) order.1
    ∙ told_with-same (with_member tag level) level blocks lines (MemberLine tag ∷ lines) (level_lines-member tag part level lines so_far order.0)
level_from-told (RequiredLine tag ∷ lines) level blocks part depth deep so_far order =
    level_from-told lines (with_required tag level) blocks Required depth deep (taken-required tag part level so_far order.0) order.1
    ∙ told_with-same (with_required tag level) level blocks lines (RequiredLine tag ∷ lines) (level_lines-required tag part level lines so_far order.0)
level_from-told (GroupLine count delimiter flag ∷ lines) level blocks part depth deep so_far order =
    level_from-told lines empty_level (block_of count delimiter flag level ∷ blocks) Members (depth + 1) (omega arith) (λ first. refl, λ early. refl) order.1
    ∙ opens level blocks count delimiter flag lines
level_from-told (EndLine ∷ lines) level [] part depth deep so_far order = absurd (omega (arith, order.0))
level_from-told (EndLine ∷ lines) level (block_of count delimiter flag around ∷ blocks) part depth deep so_far order =
    level_from-told lines (with_group (group_of_lem count delimiter flag level) around) blocks Blocks (depth - 1) (omega arith) (taken-group (group_of_lem count delimiter flag level) around) order.1
    ∙ closes level around blocks count delimiter flag lines
level_from-told (OtherLine ∷ lines) level blocks part depth deep so_far order = absurd order

pub lines-told : (text : List ℕ) → InOrder Members 0 (lines_at text 0) → level_lines (layout_of text) [] ≡ lines_at text 0
unfolding layout_of told_with level_lines member_lines required_lines
lines-told text order = level_from-told (lines_at text 0) empty_level [] Members 0 refl (λ first. refl, λ early. refl) order
