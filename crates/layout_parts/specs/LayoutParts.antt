-- The parts of a level, read off its lines: its members and required tags from where it begins, and its blocks, with the lines behind each
-- `group` line. What they are of the lines of an accepted text is said in LayoutPartsLaws.antt. Assumes nothing.
--
--   tag_of required line          the tag of a `required` line, or of a `member` line
--   own_tags required lines       the tags of the lines of that kind with which the lines begin
--   behind_tags required lines    the lines behind them
--   BlockStart                   a `group` line and the lines behind it
--   blocks_in depth lines         the blocks of the level that `depth` blocks are open in, up to its `end` line
--   member_count lines, required_count lines, group_count lines   how many `member`, `required` and `group` lines there are
use Rattle.std.specs.Prelude.{ℕ, zero, suc, Bool, List, [], ◌∷◌, if◌then◌else◌, Option, Some, None}
use Rattle.layout_text.specs.declared.level_line.LevelLine.{LevelLine}
use Rattle.layout_text.specs.declared.level_line.LevelLine.TheVariants.{MemberLine, RequiredLine, GroupLine, EndLine, OtherLine}

abbrev pub tag_of : Bool → LevelLine → Option ℕ
tag_of required (MemberLine tag) = if required then None else Some tag
tag_of required (RequiredLine tag) = if required then Some tag else None
tag_of required (GroupLine count delimiter flag) = None
tag_of required EndLine = None
tag_of required OtherLine = None

abbrev pub own_with : Option ℕ → List ℕ → List ℕ
own_with (Some tag) rest = tag ∷ rest
own_with None rest = []

unfoldable pub own_tags : Bool → List LevelLine → List ℕ
own_tags required [] = []
own_tags required (line ∷ lines) = own_with (tag_of required line) (own_tags required lines)

abbrev pub behind_with : Option ℕ → List LevelLine → List LevelLine → List LevelLine
behind_with (Some tag) all rest = rest
behind_with None all rest = all

unfoldable pub behind_tags : Bool → List LevelLine → List LevelLine
behind_tags required [] = []
behind_tags required (line ∷ lines) = behind_with (tag_of required line) (line ∷ lines) (behind_tags required lines)

pub data BlockStart : Type 0 where
  start_of : (count_tag delimiter : ℕ) (is_required : Bool) (lines : List LevelLine) → BlockStart

unfoldable pub blocks_in : ℕ → List LevelLine → List BlockStart
blocks_in depth [] = []
blocks_in depth (MemberLine tag ∷ lines) = blocks_in depth lines
blocks_in depth (RequiredLine tag ∷ lines) = blocks_in depth lines
blocks_in zero (GroupLine count delimiter flag ∷ lines) = start_of count delimiter flag lines ∷ blocks_in 1 lines
blocks_in (suc depth) (GroupLine count delimiter flag ∷ lines) = blocks_in (suc (suc depth)) lines
blocks_in zero (EndLine ∷ lines) = []
blocks_in (suc depth) (EndLine ∷ lines) = blocks_in depth lines
blocks_in depth (OtherLine ∷ lines) = blocks_in depth lines

unfoldable pub member_count : List LevelLine → ℕ
member_count [] = 0
member_count (MemberLine tag ∷ lines) = suc (member_count lines)
member_count (RequiredLine tag ∷ lines) = member_count lines
member_count (GroupLine count delimiter flag ∷ lines) = member_count lines
member_count (EndLine ∷ lines) = member_count lines
member_count (OtherLine ∷ lines) = member_count lines

unfoldable pub required_count : List LevelLine → ℕ
required_count [] = 0
required_count (MemberLine tag ∷ lines) = required_count lines
required_count (RequiredLine tag ∷ lines) = suc (required_count lines)
required_count (GroupLine count delimiter flag ∷ lines) = required_count lines
required_count (EndLine ∷ lines) = required_count lines
required_count (OtherLine ∷ lines) = required_count lines

unfoldable pub group_count : List LevelLine → ℕ
group_count [] = 0
group_count (MemberLine tag ∷ lines) = group_count lines
group_count (RequiredLine tag ∷ lines) = group_count lines
group_count (GroupLine count delimiter flag ∷ lines) = suc (group_count lines)
group_count (EndLine ∷ lines) = group_count lines
group_count (OtherLine ∷ lines) = group_count lines
