-- The lines of a layout text. Document 01, 'The layout of a message type': "A hand-made layout text has per level `member=TAG` lines,
-- `required=TAG` lines, then group blocks as above", a block being "`group=COUNT,DELIMITER,R` .. `end=COUNT`"; "a last line without its line
-- feed is of no known form". Which of them may stand where is said in LayoutText.antt (`layout_text_of`). Assumes nothing.
--
--   level_line_of line       what a line is to a layout text
--   lines_in pieces         the lines of a text that is cut at its line feeds
--   lines_at text first     the lines of the text from the byte `first` on
--   least_bytes line        how many bytes such a line has at least, with its line feed
--   IsNextLine text first line next     the line begins at `first`, the one after it at `next`
--   GivesLevelLine text first given next     what a call of `next` gives where the lines from `first` on are left, and `next` is what it leaves
use Rattle.std.specs.Prelude.{◌≡◌, ℕ, ◌+◌, ◌≤◌, ◌<◌, List, [], ◌∷◌, length, drop, MatchOption, if◌then◌else◌, Option, Some, None}
use Rattle.ascii.specs.Bytes.{non_empty}
use Rattle.line_forms.specs.declared.line.Line.{Line}
use Rattle.line_forms.specs.declared.line.Line.TheVariants.{Def, Value, BeginHeader, BeginTrailer, EndHeader, EndTrailer, Component, Message, Field, Group, Use, End, Member, RequiredTag, Unknown}
use Rattle.lines.specs.Lines.{Pieces, last, piece, lines_of}
use Rattle.line_forms.specs.LineForms.{line_of}
use Rattle.layout_text.specs.declared.level_line.LevelLine.{LevelLine}
use Rattle.layout_text.specs.declared.level_line.LevelLine.TheVariants.{MemberLine, RequiredLine, GroupLine, EndLine, OtherLine}

-- of the end lines a layout text knows only `end=COUNT`
abbrev pub end_line_of : Option ℕ → LevelLine
end_line_of (Some count) = EndLine
end_line_of None = OtherLine

unfoldable pub level_line_of : Line → LevelLine
level_line_of (Def tag place) = OtherLine
level_line_of (Value admitted) = OtherLine
level_line_of BeginHeader = OtherLine
level_line_of BeginTrailer = OtherLine
level_line_of EndHeader = OtherLine
level_line_of EndTrailer = OtherLine
level_line_of (Component name) = OtherLine
level_line_of (Message letters app) = OtherLine
level_line_of (Field tag flag) = OtherLine
level_line_of (Group count delimiter flag) = GroupLine count delimiter flag
level_line_of (Use name flag) = OtherLine
level_line_of (End name read_letters) = end_line_of name
level_line_of (Member tag) = MemberLine tag
level_line_of (RequiredTag tag) = RequiredLine tag
level_line_of Unknown = OtherLine

unfoldable pub lines_in : Pieces → List LevelLine
lines_in (last bytes) = if non_empty bytes then OtherLine ∷ [] else []
lines_in (piece bytes others) = level_line_of (line_of bytes) ∷ lines_in others

abbrev pub lines_at : List ℕ → ℕ → List LevelLine
lines_at text first = lines_in (lines_of (drop first text))

-- the key with its `=`, and the line feed
unfoldable pub least_bytes : LevelLine → ℕ
least_bytes (MemberLine tag) = 8
least_bytes (RequiredLine tag) = 10
least_bytes (GroupLine count delimiter flag) = 7
least_bytes EndLine = 5
least_bytes OtherLine = 1

-- the line that begins at `first`, and where the next one begins
pub record IsNextLine (text : List ℕ) (first : ℕ) (line : LevelLine) (next : ℕ) : Type 0 where
  pub reads : lines_at text first ≡ line ∷ lines_at text next
  pub bounds : (first < next) × (next ≤ length text) × (first + least_bytes line ≤ next)

-- what a call of `next` gives where the next line begins at `first`, and where the one after it begins
abbrev pub GivesLevelLine : List ℕ → ℕ → Option LevelLine → ℕ → Type 0
GivesLevelLine text first given next = MatchOption given ((length text ≤ first) × (next ≡ first)) (λ line. IsNextLine text first line next)
