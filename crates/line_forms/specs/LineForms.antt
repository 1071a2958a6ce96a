-- The forms of a line. Document 01, 'The layout of a message type'. A dictionary text has
--   "`def=TAG,TYPE`, .. each followed by its `value=V` lines ..;
--   `begin=header` .. `end=header`, then `begin=trailer` .. `end=trailer`;
--   `component=N` .. `end=N` blocks;
--   `message=T,app` or `message=T,admin` .. `end=T` blocks.
--   A body holds `field=TAG,R` lines, then `group=COUNT,DELIMITER,R` .. `end=COUNT` blocks, then `use=N,R` lines."
-- and a layout text "has per level `member=TAG` lines, `required=TAG` lines, then group blocks as above".
-- A form is told from the line alone; which forms a kind of text knows is said where its lines are put in order (`DictionaryOrder.antt` of
-- texts, `LayoutText.antt` of layout_text). An `end` line may name a component, a group and a message at once: it carries its name as a number and as a message type. Assumes nothing.
--
--   line_of bytes   the form of a line, given without its line feed
use Rattle.std.specs.Prelude.{ℕ, Bool, true, false, List, drop, if◌then◌else◌, Option, Some, None}
use Rattle.std.specs.Option.{option_zip}
use Rattle.ascii.specs.Bytes.{ascii}
use Rattle.line_forms.specs.declared.line.Line.{Line}
use Rattle.line_forms.specs.declared.line.Line.TheVariants.{Def, Value, BeginHeader, BeginTrailer, EndHeader, EndTrailer, Component, Message, Field, Group, Use, End, Member, RequiredTag, Unknown}
use Rattle.lines.specs.Lines.{before, behind, starts_with, is_same, comma}
use Rattle.lines.specs.LineParts.{number_of, flag_of, type_of, message_type_of, value_of}
use Rattle.lines.specs.declared.line_parts.Admitted.{Admitted}

-- ---- def=TAG,TYPE

abbrev pub def_with : Option ℕ → Option ℕ → Line
def_with (Some tag) (Some place) = Def tag place
def_with (Some tag) None = Unknown
def_with None name = Unknown

unfoldable pub def_of : List ℕ → Line
def_of rest = def_with (number_of (before comma rest)) (type_of (behind comma rest))

-- ---- value=V

abbrev pub value_with : Option Admitted → Line
value_with (Some admitted) = Value admitted
value_with None = Unknown

-- ---- begin=header, begin=trailer

unfoldable pub begin_of : List ℕ → Line
begin_of rest =
    if is_same (ascii "header") rest then BeginHeader
    else if is_same (ascii "trailer") rest then BeginTrailer
    else Unknown

-- ---- component=N

abbrev pub component_with : Option ℕ → Line
component_with (Some name) = Component name
component_with None = Unknown

-- ---- message=T,app, message=T,admin

abbrev pub message_with : Option ℕ → Bool → Line
message_with (Some letters) app = Message letters app
message_with None app = Unknown

unfoldable pub message_of : List ℕ → Line
message_of rest =
    if is_same (ascii "app") (behind comma rest) then message_with (message_type_of (before comma rest)) true
    else if is_same (ascii "admin") (behind comma rest) then message_with (message_type_of (before comma rest)) false
    else Unknown

-- ---- TAG,R, DELIMITER,R, N,R

abbrev pub numbered_flag : List ℕ → Option (ℕ × Bool)
numbered_flag rest = option_zip (number_of (before comma rest)) (flag_of (behind comma rest))

-- ---- field=TAG,R

abbrev pub field_with : Option ℕ → Option Bool → Line
field_with (Some tag) (Some required) = Field tag required
field_with (Some tag) None = Unknown
field_with None flag = Unknown

unfoldable pub field_of : List ℕ → Line
field_of rest = field_with (number_of (before comma rest)) (flag_of (behind comma rest))

-- ---- group=COUNT,DELIMITER,R

abbrev pub group_with : Option ℕ → Option ℕ → Option Bool → Line
group_with (Some count) (Some delimiter) (Some required) = Group count delimiter required
group_with (Some count) (Some delimiter) None = Unknown
group_with (Some count) None flag = Unknown
group_with None delimiter flag = Unknown

unfoldable pub group_rest : Option ℕ → List ℕ → Line
group_rest count rest = group_with count (number_of (before comma rest)) (flag_of (behind comma rest))

unfoldable pub group_of : List ℕ → Line
group_of rest = group_rest (number_of (before comma rest)) (behind comma rest)

-- ---- use=N,R

abbrev pub use_with : Option ℕ → Option Bool → Line
use_with (Some name) (Some required) = Use name required
use_with (Some name) None = Unknown
use_with None flag = Unknown

unfoldable pub use_of : List ℕ → Line
use_of rest = use_with (number_of (before comma rest)) (flag_of (behind comma rest))

-- ---- end=header, end=trailer, end=N, end=COUNT, end=T

abbrev pub end_with : Option ℕ → Option ℕ → Line
end_with (Some number) name = End (Some number) name
end_with None (Some letters) = End None (Some letters)
end_with None None = Unknown

unfoldable pub end_of : List ℕ → Line
end_of rest =
    if is_same (ascii "header") rest then EndHeader
    else if is_same (ascii "trailer") rest then EndTrailer
    else end_with (number_of rest) (message_type_of rest)

-- ---- member=TAG, required=TAG

abbrev pub member_with : Option ℕ → Line
member_with (Some tag) = Member tag
member_with None = Unknown

abbrev pub required_with : Option ℕ → Line
required_with (Some tag) = RequiredTag tag
required_with None = Unknown

-- ---- a line

unfoldable pub block_line_of : List ℕ → Line
block_line_of bytes =
    if starts_with (ascii "component=") bytes then component_with (number_of (drop 10 bytes))
    else if starts_with (ascii "message=") bytes then message_of (drop 8 bytes)
    else if starts_with (ascii "member=") bytes then member_with (number_of (drop 7 bytes))
    else if starts_with (ascii "required=") bytes then required_with (number_of (drop 9 bytes))
    else Unknown

unfoldable pub definition_line_of : List ℕ → Line
definition_line_of bytes =
    if starts_with (ascii "def=") bytes then def_of (drop 4 bytes)
    else if starts_with (ascii "value=") bytes then value_with (value_of (drop 6 bytes))
    else if starts_with (ascii "begin=") bytes then begin_of (drop 6 bytes)
    else block_line_of bytes

unfoldable pub line_of : List ℕ → Line
line_of bytes =
    if starts_with (ascii "field=") bytes then field_of (drop 6 bytes)
    else if starts_with (ascii "group=") bytes then group_of (drop 6 bytes)
    else if starts_with (ascii "use=") bytes then use_of (drop 4 bytes)
    else if starts_with (ascii "end=") bytes then end_of (drop 4 bytes)
    else definition_line_of bytes
