-- A dictionary as a tree, as schema.rs has it (`Dictionary`, `MessageDef`, `ComponentDef`, `GroupDef`, `FieldRef`, `ComponentRef`), and how
-- it is had from the lines of a dictionary text. Document 01, 'The layout of a message type': "A body holds `field=TAG,R` lines, then
-- `group=COUNT,DELIMITER,R` .. `end=COUNT` blocks, then `use=N,R` lines." A component is called N, a message type is the number that its
-- letters make (`message_type_of`). Definitions of tags and admitted values are no part of the tree.
--
-- The lines are read from the last one up. An `end` line begins a body, still empty. A `field` or `use` line stands in front of what the
-- innermost open body has already. The line that opens a block closes the innermost body and hands it to its block: a group to the body
-- around it, a component or a message to the dictionary, the header and the trailer likewise. So what is read of the lines from a place on
-- is what is left of each body that is open there, innermost first. This is so for any list of lines; that an accepted text's lines are in
-- their places is stated elsewhere (`DictionaryText.antt`). Assumes nothing.
--
--   fields_of body, group_defs_of body, uses_of body   what a body has
--   count_tag_of group, delimiter_of group, is_needed group, entry_body group   what a group has: is_needed is its R, entry_body the body of an entry
--   with_field field body, with_group group body, with_use component body   a body with one more in front
--   before line blocks       what is read where this line stands in front of what is read already
--   blocks_of lines           what is read of the lines
--   dictionary_of lines       the dictionary that the lines make
--   body_called name bodies   the first body of that name, if there is one
--   component_of dictionary name, message_of dictionary name   the body of a component, of a message type (the Rust's `get_component`, `get_message`)
use Rattle.std.specs.Prelude.{ℕ, Bool, List, [], ◌∷◌, if◌then◌else◌}
use Rattle.ascii.specs.Notation.{◌≡ᵇ◌}
use Rattle.line_forms.specs.declared.line.Line.{Line}
use Rattle.line_forms.specs.declared.line.Line.TheVariants.{Def, Value, BeginHeader, BeginTrailer, EndHeader, EndTrailer, Component, Message, Field, Group, Use, End, Member, RequiredTag, Unknown}

-- "`field=TAG,R`"
pub record FieldRef : Type 0 where
  pub tag : ℕ
  pub required : Bool

-- "`use=N,R`"
pub record ComponentRef : Type 0 where
  pub name : ℕ
  pub required : Bool

mutual
  pub data Body : Type 0 where
    body_of : (fields : List FieldRef) (groups : GroupDefs) (uses : List ComponentRef) → Body

  pub data GroupDefs : Type 0 where
    no_group_defs : GroupDefs
    group_def_and : GroupDef → GroupDefs → GroupDefs

  -- "`group=COUNT,DELIMITER,R` .. `end=COUNT`"
  pub data GroupDef : Type 0 where
    group_def : (count_tag delimiter : ℕ) (required : Bool) (body : Body) → GroupDef

-- a component or a message, with its body
pub record NamedBody : Type 0 where
  pub name : ℕ
  pub body : Body

pub record Dictionary : Type 0 where
  pub header : Body
  pub trailer : Body
  pub components : List NamedBody
  pub messages : List NamedBody

abbrev pub fields_of : Body → List FieldRef
fields_of (body_of fields groups uses) = fields

abbrev pub group_defs_of : Body → GroupDefs
group_defs_of (body_of fields groups uses) = groups

abbrev pub uses_of : Body → List ComponentRef
uses_of (body_of fields groups uses) = uses

abbrev pub count_tag_of : GroupDef → ℕ
count_tag_of (group_def count_tag delimiter required body) = count_tag

abbrev pub delimiter_of : GroupDef → ℕ
delimiter_of (group_def count_tag delimiter required body) = delimiter

abbrev pub is_needed : GroupDef → Bool
is_needed (group_def count_tag delimiter required body) = required

abbrev pub entry_body : GroupDef → Body
entry_body (group_def count_tag delimiter required body) = body

abbrev pub empty_body : Body
empty_body = body_of [] no_group_defs []

abbrev pub with_field : FieldRef → Body → Body
with_field field (body_of fields groups uses) = body_of (field ∷ fields) groups uses

abbrev pub with_group : GroupDef → Body → Body
with_group group (body_of fields groups uses) = body_of fields (group_def_and group groups) uses

abbrev pub with_use : ComponentRef → Body → Body
with_use component (body_of fields groups uses) = body_of fields groups (component ∷ uses)

-- ---- from the lines

pub record Blocks : Type 0 where
  -- what is left of each open body, innermost first
  pub opened : List Body
  -- the blocks that are read whole
  pub whole : Dictionary

abbrev pub innermost : List Body → Body
innermost [] = empty_body
innermost (body ∷ around) = body

abbrev pub around_it : List Body → List Body
around_it [] = []
around_it (body ∷ around) = around

-- the innermost open body, changed
abbrev pub changed : (Body → Body) → Blocks → Blocks
changed change blocks = record {
  opened = change (innermost blocks.opened) ∷ around_it blocks.opened;
  whole = blocks.whole;
}

-- a body begins: nothing is read of it yet
abbrev pub begun : Blocks → Blocks
begun blocks = record {
  opened = empty_body ∷ blocks.opened;
  whole = blocks.whole;
}

-- the innermost body is read whole and becomes a group of the body around it
abbrev pub group_closed : ℕ → ℕ → Bool → List Body → List Body
group_closed count_tag delimiter required bodies =
    with_group (group_def count_tag delimiter required (innermost bodies)) (innermost (around_it bodies)) ∷ around_it (around_it bodies)

abbrev pub with_header : Body → Dictionary → Dictionary
with_header body dictionary = record {
  header = body;
  trailer = dictionary.trailer;
  components = dictionary.components;
  messages = dictionary.messages;
}

abbrev pub with_trailer : Body → Dictionary → Dictionary
with_trailer body dictionary = record {
  header = dictionary.header;
  trailer = body;
  components = dictionary.components;
  messages = dictionary.messages;
}

abbrev pub with_component : ℕ → Body → Dictionary → Dictionary
with_component name body dictionary = record {
  header = dictionary.header;
  trailer = dictionary.trailer;
  components = record { name = name; body = body } ∷ dictionary.components;
  messages = dictionary.messages;
}

abbrev pub with_message : ℕ → Body → Dictionary → Dictionary
with_message name body dictionary = record {
  header = dictionary.header;
  trailer = dictionary.trailer;
  components = dictionary.components;
  messages = record { name = name; body = body } ∷ dictionary.messages;
}

-- the innermost body is read whole and goes into the dictionary
abbrev pub handed_over : (Body → Dictionary → Dictionary) → Blocks → Blocks
handed_over with blocks = record {
  opened = around_it blocks.opened;
  whole = with (innermost blocks.opened) blocks.whole;
}

abbrev pub before : Line → Blocks → Blocks
before (Def tag place) blocks = blocks
before (Value admitted) blocks = blocks
before BeginHeader blocks = handed_over with_header blocks
before BeginTrailer blocks = handed_over with_trailer blocks
before EndHeader blocks = begun blocks
before EndTrailer blocks = begun blocks
before (Component name) blocks = handed_over (with_component name) blocks
before (Message letters app) blocks = handed_over (with_message letters) blocks
before (Field tag required) blocks = changed (with_field (record { tag = tag; required = required })) blocks
before (Group count delimiter required) blocks = record {
  opened = group_closed count delimiter required blocks.opened;
  whole = blocks.whole;
}
before (Use name required) blocks = changed (with_use (record { name = name; required = required })) blocks
before (End read_number read_letters) blocks = begun blocks
before (Member tag) blocks = blocks
before (RequiredTag tag) blocks = blocks
before Unknown blocks = blocks

abbrev pub nothing_read : Blocks
nothing_read = record {
  opened = [];
  whole = record { header = empty_body; trailer = empty_body; components = []; messages = [] };
}

unfoldable pub blocks_of : List Line → Blocks
blocks_of [] = nothing_read
blocks_of (line ∷ lines) = before line (blocks_of lines)

unfoldable pub dictionary_of : List Line → Dictionary
dictionary_of lines = (blocks_of lines).whole

-- ---- looking up

pub data FoundBody : Type 0 where
  Found : Body → FoundBody
  NotFound : FoundBody

unfoldable pub body_called : ℕ → List NamedBody → FoundBody
body_called name [] = NotFound
body_called name (first ∷ others) = if first.name ≡ᵇ name then Found first.body else body_called name others

abbrev pub component_of : Dictionary → ℕ → FoundBody
component_of dictionary name = body_called name dictionary.components

abbrev pub message_of : Dictionary → ℕ → FoundBody
message_of dictionary name = body_called name dictionary.messages
