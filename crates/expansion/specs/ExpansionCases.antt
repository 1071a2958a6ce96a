-- Dictionaries, read by the definitions of `Dictionary.antt` and expanded by those of `Expansion.antt`, by computation. Each dictionary was
-- given to the Rust's `ScopeBuilder::expand` too: under the gate's limits it gave the same levels and nodes, or the same first error (its
-- SchemaTooLarge names no group). The cases with other limits are the definitions' alone. Assumes nothing.
--
--   expanded_under limits texts   the expansion of type D where the dictionary text has these lines
--   expanded texts               the same under the gate's limits
--   nodes_of expansion            the nodes spent, and 0 for a refusal
--   nested_groups count           so many groups, each in the entry of the one before
--   groups_up_to count             so many groups, side by side, each of its delimiter alone
use Rattle.std.specs.Prelude.{◌≡◌, refl, ℕ, zero, suc, true, false, List, [], ◌∷◌}
use Prim.Native.String.{String}
use Rattle.ascii.specs.Notation.{is_between}
use Rattle.ascii.specs.Bytes.{ascii, non_empty}
use Rattle.line_forms.specs.declared.line.Line.{Line}
use Rattle.refusals.specs.declared.refusal.Refusal.TheVariants.{TypeNotDefined, ComponentNotDefined, TooDeep, OutOfNodes, MembersOver}
use Rattle.lines.specs.Lines.{position_of, starts_with, is_same, longer, cut}
use Rattle.lines.specs.LineParts.{no_leading_zero, number_of, flag_of, type_in, type_of, word_at, is_alphanumeric, message_type_of, value_of}
use Rattle.line_forms.specs.LineForms.{def_of, begin_of, message_of, field_of, group_rest, group_of, use_of, end_of, block_line_of, definition_line_of, line_of}
use Rattle.ascending.specs.Sort.{inserted, sorted, is_in}
use Rattle.ascending.specs.Dedup.{deduped_after, deduped}
use Rattle.layouts.specs.Limits.{Limits, gate_limits}
use Rattle.layouts.specs.Layout.{level_of_lem, no_groups, group_and, group_of_lem}
use Rattle.expansion.specs.Dictionary.{Body, body_of, GroupDefs, no_group_defs, group_def_and, group_def, ComponentRef, Dictionary, empty_body, blocks_of, dictionary_of, body_called}
use Rattle.expansion.specs.Expansion.{Expansion, Expanded, Refused, ran_out, add_member, add_required, add_field, spend, inserted_group, sorted_groups, firsts_after, firsts_of, finish, retained, finish_entry, each_field, each_group, each_use, add_group, add_component, build, outcome_of, expand_of}

abbrev lines_of : List String → List Line
lines_of [] = []
lines_of (text ∷ texts) = line_of (ascii text) ∷ lines_of texts

abbrev expanded_under : Limits → List String → Expansion
expanded_under limits texts = expand_of limits (dictionary_of (lines_of texts)) (dictionary_of (lines_of texts)) (ascii "D")

abbrev expanded : List String → Expansion
expanded texts = expanded_under gate_limits texts

-- a text whose header and trailer are empty
abbrev only_bodies : List String → List String
only_bodies texts = "begin=header" ∷ "end=header" ∷ "begin=trailer" ∷ "end=trailer" ∷ texts

-- document 01, 'One list in full'
abbrev worked : List String
worked =
    "def=35,String" ∷ "def=448,String" ∷ "def=447,Char" ∷ "value=D" ∷ "def=453,NumInGroup"
    ∷ "begin=header" ∷ "field=35,1" ∷ "end=header" ∷ "begin=trailer" ∷ "end=trailer"
    ∷ "message=D,app" ∷ "group=453,448,1" ∷ "field=447,1" ∷ "end=453" ∷ "end=D" ∷ []

-- a group in the header, and the same count tag in the message: the header's stays, with its delimiter and its flag
abbrev same_group : List String
same_group =
    "begin=header" ∷ "field=8,1" ∷ "group=627,628,0" ∷ "field=629,1" ∷ "end=627" ∷ "end=header"
    ∷ "begin=trailer" ∷ "field=10,1" ∷ "end=trailer"
    ∷ "message=D,app" ∷ "group=627,630,1" ∷ "field=630,1" ∷ "end=627" ∷ "end=D" ∷ []

-- 11 is required by a chain of required uses; 12 stands behind an optional one; 13 is required in the entry of an optional component's group
abbrev chain : List String
chain =
    only_bodies
    ("component=1" ∷ "field=11,1" ∷ "use=2,0" ∷ "end=1"
    ∷ "component=2" ∷ "field=12,1" ∷ "group=20,21,1" ∷ "field=13,1" ∷ "end=20" ∷ "end=2"
    ∷ "message=D,app" ∷ "use=1,1" ∷ "end=D" ∷ [])

-- component 1 uses itself: the second use is a node and adds nothing
abbrev itself : List String
itself = only_bodies ("component=1" ∷ "field=11,1" ∷ "use=1,1" ∷ "end=1" ∷ "message=D,app" ∷ "use=1,1" ∷ "end=D" ∷ [])

-- the delimiter is also a required field, and 22 is required twice
abbrev repeats : List String
repeats =
    only_bodies
    ("message=D,app" ∷ "field=5,1" ∷ "field=5,1" ∷ "group=20,21,0" ∷ "field=22,1" ∷ "field=21,1" ∷ "field=22,1" ∷ "end=20" ∷ "end=D" ∷ [])

-- the use of component 7, which nothing defines, behind a group
abbrev undefined : List String
undefined = only_bodies ("message=D,app" ∷ "group=20,21,0" ∷ "end=20" ∷ "use=7,1" ∷ "use=8,1" ∷ "end=D" ∷ [])

abbrev limits_of : ℕ → ℕ → ℕ → ℕ → Limits
limits_of depth nodes members required = record { depth = depth; nodes = nodes; members = members; required = required }

pub record ExpansionCases : Type 0 where
  pub worked_example :
      expanded worked
      ≡ Expanded (level_of_lem (35 ∷ 453 ∷ []) (35 ∷ []) (group_and (group_of_lem 453 448 true (level_of_lem (447 ∷ 448 ∷ []) (447 ∷ []) no_groups)) no_groups)) 1
  pub first_group_stays :
      expanded same_group
      ≡ Expanded (level_of_lem (8 ∷ 10 ∷ 627 ∷ []) (8 ∷ 10 ∷ []) (group_and (group_of_lem 627 628 false (level_of_lem (628 ∷ 629 ∷ []) (629 ∷ []) no_groups)) no_groups)) 2
  pub required_through_uses :
      expanded chain
      ≡ Expanded (level_of_lem (11 ∷ 12 ∷ 20 ∷ []) (11 ∷ []) (group_and (group_of_lem 20 21 false (level_of_lem (13 ∷ 21 ∷ []) (13 ∷ []) no_groups)) no_groups)) 3
  pub component_uses_itself : expanded itself ≡ Expanded (level_of_lem (11 ∷ []) (11 ∷ []) no_groups) 2
  pub required_lists :
      expanded repeats
      ≡ Expanded (level_of_lem (5 ∷ 20 ∷ []) (5 ∷ 5 ∷ []) (group_and (group_of_lem 20 21 false (level_of_lem (21 ∷ 22 ∷ []) (22 ∷ []) no_groups)) no_groups)) 1
  pub component_not_defined : expanded undefined ≡ Refused (ComponentNotDefined 7)
  pub type_not_defined : expanded (only_bodies []) ≡ Refused TypeNotDefined
  -- the levels of `repeats` get 2 members, then a count tag, a delimiter and 3 members, and 5 required entries
  pub members_all_taken : expanded_under (limits_of 32 4096 7 5) repeats ≡ expanded repeats
  pub one_member_more : expanded_under (limits_of 32 4096 6 5) repeats ≡ Refused MembersOver
  pub one_entry_more : expanded_under (limits_of 32 4096 7 4) repeats ≡ Refused MembersOver
  -- component 7 is met behind the group, whose count tag and delimiter are the two members
  pub over_before_not_defined : expanded_under (limits_of 32 4096 1 0) undefined ≡ Refused MembersOver
  pub not_defined_first : expanded_under (limits_of 32 4096 2 0) undefined ≡ Refused (ComponentNotDefined 7)
  -- a node is taken before the component is looked up, and its depth is checked before that
  pub node_first : expanded_under (limits_of 32 1 8192 2048) undefined ≡ Refused (OutOfNodes 7)
  pub depth_first : expanded_under (limits_of 0 1 8192 2048) chain ≡ Refused (TooDeep 2)

pub expansion_cases : ExpansionCases
unfolding is_between non_empty position_of starts_with is_same longer cut no_leading_zero number_of flag_of type_in type_of word_at is_alphanumeric message_type_of value_of def_of begin_of message_of field_of group_rest group_of use_of end_of block_line_of definition_line_of line_of inserted sorted is_in deduped_after deduped blocks_of dictionary_of body_called ran_out add_member add_required add_field spend inserted_group sorted_groups firsts_after firsts_of finish retained finish_entry each_field each_group each_use add_group add_component build outcome_of expand_of
expansion_cases = record {
  worked_example = refl;
  first_group_stays = refl;
  required_through_uses = refl;
  component_uses_itself = refl;
  required_lists = refl;
  component_not_defined = refl;
  type_not_defined = refl;
  members_all_taken = refl;
  one_member_more = refl;
  one_entry_more = refl;
  over_before_not_defined = refl;
  not_defined_first = refl;
  node_first = refl;
  depth_first = refl;
}

-- ---- document 01: "33 nested groups expand, 34 don't. 64 groups, each of its delimiter alone, in a component used 63 times plus one such
-- group: 4,096 nodes, good; two groups: refused."

abbrev nodes_of : Expansion → ℕ
nodes_of (Expanded layout nodes) = nodes
nodes_of (Refused refusal) = 0

abbrev nested_groups : ℕ → GroupDefs
nested_groups zero = no_group_defs
nested_groups (suc count) = group_def_and (group_def count 100 true (body_of [] (nested_groups count) [])) no_group_defs

-- groups of the count tags below `count`
abbrev groups_up_to : ℕ → GroupDefs
groups_up_to zero = no_group_defs
groups_up_to (suc count) = group_def_and (group_def count 100 true empty_body) (groups_up_to count)

abbrev uses_of_one : ℕ → List ComponentRef
uses_of_one zero = []
uses_of_one (suc count) = record { name = 1; required = true } ∷ uses_of_one count

-- one component, called 1, and one message, of type D
abbrev dictionary_with : Body → Body → Dictionary
dictionary_with component message = record {
  header = empty_body;
  trailer = empty_body;
  components = record { name = 1; body = component } ∷ [];
  messages = record { name = 1140850688; body = message } ∷ [];
}

abbrev expanded_with : Body → Body → Expansion
expanded_with component message = expand_of gate_limits (dictionary_with component message) (dictionary_with component message) (ascii "D")

pub record LimitCases : Type 0 where
  pub nested_33 : nodes_of (expanded_with empty_body (body_of [] (nested_groups 33) [])) ≡ 33
  -- the innermost has count tag 0
  pub nested_34 : expanded_with empty_body (body_of [] (nested_groups 34) []) ≡ Refused (TooDeep 0)
  pub nodes_4096 : nodes_of (expanded_with (body_of [] (groups_up_to 64) []) (body_of [] (groups_up_to 1) (uses_of_one 63))) ≡ 4096
  -- the last group of the last use is the one that has count tag 0
  pub nodes_4097 : expanded_with (body_of [] (groups_up_to 64) []) (body_of [] (groups_up_to 2) (uses_of_one 63)) ≡ Refused (OutOfNodes 0)

pub limit_cases : LimitCases
unfolding is_between word_at is_alphanumeric message_type_of is_in body_called ran_out add_member add_required add_field spend each_field each_group each_use add_group add_component build outcome_of expand_of
limit_cases = record { nested_33 = refl; nested_34 = refl; nodes_4096 = refl; nodes_4097 = refl }
