-- The expansion of a message type into its layout, as `ScopeBuilder` does it (scope.rs), under its names. Document 01, 'The layout of a
-- message type', from "Expansion follows `ScopeBuilder::build`" on.
--
-- An error is noted, its node is passed over, and the expansion goes on, as in the Rust; a refusal is the first error met ("7 to 10 as met").
-- The Rust has no limit of members and of required entries: here a member or an entry past the limit is added as the Rust does and
-- noted as MembersOver (10). So the levels are the Rust's in every case. Additions come in the Rust's order: a group takes its node, then
-- adds its count tag to the level around, then its delimiter to the entry, then fields, groups and uses.
--
-- The Rust hands down the depth of a node; here it is `left`, how many depths are left: one more than the greatest depth allowed at the
-- top, 0 where a node is too deep. The path of open components is the list of their names. `dictionary` is the one that uses are looked
-- up in. Assumes nothing.
--
--   spend limits name left work          a node is taken, or the error is noted: too deep, or no node left ("SchemaTooLarge" once)
--   add_field limits tag required work    a field in the level in work
--   add_group limits dictionary left path collect group work          a group in the level in work, with the level of its entries
--   add_component limits dictionary left path collect component work  a use of a component in the level in work
--   fill_body limits groups uses collect body work   the fields of a body, its groups, its uses, each added in turn
--   retained delimiter seen required     the required tags without the delimiter and without those that were seen
--   finish level                         the level with members and groups in order
--   build limits transport dictionary message   the top level in work, everything added
--   expand_of limits transport dictionary type   the layout of a message type and the nodes spent, or the refusal
use Rattle.std.specs.Prelude.{ℕ, zero, suc, Bool, true, false, ◌&&◌, ◌||◌, List, [], ◌∷◌, ◌++◌, if◌then◌else◌, Option, Some, None}
use Rattle.ascii.specs.Notation.{◌≤ᵇ◌, ◌<ᵇ◌, ◌≡ᵇ◌}
use Rattle.refusals.specs.declared.refusal.Refusal.{Refusal}
use Rattle.refusals.specs.declared.refusal.Refusal.TheVariants.{TextTooLong, UnknownForm, NotAllowed, TooManyOpen, DefinedAgain, TypeNotDefined, ComponentNotDefined, TooDeep, OutOfNodes, MembersOver, RuleBroken, BadField, SpaceShort, NoSuchGroup}
use Rattle.lines.specs.LineParts.{message_type_of}
use Rattle.ascending.specs.Sort.{sorted, is_in}
use Rattle.ascending.specs.Dedup.{deduped}
use Rattle.layouts.specs.Limits.{Limits}
use Rattle.layouts.specs.Layout.{Level, Group, Layout, level_of_lem, group_of_lem, grouped, count_tag}
use Rattle.expansion.specs.Dictionary.{FieldRef, ComponentRef, Body, GroupDefs, no_group_defs, group_def_and, GroupDef, Dictionary, FoundBody, Found, NotFound, fields_of, group_defs_of, uses_of, count_tag_of, delimiter_of, is_needed, entry_body, component_of, message_of}

-- ---- what is in work

-- the Rust's `ScopeBuilder`: what all levels share
pub record Builder : Type 0 where
  -- the nodes spent
  pub nodes : ℕ
  -- how many members were added to levels, and how many entries to required lists
  pub members : ℕ
  pub required : ℕ
  -- the errors met, in their order
  pub errors : List Refusal

-- a level to which is still added: the Rust's `Level` before it is finished. Groups stand in the order in which they were added
pub record OpenLevel : Type 0 where
  pub members : List ℕ
  pub required : List ℕ
  pub groups : List Group

pub record Work : Type 0 where
  pub builder : Builder
  pub level : OpenLevel

abbrev pub empty_level : OpenLevel
empty_level = record { members = []; required = []; groups = [] }

abbrev pub nothing_spent : Builder
nothing_spent = record { nodes = 0; members = 0; required = 0; errors = [] }

-- ---- errors

abbrev pub with_errors : List Refusal → Work → Work
with_errors errors work = record {
  builder = record {
    nodes = work.builder.nodes;
    members = work.builder.members;
    required = work.builder.required;
    errors = errors;
  };
  level = work.level;
}

abbrev pub noted : Refusal → Work → Work
noted refusal work = with_errors (work.builder.errors ++ (refusal ∷ [])) work

abbrev pub is_out_of_nodes : Refusal → Bool
is_out_of_nodes TextTooLong = false
is_out_of_nodes (UnknownForm line) = false
is_out_of_nodes (NotAllowed line) = false
is_out_of_nodes (TooManyOpen line) = false
is_out_of_nodes (DefinedAgain line) = false
is_out_of_nodes TypeNotDefined = false
is_out_of_nodes (ComponentNotDefined name) = false
is_out_of_nodes (TooDeep name) = false
is_out_of_nodes (OutOfNodes name) = true
is_out_of_nodes MembersOver = false
is_out_of_nodes (RuleBroken rule tag) = false
is_out_of_nodes (BadField field) = false
is_out_of_nodes (SpaceShort needed) = false
is_out_of_nodes (NoSuchGroup tag) = false

unfoldable pub ran_out : List Refusal → Bool
ran_out [] = false
ran_out (error ∷ errors) = is_out_of_nodes error || ran_out errors

-- ---- fields

-- one more member of the level, within the limit or not
abbrev pub push_member : ℕ → Work → Work
push_member tag work = record {
  builder = record {
    nodes = work.builder.nodes;
    members = suc work.builder.members;
    required = work.builder.required;
    errors = work.builder.errors;
  };
  level = record {
    members = work.level.members ++ (tag ∷ []);
    required = work.level.required;
    groups = work.level.groups;
  };
}

-- one more entry of the level's required list, within the limit or not
abbrev pub push_required : ℕ → Work → Work
push_required tag work = record {
  builder = record {
    nodes = work.builder.nodes;
    members = work.builder.members;
    required = suc work.builder.required;
    errors = work.builder.errors;
  };
  level = record {
    members = work.level.members;
    required = work.level.required ++ (tag ∷ []);
    groups = work.level.groups;
  };
}

-- "members of all levels may number 8,192"
unfoldable pub add_member : Limits → ℕ → Work → Work
add_member limits tag work =
    if work.builder.members <ᵇ limits.members
    then push_member tag work
    else noted MembersOver (push_member tag work)

-- "and the entries of all required lists 2,048"
unfoldable pub add_required : Limits → ℕ → Work → Work
add_required limits tag work =
    if work.builder.required <ᵇ limits.required
    then push_required tag work
    else noted MembersOver (push_required tag work)

unfoldable pub add_field : Limits → ℕ → Bool → Work → Work
add_field limits tag required work =
    if required
    then add_required limits tag (add_member limits tag work)
    else add_member limits tag work

-- ---- nodes

pub data Spent : Type 0 where
  Granted : Work → Spent
  Denied : Work → Spent

abbrev pub on_granted : (Work → Work) → Spent → Work
on_granted further (Granted work) = further work
on_granted further (Denied work) = work

abbrev pub with_node : Work → Work
with_node work = record {
  builder = record {
    nodes = suc work.builder.nodes;
    members = work.builder.members;
    required = work.builder.required;
    errors = work.builder.errors;
  };
  level = work.level;
}

-- "Each group or use first checks its depth (top 0; over 32 refuses), then takes one of 4,096 nodes"
unfoldable pub spend : Limits → ℕ → ℕ → Work → Spent
spend limits name zero work = Denied (noted (TooDeep name) work)
spend limits name (suc left) work =
    if work.builder.nodes <ᵇ limits.nodes then Granted (with_node work)
    else if ran_out work.builder.errors then Denied work
    else Denied (noted (OutOfNodes name) work)

-- ---- finishing a level

-- the group before the first whose count tag is not below its own
unfoldable pub inserted_group : Group → List Group → List Group
inserted_group group [] = group ∷ []
inserted_group group (next ∷ rest) =
    if count_tag group ≤ᵇ count_tag next then group ∷ next ∷ rest else next ∷ inserted_group group rest

-- "Groups are sorted by count tag": groups of one count tag stay in their order
unfoldable pub sorted_groups : List Group → List Group
sorted_groups [] = []
sorted_groups (group ∷ rest) = inserted_group group (sorted_groups rest)

unfoldable pub firsts_after : ℕ → List Group → List Group
firsts_after last [] = []
firsts_after last (group ∷ rest) =
    if count_tag group ≡ᵇ last then firsts_after last rest else group ∷ firsts_after (count_tag group) rest

-- "of equals the first stays"
unfoldable pub firsts_of : List Group → List Group
firsts_of [] = []
firsts_of (group ∷ rest) = group ∷ firsts_after (count_tag group) rest

-- "Members are sorted, equals dropped."
unfoldable pub finish : OpenLevel → Level
finish level = level_of_lem (deduped (sorted level.members)) level.required (grouped (firsts_of (sorted_groups level.groups)))

unfoldable pub retained : ℕ → List ℕ → List ℕ → List ℕ
retained delimiter seen [] = []
retained delimiter seen (tag ∷ rest) =
    if tag ≡ᵇ delimiter || is_in tag seen
    then retained delimiter seen rest
    else tag ∷ retained delimiter (tag ∷ seen) rest

-- "Its required list drops the delimiter and later repeats; the top list retains repeats."
unfoldable pub finish_entry : ℕ → OpenLevel → Level
finish_entry delimiter level = finish (record {
  members = level.members;
  required = retained delimiter [] level.required;
  groups = level.groups;
})

-- ---- groups and components

-- "An entry level starts with its delimiter."
abbrev pub open_entry : Limits → ℕ → Work → Work
open_entry limits delimiter work = add_member limits delimiter (record { builder = work.builder; level = empty_level })

-- the level around, with the group whose entry level is filled
abbrev pub close_group : GroupDef → Bool → Work → Work → Work
close_group group required around filled = record {
  builder = filled.builder;
  level = record {
    members = around.level.members;
    required = around.level.required;
    groups = around.level.groups ++ (group_of_lem (count_tag_of group) (delimiter_of group) required (finish_entry (delimiter_of group) filled.level) ∷ []);
  };
}

unfoldable pub each_field : Limits → Bool → List FieldRef → Work → Work
each_field limits collect [] work = work
each_field limits collect (field ∷ fields) work = each_field limits collect fields (add_field limits field.tag (collect && field.required) work)

unfoldable pub each_group : (GroupDef → Work → Work) → GroupDefs → Work → Work
each_group add no_group_defs work = work
each_group add (group_def_and group groups) work = each_group add groups (add group work)

unfoldable pub each_use : (ComponentRef → Work → Work) → List ComponentRef → Work → Work
each_use add [] work = work
each_use add (component ∷ uses) work = each_use add uses (add component work)

abbrev pub fill_body : Limits → (GroupDef → Work → Work) → (ComponentRef → Work → Work) → Bool → Body → Work → Work
fill_body limits groups uses collect body work =
    each_use uses (uses_of body) (each_group groups (group_defs_of body) (each_field limits collect (fields_of body) work))

-- "A use of a component already open on its own path adds nothing more."
abbrev pub unless_open : ℕ → List ℕ → (Work → Work) → Work → Work
unless_open name path further work = if is_in name path then work else further work

-- "a use then looks its component up"
abbrev pub on_component : ℕ → (Body → Work → Work) → FoundBody → Work → Work
on_component name further (Found body) work = further body work
on_component name further NotFound work = noted (ComponentNotDefined name) work

-- "A field of a component is required only if every use above it up to the group or message is too; a group in a component likewise.":
-- `collect` says whether every use above is, and starts anew in an entry
unfoldable mutual
  pub add_group : Limits → Dictionary → ℕ → List ℕ → Bool → GroupDef → Work → Work
  add_group limits dictionary zero path collect group work = on_granted (λ spent. spent) (spend limits (count_tag_of group) zero work)
  add_group limits dictionary (suc left) path collect group work =
      on_granted
      (λ spent.
      close_group group (is_needed group && collect) (add_member limits (count_tag_of group) spent)
      (fill_body limits
      (λ nested around. add_group limits dictionary left path true nested around)
      (λ component around. add_component limits dictionary left path true component around)
      true
      (entry_body group)
      (open_entry limits (delimiter_of group) (add_member limits (count_tag_of group) spent))))
      (spend limits (count_tag_of group) (suc left) work)

  pub add_component : Limits → Dictionary → ℕ → List ℕ → Bool → ComponentRef → Work → Work
  add_component limits dictionary zero path collect component work = on_granted (λ spent. spent) (spend limits component.name zero work)
  add_component limits dictionary (suc left) path collect component work =
      on_granted
      (on_component component.name
      (λ body.
      unless_open component.name path
      (fill_body limits
      (λ group around. add_group limits dictionary left (component.name ∷ path) (collect && component.required) group around)
      (λ nested around. add_component limits dictionary left (component.name ∷ path) (collect && component.required) nested around)
      (collect && component.required)
      body))
      (component_of dictionary component.name))
      (spend limits component.name (suc left) work)

-- ---- the message level

-- "(top 0; over 32 refuses)"
abbrev pub depths_left : Limits → ℕ
depths_left limits = suc limits.depth

-- "Header and trailer bodies have no `use`": their fields and groups
abbrev pub add_envelope : Limits → Dictionary → Body → Work → Work
add_envelope limits transport body work =
    each_group (add_group limits transport (depths_left limits) [] true) (group_defs_of body) (each_field limits true (fields_of body) work)

abbrev pub add_message : Limits → Dictionary → Body → Work → Work
add_message limits dictionary body work =
    fill_body limits
    (add_group limits dictionary (depths_left limits) [] true)
    (add_component limits dictionary (depths_left limits) [] true)
    true
    body
    work

-- "header fields, header groups, trailer the same way, then the message's fields, groups, components"
unfoldable pub build : Limits → Dictionary → Dictionary → Body → Work
build limits transport dictionary message =
    add_message limits dictionary message
    (add_envelope limits transport transport.trailer
    (add_envelope limits transport transport.header
    (record { builder = nothing_spent; level = empty_level })))

pub data Expansion : Type 0 where
  Expanded : (layout : Layout) (nodes : ℕ) → Expansion
  Refused : Refusal → Expansion

abbrev pub answered : List Refusal → Work → Expansion
answered [] work = Expanded (finish work.level) work.builder.nodes
answered (first ∷ others) work = Refused first

unfoldable pub outcome_of : Work → Expansion
outcome_of work = answered work.builder.errors work

abbrev pub on_message : Limits → Dictionary → Dictionary → FoundBody → Expansion
on_message limits transport dictionary (Found message) = outcome_of (build limits transport dictionary message)
on_message limits transport dictionary NotFound = Refused TypeNotDefined

abbrev pub on_type : Limits → Dictionary → Dictionary → Option ℕ → Expansion
on_type limits transport dictionary (Some letters) = on_message limits transport dictionary (message_of dictionary letters)
on_type limits transport dictionary None = Refused TypeNotDefined

unfoldable pub expand_of : Limits → Dictionary → Dictionary → List ℕ → Expansion
expand_of limits transport dictionary type = on_type limits transport dictionary (message_type_of type)
