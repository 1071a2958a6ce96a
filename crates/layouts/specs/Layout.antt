-- The layout of a message type, as group.rs has it (`MessageLayout`, `GroupSpec`): the repeating groups of a message and the tags of each
-- level. A level has its members, its required tags and its groups; a group has its count tag, its delimiter, whether it is required, and
-- the level of its entries. The layout of a message type is its top level. A tag is a number. Assumes nothing.
--
--   members_of level, required_of level    the members and the required tags of a level
--   listed groups, grouped list          the groups of a level as a list, and back
--   groups_of level                       the groups that stand in a level, in their order
--   count_tags_of level                    the count tags of these groups
--   count_tag group, delimiter group, is_required group, entry group   what a group has
--   groups_below level                    how many groups there are in a level and in the entries of its groups, all the way down
--   level_order count waiting             the first `count` groups of those that wait and of those below them: first all that wait, then
--                                        the groups in the entry of the first, of the second, and so on
--   all_groups layout                     the groups of all levels: those of the top, then those of their entries, then those one deeper ..
--   all_levels layout                     the top, and then the entry level of each group, in the order of `all_groups`
--   joined lists                         the lists one behind the other
--   all_members layout, all_required layout   the members and the required tags of all levels, in that order
use Rattle.std.specs.Prelude.{ℕ, zero, suc, ◌+◌, Bool, List, [], ◌∷◌, ◌++◌, map}

mutual
  pub data Level : Type 0 where
    level_of_lem : (members required : List ℕ) (groups : Groups) → Level

  pub data Groups : Type 0 where
    no_groups : Groups
    group_and : Group → Groups → Groups

  pub data Group : Type 0 where
    group_of_lem : (count_tag delimiter : ℕ) (is_required : Bool) (entry : Level) → Group

abbrev pub Layout : Type 0
Layout = Level

abbrev pub listed : Groups → List Group
listed no_groups = []
listed (group_and first others) = first ∷ listed others

abbrev pub grouped : List Group → Groups
grouped [] = no_groups
grouped (first ∷ others) = group_and first (grouped others)

abbrev pub members_of : Level → List ℕ
members_of (level_of_lem members required held_groups) = members

abbrev pub required_of : Level → List ℕ
required_of (level_of_lem members required held_groups) = required

abbrev pub groups_of : Level → List Group
groups_of (level_of_lem members required groups) = listed groups

abbrev pub count_tag : Group → ℕ
count_tag (group_of_lem tag first needed inner) = tag

abbrev pub delimiter : Group → ℕ
delimiter (group_of_lem tag first needed inner) = first

abbrev pub is_required : Group → Bool
is_required (group_of_lem tag first needed inner) = needed

abbrev pub entry : Group → Level
entry (group_of_lem tag first needed inner) = inner

abbrev pub count_tags_of : Level → List ℕ
count_tags_of level = map count_tag (groups_of level)

unfoldable mutual
  pub groups_below : Level → ℕ
  groups_below (level_of_lem members required groups) = groups_among groups

  pub groups_among : Groups → ℕ
  groups_among no_groups = 0
  groups_among (group_and first others) = groups_with first + groups_among others

  pub groups_with : Group → ℕ
  groups_with (group_of_lem tag first needed inner) = suc (groups_below inner)

unfoldable pub level_order : ℕ → List Group → List Group
level_order zero waiting = []
level_order (suc count) [] = []
level_order (suc count) (first ∷ waiting) = first ∷ level_order count (waiting ++ groups_of (entry first))

unfoldable pub all_groups : Layout → List Group
all_groups layout = level_order (groups_below layout) (groups_of layout)

abbrev pub all_levels : Layout → List Level
all_levels layout = layout ∷ map entry (all_groups layout)

unfoldable pub joined : List (List ℕ) → List ℕ
joined [] = []
joined (list ∷ lists) = list ++ joined lists

abbrev pub all_members : Layout → List ℕ
all_members layout = joined (map members_of (all_levels layout))

abbrev pub all_required : Layout → List ℕ
all_required layout = joined (map required_of (all_levels layout))
