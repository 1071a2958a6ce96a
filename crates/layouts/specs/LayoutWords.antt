-- The arrangement of a layout in 32-bit words (docs/ARRANGEMENT.md). The groups of all levels are numbered from 0 in the order of
-- `all_groups`; level 0 is the top, and level `number + 1` is the entry level of group `number`. So the groups of a level have numbers that
-- follow one another, and where the groups of level 0, 1, 2 .. begin tells the whole tree. With `groups` for how many groups there are:
--
--   word 0                      groups
--   from word 1                 groups + 2 places: where in the words the members of level 0, 1, .. begin, and where the last level's end
--   from word 3 + groups        groups + 2 places: the same for the required tags
--   from word 5 + 2 * groups    groups + 2 places: the same for the count tags of the groups that stand in a level
--   from word 7 + 3 * groups    the count tag of each group
--   from word 7 + 4 * groups    the delimiter of each group
--   from word 7 + 5 * groups    1 for each required group, 0 for each other
--   from word 7 + 6 * groups    the members of all levels, then the required tags of all levels
--
-- Assumes nothing.
--
--   places_from first lists      where each of the lists begins when they stand one behind the other from `first` on, and where the last ends
--   arranged layout             the words of a layout, by `arranged_parts`
--   group_count words            how many groups the words tell of
--   stretch words place         the stretch of words from the place that stands at `place` up to the one that stands behind it
--   stretches words place count the `count` stretches whose places stand from `place` on
--   level_members words number, level_required words number, level_count_tags words number   what the words say of the level of that number
--   count_tag_at words number, delimiter_at words number, flag_at words number               and of the group of that number
--   first_group words number     the number of the first group that stands in the level of that number
--   groups_from words number count   the `count` groups from that number on, the last of the words being the last of them
--   layout_in words              the layout that the words tell of
use Rattle.std.specs.Prelude.{ℕ, zero, suc, ◌+◌, ◌*◌, ◌-◌, List, [], ◌∷◌, ◌++◌, map, length, get_or, take, drop, if◌then◌else◌}
use Rattle.ascii.specs.Notation.{◌≡ᵇ◌}
use Rattle.layouts.specs.Layout.{Group, Layout, level_of_lem, group_of_lem, grouped, members_of, required_of, count_tags_of, delimiter, is_required, all_groups, all_levels, joined}

unfoldable pub places_from : ℕ → List (List ℕ) → List ℕ
places_from first [] = first ∷ []
places_from first (list ∷ lists) = first ∷ places_from (first + length list) lists

abbrev pub member_places : ℕ
member_places = 1

abbrev pub required_places : ℕ → ℕ
required_places groups = 3 + groups

abbrev pub group_places : ℕ → ℕ
group_places groups = 5 + 2 * groups

abbrev pub first_count_tag : ℕ → ℕ
first_count_tag groups = 7 + 3 * groups

abbrev pub first_delimiter : ℕ → ℕ
first_delimiter groups = 7 + 4 * groups

abbrev pub first_flag : ℕ → ℕ
first_flag groups = 7 + 5 * groups

abbrev pub first_member : ℕ → ℕ
first_member groups = 7 + 6 * groups

abbrev pub flag : Group → ℕ
flag group = if is_required group then 1 else 0

-- of so many groups: the members, required tags and count tags of each level, the delimiters and the flags of the groups
unfoldable pub arranged_parts : ℕ → List (List ℕ) → List (List ℕ) → List (List ℕ) → List ℕ → List ℕ → List ℕ
arranged_parts groups members required count_tags delimiters flags =
    groups
    ∷ (places_from (first_member groups) members
    ++ (places_from (first_member groups + length (joined members)) required
    ++ (places_from (first_count_tag groups) count_tags
    ++ (joined count_tags
    ++ (delimiters
    ++ (flags
    ++ (joined members
    ++ joined required)))))))

unfoldable pub arranged : Layout → List ℕ
arranged layout =
    arranged_parts
    (length (all_groups layout))
    (map members_of (all_levels layout))
    (map required_of (all_levels layout))
    (map count_tags_of (all_levels layout))
    (map delimiter (all_groups layout))
    (map flag (all_groups layout))

-- ---- reading the words

abbrev pub group_count : List ℕ → ℕ
group_count words = get_or words 0 0

unfoldable pub stretch : List ℕ → ℕ → List ℕ
stretch words place = take (get_or words (place + 1) 0 - get_or words place 0) (drop (get_or words place 0) words)

unfoldable pub stretches : List ℕ → ℕ → ℕ → List (List ℕ)
stretches words place zero = []
stretches words place (suc count) = stretch words place ∷ stretches words (place + 1) count

abbrev pub level_members : List ℕ → ℕ → List ℕ
level_members words number = stretch words (member_places + number)

abbrev pub level_required : List ℕ → ℕ → List ℕ
level_required words number = stretch words (required_places (group_count words) + number)

abbrev pub level_count_tags : List ℕ → ℕ → List ℕ
level_count_tags words number = stretch words (group_places (group_count words) + number)

abbrev pub first_group : List ℕ → ℕ → ℕ
first_group words number = get_or words (group_places (group_count words) + number) 0 - first_count_tag (group_count words)

abbrev pub count_tag_at : List ℕ → ℕ → ℕ
count_tag_at words number = get_or words (first_count_tag (group_count words) + number) 0

abbrev pub delimiter_at : List ℕ → ℕ → ℕ
delimiter_at words number = get_or words (first_delimiter (group_count words) + number) 0

abbrev pub flag_at : List ℕ → ℕ → ℕ
flag_at words number = get_or words (first_flag (group_count words) + number) 0

-- a group whose entry has some of the groups behind it
abbrev pub group_at : List ℕ → ℕ → List Group → Group
group_at words number later =
    group_of_lem
    (count_tag_at words number)
    (delimiter_at words number)
    (flag_at words number ≡ᵇ 1)
    (level_of_lem
    (level_members words (1 + number))
    (level_required words (1 + number))
    (grouped (take (first_group words (2 + number) - first_group words (1 + number)) (drop (first_group words (1 + number) - (1 + number)) later))))

unfoldable pub groups_from : List ℕ → ℕ → ℕ → List Group
groups_from words number zero = []
groups_from words number (suc count) = group_at words number (groups_from words (number + 1) count) ∷ groups_from words (number + 1) count

unfoldable pub layout_in : List ℕ → Layout
layout_in words =
    level_of_lem (level_members words 0) (level_required words 0) (grouped (take (first_group words 1) (groups_from words 0 (group_count words))))
