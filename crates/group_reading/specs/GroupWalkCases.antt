-- The walk of a group on small messages, by computation: document 01's list in full, the smallest messages that tell wrong meanings of
-- 'reading of a group' apart, and a chain of groups that reaches the bound of `EventBound.antt`. Assumes nothing.
--
-- A layout is given here by a chain of groups, each nested in the one before it; a field by its tag and its value.
use Rattle.std.specs.Prelude.{◌≡◌, refl, ℕ, zero, suc, ◌+◌, ◌*◌, ◌-◌, ◌&&◌, List, [], ◌∷◌, map, length, get_or, if◌then◌else◌, Some, None}
use Prim.Native.String.{String}
use Rattle.ascii.specs.Notation.{◌<ᵇ◌, ◌≡ᵇ◌}
use Rattle.ascii.specs.Bytes.{ascii, non_empty}
use Rattle.ascii.specs.Notation.{is_between}
use Rattle.counts.specs.Count.{count_of}
use Rattle.ascii.specs.Membership.{◌∈ᵇ◌}
use Rattle.events.specs.Events.{event_words}
use Rattle.field_table.specs.WalkInput.{Layout, Fields}
use Rattle.group_reading.specs.GroupSteps.{opening_at, member_leads, entry_begins, entry_stops, step_at}
use Rattle.group_reading.specs.GroupWalk.{WalkedGroup, walk_by, walk_group}

record Row : Type 0 where
  pub count_tag : ℕ
  pub delimiter : ℕ
  pub members : List ℕ

record Field : Type 0 where
  pub tag : ℕ
  pub value : String

abbrev row : ℕ → ℕ → List ℕ → Row
row count_tag delimiter members = record { count_tag = count_tag; delimiter = delimiter; members = members }

infix 70 ◌is◌
abbrev ◌is◌ : ℕ → String → Field
tag is value = record { tag = tag; value = value }

abbrev chain : List Row → Layout
chain rows = record {
  Group = ℕ;
  count_tag = λ group. (get_or rows group (row 0 0 [])).count_tag;
  delimiter = λ group. (get_or rows group (row 0 0 [])).delimiter;
  is_member = λ group tag. tag ∈ᵇ (get_or rows group (row 0 0 [])).members;
  nested_group = λ group tag. if suc group <ᵇ length rows && tag ≡ᵇ (get_or rows (suc group) (row 0 0 [])).count_tag then Some (suc group) else None;
}

abbrev table : List Field → Fields
table fields = record {
  field_count = length fields;
  tag_at = λ position. (get_or fields position (0 is "")).tag;
  value_at = λ position. ascii (get_or fields position (0 is "")).value;
}

-- the walk of the first group from the position on, where the top level has these tags
abbrev walked : List Row → List ℕ → List Field → ℕ → WalkedGroup
walked rows top fields position = walk_group (record { layout = chain rows; fields = table fields; depth_limit = 32 }) 0 0 (λ tag. tag ∈ᵇ top) position

abbrev words : WalkedGroup → List (List ℕ)
unfolding event_words
words walk = map event_words walk.events

-- document 01, "One list in full"
list_in_full : (words (walked (row 453 448 (447 ∷ 448 ∷ []) ∷ []) (35 ∷ 453 ∷ []) (35 is "D" ∷ 453 is "2" ∷ 448 is "A" ∷ 447 is "D" ∷ 448 is "B" ∷ []) 1) ≡ (1 ∷ 453 ∷ 0 ∷ 0 ∷ 0 ∷ []) ∷ (5 ∷ 453 ∷ 0 ∷ 0 ∷ 2 ∷ []) ∷ (5 ∷ 453 ∷ 0 ∷ 1 ∷ 1 ∷ []) ∷ (8 ∷ 453 ∷ 0 ∷ 1 ∷ 2 ∷ []) ∷ [])
    × ((walked (row 453 448 (447 ∷ 448 ∷ []) ∷ []) (35 ∷ 453 ∷ []) (35 is "D" ∷ 453 is "2" ∷ 448 is "A" ∷ 447 is "D" ∷ 448 is "B" ∷ []) 1).next ≡ 5)
unfolding walk_group walk_by opening_at member_leads entry_begins entry_stops step_at non_empty is_between event_words
list_in_full = (refl, refl)

-- a position outside the table gives itself back and no event
outside-the_table : (words (walked (row 9 1 (1 ∷ []) ∷ []) (9 ∷ []) (9 is "1" ∷ 1 is "v" ∷ []) 2) ≡ [])
    × ((walked (row 9 1 (1 ∷ []) ∷ []) (9 ∷ []) (9 is "1" ∷ 1 is "v" ∷ []) 2).next ≡ 2)
unfolding walk_group walk_by opening_at member_leads entry_begins entry_stops step_at non_empty is_between event_words
outside-the_table = (refl, refl)

-- what may follow is asked of nested readings too
nested-count_zero_then_its_delimiter : (words (walked (row 9 1 (1 ∷ []) ∷ row 1 2 (2 ∷ []) ∷ []) (9 ∷ []) (9 is "1" ∷ 1 is "0" ∷ 2 is "v" ∷ []) 0) ≡ (1 ∷ 9 ∷ 0 ∷ 0 ∷ 0 ∷ []) ∷ (1 ∷ 1 ∷ 1 ∷ 0 ∷ 0 ∷ []) ∷ (5 ∷ 1 ∷ 1 ∷ 0 ∷ 1 ∷ []) ∷ (6 ∷ 1 ∷ 1 ∷ 0 ∷ 1 ∷ []) ∷ (8 ∷ 1 ∷ 1 ∷ 0 ∷ 1 ∷ []) ∷ (5 ∷ 9 ∷ 0 ∷ 0 ∷ 1 ∷ []) ∷ (8 ∷ 9 ∷ 0 ∷ 1 ∷ 1 ∷ []) ∷ [])
    × ((walked (row 9 1 (1 ∷ []) ∷ row 1 2 (2 ∷ []) ∷ []) (9 ∷ []) (9 is "1" ∷ 1 is "0" ∷ 2 is "v" ∷ []) 0).next ≡ 3)
unfolding walk_group walk_by opening_at member_leads entry_begins entry_stops step_at non_empty is_between event_words
nested-count_zero_then_its_delimiter = (refl, refl)

-- the delimiter behind a count of 0 begins an entry where the level around lacks it
count-zero_then_delimiter : (words (walked (row 9 1 (1 ∷ []) ∷ []) (9 ∷ []) (9 is "0" ∷ 1 is "v" ∷ []) 0) ≡ (1 ∷ 9 ∷ 0 ∷ 0 ∷ 0 ∷ []) ∷ (5 ∷ 9 ∷ 0 ∷ 0 ∷ 1 ∷ []) ∷ (6 ∷ 9 ∷ 0 ∷ 0 ∷ 1 ∷ []) ∷ (8 ∷ 9 ∷ 0 ∷ 0 ∷ 1 ∷ []) ∷ [])
    × ((walked (row 9 1 (1 ∷ []) ∷ []) (9 ∷ []) (9 is "0" ∷ 1 is "v" ∷ []) 0).next ≡ 2)
unfolding walk_group walk_by opening_at member_leads entry_begins entry_stops step_at non_empty is_between event_words
count-zero_then_delimiter = (refl, refl)

-- a delimiter that is a nested count tag begins a nested group, and counts as one field
delimiter-begins_nested_group : (words (walked (row 9 1 (1 ∷ []) ∷ row 1 1 (1 ∷ []) ∷ []) (9 ∷ []) (9 is "1" ∷ 1 is "0" ∷ []) 0) ≡ (1 ∷ 9 ∷ 0 ∷ 0 ∷ 0 ∷ []) ∷ (1 ∷ 1 ∷ 1 ∷ 0 ∷ 0 ∷ []) ∷ (8 ∷ 1 ∷ 1 ∷ 1 ∷ 0 ∷ []) ∷ (5 ∷ 9 ∷ 0 ∷ 0 ∷ 1 ∷ []) ∷ (8 ∷ 9 ∷ 0 ∷ 1 ∷ 1 ∷ []) ∷ [])
    × ((walked (row 9 1 (1 ∷ []) ∷ row 1 1 (1 ∷ []) ∷ []) (9 ∷ []) (9 is "1" ∷ 1 is "0" ∷ []) 0).next ≡ 2)
unfolding walk_group walk_by opening_at member_leads entry_begins entry_stops step_at non_empty is_between event_words
delimiter-begins_nested_group = (refl, refl)

-- a member behind a count of 0 is that of the level around where that has it
count-zero_then_level_tag : (words (walked (row 9 1 (1 ∷ 2 ∷ []) ∷ []) (2 ∷ 9 ∷ []) (9 is "0" ∷ 2 is "v" ∷ []) 0) ≡ (1 ∷ 9 ∷ 0 ∷ 0 ∷ 0 ∷ []) ∷ (8 ∷ 9 ∷ 0 ∷ 1 ∷ 0 ∷ []) ∷ [])
    × ((walked (row 9 1 (1 ∷ 2 ∷ []) ∷ []) (2 ∷ 9 ∷ []) (9 is "0" ∷ 2 is "v" ∷ []) 0).next ≡ 1)
unfolding walk_group walk_by opening_at member_leads entry_begins entry_stops step_at non_empty is_between event_words
count-zero_then_level_tag = (refl, refl)

-- but behind an entry a member belongs to the entry
entry-takes_level_tag : (words (walked (row 9 1 (1 ∷ 2 ∷ []) ∷ []) (2 ∷ 9 ∷ []) (9 is "1" ∷ 1 is "v" ∷ 2 is "v" ∷ []) 0) ≡ (1 ∷ 9 ∷ 0 ∷ 0 ∷ 0 ∷ []) ∷ (5 ∷ 9 ∷ 0 ∷ 0 ∷ 2 ∷ []) ∷ (8 ∷ 9 ∷ 0 ∷ 1 ∷ 1 ∷ []) ∷ [])
    × ((walked (row 9 1 (1 ∷ 2 ∷ []) ∷ []) (2 ∷ 9 ∷ []) (9 is "1" ∷ 1 is "v" ∷ 2 is "v" ∷ []) 0).next ≡ 3)
unfolding walk_group walk_by opening_at member_leads entry_begins entry_stops step_at non_empty is_between event_words
entry-takes_level_tag = (refl, refl)

-- the delimiter behind the declared entries is that of the level around where that has it
delimiter-of_level_around : (words (walked (row 9 1 (1 ∷ []) ∷ []) (1 ∷ 9 ∷ []) (9 is "1" ∷ 1 is "v" ∷ 1 is "v" ∷ []) 0) ≡ (1 ∷ 9 ∷ 0 ∷ 0 ∷ 0 ∷ []) ∷ (5 ∷ 9 ∷ 0 ∷ 0 ∷ 1 ∷ []) ∷ (8 ∷ 9 ∷ 0 ∷ 1 ∷ 1 ∷ []) ∷ [])
    × ((walked (row 9 1 (1 ∷ []) ∷ []) (1 ∷ 9 ∷ []) (9 is "1" ∷ 1 is "v" ∷ 1 is "v" ∷ []) 0).next ≡ 2)
unfolding walk_group walk_by opening_at member_leads entry_begins entry_stops step_at non_empty is_between event_words
delimiter-of_level_around = (refl, refl)

-- a tag in a nested group and then directly does not repeat
nested-field_then_direct_field : (words (walked (row 9 1 (1 ∷ 2 ∷ []) ∷ row 1 2 (2 ∷ []) ∷ []) (9 ∷ []) (9 is "1" ∷ 1 is "1" ∷ 2 is "v" ∷ 2 is "v" ∷ []) 0) ≡ (1 ∷ 9 ∷ 0 ∷ 0 ∷ 0 ∷ []) ∷ (1 ∷ 1 ∷ 1 ∷ 0 ∷ 0 ∷ []) ∷ (5 ∷ 1 ∷ 1 ∷ 0 ∷ 1 ∷ []) ∷ (8 ∷ 1 ∷ 1 ∷ 1 ∷ 1 ∷ []) ∷ (5 ∷ 9 ∷ 0 ∷ 0 ∷ 2 ∷ []) ∷ (8 ∷ 9 ∷ 0 ∷ 1 ∷ 1 ∷ []) ∷ [])
    × ((walked (row 9 1 (1 ∷ 2 ∷ []) ∷ row 1 2 (2 ∷ []) ∷ []) (9 ∷ []) (9 is "1" ∷ 1 is "1" ∷ 2 is "v" ∷ 2 is "v" ∷ []) 0).next ≡ 4)
unfolding walk_group walk_by opening_at member_leads entry_begins entry_stops step_at non_empty is_between event_words
nested-field_then_direct_field = (refl, refl)

-- the level around a nested group is the group it stands in, not the top
level-around_is_the_nearest : (words (walked (row 9 1 (1 ∷ []) ∷ row 1 2 (2 ∷ []) ∷ []) (2 ∷ 9 ∷ []) (9 is "1" ∷ 1 is "0" ∷ 2 is "v" ∷ []) 0) ≡ (1 ∷ 9 ∷ 0 ∷ 0 ∷ 0 ∷ []) ∷ (1 ∷ 1 ∷ 1 ∷ 0 ∷ 0 ∷ []) ∷ (5 ∷ 1 ∷ 1 ∷ 0 ∷ 1 ∷ []) ∷ (6 ∷ 1 ∷ 1 ∷ 0 ∷ 1 ∷ []) ∷ (8 ∷ 1 ∷ 1 ∷ 0 ∷ 1 ∷ []) ∷ (5 ∷ 9 ∷ 0 ∷ 0 ∷ 1 ∷ []) ∷ (8 ∷ 9 ∷ 0 ∷ 1 ∷ 1 ∷ []) ∷ [])
    × ((walked (row 9 1 (1 ∷ []) ∷ row 1 2 (2 ∷ []) ∷ []) (2 ∷ 9 ∷ []) (9 is "1" ∷ 1 is "0" ∷ 2 is "v" ∷ []) 0).next ≡ 3)
unfolding walk_group walk_by opening_at member_leads entry_begins entry_stops step_at non_empty is_between event_words
level-around_is_the_nearest = (refl, refl)

-- the level around a nested group has the delimiter of the group it stands in
level-around_has_its_delimiter : (words (walked (row 9 1 (1 ∷ []) ∷ row 1 1 (1 ∷ []) ∷ []) (9 ∷ []) (9 is "2" ∷ 1 is "0" ∷ 1 is "0" ∷ []) 0) ≡ (1 ∷ 9 ∷ 0 ∷ 0 ∷ 0 ∷ []) ∷ (1 ∷ 1 ∷ 1 ∷ 0 ∷ 0 ∷ []) ∷ (8 ∷ 1 ∷ 1 ∷ 1 ∷ 0 ∷ []) ∷ (5 ∷ 9 ∷ 0 ∷ 0 ∷ 1 ∷ []) ∷ (1 ∷ 1 ∷ 1 ∷ 0 ∷ 0 ∷ []) ∷ (8 ∷ 1 ∷ 1 ∷ 1 ∷ 0 ∷ []) ∷ (5 ∷ 9 ∷ 0 ∷ 1 ∷ 1 ∷ []) ∷ (8 ∷ 9 ∷ 0 ∷ 1 ∷ 2 ∷ []) ∷ [])
    × ((walked (row 9 1 (1 ∷ []) ∷ row 1 1 (1 ∷ []) ∷ []) (9 ∷ []) (9 is "2" ∷ 1 is "0" ∷ 1 is "0" ∷ []) 0).next ≡ 3)
unfolding walk_group walk_by opening_at member_leads entry_begins entry_stops step_at non_empty is_between event_words
level-around_has_its_delimiter = (refl, refl)

-- a member ahead of any delimiter, and a tag twice in one entry
member-before_delimiter_then_repeat : (words (walked (row 9 1 (1 ∷ 2 ∷ []) ∷ []) (9 ∷ []) (9 is "2" ∷ 2 is "v" ∷ 1 is "v" ∷ 2 is "v" ∷ 2 is "v" ∷ []) 0) ≡ (1 ∷ 9 ∷ 0 ∷ 0 ∷ 0 ∷ []) ∷ (3 ∷ 9 ∷ 0 ∷ 2 ∷ 0 ∷ []) ∷ (5 ∷ 9 ∷ 0 ∷ 0 ∷ 1 ∷ []) ∷ (4 ∷ 9 ∷ 0 ∷ 2 ∷ 0 ∷ []) ∷ (5 ∷ 9 ∷ 0 ∷ 1 ∷ 2 ∷ []) ∷ (8 ∷ 9 ∷ 0 ∷ 0 ∷ 2 ∷ []) ∷ [])
    × ((walked (row 9 1 (1 ∷ 2 ∷ []) ∷ []) (9 ∷ []) (9 is "2" ∷ 2 is "v" ∷ 1 is "v" ∷ 2 is "v" ∷ 2 is "v" ∷ []) 0).next ≡ 5)
unfolding walk_group walk_by opening_at member_leads entry_begins entry_stops step_at non_empty is_between event_words
member-before_delimiter_then_repeat = (refl, refl)

-- a count that is no number
count-not_a_number : (words (walked (row 9 1 (1 ∷ []) ∷ []) (9 ∷ []) (9 is "+1" ∷ 1 is "v" ∷ []) 0) ≡ (1 ∷ 9 ∷ 0 ∷ 0 ∷ 0 ∷ []) ∷ (2 ∷ 9 ∷ 0 ∷ 0 ∷ 0 ∷ []) ∷ (5 ∷ 9 ∷ 0 ∷ 0 ∷ 1 ∷ []) ∷ (8 ∷ 9 ∷ 0 ∷ 0 ∷ 1 ∷ []) ∷ [])
    × ((walked (row 9 1 (1 ∷ []) ∷ []) (9 ∷ []) (9 is "+1" ∷ 1 is "v" ∷ []) 0).next ≡ 2)
unfolding walk_group walk_by opening_at member_leads entry_begins entry_stops step_at non_empty is_between event_words
count-not_a_number = (refl, refl)

-- ---- the bound on events is reached

-- group k of a chain has the count tag 2k + 2, the delimiter 1 and the next count tag as its members; field k is (2k+2)=x
abbrev chain_rows : ℕ → ℕ → List Row
chain_rows zero group = []
chain_rows (suc more) group = row (2 * group + 2) 1 (1 ∷ (2 * group + 4) ∷ []) ∷ chain_rows more (suc group)

abbrev chain_fields : ℕ → ℕ → List Field
chain_fields zero position = []
chain_fields (suc more) position = (2 * position + 2) is "x" ∷ chain_fields more (suc position)

-- the numbers of events of the walks over n fields, n + 1 fields, ..
abbrev chain_events : ℕ → ℕ → List ℕ
chain_events zero n = []
chain_events (suc more) n = length (walked (chain_rows n 0) (2 ∷ []) (chain_fields n 0) 0).events ∷ chain_events more (suc n)

abbrev bounds : ℕ → ℕ → List ℕ
bounds zero n = []
bounds (suc more) n = (5 * n - 2) ∷ bounds more (suc n)

bound-reached : chain_events 33 1 ≡ bounds 33 1
unfolding walk_group walk_by opening_at member_leads entry_begins entry_stops step_at non_empty is_between event_words
bound-reached = refl

-- the 34th group of the chain is too deep
too_deep_event : length (walked (chain_rows 34 0) (2 ∷ []) (chain_fields 34 0) 0).events ≡ 166
unfolding walk_group walk_by opening_at member_leads entry_begins entry_stops step_at non_empty is_between event_words
too_deep_event = refl
