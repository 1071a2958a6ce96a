-- The check of lent layout words: "A call that is lent dictionary or layout words first checks that they are the arrangement .. of a layout
-- that meets the seven rules below and these limits" (document 01). What the words say is in LayoutWords.antt; words may stand behind the
-- arrangement. That exactly the words that begin with the arrangement of such a layout pass is `is_layout-exact` (LayoutCheckComplete.antt).
-- Assumes nothing.
--
--   is_run first places            the places begin at `first` and never fall
--   is_ahead number places         the first place is greater than `number`, the second greater than `number + 1`, and so on
--   member_places_hold limits groups words, required_places_hold limits groups words, group_places_hold groups words
--                                 the three rows of places are as the arrangement has them. Every level but the top is the entry level of a
--                                 group that stands in a level before it: so the groups of levels 0 to k are more than k
--   is_level members count_tags     the rules 1, 3 and 4 for the members and count tags of a level (5 to 7 for the top)
--   levels_hold members count_tags  these rules for every level
--   delimiters_hold members delimiters   rule 2 for every group
--   is_layout limits words         the words begin with the arrangement of a layout that meets the rules and the limits
--   layout_words limits words      the words, if they do
use Rattle.std.specs.Prelude.{ℕ, ◌+◌, ◌*◌, Bool, true, false, ◌&&◌, List, [], ◌∷◌, length, get_or, take, drop, if◌then◌else◌, Option, Some, None}
use Rattle.ascii.specs.Notation.{◌≤ᵇ◌, ◌<ᵇ◌, ◌≡ᵇ◌}
use Rattle.ascii.specs.Bytes.{non_empty, every}
use Rattle.layouts.specs.Limits.{Limits}
use Rattle.layouts.specs.LayoutRules.{is_ascending, ◌∈ᵇ◌, are_among}
use Rattle.layouts.specs.LayoutWords.{member_places, required_places, group_places, first_count_tag, first_delimiter, first_flag, first_member, group_count, stretches}

unfoldable pub never_falls : ℕ → List ℕ → Bool
never_falls place [] = true
never_falls place (next ∷ rest) = place ≤ᵇ next && never_falls next rest

unfoldable pub is_run : ℕ → List ℕ → Bool
is_run first [] = false
is_run first (place ∷ rest) = place ≡ᵇ first && never_falls place rest

unfoldable pub is_ahead : ℕ → List ℕ → Bool
is_ahead number [] = true
is_ahead number (place ∷ rest) = number <ᵇ place && is_ahead (number + 1) rest

unfoldable pub member_places_hold : Limits → ℕ → List ℕ → Bool
member_places_hold limits groups words =
    is_run (first_member groups) (take (groups + 2) (drop member_places words))
    && get_or words (groups + 2) 0 ≤ᵇ first_member groups + limits.members

unfoldable pub required_places_hold : Limits → ℕ → List ℕ → Bool
required_places_hold limits groups words =
    is_run (get_or words (groups + 2) 0) (take (groups + 2) (drop (required_places groups) words))
    && get_or words (4 + 2 * groups) 0 ≤ᵇ get_or words (groups + 2) 0 + limits.required
    && get_or words (4 + 2 * groups) 0 ≤ᵇ length words

unfoldable pub group_places_hold : ℕ → List ℕ → Bool
group_places_hold groups words =
    is_run (first_count_tag groups) (take (groups + 2) (drop (group_places groups) words))
    && get_or words (6 + 3 * groups) 0 ≡ᵇ first_delimiter groups
    && is_ahead (first_count_tag groups) (take groups (drop (6 + 2 * groups) words))

abbrev pub is_flag : ℕ → Bool
is_flag word = word ≤ᵇ 1

unfoldable pub is_level : List ℕ → List ℕ → Bool
is_level members count_tags = is_ascending members && is_ascending count_tags && are_among members count_tags

unfoldable pub levels_hold : List (List ℕ) → List (List ℕ) → Bool
levels_hold [] count_tags = true
levels_hold (members ∷ others) [] = true
levels_hold (members ∷ others) (count_tags ∷ rest) = is_level members count_tags && levels_hold others rest

unfoldable pub delimiters_hold : List (List ℕ) → List ℕ → Bool
delimiters_hold [] delimiters = true
delimiters_hold (members ∷ others) [] = true
delimiters_hold (members ∷ others) (delimiter ∷ rest) = delimiter ∈ᵇ members && delimiters_hold others rest

-- what the words say of every level, and of the entry level of every group
unfoldable pub all_levels_hold : ℕ → List ℕ → Bool
all_levels_hold groups words = levels_hold (stretches words member_places (groups + 1)) (stretches words (group_places groups) (groups + 1))

unfoldable pub all_delimiters_hold : ℕ → List ℕ → Bool
all_delimiters_hold groups words = delimiters_hold (stretches words (member_places + 1) groups) (take groups (drop (first_delimiter groups) words))

unfoldable pub is_layout_of : Limits → ℕ → List ℕ → Bool
is_layout_of limits groups words =
    first_member groups ≤ᵇ length words
    && member_places_hold limits groups words
    && required_places_hold limits groups words
    && group_places_hold groups words
    && every is_flag (take groups (drop (first_flag groups) words))
    && all_levels_hold groups words
    && all_delimiters_hold groups words

unfoldable pub is_layout : Limits → List ℕ → Bool
is_layout limits words = non_empty words && is_layout_of limits (group_count words) words

-- the words, where they are a layout's
unfoldable pub layout_words : Limits → List ℕ → Option (List ℕ)
layout_words limits words = if is_layout limits words then Some words else None
