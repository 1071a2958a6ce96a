-- The parts of a layout, gathered level by level before its words are written (docs/ARRANGEMENT.md): what `put_layout` is lent. The levels
-- stand in the order of `all_levels`, so level 0 is the top and level `number + 1` the entry level of group `number`. Three slices hold them:
--
--   members     the members of all levels, joined;   required     the required tags of all levels, joined;
--   rows        six words a level: the count tag, the delimiter and the flag (1 required, 0 not) of its group, then how many members,
--               required tags and groups there are up to the end of this level. The first three words of the top's row tell nothing.
--
-- So word `6 * level + 3` of the rows says how many members the levels 0 to `level` have together. Assumes nothing.
--
--   column rows place count               the words at `place`, `place + 6`, `place + 12` .., so many of them
--   shifted first numbers                 each number with `first` added
--   gathered_words groups members required rows   the words of a layout, from its gathered parts
--   ends_from before lists                 how many elements there are up to the end of each list, with `before` of them before the first
--   Gathered layout groups members required rows   the slices hold the parts of the layout
--   RowsInside groups members required rows        what `put_layout` asks of the slices: rows for all levels, and no end past what is there
use Rattle.std.specs.Prelude.{ℕ, zero, suc, ◌+◌, ◌*◌, ◌≤◌, ◌<◌, ◌≡◌, List, [], ◌∷◌, ◌++◌, map, length, get_or}
use Rattle.layouts.specs.Layout.{Layout, members_of, required_of, count_tags_of, count_tag, delimiter, all_groups, all_levels, all_members, all_required}
use Rattle.layouts.specs.LayoutWords.{first_member, first_count_tag, flag}

unfoldable pub column : List ℕ → ℕ → ℕ → List ℕ
column rows place zero = []
column rows place (suc count) = get_or rows place 0 ∷ column rows (place + 6) count

unfoldable pub shifted : ℕ → List ℕ → List ℕ
shifted first [] = []
shifted first (number ∷ numbers) = (first + number) ∷ shifted first numbers

unfoldable pub gathered_words : ℕ → List ℕ → List ℕ → List ℕ → List ℕ
gathered_words groups members required rows =
    groups
    ∷ ((first_member groups ∷ shifted (first_member groups) (column rows 3 (groups + 1)))
    ++ (((first_member groups + length members) ∷ shifted (first_member groups + length members) (column rows 4 (groups + 1)))
    ++ ((first_count_tag groups ∷ shifted (first_count_tag groups) (column rows 5 (groups + 1)))
    ++ (column rows 6 groups
    ++ (column rows 7 groups
    ++ (column rows 8 groups
    ++ (members
    ++ required)))))))

unfoldable pub ends_from : ℕ → List (List ℕ) → List ℕ
ends_from before [] = []
ends_from before (list ∷ lists) = (before + length list) ∷ ends_from (before + length list) lists

pub record Gathered (layout : Layout) (groups : ℕ) (members required rows : List ℕ) : Type 0 where
  pub row_count : length rows ≡ 6 * (groups + 1)
  pub has_groups : groups ≡ length (all_groups layout)
  pub has_members : members ≡ all_members layout
  pub has_required : required ≡ all_required layout
  pub member_ends : column rows 3 (groups + 1) ≡ ends_from 0 (map members_of (all_levels layout))
  pub required_ends : column rows 4 (groups + 1) ≡ ends_from 0 (map required_of (all_levels layout))
  pub group_ends : column rows 5 (groups + 1) ≡ ends_from 0 (map count_tags_of (all_levels layout))
  pub count_tags : column rows 6 groups ≡ map count_tag (all_groups layout)
  pub delimiters : column rows 7 groups ≡ map delimiter (all_groups layout)
  pub flags : column rows 8 groups ≡ map flag (all_groups layout)

pub record RowsInside (groups : ℕ) (members required rows : List ℕ) : Type 0 where
  pub row_count : length rows ≡ 6 * (groups + 1)
  pub member_ends : (level : ℕ) → level < groups + 1 → get_or rows (3 + 6 * level) 0 ≤ length members
  pub required_ends : (level : ℕ) → level < groups + 1 → get_or rows (4 + 6 * level) 0 ≤ length required
  pub group_ends : (level : ℕ) → level < groups + 1 → get_or rows (5 + 6 * level) 0 ≤ groups
