-- The count tags of a level, as code reads them from words whose number of groups it has read: they lie in the words, they are those of the
-- level, and their place is that of the level's groups. Assumes nothing.
use Rattle.std.specs.Prelude.{◌≡◌, ℕ, ◌+◌, ◌*◌, ◌≤◌, List, get_or}
use Rattle.std.proofs.Common.{◌∙◌, arith}
use Rattle.layouts.specs.Limits.{Limits}
use Rattle.layouts.specs.LayoutWords.{stretch, group_places, group_count, first_count_tag, level_count_tags, first_group}
use Rattle.layouts.specs.LayoutWordsLaws.{StretchInside}
use Rattle.layouts.specs.LayoutCheckFacts.{Passed, count_tags-inside, groups-place}

module _ (limits : Limits) (words : List ℕ) (passed : Passed limits words) (number : ℕ) (level : number ≤ group_count words) (groups : ℕ) (read : groups ≡ group_count words) where
  pub nested_inside : StretchInside words (5 + 2 * groups + number)
  nested_inside = rw read (count_tags-inside limits words passed number level)

  pub tags_are : (tags : List ℕ) → tags ≡ stretch words (5 + 2 * groups + number) → tags ≡ level_count_tags words number
  tags_are tags tags-read = tags-read ∙ rw read

  pub first-is : (first : ℕ) → first ≡ get_or words (5 + 2 * groups + number) 0 → first ≡ first_count_tag (group_count words) + first_group words number
  first-is first first_read =
      let at : get_or words (5 + 2 * groups + number) 0 ≡ get_or words (group_places (group_count words) + number) 0 = rw read in
      first_read ∙ at ∙ groups-place limits words passed number (omega arith)
