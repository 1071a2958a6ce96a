-- The open blocks of a layout text as `first_broken` keeps them, the outermost first: the members of the open levels in one row, their count
-- tags so far in another, and of each block its tags and where its own part of the two rows begins. Assumes nothing.
--
--   group_broken members delimiter tags count   the lowest rule that a group breaks, by its members and nested count tags
--   level_broken members tags                   the lowest rule that a top breaks
--   held_members level blocks                   the members of the open levels, the innermost last
--   held_tags level blocks                      the count tags of the groups that are closed in them
--   kept_of count delimiter around blocks       what is kept of the block that is opened with these tags in this level
--   kept_blocks blocks                          what is kept of the open blocks, the outermost first
use Rattle.std.specs.Prelude.{ℕ, not, List, [], ◌∷◌, ◌++◌, length, if◌then◌else◌, Option, None}
use Rattle.layouts.specs.Layout.{Level, members_of, count_tags_of}
use Rattle.layouts.specs.LayoutRules.{is_ascending, ◌∈ᵇ◌, are_among}
use Rattle.layout_rules.specs.declared.layout_rules.OpenBlock.{OpenBlock}
use Rattle.layout_text.specs.LayoutOfText.{Block, block_of}
use Rattle.layout_rules.specs.FirstBroken.{broken_at}

unfoldable pub group_broken : List ℕ → ℕ → List ℕ → ℕ → Option (ℕ × ℕ)
group_broken members delimiter tags count =
    if not (is_ascending members) then broken_at 1 count
    else if not (delimiter ∈ᵇ members) then broken_at 2 count
    else if not (is_ascending tags) then broken_at 3 count
    else if not (are_among members tags) then broken_at 4 count
    else None

unfoldable pub level_broken : List ℕ → List ℕ → Option (ℕ × ℕ)
level_broken members tags =
    if not (is_ascending tags) then broken_at 5 0
    else if not (is_ascending members) then broken_at 6 0
    else if not (are_among members tags) then broken_at 7 0
    else None

unfoldable pub held_members : Level → List Block → List ℕ
held_members level [] = members_of level
held_members level (block_of count delimiter flag around ∷ blocks) = held_members around blocks ++ members_of level

unfoldable pub held_tags : Level → List Block → List ℕ
held_tags level [] = count_tags_of level
held_tags level (block_of count delimiter flag around ∷ blocks) = held_tags around blocks ++ count_tags_of level

abbrev pub kept_of : ℕ → ℕ → Level → List Block → OpenBlock
kept_of count delimiter around blocks = record {
  count = count;
  delimiter = delimiter;
  members = length (held_members around blocks);
  tags = length (held_tags around blocks);
}

-- the open blocks as they are kept, the outermost first
unfoldable pub kept_blocks : List Block → List OpenBlock
kept_blocks [] = []
kept_blocks (block_of count delimiter flag around ∷ blocks) = kept_blocks blocks ++ (kept_of count delimiter around blocks ∷ [])
