-- Laws of `OpenBlocks.antt`, in its order. Assumes nothing.
use Rattle.std.specs.Prelude.{◌≡◌, ℕ, ◌+◌, Bool, true, false, length, take, drop, Option, Some, None}
use Rattle.std.specs.Option.{is_some}
use Rattle.std.proofs.Math.Path.{refl, sym, ap}
use Rattle.std.proofs.Common.{◌∙◌, arith, length-append, take_at, drop_at}
use mathlib.Core.List.{List, [], ◌∷◌, ◌++◌, map, append_assoc, append-nil}
use Rattle.ascending.specs.Sort.{is_in}
use Rattle.ascending.specs.Search.{rank_in, is_found}
use Rattle.ascending.specs.SearchLaws.{is_found-rank}
use Rattle.layouts.specs.Layout.{Level, Groups, Group, level_of_lem, no_groups, group_and, group_of_lem, listed, members_of, count_tags_of, count_tag}
use Rattle.layouts.specs.LayoutRules.{is_ascending, ◌∈ᵇ◌, are_among}
use Rattle.layout_rules.specs.declared.layout_rules.OpenBlock.{OpenBlock}
use Rattle.layout_text.specs.LayoutOfText.{with_member, with_required, with_group, groups_then, empty_level, Block, block_of}
use Rattle.layout_rules.specs.FirstBroken.{broken_at, own_broken, top_broken}
use Rattle.layout_rules.specs.OpenBlocks.{group_broken, level_broken, held_members, held_tags, kept_of, kept_blocks}

-- ---- is_member

pub is_found-some : (found : Option ℕ) → is_found found ≡ is_some found
unfolding is_found
is_found-some (Some place) = refl
is_found-some None = refl

pub member-found : (words : List ℕ) (tag : ℕ) (found : Option ℕ) → found ≡ rank_in words tag → is_some found ≡ is_in tag words
member-found words tag found is = sym (is_found-some found) ∙ ap is_found is ∙ is_found-rank words tag

-- ---- group_broken, level_broken

module _ (members tags : List ℕ) where
  module _ (delimiter count : ℕ) where
    pub group-breaks_1 : is_ascending members ≡ false → group_broken members delimiter tags count ≡ broken_at 1 count
    unfolding group_broken
    group-breaks_1 one = rw one

    module _ (one : is_ascending members ≡ true) where
      pub group-breaks_2 : delimiter ∈ᵇ members ≡ false → group_broken members delimiter tags count ≡ broken_at 2 count
      unfolding group_broken
      group-breaks_2 two = rw (one, two)

      module _ (two : delimiter ∈ᵇ members ≡ true) where
        pub group-breaks_3 : is_ascending tags ≡ false → group_broken members delimiter tags count ≡ broken_at 3 count
        unfolding group_broken
        group-breaks_3 three = rw (one, two, three)

        pub group-breaks_4 : is_ascending tags ≡ true → are_among members tags ≡ false → group_broken members delimiter tags count ≡ broken_at 4 count
        unfolding group_broken
        group-breaks_4 three four = rw (one, two, three, four)

        pub group-unbroken : is_ascending tags ≡ true → are_among members tags ≡ true → group_broken members delimiter tags count ≡ None
        unfolding group_broken
        group-unbroken three four = rw (one, two, three, four)

  pub top-breaks_5 : is_ascending tags ≡ false → level_broken members tags ≡ broken_at 5 0
  unfolding level_broken
  top-breaks_5 five = rw five

  module _ (five : is_ascending tags ≡ true) where
    pub top-breaks_6 : is_ascending members ≡ false → level_broken members tags ≡ broken_at 6 0
    unfolding level_broken
    top-breaks_6 six = rw (five, six)

    pub top-breaks_7 : is_ascending members ≡ true → are_among members tags ≡ false → level_broken members tags ≡ broken_at 7 0
    unfolding level_broken
    top-breaks_7 six seven = rw (five, six, seven)

    pub top-unbroken : is_ascending members ≡ true → are_among members tags ≡ true → level_broken members tags ≡ None
    unfolding level_broken
    top-unbroken six seven = rw (five, six, seven)

pub group_broken-own : (level : Level) (count delimiter : ℕ) (flag : Bool) → group_broken (members_of level) delimiter (count_tags_of level) count ≡ own_broken (group_of_lem count delimiter flag level)
unfolding group_broken own_broken
group_broken-own level count delimiter flag = refl

pub level_broken-top : (level : Level) → level_broken (members_of level) (count_tags_of level) ≡ top_broken level
unfolding level_broken top_broken
level_broken-top level = refl

-- ---- held_members, held_tags

module _ (tag : ℕ) where
  pub held-member : (level : Level) (blocks : List Block) → held_members (with_member tag level) blocks ≡ held_members level blocks ++ (tag ∷ [])
  unfolding held_members
  held-member (level_of_lem members required held_groups) [] = refl
  held-member (level_of_lem members required held_groups) (block_of count delimiter flag around ∷ blocks) = sym (append_assoc (held_members around blocks) members (tag ∷ []))

  pub held-tags_member : (level : Level) (blocks : List Block) → held_tags (with_member tag level) blocks ≡ held_tags level blocks
  unfolding held_tags
  held-tags_member (level_of_lem members required held_groups) [] = refl
  held-tags_member (level_of_lem members required held_groups) (block_of count delimiter flag around ∷ blocks) = refl

  pub held-required : (level : Level) (blocks : List Block) → held_members (with_required tag level) blocks ≡ held_members level blocks
  unfolding held_members
  held-required (level_of_lem members required held_groups) [] = refl
  held-required (level_of_lem members required held_groups) (block_of count delimiter flag around ∷ blocks) = refl

  pub held-tags_required : (level : Level) (blocks : List Block) → held_tags (with_required tag level) blocks ≡ held_tags level blocks
  unfolding held_tags
  held-tags_required (level_of_lem members required held_groups) [] = refl
  held-tags_required (level_of_lem members required held_groups) (block_of count delimiter flag around ∷ blocks) = refl

module _ (group : Group) where
  pub held-group : (level : Level) (blocks : List Block) → held_members (with_group group level) blocks ≡ held_members level blocks
  unfolding held_members
  held-group (level_of_lem members required held_groups) [] = refl
  held-group (level_of_lem members required held_groups) (block_of count delimiter flag around ∷ blocks) = refl

  tags-then : (groups : Groups) → map count_tag (listed (groups_then groups group)) ≡ map count_tag (listed groups) ++ (count_tag group ∷ [])
  tags-then no_groups = refl
  tags-then (group_and first others) = ap {B = List ℕ} (λ rest. count_tag first ∷ rest) (tags-then others)

  pub held-tags_group : (level : Level) (blocks : List Block) → held_tags (with_group group level) blocks ≡ held_tags level blocks ++ (count_tag group ∷ [])
  unfolding held_tags
  held-tags_group (level_of_lem members required groups) [] = tags-then groups
  held-tags_group (level_of_lem members required groups) (block_of count delimiter flag around ∷ blocks) =
      ap (λ (tags : List ℕ). held_tags around blocks ++ tags) (tags-then groups) ∙ sym (append_assoc (held_tags around blocks) (map count_tag (listed groups)) (count_tag group ∷ []))

module _ (level : Level) (blocks : List Block) (count delimiter : ℕ) (flag : Bool) where
  pub held-opened : held_members empty_level (block_of count delimiter flag level ∷ blocks) ≡ held_members level blocks
  unfolding held_members
  held-opened = append-nil (held_members level blocks)

  pub held-tags_opened : held_tags empty_level (block_of count delimiter flag level ∷ blocks) ≡ held_tags level blocks
  unfolding held_tags
  held-tags_opened = append-nil (held_tags level blocks)

-- what a row holds that is these and those, where `first` is how many these are
module _ (row these those : List ℕ) (first : ℕ) (held : row ≡ these ++ those) (starts : first ≡ length these) where
  pub on_top_count : length row ≡ first + length those
  on_top_count = omega (arith, ap length held, length-append these those, starts)

  pub on_top : drop first row ≡ those
  on_top = ap (drop first) held ∙ drop_at these those first (sym starts)

  pub below_top : take first row ≡ these
  below_top = ap (take first) held ∙ take_at these those first (sym starts)

-- ---- kept_blocks

pub kept_blocks-length : (blocks : List Block) → length (kept_blocks blocks) ≡ length blocks
unfolding kept_blocks
kept_blocks-length [] = refl
kept_blocks-length (block_of count delimiter flag around ∷ blocks) =
    omega (arith, length-append (kept_blocks blocks) (kept_of count delimiter around blocks ∷ []), kept_blocks-length blocks)

-- the innermost block that is kept
pub last-kept : (others these : List OpenBlock) (block this : OpenBlock) → others ++ (block ∷ []) ≡ these ++ (this ∷ []) → (others ≡ these) × (block ≡ this)
last-kept others these block this same =
    let long : length others ≡ length these = omega (arith, ap length same, length-append others (block ∷ []), length-append these (this ∷ [])) in
    let front : others ≡ these = sym (take_at others (block ∷ []) (length others) refl) ∙ ap (take (length others)) same ∙ take_at these (this ∷ []) (length others) (sym long) in
    let back : ◌≡◌ {A = List OpenBlock} (block ∷ []) (this ∷ []) = sym (drop_at others (block ∷ []) (length others) refl) ∙ ap (drop (length others)) same ∙ drop_at these (this ∷ []) (length others) (sym long) in
    (front, cc)
