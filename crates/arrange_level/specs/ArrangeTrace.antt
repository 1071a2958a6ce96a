-- The levels that a trace tells of (Trace.antt), read by position: from the word behind the one that enters a group up to the one that
-- leaves it, passing over the groups inside by a count of those that are open. The top is read from the first word to the last.
-- That a finished trace tells so of the level in work is `trace-told` (ArrangeTraceLaws.antt). Assumes nothing.
--
--   Start                          a group that stands in a level: its count tag, its R, and the place of the word behind the one that enters it
--   Own                            what a level has of its own: members and required tags as added, the groups, and the delimiter where it is left
--   told place depth words own     what a level has, with `own` told before `place`, where the words from there on are these and so many
--                                  groups inside are open
--   finish_at place delimiter level    the level finished, and kept_required its required list: the top keeps it, an entry drops from it
--   own_at trace place              what the level has that begins at the place
--   level_at trace place            this level, with the groups that stand in it finished
--   group_at trace start            the group that begins there
--   top_start                       the top, as if it were a group: its entry begins with the trace and keeps all its required tags
use Rattle.std.specs.Prelude.{ℕ, zero, suc, ◌+◌, ◌%◌, ◌/◌, Bool, false, List, [], ◌∷◌, ◌++◌, map, length, drop, if◌then◌else◌}
use Rattle.ascii.specs.Notation.{◌≡ᵇ◌}
use Rattle.layouts.specs.Layout.{Level, Group, group_of_lem}
use Rattle.expansion.specs.Expansion.{OpenLevel, empty_level, finish, retained, finish_entry}
use Rattle.expansion.specs.Trace.{tag_in, count_tag_in}

pub record Start : Type 0 where
  pub count_tag : ℕ
  pub needed : Bool
  pub first : ℕ

pub record Own : Type 0 where
  pub members : List ℕ
  pub required : List ℕ
  pub starts : List Start
  pub delimiter : ℕ

abbrev pub nothing_own : Own
nothing_own = record { members = []; required = []; starts = []; delimiter = 0 }

abbrev pub own_member : ℕ → Own → Own
own_member word own = record { members = own.members ++ (tag_in word ∷ []); required = own.required; starts = own.starts; delimiter = own.delimiter }

abbrev pub own_required : ℕ → Own → Own
own_required word own = record { members = own.members; required = own.required ++ (tag_in word ∷ []); starts = own.starts; delimiter = own.delimiter }

-- the group that a word enters, with the place behind the word
abbrev pub start_of : ℕ → ℕ → Start
start_of word first = record { count_tag = count_tag_in word; needed = word / 4 % 2 ≡ᵇ 1; first = first }

abbrev pub own_group : ℕ → ℕ → Own → Own
own_group word first own = record {
  members = own.members ++ (count_tag_in word ∷ []);
  required = own.required;
  starts = own.starts ++ (start_of word first ∷ []);
  delimiter = own.delimiter;
}

abbrev pub own_left : ℕ → Own → Own
own_left word own = record { members = own.members; required = own.required; starts = own.starts; delimiter = tag_in word }

unfoldable pub told : ℕ → ℕ → List ℕ → Own → Own
told place depth [] own = own
told place zero (word ∷ words) own =
    if word % 4 ≡ᵇ 0 then told (place + 1) zero words (own_member word own)
    else if word % 4 ≡ᵇ 1 then told (place + 1) zero words (own_required word own)
    else if word % 4 ≡ᵇ 2 then told (place + 1) 1 words (own_group word (place + 1) own)
    else own_left word own
told place (suc depth) (word ∷ words) own =
    if word % 4 ≡ᵇ 2 then told (place + 1) (suc (suc depth)) words own
    else if word % 4 ≡ᵇ 3 then told (place + 1) depth words own
    else told (place + 1) (suc depth) words own

abbrev pub finish_at : ℕ → ℕ → OpenLevel → Level
finish_at place delimiter level = if place ≡ᵇ 0 then finish level else finish_entry delimiter level

-- the required list of the level that begins at the place, and what memory holds where it was put in order
abbrev pub kept_required : ℕ → ℕ → List ℕ → List ℕ
kept_required place delimiter required = if place ≡ᵇ 0 then required else retained delimiter [] required

unfoldable pub kept_in : ℕ → ℕ → List ℕ → List ℕ
kept_in place delimiter words = kept_required place delimiter words ++ drop (length (kept_required place delimiter words)) words

module _ (trace : List ℕ) where
  abbrev pub own_at : ℕ → Own
  own_at place = told place 0 (drop place trace) nothing_own

  abbrev pub group_with : Start → OpenLevel → Group
  group_with start level =
      group_of_lem start.count_tag (own_at start.first).delimiter start.needed (finish_at start.first (own_at start.first).delimiter level)

  abbrev pub with_groups : Own → List Group → OpenLevel
  with_groups own groups = record { members = own.members; required = own.required; groups = groups }

  -- a group begins behind the level around, so as many turns as there are words behind are enough
  unfoldable pub level_within : ℕ → ℕ → OpenLevel
  level_within zero place = empty_level
  level_within (suc turns) place = with_groups (own_at place) (map (λ (start : Start). group_with start (level_within turns start.first)) (own_at place).starts)

  abbrev pub level_at : ℕ → OpenLevel
  level_at place = level_within (suc (length trace)) place

  abbrev pub group_at : Start → Group
  group_at start = group_with start (level_at start.first)

abbrev pub top_start : Start
top_start = record { count_tag = 0; needed = false; first = 0 }
