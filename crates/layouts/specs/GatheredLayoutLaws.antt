-- Laws of `GatheredLayout.antt`, in its order: columns, the words of gathered parts, and that they are the words of the layout that was
-- gathered. First the laws of stores one behind the other, which the writing loops use. Assumes nothing.
--
--   Storing words list at index now left   the loop that writes `list` into `words` from `at` on has written `index` of its elements, so
--                                          that the words are `now`, and `left` is still to be written
use Prim.Native.Nat.{ℕ, zero, suc, ◌+◌, ◌*◌, ◌-◌, ◌≤◌, ◌<◌}
use Rattle.std.specs.Prelude.{◌≡◌, refl, get_or, set, drop}
use Rattle.std.proofs.Math.Path.{sym, ap}
use Rattle.std.proofs.Common.{ap₂, ◌∙◌, add-one, drop_of_length-le, length-set, length-append, get_or-set_same, get_or-set_other, take_all}
use mathlib.Core.List.{List, [], ◌∷◌, ◌++◌, map}
use native.Mathlib.Omega.{arith}
use Rattle.std.proofs.Math.ListN.{length}
use Rattle.std.proofs.lemmas.List.{length-map}
use Rattle.std.proofs.Math.Seq.{sets, paste}
use Rattle.std.proofs.lemmas.List.Edits.{sets-eq}
use Rattle.ascii.specs.BytesLaws.{drop-step}
use Rattle.layouts.specs.Layout.{Level, Layout, members_of, required_of, count_tags_of, count_tag, delimiter, entry, groups_below, groups_of, all_groups, all_levels, joined}
use Rattle.layouts.specs.LayoutLaws.{groups_below-total, level_order-count_tags}
use Rattle.layouts.specs.LayoutWords.{first_member, first_count_tag, flag, places_from, arranged_parts, arranged}
use Rattle.layouts.specs.LayoutCheckComplete.{length-arranged}
use Rattle.layouts.specs.GatheredLayout.{column, shifted, gathered_words, ends_from, Gathered, RowsInside}

-- ---- stores one behind the other

-- a list behind another
pub sets_append : (words : List ℕ) (at : ℕ) (list behind : List ℕ) → sets words at (list ++ behind) ≡ sets (sets words at list) (at + length list) behind
sets_append words at [] behind = let same : at + 0 ≡ at = omega arith in rw same
sets_append words at (first ∷ rest) behind =
    let same : at + suc (length rest) ≡ suc at + length rest = omega arith in
    rw same (sets_append (set words at first) (suc at) rest behind)

pub record Storing (words list : List ℕ) (at index : ℕ) (now left : List ℕ) : Type 0 where
  pub same : length now ≡ length words
  pub equal : sets words at list ≡ sets now (at + index) left

pub storing-begins : (words list : List ℕ) (at : ℕ) → Storing words list at 0 words list
storing-begins words list at = let same : at + 0 ≡ at = omega arith in record { same = refl; equal = rw same }

pub storing-goes_on : (words list : List ℕ) (at index : ℕ) (now : List ℕ) (first : ℕ) (left : List ℕ) → Storing words list at index now (first ∷ left)
    → Storing words list at (index + 1) (set now (at + index) first) left
storing-goes_on words list at index now first left so_far =
    let next : at + (index + 1) ≡ suc (at + index) = omega arith in
    record { same = length-set now (at + index) first ∙ so_far.same; equal = rw next so_far.equal }

pub storing-ends : (words list : List ℕ) (at index : ℕ) (now : List ℕ) → Storing words list at index now [] → now ≡ sets words at list
storing-ends words list at index now so_far = sym so_far.equal

-- ---- column

pub length-column : (rows : List ℕ) (place count : ℕ) → length (column rows place count) ≡ count
unfolding column
length-column rows place zero = refl
length-column rows place (suc count) = ap suc (length-column rows (place + 6) count)

-- one word more
column-longer : (rows : List ℕ) (place count : ℕ) → column rows place (suc count) ≡ column rows place count ++ (get_or rows (place + 6 * count) 0 ∷ [])
unfolding column
column-longer rows place zero = let same : place + 0 ≡ place = omega arith in rw same
column-longer rows place (suc count) =
    let same : place + 6 + 6 * count ≡ place + 6 * suc count = omega arith in
    ap {B = List ℕ} (λ rest. get_or rows place 0 ∷ rest) (column-longer rows (place + 6) count)
    ∙ ap (λ (at : ℕ). (get_or rows place 0 ∷ column rows (place + 6) count) ++ (get_or rows at 0 ∷ [])) same

pub column-more : (rows : List ℕ) (place count : ℕ) → column rows place (count + 1) ≡ column rows place count ++ (get_or rows (place + 6 * count) 0 ∷ [])
column-more rows place count = rw add-one (column-longer rows place count)

-- a word of the column
pub column-at : (rows : List ℕ) (place count number : ℕ) → number < count → get_or (column rows place count) number 0 ≡ get_or rows (place + 6 * number) 0
unfolding column
column-at rows place zero number inside = absurd (omega arith)
column-at rows place (suc count) zero inside = let same : place + 0 ≡ place = omega arith in rw same
column-at rows place (suc count) (suc number) inside =
    let same : place + 6 * suc number ≡ place + 6 + 6 * number = omega arith in
    rw same (column-at rows (place + 6) count number (omega arith))

-- a store beside the column
pub column-set : (rows : List ℕ) (at word place count : ℕ) → ((number : ℕ) → number < count → place + 6 * number ≡ at → ⊥)
    → column (set rows at word) place count ≡ column rows place count
unfolding column
column-set rows at word place zero beside = refl
column-set rows at word place (suc count) beside =
    ap₂ {C = List ℕ} (λ (first : ℕ) (rest : List ℕ). first ∷ rest)
    (get_or-set_other rows at place word 0 (λ (same : place ≡ at). beside 0 (omega arith) (omega arith)))
    (column-set rows at word (place + 6) count (λ number below. later number below))
  where
    later : (number : ℕ) → number < count → place + 6 + 6 * number ≡ at → ⊥
    later number below same = beside (suc number) (omega arith) (omega arith)

-- the store of the next word of the column
pub column-set_next : (rows : List ℕ) (place count word : ℕ) → place + 6 * count < length rows
    → column (set rows (place + 6 * count) word) place (count + 1) ≡ column rows place count ++ (word ∷ [])
column-set_next rows place count word inside =
    let at = place + 6 * count in
    column-more (set rows at word) place count
    ∙ ap₂ {C = List ℕ} (λ (before : List ℕ) (last : ℕ). before ++ (last ∷ []))
    (column-set rows at word place count (λ (number : ℕ) (below : number < count) (same : place + 6 * number ≡ at). omega arith))
    (get_or-set_same rows at word 0 inside)

-- ---- shifted

pub length-shifted : (first : ℕ) (numbers : List ℕ) → length (shifted first numbers) ≡ length numbers
unfolding shifted
length-shifted first [] = refl
length-shifted first (number ∷ numbers) = ap suc (length-shifted first numbers)

-- ---- the writing loops

-- `count - index` words of a column are still to be written
module _ (words rows : List ℕ) (to field count index place : ℕ) (now : List ℕ) where
  pub record ColumnSoFar : Type 0 where
    pub within : index ≤ count
    pub at_place : place ≡ field + 6 * index
    pub storing : Storing words (column rows field count) to index now (column rows place (count - index))

  pub record PlacesSoFar (first : ℕ) : Type 0 where
    pub within : index ≤ count
    pub at_place : place ≡ field + 6 * index
    pub storing : Storing words (shifted first (column rows field count)) (to + 1) index now (shifted first (column rows place (count - index)))

-- a place among those that are asked to fit
pub places-fit : (rows : List ℕ) (first field count index place : ℕ) → place ≡ field + 6 * index → index < count
    → ((number : ℕ) → number < count → first + get_or rows (field + 6 * number) 0 < 4294967296)
    → (end : ℕ) → end ≡ get_or rows place 0 → first + end < 4294967296
places-fit rows first field count index place at_place more fit end is = rw (is, at_place) (fit index more)

module _ (words rows : List ℕ) (to field count : ℕ) where
  pub column-begins : ColumnSoFar words rows to field count 0 field words
  column-begins =
      let all : count - 0 ≡ count = omega arith in
      record { within = omega arith; at_place = omega arith; storing = rw all (storing-begins words (column rows field count) to) }

  pub places-begin : (first : ℕ) → PlacesSoFar words rows to field count 0 field words first
  places-begin first =
      let all : count - 0 ≡ count = omega arith in
      record { within = omega arith; at_place = omega arith; storing = rw all (storing-begins words (shifted first (column rows field count)) (to + 1)) }

  module _ (index place : ℕ) (now : List ℕ) where
    column-left : index < count → column rows place (count - index) ≡ get_or rows place 0 ∷ column rows (place + 6) (count - (index + 1))
    unfolding column
    column-left more = let left : count - index ≡ suc (count - (index + 1)) = omega arith in rw left

    none_left : count ≤ index → column rows place (count - index) ≡ []
    unfolding column
    none_left over = let none : count - index ≡ 0 = omega arith in rw none

    pub column-goes_on : ColumnSoFar words rows to field count index place now → index < count
        → ColumnSoFar words rows to field count (index + 1) (place + 6) (set now (to + index) (get_or rows place 0))
    column-goes_on so_far more =
        record {
          within = omega arith;
          at_place = omega (arith, so_far.at_place);
          storing =
              storing-goes_on words (column rows field count) to index now (get_or rows place 0) (column rows (place + 6) (count - (index + 1))) (rw (column-left more) at so_far.storing);
        }

    pub column-ends : ColumnSoFar words rows to field count index place now → count ≤ index → now ≡ sets words to (column rows field count)
    column-ends so_far over = storing-ends words (column rows field count) to index now (rw (none_left over) at so_far.storing)

    module _ (first : ℕ) where
      shifted-left : index < count → shifted first (column rows place (count - index)) ≡ (first + get_or rows place 0) ∷ shifted first (column rows (place + 6) (count - (index + 1)))
      unfolding shifted
      shifted-left more = rw (column-left more)

      none-shifted : count ≤ index → shifted first (column rows place (count - index)) ≡ []
      unfolding shifted
      none-shifted over = rw (none_left over)

      pub places-go_on : PlacesSoFar words rows to field count index place now first → index < count → (word : ℕ) → word ≡ first + get_or rows place 0
          → PlacesSoFar words rows to field count (index + 1) (place + 6) (set now (to + 1 + index) word) first
      places-go_on so_far more word is =
          record {
            within = omega arith;
            at_place = omega (arith, so_far.at_place);
            storing =
                rw (← is) at
                (storing-goes_on words (shifted first (column rows field count)) (to + 1) index now (first + get_or rows place 0) (shifted first (column rows (place + 6) (count - (index + 1)))) (rw (shifted-left more) at so_far.storing));
          }

      -- the words began with the first place stored
      pub places-end : PlacesSoFar words rows to field count index place now first → count ≤ index → (before : List ℕ) → words ≡ set before to first
          → now ≡ sets before to (first ∷ shifted first (column rows field count))
      places-end so_far over before stored =
          let next : to + 1 ≡ suc to = omega arith in
          storing-ends words (shifted first (column rows field count)) (to + 1) index now (rw (none-shifted over) at so_far.storing) ∙ rw (stored, next)

-- a list that is written as it stands
pub record TagsSoFar (words tags : List ℕ) (to index : ℕ) (now : List ℕ) : Type 0 where
  pub within : index ≤ length tags
  pub storing : Storing words tags to index now (drop index tags)

module _ (words tags : List ℕ) (to : ℕ) where
  pub tags-begin : TagsSoFar words tags to 0 words
  tags-begin = record { within = omega arith; storing = storing-begins words tags to }

  module _ (index : ℕ) (now : List ℕ) (so_far : TagsSoFar words tags to index now) where
    pub tags-go_on : index < length tags → TagsSoFar words tags to (index + 1) (set now (to + index) (get_or tags index 0))
    tags-go_on more =
        record {
          within = omega arith;
          storing = storing-goes_on words tags to index now (get_or tags index 0) (drop (index + 1) tags) (rw (drop-step tags index more) at so_far.storing);
        }

    pub tags-end : length tags ≤ index → now ≡ sets words to tags
    tags-end over = storing-ends words tags to index now (rw (drop_of_length-le tags over) at so_far.storing)

-- a list that is copied as it stands
pub pasted_is : (words tags : List ℕ) (to : ℕ) → to + length tags ≤ length words → paste words to tags (length tags) ≡ sets words to tags
pasted_is words tags to inside = rw (take_all (length tags) tags (omega arith)) (sym (sets-eq tags words to inside))

-- ---- the words of gathered parts

-- the places fit in words
module _ (groups : ℕ) (members required rows : List ℕ) (inside : RowsInside groups members required rows) (few : first_member groups + length members + length required < 4294967296) where
  pub member_places-fit : (level : ℕ) → level < groups + 1 → first_member groups + get_or rows (3 + 6 * level) 0 < 4294967296
  member_places-fit level below = omega (arith, inside.member_ends level below)

  pub required_places-fit : (level : ℕ) → level < groups + 1 → first_member groups + length members + get_or rows (4 + 6 * level) 0 < 4294967296
  required_places-fit level below = omega (arith, inside.required_ends level below)

  pub group_places-fit : (level : ℕ) → level < groups + 1 → first_count_tag groups + get_or rows (5 + 6 * level) 0 < 4294967296
  group_places-fit level below = omega (arith, inside.group_ends level below)

-- nine stores one behind the other
module _ (groups : ℕ) (members required rows w0 : List ℕ) (w1 w2 w3 w4 w5 w6 w7 w8 w9 : List ℕ) where
  pub gathered-stores : w1 ≡ set w0 0 groups
      → w2 ≡ sets w1 1 (first_member groups ∷ shifted (first_member groups) (column rows 3 (groups + 1)))
      → w3 ≡ sets w2 (3 + groups) ((first_member groups + length members) ∷ shifted (first_member groups + length members) (column rows 4 (groups + 1)))
      → w4 ≡ sets w3 (5 + 2 * groups) (first_count_tag groups ∷ shifted (first_count_tag groups) (column rows 5 (groups + 1)))
      → w5 ≡ sets w4 (7 + 3 * groups) (column rows 6 groups)
      → w6 ≡ sets w5 (7 + 4 * groups) (column rows 7 groups)
      → w7 ≡ sets w6 (7 + 5 * groups) (column rows 8 groups)
      → w8 ≡ sets w7 (7 + 6 * groups) members
      → w9 ≡ sets w8 (7 + 6 * groups + length members) required
      → w9 ≡ sets w0 0 (gathered_words groups members required rows)
  unfolding gathered_words
  gathered-stores one two three four five six seven eight nine =
      let first = first_member groups ∷ shifted (first_member groups) (column rows 3 (groups + 1)) in
      let second = (first_member groups + length members) ∷ shifted (first_member groups + length members) (column rows 4 (groups + 1)) in
      let third = first_count_tag groups ∷ shifted (first_count_tag groups) (column rows 5 (groups + 1)) in
      let size1 : 1 + length first ≡ 3 + groups = omega (arith, length-shifted (first_member groups) (column rows 3 (groups + 1)), length-column rows 3 (groups + 1)) in
      let size2 : 3 + groups + length second ≡ 5 + 2 * groups = omega (arith, length-shifted (first_member groups + length members) (column rows 4 (groups + 1)), length-column rows 4 (groups + 1)) in
      let size3 : 5 + 2 * groups + length third ≡ 7 + 3 * groups = omega (arith, length-shifted (first_count_tag groups) (column rows 5 (groups + 1)), length-column rows 5 (groups + 1)) in
      let size4 : 7 + 3 * groups + length (column rows 6 groups) ≡ 7 + 4 * groups = omega (arith, length-column rows 6 groups) in
      let size5 : 7 + 4 * groups + length (column rows 7 groups) ≡ 7 + 5 * groups = omega (arith, length-column rows 7 groups) in
      let size6 : 7 + 5 * groups + length (column rows 8 groups) ≡ 7 + 6 * groups = omega (arith, length-column rows 8 groups) in
      nine
      ∙ ap (λ (words : List ℕ). sets words (7 + 6 * groups + length members) required) eight
      ∙ sym (sets_append w7 (7 + 6 * groups) members required)
      ∙ behind w6 w7 (7 + 5 * groups) (7 + 6 * groups) (column rows 8 groups) (members ++ required) seven size6
      ∙ behind w5 w6 (7 + 4 * groups) (7 + 5 * groups) (column rows 7 groups) _ six size5
      ∙ behind w4 w5 (7 + 3 * groups) (7 + 4 * groups) (column rows 6 groups) _ five size4
      ∙ behind w3 w4 (5 + 2 * groups) (7 + 3 * groups) third _ four size3
      ∙ behind w2 w3 (3 + groups) (5 + 2 * groups) second _ three size2
      ∙ behind w1 w2 1 (3 + groups) first _ two size1
      ∙ ap (λ (words : List ℕ). sets words 1 (first ++ (second ++ (third ++ (column rows 6 groups ++ (column rows 7 groups ++ (column rows 8 groups ++ (members ++ required)))))))) one
    where
      behind : (words after : List ℕ) (at next : ℕ) (list rest : List ℕ) → after ≡ sets words at list → at + length list ≡ next → sets after next rest ≡ sets words at (list ++ rest)
      behind words after at next list rest stored reach = rw (stored, ← reach) (sym (sets_append words at list rest))

-- ---- ends_from

-- the places of lists, from their ends
pub places_from-ends : (first before : ℕ) (lists : List (List ℕ)) → places_from (first + before) lists ≡ (first + before) ∷ shifted first (ends_from before lists)
unfolding places_from ends_from shifted
places_from-ends first before [] = refl
places_from-ends first before (list ∷ lists) =
    let next : first + before + length list ≡ first + (before + length list) = omega arith in
    rw next (ap {B = List ℕ} (λ rest. (first + before) ∷ rest) (places_from-ends first (before + length list) lists))

pub places_from-first : (first : ℕ) (lists : List (List ℕ)) → places_from first lists ≡ first ∷ shifted first (ends_from 0 lists)
places_from-first first lists = let same : first + 0 ≡ first = omega arith in rw same at (places_from-ends first 0 lists)

-- no end is past the end of the last list
pub ends_from-within : (before : ℕ) (lists : List (List ℕ)) (number : ℕ) → number < length lists → get_or (ends_from before lists) number 0 ≤ before + length (joined lists)
unfolding ends_from joined
ends_from-within before [] number inside = absurd (omega arith)
ends_from-within before (list ∷ lists) zero inside = omega (arith, length-append list (joined lists))
ends_from-within before (list ∷ lists) (suc number) inside =
    omega (arith, length-append list (joined lists), ends_from-within (before + length list) lists number (omega arith))

-- one list more
pub ends_from-more : (before : ℕ) (lists : List (List ℕ)) (list : List ℕ) → ends_from before (lists ++ (list ∷ [])) ≡ ends_from before lists ++ ((before + length (joined lists) + length list) ∷ [])
unfolding ends_from joined
ends_from-more before [] list = let same : before + 0 + length list ≡ before + length list = omega arith in rw same
ends_from-more before (first ∷ lists) list =
    let same : before + length first + length (joined lists) + length list ≡ before + length (first ++ joined lists) + length list = omega (arith, length-append first (joined lists)) in
    rw (← same) (ap {B = List ℕ} (λ rest. (before + length first) ∷ rest) (ends_from-more (before + length first) lists list))

-- ---- Gathered

parts-ends : (groups : ℕ) (members required count_tags : List (List ℕ)) (delimiters flags : List ℕ)
    → arranged_parts groups members required count_tags delimiters flags
    ≡ groups
    ∷ ((first_member groups ∷ shifted (first_member groups) (ends_from 0 members))
    ++ (((first_member groups + length (joined members)) ∷ shifted (first_member groups + length (joined members)) (ends_from 0 required))
    ++ ((first_count_tag groups ∷ shifted (first_count_tag groups) (ends_from 0 count_tags))
    ++ (joined count_tags
    ++ (delimiters
    ++ (flags
    ++ (joined members
    ++ joined required)))))))
unfolding arranged_parts
parts-ends groups members required count_tags delimiters flags =
    rw
    (places_from-first (first_member groups) members, places_from-first (first_member groups + length (joined members)) required, places_from-first (first_count_tag groups) count_tags)

module _ (layout : Layout) (groups : ℕ) (members required rows : List ℕ) (gathered : Gathered layout groups members required rows) where
  all-count_tags : joined (map count_tags_of (all_levels layout)) ≡ map count_tag (all_groups layout)
  unfolding all_groups joined
  all-count_tags = sym (level_order-count_tags (groups_below layout) (groups_of layout) (sym (groups_below-total layout)))

  levels_count : (read : Level → List ℕ) → length (map read (all_levels layout)) ≡ groups + 1
  levels_count read = omega (arith, gathered.has_groups, length-map (all_groups layout) entry, length-map (map entry (all_groups layout)) read)

  -- gathered parts give the words of the layout
  pub gathered-arranged : gathered_words groups members required rows ≡ arranged layout
  unfolding gathered_words arranged
  gathered-arranged =
      let words = arranged_parts (length (all_groups layout)) (map members_of (all_levels layout)) (map required_of (all_levels layout)) (map count_tags_of (all_levels layout)) (map delimiter (all_groups layout)) (map flag (all_groups layout)) in
      let same : gathered_words groups members required rows ≡ words =
      rw
      (gathered.member_ends, gathered.required_ends, gathered.group_ends, gathered.count_tags, gathered.delimiters, gathered.flags, gathered.has_members, gathered.has_required, gathered.has_groups, ← all-count_tags)
      (sym (parts-ends (length (all_groups layout)) (map members_of (all_levels layout)) (map required_of (all_levels layout)) (map count_tags_of (all_levels layout)) (map delimiter (all_groups layout)) (map flag (all_groups layout)))) in
      same

  -- how many they are
  pub gathered-needed : length (arranged layout) ≡ 7 + 6 * groups + length members + length required
  gathered-needed = omega (arith, length-arranged layout, gathered.has_groups, ap length gathered.has_members, ap length gathered.has_required)

  -- what `put_layout` leaves: the words of the layout, and behind them the words that stood there
  pub gathered-written : (words : List ℕ) → 7 + 6 * groups + length members + length required ≤ length words
      → sets words 0 (gathered_words groups members required rows) ≡ arranged layout ++ drop (length (arranged layout)) words
  gathered-written words room =
      let all : 0 + length (arranged layout) ≡ length (arranged layout) = omega arith in
      ap (sets words 0) gathered-arranged ∙ sets-eq (arranged layout) words 0 (omega (arith, gathered-needed)) ∙ ap (λ (count : ℕ). arranged layout ++ drop count words) all

  ends-within : (field : ℕ) (read : Level → List ℕ) → column rows field (groups + 1) ≡ ends_from 0 (map read (all_levels layout)) → (level : ℕ) → level < groups + 1
      → get_or rows (field + 6 * level) 0 ≤ length (joined (map read (all_levels layout)))
  ends-within field read ends level inside =
      omega (
        arith,
        column-at rows field (groups + 1) level inside,
        ap (λ (list : List ℕ). get_or list level 0) ends,
        ends_from-within 0 (map read (all_levels layout)) level (omega (arith, levels_count read)),
      )

  pub gathered-inside : RowsInside groups members required rows
  gathered-inside =
      record {
        row_count = gathered.row_count;
        member_ends = λ level inside. rw gathered.has_members (ends-within 3 members_of gathered.member_ends level inside);
        required_ends = λ level inside. rw gathered.has_required (ends-within 4 required_of gathered.required_ends level inside);
        group_ends = λ level inside. within level inside;
      }
    where
      within : (level : ℕ) → level < groups + 1 → get_or rows (5 + 6 * level) 0 ≤ groups
      within level inside =
          omega (arith, ends-within 5 count_tags_of gathered.group_ends level inside, ap length all-count_tags, length-map (all_groups layout) count_tag, gathered.has_groups)
