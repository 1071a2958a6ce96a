-- Laws of `ArrangeGather.antt`, and the steps of arrange.rt. Assumes nothing.
use Rattle.std.specs.Prelude.{◌≡◌, Bool, cond, eqb, take}
use Rattle.std.proofs.Math.Path.{refl, sym, ap}
use Rattle.std.proofs.Common.{ap₂, ◌∙◌, length-append, length-take, length-take-le, get_or-take, drop_at, take-take}
use Prim.Native.Nat.{ℕ, zero, suc, ◌+◌, ◌*◌, ◌-◌, ◌≤◌, ◌<◌}
use Rattle.std.proofs.Math.Bool.{true, false}
use mathlib.Core.List.{List, [], ◌∷◌, ◌++◌, map, append-nil, append_assoc}
use native.Mathlib.Omega.{arith}
use Rattle.std.proofs.Math.ListN.{length, get_or, set, drop, length-set}
use Rattle.std.proofs.lemmas.List.{length-map, take-append-le}
use Rattle.std.proofs.lemmas.List.Edits.{sets, sets-eq}
use Rattle.std.proofs.Math.Seq.{length-sets, take_at, take-append-add, append_snoc, get_or-set_same, get_or-set_other}
use Rattle.ascending.specs.Sort.{sorted}
use Rattle.ascending.specs.SortLaws.{sorted-length}
use Rattle.ascending.specs.Dedup.{deduped, deduped_in}
use Rattle.ascending.specs.DedupLaws.{deduped-length, deduped_in-front, members_ascend}
use Rattle.layouts.specs.Layout.{Level, Group, Layout, listed, grouped, members_of, required_of, groups_of, count_tag, count_tags_of, delimiter, entry, level_order, all_groups, all_levels, joined}
use Rattle.layouts.specs.LayoutLaws.{listed-grouped, map-append, group_total, group_total-first, groups_below-total, groups_with-total}
use Rattle.layouts.specs.LayoutWords.{flag}
use Rattle.layouts.specs.GatheredLayout.{column, ends_from, Gathered}
use Rattle.layouts.specs.GatheredLayoutLaws.{column-set, column-set_next, ends_from-more}
use Rattle.arrange.specs.declared.arrange.Gathering.{Gathering}
use Rattle.arrange_level.specs.declared.arrange_level.OwnLevel.{OwnLevel}
use Rattle.expansion.specs.Expansion.{OpenLevel, retained, sorted_groups, firsts_of, finish, finish_entry}
use Rattle.expansion.specs.ExpansionLimits.{retained-length, size_listed, finished_groups}
use Rattle.expansion.specs.ExpansionGroups.{one, levels_with}
use Rattle.arrange_level.specs.ArrangeTrace.{Start, Own, nothing_own, finish_at, kept_required, kept_in, own_at, with_groups, level_at, group_at, top_start}
use Rattle.arrange_level.specs.ArrangeTraceLaws.{AllBehind, own_behind, own-past, level-told}
use Rattle.arrange_level.specs.ArrangeGroups.{first_named, count_tags, tags_in_order, in_order}
use Rattle.arrange_level.specs.ArrangeGroupsLaws.{groups-in_order}
use Rattle.arrange_level.specs.ArrangeRows.{flag_of, RowsPlaced}
use Rattle.arrange_level.specs.ArrangeRowsLaws.{RowRoom, PlacedAll}
use Rattle.arrange_level.specs.ArrangeWeightLaws.{counted, weigh-all, weight_all, weight_all-append, weight_all-first, weight_all-none, weight_in_order, counts_member, counts_required, counts_group, members-weight, required-weight, groups-weight, members-counted, required-counted}
use Rattle.arrange_level.specs.ArrangeLevelLaws.{ReadRoom, OwnRead}
use Rattle.arrange.specs.ArrangeGather.{groups_told, levels_told, layout_told, level_count, GatherRoom, GatheredSoFar, GatheredIn, LevelKept}

-- ---- what a finished level has

module _ (place delimiter : ℕ) (level : OpenLevel) where
  finished_by : (test : Bool) (part : Level → List ℕ) (list others : List ℕ)
      → part (finish level) ≡ list
      → part (finish_entry delimiter level) ≡ others
      → part (cond test (finish level) (finish_entry delimiter level)) ≡ cond test list others
  finished_by true part list others top inner = top
  finished_by false part list others top inner = inner

  same_by : (test : Bool) (list : List ℕ) → cond test list list ≡ list
  same_by true list = refl
  same_by false list = refl

  finished_members : members_of (finish_at place delimiter level) ≡ deduped (sorted level.members)
  unfolding finish finish_entry
  finished_members =
      finished_by (eqb place 0) members_of (deduped (sorted level.members)) (deduped (sorted level.members)) refl refl
      ∙ same_by (eqb place 0) (deduped (sorted level.members))

  finished_required : required_of (finish_at place delimiter level) ≡ kept_required place delimiter level.required
  unfolding finish finish_entry
  finished_required = finished_by (eqb place 0) required_of level.required (retained delimiter [] level.required) refl refl

  groups-by : (test : Bool) → groups_of (cond test (finish level) (finish_entry delimiter level)) ≡ firsts_of (sorted_groups level.groups)
  unfolding finish finish_entry
  groups-by true = listed-grouped (firsts_of (sorted_groups level.groups))
  groups-by false = listed-grouped (firsts_of (sorted_groups level.groups))

  finished_in_order : groups_of (finish_at place delimiter level) ≡ firsts_of (sorted_groups level.groups)
  finished_in_order = groups-by (eqb place 0)

module _ (trace : List ℕ) (start : Start) where
  abbrev own_of : Own
  own_of = own_at trace start.first

  told-level : level_at trace start.first ≡ with_groups trace own_of (groups_told trace own_of.starts)
  told-level = level-told trace start.first

  entry-members : members_of (entry (group_at trace start)) ≡ deduped (sorted own_of.members)
  entry-members =
      finished_members start.first own_of.delimiter (level_at trace start.first)
      ∙ ap (λ (level : OpenLevel). deduped (sorted level.members)) told-level

  entry-required : required_of (entry (group_at trace start)) ≡ kept_required start.first own_of.delimiter own_of.required
  entry-required =
      finished_required start.first own_of.delimiter (level_at trace start.first)
      ∙ ap (λ (level : OpenLevel). kept_required start.first own_of.delimiter level.required) told-level

  entry-groups : groups_of (entry (group_at trace start)) ≡ groups_told trace (in_order own_of.starts)
  entry-groups =
      finished_in_order start.first own_of.delimiter (level_at trace start.first)
      ∙ ap (λ (level : OpenLevel). firsts_of (sorted_groups level.groups)) told-level
      ∙ groups-in_order (group_at trace) (λ each. refl) own_of.starts

  tags-told : (starts : List Start) → map count_tag (groups_told trace starts) ≡ count_tags starts
  tags-told [] = refl
  tags-told (first ∷ rest) = ap {B = List ℕ} (λ tags. first.count_tag ∷ tags) (tags-told rest)

  entry-count_tags : count_tags_of (entry (group_at trace start)) ≡ count_tags (in_order own_of.starts)
  entry-count_tags = ap (map count_tag) entry-groups ∙ tags-told (in_order own_of.starts)

-- ---- column

-- so many words of it and so many more
pub column-split : (rows : List ℕ) (place count more : ℕ) → column rows place (count + more) ≡ column rows place count ++ column rows (place + 6 * count) more
unfolding column
column-split rows place zero more =
    let none : 0 + more ≡ more = omega arith in
    let here : place + 0 ≡ place = omega arith in
    rw (none, here)
column-split rows place (suc count) more =
    let sum : suc count + more ≡ suc (count + more) = omega arith in
    let there : place + 6 * suc count ≡ place + 6 + 6 * count = omega arith in
    rw (sum, there) (ap {B = List ℕ} (λ rest. get_or rows place 0 ∷ rest) (column-split rows (place + 6) count more))

-- rows with the same words up to a place have the same columns before it
pub column-before : (rows others : List ℕ) (past place count : ℕ)
    → take past rows ≡ take past others
    → place + 6 * count ≤ past + 5
    → column rows place count ≡ column others place count
unfolding column
column-before rows others past place zero same inside = refl
column-before rows others past place (suc count) same inside =
    let first : get_or rows place 0 ≡ get_or others place 0 =
    sym (get_or-take past rows place 0 (omega (arith, inside)))
    ∙ ap (λ (words : List ℕ). get_or words place 0) same
    ∙ get_or-take past others place 0 (omega (arith, inside)) in
    let more : column rows (place + 6) count ≡ column others (place + 6) count = column-before rows others past (place + 6) count same (omega (arith, inside)) in
    cc

-- a column that is told row by row
column-told : (rows : List ℕ) (place : ℕ) (tags : List ℕ) (told : ℕ → ℕ)
    → ((number : ℕ) → number < length tags → get_or rows (place + 6 * number) 0 ≡ told (get_or tags number 0))
    → column rows place (length tags) ≡ map told tags
unfolding column
column-told rows place [] told each = refl
column-told rows place (tag ∷ tags) told each =
    let here : place + 0 ≡ place = omega arith in
    let first : get_or rows place 0 ≡ told tag = rw here at (each 0 (omega arith)) in
    let more : column rows (place + 6) (length tags) ≡ map told tags =
    column-told rows (place + 6) tags told (λ number below. let there : place + 6 + 6 * number ≡ place + 6 * suc number = omega arith in rw there (each (suc number) (omega (arith, below)))) in
    cc

map-map : {A : Type 0} (f : A → ℕ) (g : ℕ → A) (tags : List ℕ) → map (λ (tag : ℕ). f (g tag)) tags ≡ map f (map g tags)
map-map f g [] = refl
map-map f g (tag ∷ tags) = ap {B = List ℕ} (λ rest. f (g tag) ∷ rest) (map-map f g tags)

-- the rows of the groups of a level
module _ (base : List ℕ) (levels : ℕ) (starts : List Start) (rows : List ℕ) (placed : RowsPlaced base levels (tags_in_order starts) starts rows) where
  placed-tags : column rows (6 * levels) (length (tags_in_order starts)) ≡ count_tags (in_order starts)
  placed-tags =
      column-told rows (6 * levels) (tags_in_order starts) (λ tag. (first_named tag starts).count_tag)
      (λ number below. let there : 6 * levels + 6 * number ≡ 6 * (levels + number) = omega arith in rw there (placed.row number below).tag)
      ∙ map-map (λ (start : Start). start.count_tag) (λ (tag : ℕ). first_named tag starts) (tags_in_order starts)

  placed-flags : column rows (6 * levels + 2) (length (tags_in_order starts)) ≡ map flag_of (in_order starts)
  placed-flags =
      column-told rows (6 * levels + 2) (tags_in_order starts) (λ tag. flag_of (first_named tag starts))
      (λ number below. let there : 6 * levels + 2 + 6 * number ≡ 6 * (levels + number) + 2 = omega arith in rw there (placed.row number below).flag)
      ∙ map-map flag_of (λ (tag : ℕ). first_named tag starts) (tags_in_order starts)

  placed-firsts : column rows (6 * levels + 3) (length (tags_in_order starts)) ≡ map (λ (start : Start). start.first) (in_order starts)
  placed-firsts =
      column-told rows (6 * levels + 3) (tags_in_order starts) (λ tag. (first_named tag starts).first)
      (λ number below. let there : 6 * levels + 3 + 6 * number ≡ 6 * (levels + number) + 3 = omega arith in rw there (placed.row number below).first)
      ∙ map-map (λ (start : Start). start.first) (λ (tag : ℕ). first_named tag starts) (tags_in_order starts)

-- ---- the row of a level is closed

abbrev pub closed_row : List ℕ → ℕ → ℕ → ℕ → ℕ → ℕ → List ℕ
closed_row rows level delimiter members required groups =
    set (set (set (set rows (1 + 6 * level) delimiter) (3 + 6 * level) members) (4 + 6 * level) required) (5 + 6 * level) groups

-- none of the four words that are stored
abbrev Beside : ℕ → ℕ → Type 0
Beside level at = (at ≡ 1 + 6 * level → ⊥) × (at ≡ 3 + 6 * level → ⊥) × (at ≡ 4 + 6 * level → ⊥) × (at ≡ 5 + 6 * level → ⊥)

module _ (rows : List ℕ) (level first members required groups : ℕ) where
  closed-beside : (place count : ℕ)
      → ((number : ℕ) → number < count → Beside level (place + 6 * number))
      → column (closed_row rows level first members required groups) place count ≡ column rows place count
  closed-beside place count beside =
      let one = set rows (1 + 6 * level) first in
      let two = set one (3 + 6 * level) members in
      let three = set two (4 + 6 * level) required in
      column-set three (5 + 6 * level) groups place count (λ number below. (beside number below).3)
      ∙ column-set two (4 + 6 * level) required place count (λ number below. (beside number below).2)
      ∙ column-set one (3 + 6 * level) members place count (λ number below. (beside number below).1)
      ∙ column-set rows (1 + 6 * level) first place count (λ number below. (beside number below).0)

  closed-delimiter : 6 * level + 5 < length rows → column (closed_row rows level first members required groups) 1 (level + 1) ≡ column rows 1 level ++ (first ∷ [])
  closed-delimiter inside =
      let one = set rows (1 + 6 * level) first in
      let two = set one (3 + 6 * level) members in
      let three = set two (4 + 6 * level) required in
      column-set three (5 + 6 * level) groups 1 (level + 1) (λ number below clash. omega (arith, clash))
      ∙ column-set two (4 + 6 * level) required 1 (level + 1) (λ number below clash. omega (arith, clash))
      ∙ column-set one (3 + 6 * level) members 1 (level + 1) (λ number below clash. omega (arith, clash))
      ∙ column-set_next rows 1 level first (omega (arith, inside))

  closed-members : 6 * level + 5 < length rows → column (closed_row rows level first members required groups) 3 (level + 1) ≡ column rows 3 level ++ (members ∷ [])
  closed-members inside =
      let one = set rows (1 + 6 * level) first in
      let two = set one (3 + 6 * level) members in
      let three = set two (4 + 6 * level) required in
      column-set three (5 + 6 * level) groups 3 (level + 1) (λ number below clash. omega (arith, clash))
      ∙ column-set two (4 + 6 * level) required 3 (level + 1) (λ number below clash. omega (arith, clash))
      ∙ column-set_next one 3 level members (omega (arith, inside, length-set rows (1 + 6 * level) first))
      ∙ ap (λ (front : List ℕ). front ++ (members ∷ [])) (column-set rows (1 + 6 * level) first 3 level (λ number below clash. omega (arith, clash)))

  closed-required : 6 * level + 5 < length rows → column (closed_row rows level first members required groups) 4 (level + 1) ≡ column rows 4 level ++ (required ∷ [])
  closed-required inside =
      let one = set rows (1 + 6 * level) first in
      let two = set one (3 + 6 * level) members in
      let three = set two (4 + 6 * level) required in
      column-set three (5 + 6 * level) groups 4 (level + 1) (λ number below clash. omega (arith, clash))
      ∙ column-set_next two 4 level required (omega (arith, inside, length-set rows (1 + 6 * level) first, length-set one (3 + 6 * level) members))
      ∙ ap
      (λ (front : List ℕ). front ++ (required ∷ []))
      (column-set one (3 + 6 * level) members 4 level (λ number below clash. omega (arith, clash))
      ∙ column-set rows (1 + 6 * level) first 4 level (λ number below clash. omega (arith, clash)))

  closed-groups : 6 * level + 5 < length rows → column (closed_row rows level first members required groups) 5 (level + 1) ≡ column rows 5 level ++ (groups ∷ [])
  closed-groups inside =
      let one = set rows (1 + 6 * level) first in
      let two = set one (3 + 6 * level) members in
      let three = set two (4 + 6 * level) required in
      column-set_next three 5 level groups
      (omega (
        arith,
        inside,
        length-set rows (1 + 6 * level) first,
        length-set one (3 + 6 * level) members,
        length-set two (4 + 6 * level) required,
      ))
      ∙ ap
      (λ (front : List ℕ). front ++ (groups ∷ []))
      (column-set two (4 + 6 * level) required 5 level (λ number below clash. omega (arith, clash))
      ∙ column-set one (3 + 6 * level) members 5 level (λ number below clash. omega (arith, clash))
      ∙ column-set rows (1 + 6 * level) first 5 level (λ number below clash. omega (arith, clash)))

-- ---- the order of levels

order-next : (first : Group) (waiting : List Group)
    → level_order (group_total (first ∷ waiting)) (first ∷ waiting)
    ≡ first ∷ level_order (group_total (waiting ++ groups_of (entry first))) (waiting ++ groups_of (entry first))
unfolding level_order
order-next first waiting = rw (group_total-first first waiting)

order-ends : level_order (group_total []) [] ≡ []
unfolding group_total level_order
order-ends = refl

-- each group is counted
groups-within : (groups : List Group) → length groups ≤ group_total groups
unfolding group_total
groups-within [] = omega arith
groups-within (first ∷ rest) = omega (arith, groups-within rest, groups_with-total first)

joined-last : (lists : List (List ℕ)) (list : List ℕ) → joined (lists ++ (list ∷ [])) ≡ joined lists ++ list
unfolding joined
joined-last [] list = append-nil list
joined-last (first ∷ rest) list = ap (λ (more : List ℕ). first ++ more) (joined-last rest list) ∙ sym (append_assoc first (joined rest) list)

-- ---- one level more

module _ (trace : List ℕ) (done : List Start) (start : Start) (part : Level → List ℕ) where
  parts_last : map part (levels_told trace (done ++ (start ∷ []))) ≡ map part (levels_told trace done) ++ (part (entry (group_at trace start)) ∷ [])
  parts_last =
      ap (λ (groups : List Group). map part (map entry groups)) (map-append (group_at trace) done (start ∷ []))
      ∙ ap (map part) (map-append entry (groups_told trace done) (group_at trace start ∷ []))
      ∙ map-append part (levels_told trace done) (entry (group_at trace start) ∷ [])

  all-last : joined (map part (levels_told trace (done ++ (start ∷ [])))) ≡ joined (map part (levels_told trace done)) ++ part (entry (group_at trace start))
  all-last = ap joined parts_last ∙ joined-last (map part (levels_told trace done)) (part (entry (group_at trace start)))

  -- the ends of the lists, with one more
  ends_last : (column-was column-is : List ℕ) (past : ℕ)
      → column-was ≡ ends_from 0 (map part (levels_told trace done))
      → column-is ≡ column-was ++ (past ∷ [])
      → past ≡ length (joined (map part (levels_told trace done))) + length (part (entry (group_at trace start)))
      → column-is ≡ ends_from 0 (map part (levels_told trace (done ++ (start ∷ []))))
  ends_last column-was column-is past was is past_is =
      let lists = map part (levels_told trace done) in
      let last = part (entry (group_at trace start)) in
      let sum : 0 + length (joined lists) + length last ≡ past = omega (arith, past_is) in
      is
      ∙ ap (λ (front : List ℕ). front ++ (past ∷ [])) was
      ∙ sym (ap (ends_from 0) parts_last ∙ ends_from-more 0 lists last ∙ ap (λ (number : ℕ). ends_from 0 lists ++ (number ∷ [])) sum)

  -- what is stored of all levels, with one more
  stored_last : (words words_now : List ℕ) (from past : ℕ) (list : List ℕ)
      → take from words ≡ joined (map part (levels_told trace done))
      → from ≡ length (joined (map part (levels_told trace done)))
      → LevelKept words from list past words_now
      → part (entry (group_at trace start)) ≡ list
      → (take past words_now ≡ joined (map part (levels_told trace (done ++ (start ∷ [])))))
      × (past ≡ length (joined (map part (levels_told trace (done ++ (start ∷ []))))))
  stored_last words words_now from past list stands count kept same = (
    kept.stands ∙ ap (λ (front : List ℕ). front ++ list) stands ∙ sym (all-last ∙ ap (λ (last : List ℕ). joined (map part (levels_told trace done)) ++ last) same),
    omega (
      arith,
      kept.past_is,
      count,
      ap length all-last,
      length-append (joined (map part (levels_told trace done))) (part (entry (group_at trace start))),
      ap length same,
    ),
  )

kept_required-by : (test : Bool) (delimiter : ℕ) (required : List ℕ) → length (cond test required (retained delimiter [] required)) ≤ length required
kept_required-by true delimiter required = omega arith
kept_required-by false delimiter required = retained-length delimiter [] required

pub kept_required-length : (place delimiter : ℕ) (required : List ℕ) → length (kept_required place delimiter required) ≤ length required
kept_required-length place delimiter required = kept_required-by (eqb place 0) delimiter required

-- done, the next, those behind it and the new ones: the same list either way
four-parts : (done : List Start) (start : Start) (rest new : List Start) → (done ++ (start ∷ [])) ++ (rest ++ new) ≡ (done ++ (start ∷ rest)) ++ new
four-parts done start rest new = append_snoc done start (rest ++ new) ∙ sym (append_assoc done (start ∷ rest) new)

module _ (trace members required rows : List ℕ) (so_far : Gathering) (gathered : GatheredSoFar trace members required rows so_far) (start : Start) (rest : List Start)
    (waits : gathered.waiting ≡ start ∷ rest)
  where
    abbrev done : List Start
    done = gathered.done

    abbrev own : Own
    own = own_at trace start.first

    abbrev new : List Start
    new = in_order own.starts

    abbrev found : ℕ
    found = length (tags_in_order own.starts)

    new-length : length new ≡ found
    new-length = length-map (tags_in_order own.starts) (λ (tag : ℕ). first_named tag own.starts)

    waiting-length : length gathered.waiting ≡ suc (length rest)
    waiting-length = ap length waits

    -- where the next level begins
    pub next-first : get_or rows (3 + 6 * length done) 0 ≡ start.first
    unfolding column
    next-first =
        let column-is : column rows (3 + 6 * length done) (suc (length rest)) ≡ start.first ∷ map (λ (each : Start). each.first) rest =
        ap (column rows (3 + 6 * length done)) (sym waiting-length) ∙ gathered.firsts ∙ ap (map (λ (each : Start). each.first)) waits in
        ap (λ (words : List ℕ). get_or words 0 0) column-is

    behind-firsts : column rows (3 + 6 * (length done + 1)) (length rest) ≡ map (λ (each : Start). each.first) rest
    unfolding column
    behind-firsts =
        let column-is : column rows (3 + 6 * length done) (suc (length rest)) ≡ start.first ∷ map (λ (each : Start). each.first) rest =
        ap (column rows (3 + 6 * length done)) (sym waiting-length) ∙ gathered.firsts ∙ ap (map (λ (each : Start). each.first)) waits in
        let there : 3 + 6 * (length done + 1) ≡ 3 + 6 * length done + 6 = omega arith in
        rw there (ap (λ (words : List ℕ). drop 1 words) column-is)

    groups-next : groups_told trace (rest ++ new) ≡ groups_told trace rest ++ groups_of (entry (group_at trace start))
    groups-next = map-append (group_at trace) rest new ∙ ap (λ (more : List Group). groups_told trace rest ++ more) (sym (entry-groups trace start))

    total-next : group_total (groups_told trace gathered.waiting) ≡ suc (group_total (groups_told trace (rest ++ new)))
    total-next =
        ap (λ (starts : List Start). group_total (groups_told trace starts)) waits
        ∙ group_total-first (group_at trace start) (groups_told trace rest)
        ∙ ap (λ (groups : List Group). suc (group_total groups)) (sym groups-next)

    -- there are rows for the groups that are found
    pub rows_enough : length done + suc (length rest) + found ≤ level_count trace
    rows_enough =
        omega (
          arith,
          gathered.all,
          total-next,
          groups-within (groups_told trace (rest ++ new)),
          length-map (rest ++ new) (group_at trace),
          length-append rest new,
          new-length,
        )

    order-last : level_order (level_count trace) (groups_told trace (top_start ∷ []))
        ≡ groups_told trace (done ++ (start ∷ [])) ++ level_order (group_total (groups_told trace (rest ++ new))) (groups_told trace (rest ++ new))
    order-last =
        let later = level_order (group_total (groups_told trace (rest ++ new))) (groups_told trace (rest ++ new)) in
        let next : level_order (group_total (groups_told trace gathered.waiting)) (groups_told trace gathered.waiting) ≡ group_at trace start ∷ later =
        ap (λ (starts : List Start). level_order (group_total (groups_told trace starts)) (groups_told trace starts)) waits
        ∙ order-next (group_at trace start) (groups_told trace rest)
        ∙ ap {B = List Group} (λ (groups : List Group). group_at trace start ∷ level_order (group_total groups) groups) (sym groups-next) in
        gathered.order
        ∙ ap (λ (groups : List Group). groups_told trace done ++ groups) next
        ∙ sym (append_snoc (groups_told trace done) (group_at trace start) later)
        ∙ ap (λ (groups : List Group). groups ++ later) (sym (map-append (group_at trace) done (start ∷ [])))

    module _ (members_now required_now placed_rows : List ℕ) (member_end required_end kept group_end : ℕ)
        (members_kept : LevelKept members so_far.members (deduped (sorted own.members)) member_end members_now)
        (required-kept : LevelKept required so_far.required (kept_required start.first own.delimiter own.required) required_end required_now)
        (kept-is : kept ≡ found)
        (placed : RowsPlaced rows (length done + suc (length rest)) (tags_in_order own.starts) own.starts placed_rows)
        (group_end_is : group_end + 1 ≡ length done + suc (length rest) + kept)
        (room : 6 * level_count trace ≤ length rows)
      where
        abbrev rows_now : List ℕ
        rows_now = closed_row placed_rows (length done) own.delimiter member_end required_end group_end

        inside : 6 * length done + 5 < length placed_rows
        inside = omega (arith, rows_enough, room, placed.size)

        all-levels : length (done ++ (start ∷ [])) + length (rest ++ new) ≡ length done + suc (length rest) + found
        all-levels = omega (arith, length-append done (start ∷ []), length-append rest new, new-length)

        done_more : length (done ++ (start ∷ [])) ≡ length done + 1
        done_more = length-append done (start ∷ [])

        -- a column of the groups' own words
        rows_last : (field : ℕ) (read : Start → ℕ)
            → field < 6
            → ((number : ℕ) → Beside (length done) (field + 6 * number))
            → column rows field (length done + length gathered.waiting) ≡ map read (done ++ gathered.waiting)
            → column placed_rows (field + 6 * (length done + suc (length rest))) found ≡ map read new
            → column rows_now field (length (done ++ (start ∷ [])) + length (rest ++ new)) ≡ map read ((done ++ (start ∷ [])) ++ (rest ++ new))
        rows_last field read narrow beside was more =
            let levels = length done + suc (length rest) in
            let front : column rows_now field levels ≡ map read (done ++ (start ∷ rest)) =
            closed-beside placed_rows (length done) own.delimiter member_end required_end group_end field levels (λ number below. beside number)
            ∙ column-before placed_rows rows (6 * levels) field levels placed.before (omega (arith, narrow))
            ∙ ap (λ (count : ℕ). column rows field (length done + count)) (sym waiting-length)
            ∙ was
            ∙ ap (λ (starts : List Start). map read (done ++ starts)) waits in
            let back : column rows_now (field + 6 * levels) found ≡ map read new =
            closed-beside placed_rows (length done) own.delimiter member_end required_end group_end (field + 6 * levels) found
            (λ number below. let there : field + 6 * levels + 6 * number ≡ field + 6 * (levels + number) = omega arith in rw there (beside (levels + number)))
            ∙ more in
            ap (column rows_now field) all-levels
            ∙ column-split rows_now field levels found
            ∙ ap₂ {C = List ℕ} (λ (one two : List ℕ). one ++ two) front back
            ∙ sym (map-append read (done ++ (start ∷ rest)) new)
            ∙ ap (map read) (sym (four-parts done start rest new))

        tags-last : column rows_now 0 (length (done ++ (start ∷ [])) + length (rest ++ new)) ≡ count_tags ((done ++ (start ∷ [])) ++ (rest ++ new))
        tags-last =
            let levels = length done + suc (length rest) in
            let there : 0 + 6 * levels ≡ 6 * levels = omega arith in
            rows_last 0 (λ (each : Start). each.count_tag) (omega arith)
            (λ number. (
              λ clash. omega (arith, clash),
              λ clash. omega (arith, clash),
              λ clash. omega (arith, clash),
              λ clash. omega (arith, clash),
            ))
            gathered.tags
            (rw there (placed-tags rows levels own.starts placed_rows placed))

        flags-last : column rows_now 2 (length (done ++ (start ∷ [])) + length (rest ++ new)) ≡ map flag_of ((done ++ (start ∷ [])) ++ (rest ++ new))
        flags-last =
            let levels = length done + suc (length rest) in
            let there : 2 + 6 * levels ≡ 6 * levels + 2 = omega arith in
            rows_last 2 flag_of (omega arith)
            (λ number. (
              λ clash. omega (arith, clash),
              λ clash. omega (arith, clash),
              λ clash. omega (arith, clash),
              λ clash. omega (arith, clash),
            ))
            gathered.flags
            (rw there (placed-flags rows levels own.starts placed_rows placed))

        firsts-last : column rows_now (3 + 6 * length (done ++ (start ∷ []))) (length (rest ++ new)) ≡ map (λ (each : Start). each.first) (rest ++ new)
        firsts-last =
            let levels = length done + suc (length rest) in
            let from = 3 + 6 * (length done + 1) in
            let many : length (rest ++ new) ≡ length rest + found = omega (arith, length-append rest new, new-length) in
            let there : from + 6 * length rest ≡ 6 * levels + 3 = omega arith in
            let front : column rows_now from (length rest) ≡ map (λ (each : Start). each.first) rest =
            closed-beside placed_rows (length done) own.delimiter member_end required_end group_end from (length rest)
            (λ number below. (
              λ clash. omega (arith, clash),
              λ clash. omega (arith, clash),
              λ clash. omega (arith, clash),
              λ clash. omega (arith, clash),
            ))
            ∙ column-before placed_rows rows (6 * levels) from (length rest) placed.before (omega arith)
            ∙ behind-firsts in
            let back : column rows_now (from + 6 * length rest) found ≡ map (λ (each : Start). each.first) new =
            closed-beside placed_rows (length done) own.delimiter member_end required_end group_end (from + 6 * length rest) found
            (λ number below. (
              λ clash. omega (arith, clash),
              λ clash. omega (arith, clash),
              λ clash. omega (arith, clash),
              λ clash. omega (arith, clash),
            ))
            ∙ rw there (placed-firsts rows levels own.starts placed_rows placed) in
            rw (done_more, many)
            (column-split rows_now from (length rest) found
            ∙ ap₂ {C = List ℕ} (λ (one two : List ℕ). one ++ two) front back
            ∙ sym (map-append (λ (each : Start). each.first) rest new))

        -- a column of the levels gathered before, in the rows that were placed
        kept-column : (field : ℕ) → field < 6 → column placed_rows field (length done) ≡ column rows field (length done)
        kept-column field narrow =
            column-before placed_rows rows (6 * (length done + suc (length rest))) field (length done) placed.before (omega (arith, narrow))

        delimiters-last : column rows_now 1 (length (done ++ (start ∷ []))) ≡ map delimiter (groups_told trace (done ++ (start ∷ [])))
        delimiters-last =
            ap (column rows_now 1) done_more
            ∙ closed-delimiter placed_rows (length done) own.delimiter member_end required_end group_end inside
            ∙ ap (λ (front : List ℕ). front ++ (own.delimiter ∷ [])) (kept-column 1 (omega arith) ∙ gathered.delimiters)
            ∙ sym
            (ap (map delimiter) (map-append (group_at trace) done (start ∷ [])) ∙ map-append delimiter (groups_told trace done) (group_at trace start ∷ []))

        members-last : (take member_end members_now ≡ joined (map members_of (levels_told trace (done ++ (start ∷ [])))))
            × (member_end ≡ length (joined (map members_of (levels_told trace (done ++ (start ∷ []))))))
        members-last =
            stored_last trace done start members_of members members_now so_far.members member_end (deduped (sorted own.members)) gathered.members_are
            gathered.member_count_lem
            members_kept
            (entry-members trace start)

        required-last : (take required_end required_now ≡ joined (map required_of (levels_told trace (done ++ (start ∷ [])))))
            × (required_end ≡ length (joined (map required_of (levels_told trace (done ++ (start ∷ []))))))
        required-last =
            stored_last trace done start required_of required required_now so_far.required required_end
            (kept_required start.first own.delimiter own.required)
            gathered.required_are
            gathered.required_count_lem
            required-kept
            (entry-required trace start)

        member_ends-last : column rows_now 3 (length (done ++ (start ∷ []))) ≡ ends_from 0 (map members_of (levels_told trace (done ++ (start ∷ []))))
        member_ends-last =
            ends_last trace done start members_of (column rows 3 (length done)) (column rows_now 3 (length (done ++ (start ∷ [])))) member_end gathered.member_ends
            (ap (column rows_now 3) done_more
            ∙ closed-members placed_rows (length done) own.delimiter member_end required_end group_end inside
            ∙ ap (λ (front : List ℕ). front ++ (member_end ∷ [])) (kept-column 3 (omega arith)))
            (omega (arith, members_kept.past_is, gathered.member_count_lem, ap length (entry-members trace start)))

        required_ends-last : column rows_now 4 (length (done ++ (start ∷ []))) ≡ ends_from 0 (map required_of (levels_told trace (done ++ (start ∷ []))))
        required_ends-last =
            ends_last trace done start required_of (column rows 4 (length done)) (column rows_now 4 (length (done ++ (start ∷ [])))) required_end gathered.required_ends
            (ap (column rows_now 4) done_more
            ∙ closed-required placed_rows (length done) own.delimiter member_end required_end group_end inside
            ∙ ap (λ (front : List ℕ). front ++ (required_end ∷ [])) (kept-column 4 (omega arith)))
            (omega (arith, required-kept.past_is, gathered.required_count_lem, ap length (entry-required trace start)))

        -- how many groups stand in the level
        groups-here : length (count_tags_of (entry (group_at trace start))) ≡ found
        groups-here = ap length (entry-count_tags trace start) ∙ length-map new (λ (each : Start). each.count_tag) ∙ new-length

        group_ends-last : column rows_now 5 (length (done ++ (start ∷ []))) ≡ ends_from 0 (map count_tags_of (levels_told trace (done ++ (start ∷ []))))
        group_ends-last =
            ends_last trace done start count_tags_of (column rows 5 (length done)) (column rows_now 5 (length (done ++ (start ∷ [])))) group_end gathered.group_ends
            (ap (column rows_now 5) done_more
            ∙ closed-groups placed_rows (length done) own.delimiter member_end required_end group_end inside
            ∙ ap (λ (front : List ℕ). front ++ (group_end ∷ [])) (kept-column 5 (omega arith)))
            (omega (arith, group_end_is, kept-is, gathered.found, waiting-length, groups-here))

        found-last : length (done ++ (start ∷ [])) + length (rest ++ new) ≡ suc (length (joined (map count_tags_of (levels_told trace (done ++ (start ∷ []))))))
        found-last =
            omega (
              arith,
              all-levels,
              gathered.found,
              waiting-length,
              groups-here,
              ap length (all-last trace done start count_tags_of),
              length-append (joined (map count_tags_of (levels_told trace done))) (count_tags_of (entry (group_at trace start))),
            )

        pub next-gathered : GatheredSoFar trace members_now required_now rows_now
            (record { level = so_far.level + 1; levels = so_far.levels + kept; members = member_end; required = required_end })
        next-gathered = record {
          done = done ++ (start ∷ []);
          waiting = rest ++ new;
          level_is = omega (arith, gathered.level_is, done_more);
          levels_is = omega (arith, gathered.levels_is, waiting-length, all-levels, kept-is);
          order = order-last;
          all = omega (arith, gathered.all, total-next, done_more);
          found = found-last;
          tags = tags-last;
          flags = flags-last;
          firsts = firsts-last;
          delimiters = delimiters-last;
          member_ends = member_ends-last;
          required_ends = required_ends-last;
          group_ends = group_ends-last;
          members_are = members-last.0;
          member_count_lem = members-last.1;
          required_are = required-last.0;
          required_count_lem = required-last.1;
          members_left =
              omega (
                arith,
                gathered.members_left,
                members_kept.past_is,
                deduped-length (sorted own.members),
                sorted-length own.members,
                ap (weight_all counts_member trace) waits,
                weight_all-first counts_member trace start rest,
                members-weight trace start,
                weight_all-append counts_member trace rest new,
                weight_in_order counts_member trace own.starts,
              );
          required_left =
              omega (
                arith,
                gathered.required_left,
                required-kept.past_is,
                kept_required-length start.first own.delimiter own.required,
                ap (weight_all counts_required trace) waits,
                weight_all-first counts_required trace start rest,
                required-weight trace start,
                weight_all-append counts_required trace rest new,
                weight_in_order counts_required trace own.starts,
              );
        }

-- ---- a part is put in order where it stands

-- the part that was lent, and what was put in its place
pub part-kept : (words part behind now : List ℕ) (from kept : ℕ) (list : List ℕ)
    → from ≤ length words
    → now ≡ take from words ++ (part ++ behind)
    → kept ≡ length list
    → take kept part ≡ list
    → LevelKept words from list (from + kept) now
part-kept words part behind now from kept list inside memory many front =
    let size : length (take from words) ≡ from = length-take-le from words inside in
    let whole : kept ≤ length part = omega (arith, many, ap length front, length-take kept part) in
    record {
      past_is = omega (arith, many);
      stands =
          ap (take (from + kept)) memory
          ∙ ap (λ (count : ℕ). take (count + kept) (take from words ++ (part ++ behind))) (sym size)
          ∙ take-append-add (take from words) (part ++ behind) kept
          ∙ ap (λ (later : List ℕ). take from words ++ later) (take-append-le kept part behind whole ∙ front);
    }

-- what was read stands behind what stood there before
module _ (words list words_now : List ℕ) (from past : ℕ) (read : words_now ≡ sets words from list) (past_is : past ≡ from + length list) (room : from + length list ≤ length words) where
  read-split : words_now ≡ take from words ++ (list ++ drop (from + length list) words)
  read-split = read ∙ sets-eq list words from room ∙ append_assoc (take from words) list (drop (from + length list) words)

  read-front : take from words_now ≡ take from words
  read-front =
      ap (take from) read-split ∙ take_at (take from words) (list ++ drop (from + length list) words) from (length-take-le from words (omega (arith, room)))

  read-part : take (past - from) (drop from words_now) ≡ list
  read-part =
      let many : past - from ≡ length list = omega (arith, past_is) in
      rw many
      (ap (λ (all : List ℕ). take (length list) (drop from all)) read-split
      ∙ ap (take (length list)) (drop_at (take from words) (list ++ drop (from + length list) words) from (length-take-le from words (omega (arith, room))))
      ∙ take_at list (drop (from + length list) words) (length list) refl)

  read_kept : (order : List ℕ → List ℕ) (kept : ℕ) (last : List ℕ)
      → LevelKept words_now from (order (take (past - from) (drop from words_now))) kept last
      → LevelKept words from (order list) kept last
  read_kept order kept last ordered = record {
    past_is = ordered.past_is ∙ ap (λ (part : List ℕ). from + length (order part)) read-part;
    stands = ordered.stands ∙ ap₂ {C = List ℕ} (λ (front back : List ℕ). front ++ back) read-front (ap order read-part);
  }

-- ---- the next level

pub record Next (waiting : List Start) : Type 0 where
  pub start : Start
  pub rest : List Start
  pub is : waiting ≡ start ∷ rest

next_of : (waiting : List Start) → 0 < length waiting → Next waiting
next_of [] some = absurd (omega arith)
next_of (start ∷ rest) some = record { start = start; rest = rest; is = refl }

counted-drop : (counts : ℕ → ℕ) (count : ℕ) (words : List ℕ) → counted counts (drop count words) ≤ counted counts words
unfolding counted
counted-drop counts zero words = omega arith
counted-drop counts (suc count) [] = omega arith
counted-drop counts (suc count) (word ∷ words) = omega (arith, counted-drop counts count words)

module _ (trace members required rows : List ℕ) (so_far : Gathering) (gathered : GatheredSoFar trace members required rows so_far) (more : so_far.level < so_far.levels) where
  next : Next gathered.waiting
  next = next_of gathered.waiting (omega (arith, more, gathered.level_is, gathered.levels_is))

  levels_are : so_far.levels ≡ length gathered.done + suc (length next.rest)
  levels_are = gathered.levels_is ∙ ap (λ (starts : List Start). length gathered.done + length starts) next.is

  pub level-within : so_far.level < level_count trace
  level-within =
      omega (
        arith,
        more,
        gathered.level_is,
        levels_are,
        rows_enough trace members required rows so_far gathered next.start next.rest next.is,
      )

  module _ (first : ℕ) (first-is : first ≡ get_or rows (3 + 6 * so_far.level) 0) where
    begins : first ≡ next.start.first
    begins =
        first-is
        ∙ ap (λ (level : ℕ). get_or rows (3 + 6 * level) 0) gathered.level_is
        ∙ next-first trace members required rows so_far gathered next.start next.rest next.is

    members-room : so_far.members + length (own_at trace first).members ≤ counted counts_member trace
    members-room =
        rw begins
        (omega (
          arith,
          gathered.members_left,
          ap (weight_all counts_member trace) next.is,
          weight_all-first counts_member trace next.start next.rest,
          members-weight trace next.start,
        ))

    required-room : so_far.required + length (own_at trace first).required ≤ counted counts_required trace
    required-room =
        rw begins
        (omega (
          arith,
          gathered.required_left,
          ap (weight_all counts_required trace) next.is,
          weight_all-first counts_required trace next.start next.rest,
          required-weight trace next.start,
        ))

    groups-room : length (own_at trace first).starts ≤ counted counts_group trace
    groups-room =
        rw begins
        (omega (
          arith,
          groups-weight trace next.start,
          weigh-all counts_group (drop next.start.first trace),
          counted-drop counts_group next.start.first trace,
        ))

    pub read-room : (tags : List ℕ) → GatherRoom trace members required tags rows → ReadRoom trace first members so_far.members required so_far.required tags
    read-room tags room = record {
      for_members = omega (arith, members-room, room.for_members);
      for_required = omega (arith, required-room, room.for_required);
      for_tags = omega (arith, groups-room, room.for_tags);
    }

    -- there are rows for the groups of the level
    pub groups-fit : so_far.levels + length (tags_in_order (own_at trace first).starts) ≤ level_count trace
    groups-fit =
        omega (
          arith,
          levels_are,
          ap (λ (place : ℕ). length (tags_in_order (own_at trace place).starts)) begins,
          rows_enough trace members required rows so_far gathered next.start next.rest next.is,
        )

    module _ (tags : List ℕ) (room : GatherRoom trace members required tags rows) (level : OwnLevel) (members_read required_read tags_read : List ℕ)
        (read : OwnRead (own_at trace first) members so_far.members required so_far.required tags level members_read required_read tags_read)
      where
        -- what `place_level` is given
        pub tags-read : take level.groups tags_read ≡ count_tags (own_at trace first).starts
        tags-read =
            let list = count_tags (own_at trace first).starts in
            let many : length list ≡ length (own_at trace first).starts = length-map (own_at trace first).starts (λ (start : Start). start.count_tag) in
            let none : 0 + length list ≡ length list = omega arith in
            let split : tags_read ≡ list ++ drop (length list) tags =
            read.tags_are
            ∙ sets-eq list tags 0 (omega (arith, many, groups-room, room.for_tags))
            ∙ ap (λ (count : ℕ). list ++ drop count tags) none in
            ap (take level.groups) split ∙ take_at list (drop (length list) tags) level.groups (omega (arith, read.group_end, many))

        pub ends-inside : (level.members ≤ length members_read) × (level.required ≤ length required_read) × (level.groups ≤ length tags_read)
        ends-inside = (
          omega (
            arith,
            read.member_end,
            members-room,
            room.for_members,
            ap length read.members_are,
            length-sets members so_far.members (own_at trace first).members,
          ),
          omega (
            arith,
            read.need_end,
            required-room,
            room.for_required,
            ap length read.required_are,
            length-sets required so_far.required (own_at trace first).required,
          ),
          omega (
            arith,
            read.group_end,
            groups-room,
            room.for_tags,
            ap length read.tags_are,
            length-sets tags 0 (count_tags (own_at trace first).starts),
          ),
        )

        pub parts-inside : (so_far.members ≤ level.members) × (so_far.required ≤ level.required)
        parts-inside = (omega (arith, read.member_end), omega (arith, read.need_end))

        -- the ends are words
        pub ends-fit : (members_now required_now : List ℕ) (member_end required_end : ℕ)
            → LevelKept members_read so_far.members (deduped (sorted (take (level.members - so_far.members) (drop so_far.members members_read)))) member_end members_now
            → LevelKept required_read so_far.required
            (kept_required first level.delimiter (take (level.required - so_far.required) (drop so_far.required required_read)))
            required_end
            required_now
            → (member_end < 4294967296) × (required_end < 4294967296)
        ends-fit members_now required_now member_end required_end members-ordered required-ordered =
            let part = take (level.members - so_far.members) (drop so_far.members members_read) in
            let list = take (level.required - so_far.required) (drop so_far.required required_read) in (
              omega (
                arith,
                members-ordered.past_is,
                deduped-length (sorted part),
                sorted-length part,
                length-take (level.members - so_far.members) (drop so_far.members members_read),
                read.member_end,
                members-room,
                members-counted trace,
                room.short,
              ),
              omega (
                arith,
                required-ordered.past_is,
                kept_required-length first level.delimiter list,
                length-take (level.required - so_far.required) (drop so_far.required required_read),
                read.need_end,
                required-room,
                required-counted trace,
                room.short,
              ),
            )

        pub level-gathered : (members_now required_now placed_rows rows_now : List ℕ) (member_end required_end kept group_end : ℕ) (next_now : Gathering)
            → LevelKept members_read so_far.members (deduped (sorted (take (level.members - so_far.members) (drop so_far.members members_read)))) member_end members_now
            → LevelKept required_read so_far.required
            (kept_required first level.delimiter (take (level.required - so_far.required) (drop so_far.required required_read)))
            required_end
            required_now
            → kept ≡ length (tags_in_order (own_at trace first).starts)
            → RowsPlaced rows so_far.levels (tags_in_order (own_at trace first).starts) (own_at trace first).starts placed_rows
            → group_end + 1 ≡ so_far.levels + kept
            → rows_now ≡ closed_row placed_rows so_far.level level.delimiter member_end required_end group_end
            → next_now ≡ record { level = so_far.level + 1; levels = so_far.levels + kept; members = member_end; required = required_end }
            → GatheredSoFar trace members_now required_now rows_now next_now
        level-gathered members_now required_now placed_rows rows_now member_end required_end kept group_end next_now members-ordered required-ordered kept-is placed group_end_is closed same =
            let start = next.start in
            let own = own_at trace start.first in
            let members_kept : LevelKept members so_far.members (deduped (sorted own.members)) member_end members_now =
            rw begins at
            (read_kept members (own_at trace first).members members_read so_far.members level.members read.members_are read.member_end
            (omega (arith, members-room, room.for_members))
            (λ list. deduped (sorted list))
            member_end
            members_now
            members-ordered) in
            let required-kept : LevelKept required so_far.required (kept_required start.first own.delimiter own.required) required_end required_now =
            rw (read.delimiter_is, begins) at
            (read_kept required (own_at trace first).required required_read so_far.required level.required read.required_are read.need_end
            (omega (arith, required-room, room.for_required))
            (λ list. kept_required first level.delimiter list)
            required_end
            required_now
            required-ordered) in
            let delimiter_is : level.delimiter ≡ own.delimiter = rw begins at read.delimiter_is in
            let rows_same : rows_now ≡ closed_row placed_rows (length gathered.done) own.delimiter member_end required_end group_end =
            closed
            ∙ ap (λ (row : ℕ). closed_row placed_rows row level.delimiter member_end required_end group_end) gathered.level_is
            ∙ ap (λ (tag : ℕ). closed_row placed_rows (length gathered.done) tag member_end required_end group_end) delimiter_is in
            rw (same, rows_same)
            (next-gathered trace members required rows so_far gathered start next.rest next.is members_now required_now placed_rows member_end required_end kept group_end
            members_kept
            required-kept
            (rw begins at kept-is)
            (rw (levels_are, begins) at placed)
            (omega (arith, group_end_is, levels_are))
            room.for_rows)

-- ---- order_members, order_required, order_groups

-- a part of the words is lent, and stands there again
module _ (words part now : List ℕ) (from past kept : ℕ) (order : from ≤ past) (inside : past ≤ length words)
    (memory : now ≡ take from words ++ (part ++ drop (past - from) (drop from words)))
  where
    abbrev pub lent : List ℕ
    lent = take (past - from) (drop from words)

    pub members-ordered : kept ≡ length (deduped (sorted lent)) → part ≡ deduped_in (sorted lent) → LevelKept words from (deduped (sorted lent)) (from + kept) now
    members-ordered many same =
        part-kept words part (drop (past - from) (drop from words)) now from kept (deduped (sorted lent)) (omega (arith, order, inside)) memory many
        (ap (take kept) same ∙ deduped_in-front (sorted lent) kept many)

    pub required-ordered : (first delimiter : ℕ)
        → kept ≡ length (kept_required first delimiter lent)
        → part ≡ kept_in first delimiter lent
        → LevelKept words from (kept_required first delimiter lent) (from + kept) now
    unfolding kept_in
    required-ordered first delimiter many same =
        part-kept words part (drop (past - from) (drop from words)) now from kept (kept_required first delimiter lent) (omega (arith, order, inside)) memory many
        (ap (take kept) same
        ∙ take_at (kept_required first delimiter lent) (drop (length (kept_required first delimiter lent)) lent) kept (sym many))

-- they end no later than before
module _ (words : List ℕ) (from past kept : ℕ) (order : from ≤ past) where
  pub members-few : kept ≡ length (deduped (sorted (take (past - from) (drop from words)))) → from + kept ≤ past
  members-few many =
      let part = take (past - from) (drop from words) in
      omega (arith, many, deduped-length (sorted part), sorted-length part, length-take (past - from) (drop from words), order)

  pub required-few : (first delimiter : ℕ) → kept ≡ length (kept_required first delimiter (take (past - from) (drop from words))) → from + kept ≤ past
  required-few first delimiter many =
      let part = take (past - from) (drop from words) in
      omega (arith, many, kept_required-length first delimiter part, length-take (past - from) (drop from words), order)

placed-none : (base : List ℕ) (levels : ℕ) (tags : List ℕ) (starts : List Start) (rows : List ℕ)
    → length tags ≡ 0
    → RowsPlaced base levels tags [] rows
    → RowsPlaced base levels tags starts rows
placed-none base levels tags starts rows none placed = record {
  size = placed.size;
  before = placed.before;
  row = λ number below. absurd (omega (arith, none, below));
}

-- `&mut tags[0..groups]` lends the first of them
pub all-tags : (tags : List ℕ) (groups : ℕ) (list : List ℕ) → take groups tags ≡ list → take (groups - 0) tags ≡ list
all-tags tags groups list first = let all : groups - 0 ≡ groups = omega arith in ap (λ (count : ℕ). take count tags) all ∙ first

-- the count tags that are lent, in order
module _ (lent part behind now : List ℕ) (kept : ℕ) (starts : List Start) (lists : lent ≡ count_tags starts) (memory : now ≡ part ++ behind)
    (many : kept ≡ length (deduped (sorted lent))) (same : part ≡ deduped_in (sorted lent))
  where
    pub tags-many : kept ≡ length (tags_in_order starts)
    tags-many = many ∙ ap (λ (words : List ℕ). length (deduped (sorted words))) lists

    tags-within : kept ≤ length part
    tags-within = omega (arith, many, ap length (ap (take kept) same ∙ deduped_in-front (sorted lent) kept many), length-take kept part)

    pub tags-inside : kept ≤ length now
    tags-inside = omega (arith, tags-within, ap length memory, length-append part behind)

    pub tags-ordered : take (kept - 0) now ≡ tags_in_order starts
    tags-ordered =
        let all : kept - 0 ≡ kept = omega arith in
        let front : take kept part ≡ deduped (sorted lent) = ap (take kept) same ∙ deduped_in-front (sorted lent) kept many in
        ap (λ (count : ℕ). take count now) all
        ∙ ap (take kept) memory
        ∙ take-append-le kept part behind tags-within
        ∙ front
        ∙ ap (λ (words : List ℕ). deduped (sorted words)) lists

    pub tags-room : (rows : List ℕ) (levels : ℕ) → 6 * (levels + length (tags_in_order starts)) ≤ length rows → RowRoom rows levels (take (kept - 0) now)
    tags-room rows levels inside = rw tags-ordered (record { ascend = members_ascend (count_tags starts); inside = inside })

    -- no group is there
    pub groups_none : (base : List ℕ) (levels : ℕ) (rows : List ℕ)
        → kept ≡ 0
        → RowsPlaced base levels (take (kept - 0) now) [] rows
        → RowsPlaced base levels (tags_in_order starts) starts rows
    groups_none base levels rows none placed = placed-none base levels (tags_in_order starts) starts rows (omega (arith, tags-many, none)) (rw tags-ordered at placed)

    pub groups-placed : (base opened : List ℕ) (levels : ℕ) (rows : List ℕ)
        → RowsPlaced base levels (take (kept - 0) now) [] opened
        → PlacedAll starts opened levels (take (kept - 0) now) rows
        → RowsPlaced base levels (tags_in_order starts) starts rows
    groups-placed base opened levels rows begun all = rw tags-ordered at (all base begun)

-- ---- the first level, and all levels

module _ (trace members required tags rows : List ℕ) (room : GatherRoom trace members required tags rows) where
  abbrev pub first_rows : List ℕ
  first_rows = set (set (set rows 0 0) 2 0) 3 0

  some_level : 0 < level_count trace
  some_level = omega (arith, groups-within (groups_told trace (top_start ∷ [])))

  pub first-inside : 5 < length rows
  first-inside = omega (arith, some_level, room.for_rows)

  first-size : length first_rows ≡ length rows
  first-size = length-set (set (set rows 0 0) 2 0) 3 0 ∙ length-set (set rows 0 0) 2 0 ∙ length-set rows 0 0

  pub first-room : GatherRoom trace members required tags first_rows
  first-room = record {
    short = room.short;
    for_members = room.for_members;
    for_required = room.for_required;
    for_tags = room.for_tags;
    for_rows = omega (arith, room.for_rows, first-size);
    few = room.few;
  }

  pub gathered-begins : GatheredSoFar trace members required first_rows (record { level = 0; levels = 1; members = 0; required = 0 })
  unfolding column joined ends_from
  gathered-begins =
      let one = set rows 0 0 in
      let two = set one 2 0 in
      let size1 : length one ≡ length rows = length-set rows 0 0 in
      let size2 : length two ≡ length one = length-set one 2 0 in
      let tag : get_or first_rows 0 0 ≡ 0 =
      get_or-set_other two 3 0 0 0 (λ clash. omega (arith, clash))
      ∙ get_or-set_other one 2 0 0 0 (λ clash. omega (arith, clash))
      ∙ get_or-set_same rows 0 0 0 (omega (arith, first-inside)) in
      let flag_is : get_or first_rows 2 0 ≡ 0 =
      get_or-set_other two 3 2 0 0 (λ clash. omega (arith, clash)) ∙ get_or-set_same one 2 0 0 (omega (arith, first-inside, size1)) in
      let first : get_or first_rows 3 0 ≡ 0 = get_or-set_same two 3 0 0 (omega (arith, first-inside, size1, size2)) in
      record {
        done = [];
        waiting = top_start ∷ [];
        level_is = refl;
        levels_is = refl;
        order = refl;
        all = omega arith;
        found = refl;
        tags = ap {B = List ℕ} (λ word. word ∷ []) tag;
        flags = ap {B = List ℕ} (λ word. word ∷ []) flag_is;
        firsts = ap {B = List ℕ} (λ word. word ∷ []) first;
        delimiters = refl;
        member_ends = refl;
        required_ends = refl;
        group_ends = refl;
        members_are = refl;
        member_count_lem = refl;
        required_are = refl;
        required_count_lem = refl;
        members_left =
            omega (arith, weight_all-first counts_member trace top_start [], weight_all-none counts_member trace, weigh-all counts_member trace);
        required_left =
            omega (arith, weight_all-first counts_required trace top_start [], weight_all-none counts_required trace, weigh-all counts_required trace);
      }

none_left : (starts : List Start) → length starts ≡ 0 → starts ≡ []
none_left [] none = refl
none_left (start ∷ rest) none = absurd (omega (arith, none))

flags-told : (trace : List ℕ) (starts : List Start) → map flag_of starts ≡ map flag (groups_told trace starts)
flags-told trace [] = refl
flags-told trace (start ∷ rest) = ap {B = List ℕ} (λ flags. flag_of start ∷ flags) (flags-told trace rest)

module _ (trace members required rows : List ℕ) (so_far : Gathering) (gathered : GatheredSoFar trace members required rows so_far) (over : so_far.levels ≤ so_far.level) where
  abbrev layout : Layout
  layout = layout_told trace

  no_more : gathered.waiting ≡ []
  no_more = none_left gathered.waiting (omega (arith, over, gathered.level_is, gathered.levels_is))

  groups-told : groups_told trace gathered.done ≡ group_at trace top_start ∷ all_groups layout
  unfolding all_groups
  groups-told =
      let order : level_order (level_count trace) (groups_told trace (top_start ∷ [])) ≡ groups_told trace gathered.done =
      gathered.order
      ∙ ap
      (λ (starts : List Start). groups_told trace gathered.done ++ level_order (group_total (groups_told trace starts)) (groups_told trace starts))
      no_more
      ∙ ap (λ (groups : List Group). groups_told trace gathered.done ++ groups) order-ends
      ∙ append-nil (groups_told trace gathered.done) in
      sym order
      ∙ order-next (group_at trace top_start) []
      ∙ ap {B = List Group} (λ (count : ℕ). group_at trace top_start ∷ level_order count (groups_of layout)) (sym (groups_below-total layout))

  levels_told_lem : levels_told trace gathered.done ≡ all_levels layout
  levels_told_lem = ap (map entry) groups-told

  done_all : length gathered.done ≡ suc (length (all_groups layout))
  done_all = sym (length-map gathered.done (group_at trace)) ∙ ap length groups-told

  levels_all : so_far.levels ≡ length gathered.done
  levels_all = omega (arith, gathered.levels_is, ap length no_more)

  groups-number : so_far.levels - 1 + 1 ≡ length gathered.done
  groups-number = omega (arith, levels_all, done_all)

  some_levels : 0 < so_far.levels
  some_levels = omega (arith, levels_all, done_all)

  module _ (room : 6 * level_count trace ≤ length rows) where
    abbrev rows_all : List ℕ
    rows_all = take (6 * so_far.levels) rows

    rows_inside : 6 * so_far.levels ≤ length rows
    rows_inside = omega (arith, levels_all, gathered.all, room)

    -- the rows of all levels have the columns that were gathered
    column-all : (field count : ℕ) → field + 6 * count ≤ 6 * so_far.levels + 5 → column rows_all field count ≡ column rows field count
    column-all field count within =
        column-before rows_all rows (6 * so_far.levels) field count (take-take (6 * so_far.levels) (6 * so_far.levels) rows (omega arith)) within

    ends-all : (field : ℕ) (part : Level → List ℕ)
        → field < 6
        → column rows field (length gathered.done) ≡ ends_from 0 (map part (levels_told trace gathered.done))
        → column rows_all field (so_far.levels - 1 + 1) ≡ ends_from 0 (map part (all_levels layout))
    ends-all field part narrow was =
        column-all field (so_far.levels - 1 + 1) (omega (arith, narrow, groups-number, levels_all))
        ∙ ap (column rows field) groups-number
        ∙ was
        ∙ ap (λ (levels : List Level). ends_from 0 (map part levels)) levels_told_lem

    -- the column of the groups, without the top
    groups-all : (field : ℕ) (read : Group → ℕ)
        → field < 6
        → column rows field (length gathered.done) ≡ map read (groups_told trace gathered.done)
        → column rows_all (field + 6) (so_far.levels - 1) ≡ map read (all_groups layout)
    unfolding column
    groups-all field read narrow was =
        let many : so_far.levels - 1 ≡ length (all_groups layout) = omega (arith, levels_all, done_all) in
        let whole : column rows field (suc (length (all_groups layout))) ≡ read (group_at trace top_start) ∷ map read (all_groups layout) =
        ap (column rows field) (sym done_all) ∙ was ∙ ap (map read) groups-told in
        column-all (field + 6) (so_far.levels - 1) (omega (arith, narrow, some_levels))
        ∙ ap (column rows (field + 6)) many
        ∙ ap (λ (words : List ℕ). drop 1 words) whole

    levels_same : length gathered.done + length gathered.waiting ≡ length gathered.done
    levels_same = omega (arith, ap length no_more)

    starts-same : gathered.done ++ gathered.waiting ≡ gathered.done
    starts-same = ap (λ (starts : List Start). gathered.done ++ starts) no_more ∙ append-nil gathered.done

    gathered-all : Gathered layout (so_far.levels - 1) (take so_far.members members) (take so_far.required required) rows_all
    gathered-all = record {
      row_count = length-take-le (6 * so_far.levels) rows rows_inside ∙ ap (λ (count : ℕ). 6 * count) (levels_all ∙ sym groups-number);
      has_groups = omega (arith, levels_all, done_all);
      has_members = gathered.members_are ∙ ap (λ (levels : List Level). joined (map members_of levels)) levels_told_lem;
      has_required = gathered.required_are ∙ ap (λ (levels : List Level). joined (map required_of levels)) levels_told_lem;
      member_ends = ends-all 3 members_of (omega arith) gathered.member_ends;
      required_ends = ends-all 4 required_of (omega arith) gathered.required_ends;
      group_ends = ends-all 5 count_tags_of (omega arith) gathered.group_ends;
      count_tags =
          groups-all 0 count_tag (omega arith)
          (ap (column rows 0) (sym levels_same) ∙ gathered.tags ∙ ap count_tags starts-same ∙ sym (tags-told trace top_start gathered.done));
      delimiters = groups-all 1 delimiter (omega arith) gathered.delimiters;
      flags =
          groups-all 2 flag (omega arith)
          (ap (column rows 2) (sym levels_same) ∙ gathered.flags ∙ ap (map flag_of) starts-same ∙ flags-told trace gathered.done);
    }

    pub gathered-in : counted counts_member trace ≤ length members → counted counts_required trace ≤ length required → GatheredIn trace members required rows so_far
    gathered-in for_members for_required = record {
      some_levels = some_levels;
      few_levels = omega (arith, levels_all, gathered.all);
      members_inside = omega (arith, gathered.members_left, for_members);
      required_inside = omega (arith, gathered.required_left, for_required);
      rows_inside = rows_inside;
      parts = gathered-all;
    }

-- the loop of `gather`: the next level is within
pub gathering_less : (trace members required rows : List ℕ) (so_far next : Gathering)
    → GatheredSoFar trace members required rows so_far
    → so_far.level < so_far.levels
    → next.level ≡ so_far.level + 1
    → level_count trace - next.level < level_count trace - so_far.level
gathering_less trace members required rows so_far next gathered more further =
    omega (arith, level-within trace members required rows so_far gathered more, further)

-- the room depends on the sizes only
pub same-room : (trace members required tags rows members' required' tags' rows' : List ℕ)
    → GatherRoom trace members required tags rows
    → length members' ≡ length members
    → length required' ≡ length required
    → length tags' ≡ length tags
    → length rows' ≡ length rows
    → GatherRoom trace members' required' tags' rows'
same-room trace members required tags rows members' required' tags' rows' room one two three four = record {
  short = room.short;
  for_members = omega (arith, room.for_members, one);
  for_required = omega (arith, room.for_required, two);
  for_tags = omega (arith, room.for_tags, three);
  for_rows = omega (arith, room.for_rows, four);
  few = room.few;
}

-- ---- no more levels than groups are entered

-- groups and levels below them, counted either way
total-listed : (groups : List Group) → group_total groups ≡ size_listed one groups
unfolding group_total size_listed
total-listed [] = refl
total-listed (first ∷ rest) = omega (arith, levels_with first, total-listed rest)

module _ (trace : List ℕ) where
  -- putting groups in order adds none
  entry-total : (start : Start) → group_total (groups_of (entry (group_at trace start))) ≤ group_total (groups_told trace (own_at trace start.first).starts)
  entry-total start =
      let groups = groups_told trace (own_at trace start.first).starts in
      let same : groups_of (entry (group_at trace start)) ≡ listed (grouped (firsts_of (sorted_groups groups))) =
      entry-groups trace start
      ∙ sym (groups-in_order (group_at trace) (λ each. refl) (own_at trace start.first).starts)
      ∙ sym (listed-grouped (firsts_of (sorted_groups groups))) in
      omega (arith, ap group_total same, total-listed (listed (grouped (firsts_of (sorted_groups groups)))), finished_groups one groups, total-listed groups)

  total_none : (place : ℕ) (starts : List Start)
      → AllBehind place starts
      → length trace ≤ place
      → group_total (groups_told trace starts) ≤ length starts + weight_all counts_group trace starts
  unfolding AllBehind group_total
  total_none place [] behind enough = omega arith
  total_none place (start ∷ rest) behind enough =
      let own-none : own_at trace start.first ≡ nothing_own = own-past trace start.first (omega (arith, enough, behind.0)) in
      omega (
        arith,
        total_none place rest behind.1 enough,
        groups_with-total (group_at trace start),
        entry-total start,
        ap (λ (own : Own). group_total (groups_told trace own.starts)) own-none,
        weight_all-first counts_group trace start rest,
      )

  total_more : (turns : ℕ)
      → ((place : ℕ) (starts : List Start)
      → AllBehind place starts
      → length trace ≤ turns + place
      → group_total (groups_told trace starts) ≤ length starts + weight_all counts_group trace starts)
      → (place : ℕ) (starts : List Start)
      → AllBehind place starts
      → length trace ≤ suc turns + place
      → group_total (groups_told trace starts) ≤ length starts + weight_all counts_group trace starts
  unfolding AllBehind group_total
  total_more turns below place [] behind enough = omega arith
  total_more turns below place (start ∷ rest) behind enough =
      omega (
        arith,
        total_more turns below place rest behind.1 enough,
        groups_with-total (group_at trace start),
        entry-total start,
        below start.first (own_at trace start.first).starts (own_behind trace start.first) (omega (arith, enough, behind.0)),
        groups-weight trace start,
        weight_all-first counts_group trace start rest,
      )

  total-within : (turns place : ℕ) (starts : List Start)
      → AllBehind place starts
      → length trace ≤ turns + place
      → group_total (groups_told trace starts) ≤ length starts + weight_all counts_group trace starts
  total-within zero place starts behind enough = total_none place starts behind (omega (arith, enough))
  total-within (suc turns) place starts behind enough = total_more turns (total-within turns) place starts behind enough

  pub level_count-within : level_count trace ≤ 1 + counted counts_group trace
  level_count-within =
      omega (
        arith,
        group_total-first (group_at trace top_start) [],
        entry-total top_start,
        total-within (length trace) 0 (own_at trace 0).starts (own_behind trace 0) (omega arith),
        groups-weight trace top_start,
        weigh-all counts_group trace,
      )
