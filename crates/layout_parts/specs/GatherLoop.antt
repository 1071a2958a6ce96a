-- Gathering the parts of the layout that an accepted text tells, level by level: what `gather_level` and `gather_layout` ask and promise, and
-- the loop over the levels, which takes them in the order of `all_levels`. Assumes nothing.
--
--   LevelRoom ..                   there is room for the parts of a level
--   LevelPut ..                    the parts of the level whose lines begin at `first` were put behind those that were there
--   PartsHold levels groups ..     the rows hold the parts of these levels, and of the groups that stand in them
--   WaitingHold text starts place groups   from `place` on stands where the lines of the entry of each group begin
--   GatherSoFar ..                 the levels up to the entry of group `number - 1` were gathered
use Rattle.std.specs.Prelude.{◌≡◌, refl, ℕ, zero, suc, ◌+◌, ◌*◌, ◌-◌, ◌≤◌, ◌<◌, Bool, true, false, get_or, drop}
use Rattle.std.proofs.Math.Path.{sym, ap}
use Rattle.std.proofs.Common.{ap₂, ◌∙◌, take_at, length-take-le, get_or-take}
use mathlib.Core.List.{List, [], ◌∷◌, ◌++◌, map, append_assoc, append-nil}
use native.Mathlib.Omega.{arith}
use Rattle.std.proofs.Math.ListN.{length, take, length-append, length-map}
use Rattle.std.proofs.lemmas.List.Edits.{sets, sets-eq}
use Rattle.std.proofs.Math.Seq.{length-sets}
use Rattle.layouts.specs.Layout.{Level, Groups, Group, Layout, level_of_lem, no_groups, group_and, group_of_lem, listed, members_of, required_of, groups_of, count_tags_of, count_tag, delimiter, entry, level_order, all_groups, all_levels, all_members, all_required, joined}
use Rattle.layouts.specs.LayoutLaws.{group_total, group_total-first, groups_below-total, groups_with-total, length-level_order, map-append}
use Rattle.layouts.specs.LayoutWords.{flag}
use Rattle.layouts.specs.GatheredLayout.{column, ends_from, Gathered}
use Rattle.layouts.specs.GatheredLayoutLaws.{ends_from-more}
use Rattle.layout_text.specs.declared.level_line.LevelLine.{LevelLine}
use Rattle.layout_text.specs.declared.level_line.LevelLine.TheVariants.{EndLine}
use Rattle.layout_parts.specs.declared.layout_parts.Parts.{Parts}
use Rattle.layout_text.specs.LevelLines.{lines_at}
use Rattle.layout_text.specs.LayoutOfText.{layout_of, level_lines, block_lines}
use Rattle.layout_parts.specs.LayoutParts.{own_tags, behind_tags, BlockStart, blocks_in}
use Rattle.layout_parts.specs.LayoutPartsLaws.{Stops, starts_of, OwnParts, level-parts}
use Rattle.layout_parts.specs.PartsLoops.{StartsHold, GroupsPut, start_tag, start_delimiter, start_flag, columns_beside, column-first, column-second, column-third}

-- the blocks of a level whose lines these are
abbrev pub own_blocks : List LevelLine → List BlockStart
own_blocks lines = blocks_in 0 (behind_tags true (behind_tags false lines))

abbrev pub own_required : List LevelLine → List ℕ
own_required lines = own_tags true (behind_tags false lines)

pub record LevelRoom (text : List ℕ) (first level : ℕ) (members required rows starts : List ℕ) (parts : Parts) : Type 0 where
  pub within : first ≤ length text
  pub member_room : parts.members + length (own_tags false (lines_at text first)) ≤ length members
  pub required_room : parts.required + length (own_required (lines_at text first)) ≤ length required
  pub start_room : parts.groups + length (own_blocks (lines_at text first)) ≤ length starts
  pub row_room : 6 * (parts.groups + length (own_blocks (lines_at text first))) + 6 ≤ length rows
  pub level_room : 6 * level + 6 ≤ length rows
  pub few_members : length members < 4294967296
  pub few_required : length required < 4294967296
  pub few_groups : length starts < 4294967296

pub record LevelPut (text : List ℕ) (first level : ℕ) (members required rows starts : List ℕ) (before : Parts)
    (new_members new_required new_rows new_starts : List ℕ) (after : Parts) : Type 0 where
  pub of_members : new_members ≡ sets members before.members (own_tags false (lines_at text first))
  pub many_members : after.members ≡ before.members + length (own_tags false (lines_at text first))
  pub of_required : new_required ≡ sets required before.required (own_required (lines_at text first))
  pub many_required : after.required ≡ before.required + length (own_required (lines_at text first))
  pub between : List ℕ
  pub put : GroupsPut text rows starts before.groups (own_blocks (lines_at text first)) between new_starts after.groups
  pub ends : new_rows ≡ sets between (6 * level + 3) (after.members ∷ after.required ∷ after.groups ∷ [])

-- ---- lists

sets_taken : (list : List ℕ) (at : ℕ) (words : List ℕ) → at + length words ≤ length list → take (at + length words) (sets list at words) ≡ take at list ++ words
sets_taken list at words room =
    let size : length (take at list ++ words) ≡ at + length words = omega (arith, length-append (take at list) words, length-take-le at list (omega arith)) in
    ap (take (at + length words)) (sets-eq words list at room) ∙ take_at (take at list ++ words) (drop (at + length words) list) (at + length words) size

joined-more : (lists : List (List ℕ)) (list : List ℕ) → joined (lists ++ (list ∷ [])) ≡ joined lists ++ list
unfolding joined
joined-more [] list = append-nil list
joined-more (first ∷ lists) list = ap (λ (rest : List ℕ). first ++ rest) (joined-more lists list) ∙ sym (append_assoc first (joined lists) list)

joined-levels : (read : Level → List ℕ) (levels : List Level) (level : Level) → joined (map read (levels ++ (level ∷ []))) ≡ joined (map read levels) ++ read level
joined-levels read levels level = ap joined (map-append read levels (level ∷ [])) ∙ joined-more (map read levels) (read level)

joined-append : (read : Level → List ℕ) (these those : List Level) → joined (map read (these ++ those)) ≡ joined (map read these) ++ joined (map read those)
unfolding joined
joined-append read [] those = refl
joined-append read (first ∷ these) those =
    ap (λ (rest : List ℕ). read first ++ rest) (joined-append read these those) ∙ sym (append_assoc (read first) (joined (map read these)) (joined (map read those)))

-- ---- the blocks of a level's groups

starts-tags : (groups : Groups) (rest : List LevelLine) → map start_tag (starts_of groups rest) ≡ map count_tag (listed groups)
unfolding starts_of
starts-tags no_groups rest = refl
starts-tags (group_and (group_of_lem count first needed inner) others) rest = ap {B = List ℕ} (λ tags. count ∷ tags) (starts-tags others rest)

starts-delimiters : (groups : Groups) (rest : List LevelLine) → map start_delimiter (starts_of groups rest) ≡ map delimiter (listed groups)
unfolding starts_of
starts-delimiters no_groups rest = refl
starts-delimiters (group_and (group_of_lem count first needed inner) others) rest = ap {B = List ℕ} (λ tags. first ∷ tags) (starts-delimiters others rest)

starts-flags : (groups : Groups) (rest : List LevelLine) → map start_flag (starts_of groups rest) ≡ map flag (listed groups)
unfolding starts_of
starts-flags no_groups rest = refl
starts-flags (group_and (group_of_lem count first needed inner) others) rest = ap {B = List ℕ} (λ flags. flag (group_of_lem count first needed inner) ∷ flags) (starts-flags others rest)

-- the lines of a group's entry begin at `first`
pub record WaitsAt (text : List ℕ) (first : ℕ) (group : Group) : Type 0 where
  pub behind : List LevelLine
  pub lines : lines_at text first ≡ level_lines (entry group) (EndLine ∷ behind)
  pub within : first ≤ length text

unfoldable pub WaitingHold : List ℕ → List ℕ → ℕ → List Group → Type 0
WaitingHold text starts place [] = Unit
WaitingHold text starts place (first ∷ others) = WaitsAt text (get_or starts place 0) first × WaitingHold text starts (place + 1) others

starts-waiting : (text starts : List ℕ) (place : ℕ) (groups : Groups) (rest : List LevelLine) → StartsHold text starts place (starts_of groups rest) → WaitingHold text starts place (listed groups)
unfolding starts_of StartsHold WaitingHold
starts-waiting text starts place no_groups rest hold = tt
starts-waiting text starts place (group_and (group_of_lem count first needed inner) others) rest hold =
    (record { behind = block_lines others rest; lines = hold.0; within = hold.1 }, starts-waiting text starts (place + 1) others rest hold.2)

waiting-append : (text starts : List ℕ) (place next : ℕ) (these those : List Group) → next ≡ place + length these → WaitingHold text starts place these → WaitingHold text starts next those
    → WaitingHold text starts place (these ++ those)
unfolding WaitingHold
waiting-append text starts place next [] those reach hold more = let same : next ≡ place = omega arith in rw same at more
waiting-append text starts place next (first ∷ these) those reach hold more = (hold.0, waiting-append text starts (place + 1) next these those (omega arith) hold.1 more)

-- starts before `groups` stay
waiting_kept : (text starts new_starts : List ℕ) (groups place : ℕ) (waiting : List Group) → take groups new_starts ≡ take groups starts → place + length waiting ≤ groups
    → WaitingHold text starts place waiting → WaitingHold text new_starts place waiting
unfolding WaitingHold
waiting_kept text starts new_starts groups place [] kept within hold = tt
waiting_kept text starts new_starts groups place (first ∷ waiting) kept within hold =
    let same : get_or starts place 0 ≡ get_or new_starts place 0 =
    sym (get_or-take groups starts place 0 (omega arith)) ∙ ap (λ (list : List ℕ). get_or list place 0) (sym kept) ∙ get_or-take groups new_starts place 0 (omega arith) in
    (rw same at hold.0, waiting_kept text starts new_starts groups (place + 1) waiting kept (omega arith) hold.1)

-- ---- PartsHold

pub record PartsHold (levels : List Level) (groups : List Group) (members required rows : List ℕ) (parts : Parts) : Type 0 where
  pub members_in : parts.members ≤ length members
  pub members_held : take parts.members members ≡ joined (map members_of levels)
  pub required_in : parts.required ≤ length required
  pub required_held : take parts.required required ≡ joined (map required_of levels)
  pub group_count : parts.groups ≡ length groups
  pub tag_count : length (joined (map count_tags_of levels)) ≡ length groups
  pub member_ends : column rows 3 (length levels) ≡ ends_from 0 (map members_of levels)
  pub required_ends : column rows 4 (length levels) ≡ ends_from 0 (map required_of levels)
  pub group_ends : column rows 5 (length levels) ≡ ends_from 0 (map count_tags_of levels)
  pub count_tags : column rows 6 parts.groups ≡ map count_tag groups
  pub delimiters : column rows 7 parts.groups ≡ map delimiter groups
  pub flags : column rows 8 parts.groups ≡ map flag groups

pub nothing-held : (members required rows : List ℕ) (parts : Parts) → parts.members ≡ 0 → parts.required ≡ 0 → parts.groups ≡ 0 → PartsHold [] [] members required rows parts
unfolding joined column ends_from
nothing-held members required rows parts no-members no-required none = record {
  members_in = omega arith;
  members_held = rw no-members;
  required_in = omega arith;
  required_held = rw no-required;
  group_count = none;
  tag_count = refl;
  member_ends = refl;
  required_ends = refl;
  group_ends = refl;
  count_tags = rw none;
  delimiters = rw none;
  flags = rw none;
}

module _ (levels : List Level) (pushed : List Group) (members required rows starts : List ℕ) (before : Parts) (hold : PartsHold levels pushed members required rows before) where
  members-count : before.members ≡ length (joined (map members_of levels))
  members-count = sym (length-take-le before.members members hold.members_in) ∙ ap length hold.members_held

  required_count_lem : before.required ≡ length (joined (map required_of levels))
  required_count_lem = sym (length-take-le before.required required hold.required_in) ∙ ap length hold.required_held

  -- a level more
  module _ (text : List ℕ) (first level : ℕ) (number : level ≡ length levels) (room : LevelRoom text first level members required rows starts before)
      (new_members new_required new_rows new_starts : List ℕ) (after : Parts)
      (done : LevelPut text first level members required rows starts before new_members new_required new_rows new_starts after)
      (own_members needed : List ℕ) (groups : Groups) (rest : List LevelLine)
      (own : OwnParts (lines_at text first) own_members needed (starts_of groups rest)) where
    one : Level
    one = level_of_lem own_members needed groups

    at-end : after.groups ≡ length pushed + length (listed groups)
    at-end =
        omega (
          arith,
          done.put.counted,
          hold.group_count,
          ap length own.own_blocks,
          ap length (starts-tags groups rest),
          length-map (starts_of groups rest) start_tag,
          length-map (listed groups) count_tag,
        )

    here : 6 * level + 3 ≡ 3 + 6 * length levels
    here = omega (arith, number)

    end-room : 6 * level + 3 + 2 < length done.between
    end-room = omega (arith, done.put.row_room, room.level_room)

    row-column : (field : ℕ) → ((count : ℕ) → (number : ℕ) → number < count → field + 6 * number ≡ 6 * level + 3 → ⊥)
        → ((count : ℕ) → (number : ℕ) → number < count → field + 6 * number ≡ 6 * level + 3 + 1 → ⊥)
        → ((count : ℕ) → (number : ℕ) → number < count → field + 6 * number ≡ 6 * level + 3 + 2 → ⊥)
        → column new_rows field after.groups ≡ column done.between field after.groups
    row-column field first second third =
        ap (λ (list : List ℕ). column list field after.groups) done.ends
        ∙ columns_beside done.between (6 * level + 3) after.members after.required after.groups field after.groups
        (first after.groups)
        (second after.groups)
        (third after.groups)

    pushed-column : (field : ℕ) (read : Group → ℕ) (start : BlockStart → ℕ)
        → column new_rows field after.groups ≡ column done.between field after.groups
        → column done.between field after.groups ≡ column rows field before.groups ++ map start (own_blocks (lines_at text first))
        → column rows field before.groups ≡ map read pushed
        → map start (starts_of groups rest) ≡ map read (listed groups)
        → column new_rows field after.groups ≡ map read (pushed ++ listed groups)
    pushed-column field read start beside put were same =
        beside
        ∙ put
        ∙ ap (λ (list : List ℕ). list ++ map start (own_blocks (lines_at text first))) were
        ∙ ap (λ (blocks : List BlockStart). map read pushed ++ map start blocks) own.own_blocks
        ∙ ap (λ (list : List ℕ). map read pushed ++ list) same
        ∙ sym (map-append read pushed (listed groups))

    size : length (levels ++ (one ∷ [])) ≡ length levels + 1
    size = length-append levels (one ∷ [])

    ends_more : (field : ℕ) (read : Level → List ℕ) (end : ℕ) → end ≡ 0 + length (joined (map read levels)) + length (read one)
        → column new_rows field (length levels + 1) ≡ ends_from 0 (map read levels) ++ (end ∷ [])
        → column new_rows field (length (levels ++ (one ∷ []))) ≡ ends_from 0 (map read (levels ++ (one ∷ [])))
    ends_more field read end is column-is =
        ap (column new_rows field) size
        ∙ column-is
        ∙ ap (λ (last : ℕ). ends_from 0 (map read levels) ++ (last ∷ [])) is
        ∙ sym (ends_from-more 0 (map read levels) (read one))
        ∙ ap (ends_from 0) (sym (map-append read levels (one ∷ [])))

    member-room : before.members + length own_members ≤ length members
    member-room = omega (arith, room.member_room, ap length own.own_members)

    required-room : before.required + length needed ≤ length required
    required-room = omega (arith, room.required_room, ap length own.own_required)

    after-members : after.members ≡ before.members + length own_members
    after-members = omega (arith, done.many_members, ap length own.own_members)

    after-required : after.required ≡ before.required + length needed
    after-required = omega (arith, done.many_required, ap length own.own_required)

    new-members : new_members ≡ sets members before.members own_members
    new-members = done.of_members ∙ ap (sets members before.members) own.own_members

    new-required : new_required ≡ sets required before.required needed
    new-required = done.of_required ∙ ap (sets required before.required) own.own_required

    same-members : length new_members ≡ length members
    same-members = ap length new-members ∙ length-sets members before.members own_members

    same-required : length new_required ≡ length required
    same-required = ap length new-required ∙ length-sets required before.required needed

    same_rows : length new_rows ≡ length rows
    same_rows = ap length done.ends ∙ length-sets done.between (6 * level + 3) (after.members ∷ after.required ∷ after.groups ∷ []) ∙ done.put.row_room

    pub level-held : PartsHold (levels ++ (level_of_lem own_members needed groups ∷ [])) (pushed ++ listed groups) new_members new_required new_rows after
    unfolding one
    level-held = record {
      members_in = omega (arith, same-members, after-members, member-room);
      members_held =
          ap (λ (count : ℕ). take count new_members) after-members
          ∙ ap (take (before.members + length own_members)) new-members
          ∙ sets_taken members before.members own_members member-room
          ∙ ap (λ (list : List ℕ). list ++ own_members) hold.members_held
          ∙ sym (joined-levels members_of levels one);
      required_in = omega (arith, same-required, after-required, required-room);
      required_held =
          ap (λ (count : ℕ). take count new_required) after-required
          ∙ ap (take (before.required + length needed)) new-required
          ∙ sets_taken required before.required needed required-room
          ∙ ap (λ (list : List ℕ). list ++ needed) hold.required_held
          ∙ sym (joined-levels required_of levels one);
      group_count = omega (arith, at-end, length-append pushed (listed groups));
      tag_count =
          omega (
            arith,
            ap length (joined-levels count_tags_of levels one),
            length-append (joined (map count_tags_of levels)) (count_tags_of one),
            hold.tag_count,
            length-map (listed groups) count_tag,
            length-append pushed (listed groups),
          );
      member_ends =
          ends_more 3 members_of after.members (omega (arith, after-members, members-count))
          (ap (λ (list : List ℕ). column list 3 (length levels + 1)) done.ends
          ∙ column-first done.between (6 * level + 3) after.members after.required after.groups 3 (length levels) here end-room
          ∙ ap (λ (list : List ℕ). list ++ (after.members ∷ [])) (done.put.member_ends (length levels) ∙ hold.member_ends));
      required_ends =
          ends_more 4 required_of after.required (omega (arith, after-required, required_count_lem))
          (ap (λ (list : List ℕ). column list 4 (length levels + 1)) done.ends
          ∙ column-second done.between (6 * level + 3) after.members after.required after.groups 3 (length levels) here end-room
          ∙ ap (λ (list : List ℕ). list ++ (after.required ∷ [])) (done.put.required_ends (length levels) ∙ hold.required_ends));
      group_ends =
          ends_more 5 count_tags_of after.groups (omega (arith, at-end, hold.tag_count, length-map (listed groups) count_tag))
          (ap (λ (list : List ℕ). column list 5 (length levels + 1)) done.ends
          ∙ column-third done.between (6 * level + 3) after.members after.required after.groups 3 (length levels) here end-room
          ∙ ap (λ (list : List ℕ). list ++ (after.groups ∷ [])) (done.put.group_ends (length levels) ∙ hold.group_ends));
      count_tags =
          pushed-column 6 count_tag start_tag
          (row-column 6
          (λ (count number : ℕ) (below : number < count) (same : 6 + 6 * number ≡ 6 * level + 3). omega arith)
          (λ (count number : ℕ) (below : number < count) (same : 6 + 6 * number ≡ 6 * level + 3 + 1). omega arith)
          (λ (count number : ℕ) (below : number < count) (same : 6 + 6 * number ≡ 6 * level + 3 + 2). omega arith))
          done.put.count_tags
          hold.count_tags
          (starts-tags groups rest);
      delimiters =
          pushed-column 7 delimiter start_delimiter
          (row-column 7
          (λ (count number : ℕ) (below : number < count) (same : 7 + 6 * number ≡ 6 * level + 3). omega arith)
          (λ (count number : ℕ) (below : number < count) (same : 7 + 6 * number ≡ 6 * level + 3 + 1). omega arith)
          (λ (count number : ℕ) (below : number < count) (same : 7 + 6 * number ≡ 6 * level + 3 + 2). omega arith))
          done.put.delimiters
          hold.delimiters
          (starts-delimiters groups rest);
      flags =
          pushed-column 8 flag start_flag
          (row-column 8
          (λ (count number : ℕ) (below : number < count) (same : 8 + 6 * number ≡ 6 * level + 3). omega arith)
          (λ (count number : ℕ) (below : number < count) (same : 8 + 6 * number ≡ 6 * level + 3 + 1). omega arith)
          (λ (count number : ℕ) (below : number < count) (same : 8 + 6 * number ≡ 6 * level + 3 + 2). omega arith))
          done.put.flags
          hold.flags
          (starts-flags groups rest);
    }

    pub level-waiting : WaitingHold text new_starts before.groups (listed groups)
    level-waiting = starts-waiting text new_starts before.groups groups rest (rw own.own_blocks at done.put.starts_hold)

    pub level-sizes : (length new_members ≡ length members) × (length new_required ≡ length required) × (length new_rows ≡ length rows) × (length new_starts ≡ length starts)
    level-sizes = (same-members, same-required, same_rows, done.put.start_room)

-- ---- the parts of a level, call by call

-- there is room for what the second and the third call put, and for the ends
module _ (text : List ℕ) (first level : ℕ) (members required rows starts : List ℕ) (parts : Parts) (room : LevelRoom text first level members required rows starts parts) where
  module _ (member_next : ℕ) (of-members : (member_next ≤ length text) × (lines_at text member_next ≡ behind_tags false (lines_at text first))) where
    pub next-required_room : (member_next ≤ length text) × (parts.required + length (own_tags true (lines_at text member_next)) ≤ length required)
    next-required_room = (of-members.0, omega (arith, room.required_room, ap (λ (lines : List LevelLine). length (own_tags true lines)) of-members.1))

    module _ (required_next : ℕ) (of-required : (required_next ≤ length text) × (lines_at text required_next ≡ behind_tags true (lines_at text member_next))) where
      own-blocks : length (blocks_in 0 (lines_at text required_next)) ≡ length (own_blocks (lines_at text first))
      own-blocks = ap (λ (lines : List LevelLine). length (blocks_in 0 lines)) (of-required.1 ∙ ap (behind_tags true) of-members.1)

      pub next-group_room : (required_next ≤ length text) × (parts.groups + length (blocks_in 0 (lines_at text required_next)) ≤ length starts)
          × (6 * (parts.groups + length (blocks_in 0 (lines_at text required_next))) + 6 ≤ length rows)
      next-group_room = (of-required.0, omega (arith, room.start_room, own-blocks), omega (arith, room.row_room, own-blocks))

      module _ (member_count required_count : ℕ) (many-members : member_count ≡ parts.members + length (own_tags false (lines_at text first)))
          (many-required : required_count ≡ parts.required + length (own_tags true (lines_at text member_next)))
          (between new_starts : List ℕ) (group_count : ℕ) (put : GroupsPut text rows starts parts.groups (blocks_in 0 (lines_at text required_next)) between new_starts group_count) where
        pub ends-room : (6 * level + 6 ≤ length between) × (member_count < 4294967296) × (required_count < 4294967296) × (group_count < 4294967296)
        ends-room = (
          omega (arith, room.level_room, put.row_room),
          omega (arith, many-members, room.member_room, room.few_members),
          omega (arith, many-required, next-required_room.1, room.few_required),
          omega (arith, put.counted, next-group_room.1, room.few_groups),
        )

pub level-put : (text : List ℕ) (first level : ℕ) (members required rows starts : List ℕ) (before : Parts) (new_members new_required between new_rows new_starts : List ℕ) (member_count member_next required_count required_next group_count : ℕ)
    → new_members ≡ sets members before.members (own_tags false (lines_at text first))
    → member_count ≡ before.members + length (own_tags false (lines_at text first))
    → lines_at text member_next ≡ behind_tags false (lines_at text first)
    → new_required ≡ sets required before.required (own_tags true (lines_at text member_next))
    → required_count ≡ before.required + length (own_tags true (lines_at text member_next))
    → lines_at text required_next ≡ behind_tags true (lines_at text member_next)
    → GroupsPut text rows starts before.groups (blocks_in 0 (lines_at text required_next)) between new_starts group_count
    → new_rows ≡ sets between (6 * level + 3) (member_count ∷ required_count ∷ group_count ∷ [])
    → LevelPut text first level members required rows starts before new_members new_required new_rows new_starts (record { members = member_count; required = required_count; groups = group_count })
level-put text first level members required rows starts before new_members new_required between new_rows new_starts member_count member_next required_count required_next group_count
    of-members many-members behind-members of-required many-required behind-required put ends =
    let behind : lines_at text required_next ≡ behind_tags true (behind_tags false (lines_at text first)) = behind-required ∙ ap (behind_tags true) behind-members in
    record {
      of_members = of-members;
      many_members = many-members;
      of_required = of-required ∙ ap (λ (lines : List LevelLine). sets required before.required (own_tags true lines)) behind-members;
      many_required = many-required ∙ ap (λ (lines : List LevelLine). before.required + length (own_tags true lines)) behind-members;
      between = between;
      put = rw behind at put;
      ends = ends;
    }

-- ---- the loop over the levels

-- what `gather_layout` asks
pub record GatherRoom (text members required rows starts : List ℕ) : Type 0 where
  pub told : level_lines (layout_of text) [] ≡ lines_at text 0
  pub member_room : length (all_members (layout_of text)) ≤ length members
  pub required_room : length (all_required (layout_of text)) ≤ length required
  pub start_room : length (all_groups (layout_of text)) ≤ length starts
  pub row_room : 6 * length (all_groups (layout_of text)) + 6 ≤ length rows
  pub few_members : length members < 4294967296
  pub few_required : length required < 4294967296
  pub few_groups : length starts < 4294967296

-- what it promises: the first words of the rows are the parts of the layout
pub record GatheredIn (text members required rows : List ℕ) (parts : Parts) : Type 0 where
  pub members_in : parts.members ≤ length members
  pub required_in : parts.required ≤ length required
  pub rows_in : 6 * (parts.groups + 1) ≤ length rows
  pub gathered : Gathered (layout_of text) parts.groups (take (parts.members - 0) members) (take (parts.required - 0) required) (take (6 * (parts.groups + 1) - 0) rows)

pub record GatherSoFar (text members required rows starts : List ℕ) (number : ℕ) (parts : Parts) : Type 0 where
  pub room : GatherRoom text members required rows starts
  pub done : List Group
  pub waiting : List Group
  pub order : all_groups (layout_of text) ≡ done ++ level_order (group_total waiting) waiting
  pub here : number ≡ length done
  pub hold : PartsHold (layout_of text ∷ map entry done) (done ++ waiting) members required rows parts
  pub starting : WaitingHold text starts number waiting

-- the room stays
room-kept : (text members required rows starts new_members new_required new_rows new_starts : List ℕ) → GatherRoom text members required rows starts
    → length new_members ≡ length members → length new_required ≡ length required → length new_rows ≡ length rows → length new_starts ≡ length starts
    → GatherRoom text new_members new_required new_rows new_starts
room-kept text members required rows starts new_members new_required new_rows new_starts room of-members of-required of-rows of-starts = record {
  told = room.told;
  member_room = omega (arith, room.member_room, of-members);
  required_room = omega (arith, room.required_room, of-required);
  start_room = omega (arith, room.start_room, of-starts);
  row_room = omega (arith, room.row_room, of-rows);
  few_members = omega (arith, room.few_members, of-members);
  few_required = omega (arith, room.few_required, of-required);
  few_groups = omega (arith, room.few_groups, of-starts);
}

-- groups that wait are among those that are counted
waiting_few : (waiting : List Group) → length waiting ≤ group_total waiting
unfolding group_total
waiting_few [] = omega arith
waiting_few (first ∷ waiting) = omega (arith, groups_with-total first, waiting_few waiting)

-- there is room for the level that comes next: it and the groups in it are among those that the room was made for
module _ (text members required rows starts : List ℕ) (room : GatherRoom text members required rows starts) (parts : Parts)
    (levels : List Level) (pushed : List Group) (hold : PartsHold levels pushed members required rows parts)
    (own_members needed : List ℕ) (groups : Groups) (later : List Level) (all : all_levels (layout_of text) ≡ (levels ++ (level_of_lem own_members needed groups ∷ [])) ++ later)
    (few : length pushed + length (listed groups) ≤ length (all_groups (layout_of text)))
    (first : ℕ) (rest : List LevelLine) (within : first ≤ length text) (stops : Stops rest) (lines : lines_at text first ≡ level_lines (level_of_lem own_members needed groups) rest)
    (level : ℕ) (number : level ≡ length levels) where
  pub own-parts : OwnParts (lines_at text first) own_members needed (starts_of groups rest)
  own-parts = level-parts own_members needed groups rest (lines_at text first) stops lines

  total_of : (read : Level → List ℕ) → length (joined (map read (all_levels (layout_of text)))) ≡ length (joined (map read levels)) + length (read (level_of_lem own_members needed groups)) + length (joined (map read later))
  total_of read =
      omega (
        arith,
        ap (λ (list : List Level). length (joined (map read list))) all,
        ap length (joined-append read (levels ++ (level_of_lem own_members needed groups ∷ [])) later),
        length-append (joined (map read (levels ++ (level_of_lem own_members needed groups ∷ [])))) (joined (map read later)),
        ap length (joined-levels read levels (level_of_lem own_members needed groups)),
        length-append (joined (map read levels)) (read (level_of_lem own_members needed groups)),
      )

  blocks-count : length (own_blocks (lines_at text first)) ≡ length (listed groups)
  blocks-count =
      omega
      (arith, ap length own-parts.own_blocks, ap length (starts-tags groups rest), length-map (starts_of groups rest) start_tag, length-map (listed groups) count_tag)

  levels_few : length levels + 1 ≤ length (all_groups (layout_of text)) + 1
  levels_few =
      omega (
        arith,
        ap length all,
        length-append (levels ++ (level_of_lem own_members needed groups ∷ [])) later,
        length-append levels (level_of_lem own_members needed groups ∷ []),
        length-map (all_groups (layout_of text)) entry,
      )

  pub level-room : LevelRoom text first level members required rows starts parts
  level-room = record {
    within = within;
    member_room = omega (arith, room.member_room, total_of members_of, members-count levels pushed members required rows starts parts hold, ap length own-parts.own_members);
    required_room = omega (arith, room.required_room, total_of required_of, required_count_lem levels pushed members required rows starts parts hold, ap length own-parts.own_required);
    start_room = omega (arith, room.start_room, few, hold.group_count, blocks-count);
    row_room = omega (arith, room.row_room, few, hold.group_count, blocks-count);
    level_room = omega (arith, room.row_room, levels_few, number);
    few_members = room.few_members;
    few_required = room.few_required;
    few_groups = room.few_groups;
  }

-- ---- the top

top-order : (layout : Layout) → all_groups layout ≡ level_order (group_total (groups_of layout)) (groups_of layout)
unfolding all_groups
top-order layout = ap (λ (count : ℕ). level_order count (groups_of layout)) (groups_below-total layout)

order-count : (waiting : List Group) → length (level_order (group_total waiting) waiting) ≡ group_total waiting
order-count waiting = length-level_order (group_total waiting) waiting refl

module _ (text members required rows starts : List ℕ) (room : GatherRoom text members required rows starts) (parts : Parts)
    (no-members : parts.members ≡ 0) (no-required : parts.required ≡ 0) (none : parts.groups ≡ 0) where
  top-few : length (groups_of (layout_of text)) ≤ length (all_groups (layout_of text))
  top-few = omega (arith, ap length (top-order (layout_of text)), order-count (groups_of (layout_of text)), waiting_few (groups_of (layout_of text)))

  start : PartsHold [] [] members required rows parts
  start = nothing-held members required rows parts no-members no-required none

  top-by : (layout : Layout) → layout_of text ≡ layout → LevelRoom text 0 0 members required rows starts parts
  top-by (level_of_lem own_members needed groups) is =
      level-room text members required rows starts room parts [] [] start own_members needed groups (map entry (all_groups (layout_of text)))
      (ap {B = List Level} (λ (level : Level). level ∷ map entry (all_groups (layout_of text))) is)
      (omega (arith, top-few, ap (λ (level : Level). length (groups_of level)) is))
      0 [] (omega arith) tt (sym room.told ∙ ap (λ (level : Level). level_lines level []) is) 0 refl

  pub top-room : LevelRoom text 0 0 members required rows starts parts
  top-room = top-by (layout_of text) refl

  module _ (new_members new_required new_rows new_starts : List ℕ) (after : Parts) (put : LevelPut text 0 0 members required rows starts parts new_members new_required new_rows new_starts after) where
    gathered-top : (layout : Layout) → layout_of text ≡ layout → GatherSoFar text new_members new_required new_rows new_starts 0 after
    gathered-top (level_of_lem own_members needed groups) is =
        let lines : lines_at text 0 ≡ level_lines (level_of_lem own_members needed groups) [] = sym room.told ∙ ap (λ (level : Level). level_lines level []) is in
        let own = level-parts own_members needed groups [] (lines_at text 0) tt lines in
        let sizes = level-sizes [] [] members required rows starts parts start text 0 0 refl top-room new_members new_required new_rows new_starts after put own_members needed groups [] own in
        record {
          room = room-kept text members required rows starts new_members new_required new_rows new_starts room sizes.0 sizes.1 sizes.2 sizes.3;
          done = [];
          waiting = listed groups;
          order = top-order (layout_of text) ∙ ap (λ (level : Level). level_order (group_total (groups_of level)) (groups_of level)) is;
          here = refl;
          hold = rw is (level-held [] [] members required rows starts parts start text 0 0 refl top-room new_members new_required new_rows new_starts after put own_members needed groups [] own);
          starting = rw none at (level-waiting [] [] members required rows starts parts start text 0 0 refl top-room new_members new_required new_rows new_starts after put own_members needed groups [] own);
        }

    pub gather_begins : GatherSoFar text new_members new_required new_rows new_starts 0 after
    gather_begins = gathered-top (layout_of text) refl

-- ---- the levels behind it

order-next : (first : Group) (waiting : List Group) → level_order (group_total (first ∷ waiting)) (first ∷ waiting) ≡ first ∷ level_order (group_total (waiting ++ groups_of (entry first))) (waiting ++ groups_of (entry first))
unfolding level_order
order-next first waiting = rw (group_total-first first waiting)

-- the first of the groups that wait
record NextWaiting (text starts : List ℕ) (number : ℕ) (waiting : List Group) : Type 0 where
  count : ℕ
  first : ℕ
  needed : Bool
  own_members : List ℕ
  own_needed : List ℕ
  groups : Groups
  others : List Group
  is : waiting ≡ group_of_lem count first needed (level_of_lem own_members own_needed groups) ∷ others
  behind : List LevelLine
  lines : lines_at text (get_or starts number 0) ≡ level_lines (level_of_lem own_members own_needed groups) (EndLine ∷ behind)
  within : get_or starts number 0 ≤ length text
  later : WaitingHold text starts (number + 1) others

next-waiting : (text starts : List ℕ) (number : ℕ) (waiting : List Group) → 0 < length waiting → WaitingHold text starts number waiting → NextWaiting text starts number waiting
unfolding WaitingHold
next-waiting text starts number [] some hold = absurd (omega arith)
next-waiting text starts number (group_of_lem count first needed (level_of_lem own_members own_needed groups) ∷ others) some hold = record {
  count = count;
  first = first;
  needed = needed;
  own_members = own_members;
  own_needed = own_needed;
  groups = groups;
  others = others;
  is = refl;
  behind = hold.0.behind;
  lines = hold.0.lines;
  within = hold.0.within;
  later = hold.1;
}

-- a column of the first words of the rows
column-taken : (rows : List ℕ) (many field count : ℕ) → field + 6 * count ≤ many + 5 → column (take many rows) field count ≡ column rows field count
unfolding column
column-taken rows many field zero within = refl
column-taken rows many field (suc count) within =
    ap₂ {C = List ℕ} (λ (first : ℕ) (rest : List ℕ). first ∷ rest) (get_or-take many rows field 0 (omega arith)) (column-taken rows many (field + 6) count (omega arith))

none_left : (waiting : List Group) → waiting ≡ [] → level_order (group_total waiting) waiting ≡ []
unfolding group_total level_order
none_left waiting none = rw none

module _ (text members required rows starts : List ℕ) (number : ℕ) (parts : Parts) (so_far : GatherSoFar text members required rows starts number parts) where
  pushed-count : parts.groups ≡ number + length so_far.waiting
  pushed-count = omega (arith, so_far.hold.group_count, length-append so_far.done so_far.waiting, so_far.here)

  -- all groups were gathered
  module _ (over : parts.groups ≤ number) where
    none-waiting : so_far.waiting ≡ []
    none-waiting = by so_far.waiting (omega (arith, pushed-count))
      where
        by : (waiting : List Group) → length waiting ≡ 0 → waiting ≡ []
        by [] none = refl
        by (first ∷ waiting) none = absurd (omega arith)

    all_done : all_groups (layout_of text) ≡ so_far.done
    all_done = so_far.order ∙ ap (λ (list : List Group). so_far.done ++ list) (none_left so_far.waiting none-waiting) ∙ append-nil so_far.done

    all-pushed : so_far.done ++ so_far.waiting ≡ all_groups (layout_of text)
    all-pushed = ap (λ (list : List Group). so_far.done ++ list) none-waiting ∙ append-nil so_far.done ∙ sym all_done

    all-levels : layout_of text ∷ map entry so_far.done ≡ all_levels (layout_of text)
    all-levels = ap {B = List Level} (λ (list : List Group). layout_of text ∷ map entry list) (sym all_done)

    group-count : parts.groups ≡ length (all_groups (layout_of text))
    group-count = so_far.hold.group_count ∙ ap length all-pushed

    level-count : length (layout_of text ∷ map entry so_far.done) ≡ parts.groups + 1
    level-count = omega (arith, group-count, ap length all_done, length-map so_far.done entry)

    room_of_rows : 6 * (parts.groups + 1) ≤ length rows
    room_of_rows = omega (arith, so_far.room.row_room, group-count)

    end-column : (field : ℕ) (read : Level → List ℕ) → field ≤ 5
        → column rows field (length (layout_of text ∷ map entry so_far.done)) ≡ ends_from 0 (map read (layout_of text ∷ map entry so_far.done))
        → column (take (6 * (parts.groups + 1) - 0) rows) field (parts.groups + 1) ≡ ends_from 0 (map read (all_levels (layout_of text)))
    end-column field read low ends =
        column-taken rows (6 * (parts.groups + 1) - 0) field (parts.groups + 1) (omega arith)
        ∙ ap (column rows field) (sym level-count)
        ∙ ends
        ∙ ap (λ (levels : List Level). ends_from 0 (map read levels)) all-levels

    group-column : (field : ℕ) (read : Group → ℕ) → field ≤ 8 → column rows field parts.groups ≡ map read (so_far.done ++ so_far.waiting)
        → column (take (6 * (parts.groups + 1) - 0) rows) field parts.groups ≡ map read (all_groups (layout_of text))
    group-column field read low is = column-taken rows (6 * (parts.groups + 1) - 0) field parts.groups (omega arith) ∙ is ∙ ap (map read) all-pushed

    pub gather_ends : GatheredIn text members required rows parts
    gather_ends =
        let all-members : parts.members - 0 ≡ parts.members = omega arith in
        let all-required : parts.required - 0 ≡ parts.required = omega arith in
        record {
          members_in = so_far.hold.members_in;
          required_in = so_far.hold.required_in;
          rows_in = room_of_rows;
          gathered = record {
            row_count = length-take-le (6 * (parts.groups + 1) - 0) rows (omega (arith, room_of_rows)) ∙ omega arith;
            has_groups = group-count;
            has_members = ap (λ (count : ℕ). take count members) all-members ∙ so_far.hold.members_held ∙ ap (λ (levels : List Level). joined (map members_of levels)) all-levels;
            has_required = ap (λ (count : ℕ). take count required) all-required ∙ so_far.hold.required_held ∙ ap (λ (levels : List Level). joined (map required_of levels)) all-levels;
            member_ends = end-column 3 members_of (omega arith) so_far.hold.member_ends;
            required_ends = end-column 4 required_of (omega arith) so_far.hold.required_ends;
            group_ends = end-column 5 count_tags_of (omega arith) so_far.hold.group_ends;
            count_tags = group-column 6 count_tag (omega arith) so_far.hold.count_tags;
            delimiters = group-column 7 delimiter (omega arith) so_far.hold.delimiters;
            flags = group-column 8 flag (omega arith) so_far.hold.flags;
          };
        }

  module _ (more : number < parts.groups) where
    next_one : NextWaiting text starts number so_far.waiting
    next_one = next-waiting text starts number so_far.waiting (omega (arith, pushed-count)) so_far.starting

    pub start-inside : number < length starts
    start-inside =
        omega (
          arith,
          pushed-count,
          so_far.room.start_room,
          ap length so_far.order,
          length-append so_far.done (level_order (group_total so_far.waiting) so_far.waiting),
          order-count so_far.waiting,
          waiting_few so_far.waiting,
          so_far.here,
        )

    -- it is one of the groups of the layout
    pub number_inside : number < length (all_groups (layout_of text))
    number_inside =
        omega (
          arith,
          pushed-count,
          ap length so_far.order,
          length-append so_far.done (level_order (group_total so_far.waiting) so_far.waiting),
          order-count so_far.waiting,
          waiting_few so_far.waiting,
          so_far.here,
        )

    one-level : Level
    one-level = level_of_lem next_one.own_members next_one.own_needed next_one.groups

    one_group : Group
    one_group = group_of_lem next_one.count next_one.first next_one.needed (level_of_lem next_one.own_members next_one.own_needed next_one.groups)

    waiting-then : List Group
    waiting-then = next_one.others ++ listed next_one.groups

    order-then : all_groups (layout_of text) ≡ (so_far.done ++ (one_group ∷ [])) ++ level_order (group_total waiting-then) waiting-then
    unfolding one_group waiting-then
    order-then =
        so_far.order
        ∙ ap (λ (list : List Group). so_far.done ++ level_order (group_total list) list) next_one.is
        ∙ ap (λ (list : List Group). so_far.done ++ list) (order-next one_group next_one.others)
        ∙ sym (append_assoc so_far.done (one_group ∷ []) (level_order (group_total waiting-then) waiting-then))

    levels_then : (layout_of text ∷ map entry so_far.done) ++ (one-level ∷ []) ≡ layout_of text ∷ map entry (so_far.done ++ (one_group ∷ []))
    unfolding one-level one_group
    levels_then = ap {B = List Level} (λ (levels : List Level). layout_of text ∷ levels) (sym (map-append entry so_far.done (one_group ∷ [])))

    all_then : all_levels (layout_of text) ≡ ((layout_of text ∷ map entry so_far.done) ++ (one-level ∷ [])) ++ map entry (level_order (group_total waiting-then) waiting-then)
    all_then =
        ap {B = List Level} (λ (list : List Group). layout_of text ∷ map entry list) order-then
        ∙ ap {B = List Level} (λ (levels : List Level). layout_of text ∷ levels) (map-append entry (so_far.done ++ (one_group ∷ [])) (level_order (group_total waiting-then) waiting-then))
        ∙ ap (λ (levels : List Level). levels ++ map entry (level_order (group_total waiting-then) waiting-then)) (sym levels_then)

    pushed_then : (so_far.done ++ so_far.waiting) ++ listed next_one.groups ≡ (so_far.done ++ (one_group ∷ [])) ++ waiting-then
    unfolding one_group waiting-then
    pushed_then =
        ap (λ (list : List Group). (so_far.done ++ list) ++ listed next_one.groups) next_one.is
        ∙ append_assoc so_far.done (one_group ∷ next_one.others) (listed next_one.groups)
        ∙ sym (append_assoc so_far.done (one_group ∷ []) (next_one.others ++ listed next_one.groups))

    few-then : length (so_far.done ++ so_far.waiting) + length (listed next_one.groups) ≤ length (all_groups (layout_of text))
    unfolding waiting-then
    few-then =
        omega (
          arith,
          ap length order-then,
          length-append (so_far.done ++ (one_group ∷ [])) (level_order (group_total waiting-then) waiting-then),
          length-append so_far.done (one_group ∷ []),
          order-count waiting-then,
          waiting_few waiting-then,
          length-append next_one.others (listed next_one.groups),
          length-append so_far.done so_far.waiting,
          ap length next_one.is,
        )

    level-number : number + 1 ≡ length (layout_of text ∷ map entry so_far.done)
    level-number = omega (arith, so_far.here, length-map so_far.done entry)

    module _ (first : ℕ) (at : first ≡ get_or starts number 0) where
      lines-there : lines_at text first ≡ level_lines one-level (EndLine ∷ next_one.behind)
      unfolding one-level
      lines-there = ap (lines_at text) at ∙ next_one.lines

      own : OwnParts (lines_at text first) next_one.own_members next_one.own_needed (starts_of next_one.groups (EndLine ∷ next_one.behind))
      unfolding one-level
      own = level-parts next_one.own_members next_one.own_needed next_one.groups (EndLine ∷ next_one.behind) (lines_at text first) tt lines-there

      pub next-room : LevelRoom text first (number + 1) members required rows starts parts
      unfolding one-level
      next-room =
          level-room
          text members required rows starts
          so_far.room
          parts
          (layout_of text ∷ map entry so_far.done)
          (so_far.done ++ so_far.waiting)
          so_far.hold
          next_one.own_members next_one.own_needed next_one.groups
          (map entry (level_order (group_total waiting-then) waiting-then))
          all_then
          few-then
          first
          (EndLine ∷ next_one.behind)
          (omega (arith, at, next_one.within))
          tt
          lines-there
          (number + 1)
          level-number

      module _ (new_members new_required new_rows new_starts : List ℕ) (after : Parts)
          (put : LevelPut text first (number + 1) members required rows starts parts new_members new_required new_rows new_starts after) where
        pub next-sizes : (length new_members ≡ length members) × (length new_required ≡ length required) × (length new_rows ≡ length rows) × (length new_starts ≡ length starts)
        next-sizes =
            level-sizes
            (layout_of text ∷ map entry so_far.done) (so_far.done ++ so_far.waiting) members required rows starts parts so_far.hold
            text first (number + 1) level-number next-room new_members new_required new_rows new_starts after put
            next_one.own_members next_one.own_needed next_one.groups (EndLine ∷ next_one.behind) own

        held : PartsHold ((layout_of text ∷ map entry so_far.done) ++ (one-level ∷ [])) ((so_far.done ++ so_far.waiting) ++ listed next_one.groups) new_members new_required new_rows after
        unfolding one-level
        held =
            level-held
            (layout_of text ∷ map entry so_far.done) (so_far.done ++ so_far.waiting) members required rows starts parts so_far.hold
            text first (number + 1) level-number next-room new_members new_required new_rows new_starts after put
            next_one.own_members next_one.own_needed next_one.groups (EndLine ∷ next_one.behind) own

        waits : WaitingHold text new_starts parts.groups (listed next_one.groups)
        waits =
            level-waiting
            (layout_of text ∷ map entry so_far.done) (so_far.done ++ so_far.waiting) members required rows starts parts so_far.hold
            text first (number + 1) level-number next-room new_members new_required new_rows new_starts after put
            next_one.own_members next_one.own_needed next_one.groups (EndLine ∷ next_one.behind) own

        starts-then : WaitingHold text new_starts (number + 1) waiting-then
        unfolding waiting-then
        starts-then =
            let count : parts.groups ≡ number + 1 + length next_one.others = omega (arith, pushed-count, ap length next_one.is) in
            waiting-append text new_starts (number + 1) parts.groups next_one.others (listed next_one.groups) count
            (waiting_kept text starts new_starts parts.groups (number + 1) next_one.others put.put.kept (omega (arith, count)) next_one.later)
            waits

        pub gather_goes_on : GatherSoFar text new_members new_required new_rows new_starts (number + 1) after
        gather_goes_on = record {
          room = room-kept text members required rows starts new_members new_required new_rows new_starts so_far.room next-sizes.0 next-sizes.1 next-sizes.2 next-sizes.3;
          done = so_far.done ++ (one_group ∷ []);
          waiting = waiting-then;
          order = order-then;
          here = omega (arith, so_far.here, length-append so_far.done (one_group ∷ []));
          hold = rw (levels_then, pushed_then) at held;
          starting = starts-then;
        }
