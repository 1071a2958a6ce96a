-- Reading of a group (document 01, 'The events of a walk'): which stretches of fields are a reading, and the events of a reading.
-- The walk is not mentioned; that it finds exactly the readings is `ReadingTheorem.antt`. Assumes nothing.
--
--   may_follow group around entries position        what may stand behind a reading of so many entries
--   Reading group depth around first past          the fields from `first` up to before `past` are a reading of the group
--   Entries group depth entries first past         .. are so many entries of the group
--   Items group depth seen first past              .. are fields of an entry behind its delimiter, the tags in `seen` standing before them
--   Item group depth first past                    .. are one field of an entry, or the nested reading that it begins
--   reading_events, entries_events, items_events, item_events    the events of each
--   item_count items                                how many fields they are, a nested reading counting as one
--
-- `around` tests the tags of the level around the group; `depth` is 0 for a top group.
-- Each index of a family is a variable and each condition an argument, so that a reading is a derivation and no more.
use Rattle.std.specs.Prelude.{◌≡◌, ◌≢◌, ℕ, suc, ◌≤◌, ◌<◌, Bool, true, false, not, ◌&&◌, ◌||◌, List, [], ◌∷◌, ◌++◌, Some, None}
use Rattle.ascii.specs.Notation.{◌<ᵇ◌, ◌≡ᵇ◌}
use Rattle.events.specs.declared.event.Kind.TheVariants.{Enter, Close, Leave}
use Rattle.events.specs.declared.event.Event.{Event}
use Rattle.ascii.specs.Membership.{◌∈ᵇ◌}
use Rattle.field_table.specs.WalkInput.{Input, count_at, event}

module _ (input : Input) where
  open input use {layout, fields, depth_limit}
  open layout use {Group, delimiter, is_member, nested_group}
  open fields use {field_count, tag_at}

  -- "Behind a reading stands the end of the table, a tag that isn't a member of the group, the delimiter's tag if the level around
  -- has it, or for n = 0 any tag of the level around."
  unfoldable pub may_follow : Group → (ℕ → Bool) → ℕ → ℕ → Bool
  may_follow group around entries position =
      not (position <ᵇ field_count)
      || not (is_member group (tag_at position))
      || tag_at position ≡ᵇ delimiter group && around (tag_at position)
      || entries ≡ᵇ 0 && around (tag_at position)

  mutual
    -- "A count field, any tag, whose value is one or more digits making n below 2^64. Then n entries"; "depth is 0 at the top and at most 32"
    pub data Reading : (group : Group) (depth : ℕ) (around : ℕ → Bool) (first past : ℕ) → Type 0 where
      reading : {group : Group} {depth : ℕ} {around : ℕ → Bool} {first past : ℕ} (entries : ℕ)
          → first < field_count
          → depth ≤ depth_limit
          → count_at fields first ≡ Some entries
          → Entries group depth entries (suc first) past
          → may_follow group around entries past ≡ true
          → Reading group depth around first past

    -- "the delimiter, then members other than the delimiter, none directly twice"
    pub data Entries : (group : Group) (depth entries first past : ℕ) → Type 0 where
      no_entry : {group : Group} {depth entries first past : ℕ} → entries ≡ 0 → first ≡ past → Entries group depth entries first past
      entry : {group : Group} {depth entries first past : ℕ} (others second next : ℕ)
          → entries ≡ suc others
          → first < field_count
          → tag_at first ≡ delimiter group
          → Item group depth first second
          → Items group depth (tag_at first ∷ []) second next
          → Entries group depth others next past
          → Entries group depth entries first past

    pub data Items : (group : Group) (depth : ℕ) (seen : List ℕ) (first past : ℕ) → Type 0 where
      no_item : {group : Group} {depth : ℕ} {seen : List ℕ} {first past : ℕ} → first ≡ past → Items group depth seen first past
      item : {group : Group} {depth : ℕ} {seen : List ℕ} {first past : ℕ} (next : ℕ)
          → first < field_count
          → is_member group (tag_at first) ≡ true
          → tag_at first ≢ delimiter group
          → tag_at first ∈ᵇ seen ≡ false
          → Item group depth first next
          → Items group depth (tag_at first ∷ seen) next past
          → Items group depth seen first past

    -- "A field of an entry whose tag is a nested count tag begins a reading of that nested group"; "around a nested group, the members of
    -- the group it stands in"
    pub data Item : (group : Group) (depth first past : ℕ) → Type 0 where
      plain : {group : Group} {depth first past : ℕ} → nested_group group (tag_at first) ≡ None → past ≡ suc first → Item group depth first past
      nested : {group : Group} {depth first past : ℕ} (inner : Group)
          → nested_group group (tag_at first) ≡ Some inner
          → Reading inner (suc depth) (is_member group) first past
          → Item group depth first past

  -- "enter, then behind each entry a close (a the entry's number, from 0; b how many fields it has, a nested reading counting as one),
  -- then leave with 1 and n; a nested reading's stand where its fields do"
  unfoldable mutual
    pub reading_events : {group : Group} {depth : ℕ} {around : ℕ → Bool} {first past : ℕ} → Reading group depth around first past → List Event
    reading_events (reading {group = group} {depth = depth} entries _ _ _ body _) =
        event layout group depth Enter ∷ (entries_events body 0 ++ (event layout group depth (Leave true entries) ∷ []))

    -- `number` is that of the first of the entries
    pub entries_events : {group : Group} {depth entries first past : ℕ} → Entries group depth entries first past → (number : ℕ) → List Event
    entries_events (no_entry _ _) number = []
    entries_events (entry {group = group} {depth = depth} _ _ _ _ _ _ lead items rest) number =
        item_events lead ++ (items_events items ++ (event layout group depth (Close number (suc (item_count items))) ∷ entries_events rest (suc number)))

    pub items_events : {group : Group} {depth : ℕ} {seen : List ℕ} {first past : ℕ} → Items group depth seen first past → List Event
    items_events (no_item _) = []
    items_events (item _ _ _ _ _ one rest) = item_events one ++ items_events rest

    pub item_events : {group : Group} {depth first past : ℕ} → Item group depth first past → List Event
    item_events (plain _ _) = []
    item_events (nested _ _ inside) = reading_events inside

    pub item_count : {group : Group} {depth : ℕ} {seen : List ℕ} {first past : ℕ} → Items group depth seen first past → ℕ
    item_count (no_item _) = 0
    item_count (item _ _ _ _ _ _ rest) = suc (item_count rest)
