-- The walk of a group: `walk_group` and `scan_entry` of walk.rs as definitions, with a visitor that records events and whose TRACK is true.
-- A position outside the table gives itself back and no event (document 01, 'The events of a walk'). The Rust's `checked_add` of entries cannot
-- fail, since an entry passes a field; it does not appear here. Assumes nothing.
--
--   walk_group group depth enclosing index                    `walk_group`, from the group's count field at `index` on
--   walk_entries group depth enclosing declared entries cursor   its `while` loop, so many entries standing before the cursor
--   scan_entry at_start group depth seen cursor                `scan_entry`, the tags in `seen` standing before the cursor in the entry
--
-- Each stands on a definition by clauses (`walk_by`, `entries_by`, `scan_by`) whose first argument, the fuel, bounds the calls, and whose second
-- is what is decided at this place (`GroupSteps.antt`). A call passes at least one field, so that the fuel given here, three calls for each
-- field left, is never used up (`GroupWalkLaws/Fuel.antt`); where it would be, the answer holds a fault event.
use Rattle.std.specs.Prelude.{ℕ, zero, suc, ◌+◌, ◌*◌, ◌-◌, Bool, true, false, not, ◌||◌, List, [], ◌∷◌, ◌++◌, length, if◌then◌else◌, Option, Some, None}
use Rattle.ascii.specs.Notation.{◌≡ᵇ◌}
use Rattle.events.specs.declared.event.Kind.TheVariants.{Enter, BadCount, Delim, Repeat, Close, Miscount, Deep, Leave}
use Rattle.events.specs.declared.event.Event.{Event}
use Rattle.ascii.specs.Membership.{◌∈ᵇ◌}
use Rattle.ascii.specs.Membership.{insert_if}
use Rattle.field_table.specs.WalkInput.{Layout, Input, count_at, event}
use Rattle.group_reading.specs.GroupSteps.{Opening, outside, too_deep, member_leads_lem, entries_follow, Step, stops, plain_field, nested_group_lem, opening_at, entry_begins, step_at}

-- what a walk gives: its events, and the position of the first field behind the group
pub record WalkedGroup : Type 0 where
  pub events : List Event
  pub next : ℕ

-- what the rest of a group's entries gives: also whether one of them is unparseable, and how many entries the group has in all
pub record WalkedEntries : Type 0 where
  pub events : List Event
  pub next : ℕ
  pub unparseable : Bool
  pub entries : ℕ

-- what the rest of an entry gives: also whether a tag repeats, and how many distinct direct members the entry has in all
pub record ScannedEntry : Type 0 where
  pub events : List Event
  pub next : ℕ
  pub unparseable : Bool
  pub seen : ℕ

module _ (layout : Layout) where
  open layout use {Group}

  -- `invalid_count`
  abbrev pub bad_count : Group → ℕ → ℕ → Option ℕ → List Event
  bad_count group depth index None = event layout group depth (BadCount index) ∷ []
  bad_count group depth index (Some declared) = []

  -- `repeated_tag`
  abbrev pub repeated_tag : Group → ℕ → ℕ → Bool → List Event
  repeated_tag group depth tag repeated = if repeated then event layout group depth (Repeat tag) ∷ [] else []

  -- `count_mismatch` and `leave_group`, where the declared count is a number; `same`: it is that of the entries
  abbrev pub ended_by : Group → ℕ → (same unparseable : Bool) → (declared entries : ℕ) → List Event
  ended_by group depth same unparseable declared entries =
      if same then event layout group depth (Leave (not unparseable) entries) ∷ []
      else if unparseable then event layout group depth (Leave false entries) ∷ []
      else event layout group depth (Miscount declared entries) ∷ event layout group depth (Leave false entries) ∷ []

  abbrev pub ended : Group → ℕ → Option ℕ → Bool → ℕ → List Event
  ended group depth None unparseable entries = event layout group depth (Leave false entries) ∷ []
  ended group depth (Some declared) unparseable entries = ended_by group depth (declared ≡ᵇ entries) unparseable declared entries

  -- a whole group: `leading` are the events of a first entry without its delimiter, `rest` the entries behind it
  abbrev pub whole_group : Group → ℕ → ℕ → Option ℕ → Bool → List Event → WalkedEntries → WalkedGroup
  whole_group group depth index declared unparseable leading rest = record {
    events =
        event layout group depth Enter
        ∷ (bad_count group depth index declared ++ (leading ++ (rest.events ++ ended group depth declared (unparseable || rest.unparseable) rest.entries)));
    next = rest.next;
  }

  -- `delimiter_mismatch`, the entry, and its close
  abbrev pub leading_entry : Group → ℕ → ℕ → ScannedEntry → List Event
  leading_entry group depth tag entry = event layout group depth (Delim tag) ∷ (entry.events ++ (event layout group depth (Close 0 entry.seen) ∷ []))

-- a field of an entry, or the nested group that it begins, then the rest of the entry
abbrev pub field_then : List Event → Bool → WalkedGroup → ScannedEntry → ScannedEntry
field_then repeat repeated field rest = record {
  events = repeat ++ (field.events ++ rest.events);
  next = rest.next;
  unparseable = repeated || rest.unparseable;
  seen = rest.seen;
}

-- an entry with its close, then the rest of the entries
abbrev pub entry_then : Event → ScannedEntry → WalkedEntries → WalkedEntries
entry_then close entry rest = record {
  events = entry.events ++ (close ∷ rest.events);
  next = rest.next;
  unparseable = entry.unparseable || rest.unparseable;
  entries = rest.entries;
}

module _ (input : Input) where
  open input use {layout, fields, depth_limit}
  open layout use {Group, is_member}
  open fields use {field_count, tag_at}

  -- the rest as a function of where it begins
  abbrev pub field_and : Group → ℕ → List ℕ → ℕ → WalkedGroup → (ℕ → ScannedEntry) → ScannedEntry
  field_and group depth seen tag field rest = field_then (repeated_tag layout group depth tag (tag ∈ᵇ seen)) (tag ∈ᵇ seen) field (rest field.next)

  abbrev pub entry_and : Group → ℕ → ℕ → ScannedEntry → (ℕ → WalkedEntries) → WalkedEntries
  entry_and group depth number entry rest = entry_then (event layout group depth (Close number entry.seen)) entry (rest entry.next)

  abbrev pub leading_and : Group → ℕ → ℕ → ScannedEntry → (ℕ → WalkedEntries) → WalkedGroup
  leading_and group depth index entry rest =
      whole_group layout group depth index (count_at fields index) true (leading_entry layout group depth (tag_at (suc index)) entry) (rest entry.next)

  unfoldable mutual
    pub walk_by : ℕ → Opening → Group → ℕ → (ℕ → Bool) → ℕ → WalkedGroup
    walk_by zero opening group depth enclosing index = record { events = event layout group depth Deep ∷ []; next = index }
    walk_by (suc fuel) outside group depth enclosing index = record { events = []; next = index }
    walk_by (suc fuel) too_deep group depth enclosing index = record { events = event layout group depth Deep ∷ []; next = suc index }
    walk_by (suc fuel) member_leads_lem group depth enclosing index =
        leading_and group depth index
        (scan_by fuel (step_at input true group (suc index)) group depth [] (suc index))
        (λ cursor. entries_by fuel (entry_begins input group enclosing (count_at fields index) 1 cursor) group depth enclosing (count_at fields index) 1 cursor)
    walk_by (suc fuel) entries_follow group depth enclosing index =
        whole_group layout group depth index (count_at fields index) false []
        (entries_by fuel (entry_begins input group enclosing (count_at fields index) 0 (suc index)) group depth enclosing (count_at fields index) 0 (suc index))

    pub entries_by : ℕ → Bool → Group → ℕ → (ℕ → Bool) → Option ℕ → ℕ → ℕ → WalkedEntries
    entries_by zero begins group depth enclosing declared entries cursor = record { events = event layout group depth Deep ∷ []; next = cursor; unparseable = true; entries = entries }
    entries_by (suc fuel) false group depth enclosing declared entries cursor = record { events = []; next = cursor; unparseable = false; entries = entries }
    entries_by (suc fuel) true group depth enclosing declared entries cursor =
        entry_and group depth entries
        (scan_by fuel (step_at input true group cursor) group depth [] cursor)
        (λ next. entries_by fuel (entry_begins input group enclosing declared (suc entries) next) group depth enclosing declared (suc entries) next)

    pub scan_by : ℕ → Step Group → Group → ℕ → List ℕ → ℕ → ScannedEntry
    scan_by zero step group depth seen cursor = record { events = event layout group depth Deep ∷ []; next = cursor; unparseable = true; seen = 0 }
    scan_by (suc fuel) stops group depth seen cursor = record { events = []; next = cursor; unparseable = false; seen = length seen }
    scan_by (suc fuel) plain_field group depth seen cursor =
        field_and group depth seen (tag_at cursor)
        (record { events = []; next = suc cursor })
        (λ next. scan_by fuel (step_at input false group next) group depth (insert_if (tag_at cursor ∈ᵇ seen) (tag_at cursor) seen) next)
    scan_by (suc fuel) (nested_group_lem inner) group depth seen cursor =
        field_and group depth seen (tag_at cursor)
        (walk_by fuel (opening_at input inner (suc depth) (is_member group) cursor) inner (suc depth) (is_member group) cursor)
        (λ next. scan_by fuel (step_at input false group next) group depth (insert_if (tag_at cursor ∈ᵇ seen) (tag_at cursor) seen) next)

  -- with what is decided there
  abbrev pub walk_with : ℕ → Group → ℕ → (ℕ → Bool) → ℕ → WalkedGroup
  walk_with fuel group depth enclosing index = walk_by fuel (opening_at input group depth enclosing index) group depth enclosing index

  abbrev pub entries_with : ℕ → Group → ℕ → (ℕ → Bool) → Option ℕ → ℕ → ℕ → WalkedEntries
  entries_with fuel group depth enclosing declared entries cursor =
      entries_by fuel (entry_begins input group enclosing declared entries cursor) group depth enclosing declared entries cursor

  abbrev pub scan_with : ℕ → Bool → Group → ℕ → List ℕ → ℕ → ScannedEntry
  scan_with fuel at_start group depth seen cursor = scan_by fuel (step_at input at_start group cursor) group depth seen cursor

  unfoldable pub walk_group : Group → ℕ → (ℕ → Bool) → ℕ → WalkedGroup
  walk_group group depth enclosing index = walk_with (3 * (field_count - index) + 1) group depth enclosing index

  unfoldable pub walk_entries : Group → ℕ → (ℕ → Bool) → Option ℕ → ℕ → ℕ → WalkedEntries
  walk_entries group depth enclosing declared entries cursor = entries_with (3 * (field_count - cursor) + 3) group depth enclosing declared entries cursor

  unfoldable pub scan_entry : Bool → Group → ℕ → List ℕ → ℕ → ScannedEntry
  scan_entry at_start group depth seen cursor = scan_with (3 * (field_count - cursor) + 2) at_start group depth seen cursor
