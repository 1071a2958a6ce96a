-- Laws of `GroupReading.antt`: what may follow, as document 01's four alternatives; a reading passes fields; its events are of groups and none
-- is a fault. Assumes nothing.
--
--   MayFollow group around entries position    the alternatives of `may_follow`, by name
use Rattle.std.specs.Prelude.{◌≡◌, refl, ◌⊎◌, ◌↔◌, ℕ, suc, ◌≤◌, ◌<◌, Bool, true, false, not, ◌&&◌, ◌||◌, List, ltb, eqb}
use Rattle.std.proofs.Common.{inl, inr, arith, ltb-false, le-ltb, eqb-true, eq-eqb}
use Rattle.std.proofs.lemmas.Bool.{false≢true}
use Rattle.events.specs.Events.{NoFault, of_groups}
use Rattle.events.specs.EventsLaws.{no_fault_append, of_groups-append}
use Rattle.field_table.specs.WalkInput.{Input, event}
use Rattle.group_reading.specs.GroupReading.{may_follow, Reading, Entries, Items, Item, reading, no_entry, entry, no_item, item, plain, nested, reading_events, entries_events, items_events, item_events}

-- ---- may_follow

-- over the outcomes of its tests
abbrev pub follows_by : (inside member delimits around no_entries : Bool) → Bool
follows_by inside member delimits around no_entries = not inside || not member || delimits && around || no_entries && around

follows_by-cases : (inside member delimits around no_entries : Bool) → follows_by inside member delimits around no_entries ≡ true
    → (inside ≡ false) ⊎ ((member ≡ false) ⊎ (((delimits ≡ true) × (around ≡ true)) ⊎ ((no_entries ≡ true) × (around ≡ true))))
follows_by-cases false member delimits around no_entries follows = inl refl
follows_by-cases true false delimits around no_entries follows = inr (inl refl)
follows_by-cases true true true true no_entries follows = inr (inr (inl (refl, refl)))
follows_by-cases true true false true true follows = inr (inr (inr (refl, refl)))
follows_by-cases true true false true false follows = absurd (false≢true follows)
follows_by-cases true true false false false follows = absurd (false≢true follows)
follows_by-cases true true false false true follows = absurd (false≢true follows)
follows_by-cases true true true false false follows = absurd (false≢true follows)
follows_by-cases true true true false true follows = absurd (false≢true follows)

follows_by-other : (inside delimits around no_entries : Bool) → follows_by inside false delimits around no_entries ≡ true
follows_by-other false delimits around no_entries = refl
follows_by-other true delimits around no_entries = refl

follows_by-delimiter : (inside member no_entries : Bool) → follows_by inside member true true no_entries ≡ true
follows_by-delimiter false member no_entries = refl
follows_by-delimiter true false no_entries = refl
follows_by-delimiter true true no_entries = refl

follows_by-none : (inside member delimits : Bool) → follows_by inside member delimits true true ≡ true
follows_by-none false member delimits = refl
follows_by-none true false delimits = refl
follows_by-none true true false = refl
follows_by-none true true true = refl

module _ (input : Input) where
  open input use {layout, fields}
  open layout use {Group, delimiter, is_member}
  open fields use {field_count, tag_at}

  pub data MayFollow (group : Group) (around : ℕ → Bool) (entries position : ℕ) : Type 0 where
    table_ends : field_count ≤ position → MayFollow group around entries position
    no_member : is_member group (tag_at position) ≡ false → MayFollow group around entries position
    delimiter_around : tag_at position ≡ delimiter group → around (tag_at position) ≡ true → MayFollow group around entries position
    nothing_declared : entries ≡ 0 → around (tag_at position) ≡ true → MayFollow group around entries position

  pub may_follow-alternatives : (group : Group) (around : ℕ → Bool) (entries position : ℕ)
      → may_follow input group around entries position ≡ true ↔ MayFollow group around entries position
  unfolding may_follow
  may_follow-alternatives group around entries position = (
    λ follows. one_of (follows_by-cases (ltb position field_count) (is_member group (tag_at position)) (eqb (tag_at position) (delimiter group)) (around (tag_at position)) (eqb entries 0) follows),
    each,
  )
    where
      one_of : (ltb position field_count ≡ false)
          ⊎ ((is_member group (tag_at position) ≡ false)
          ⊎ (((eqb (tag_at position) (delimiter group) ≡ true) × (around (tag_at position) ≡ true)) ⊎ ((eqb entries 0 ≡ true) × (around (tag_at position) ≡ true))))
          → MayFollow group around entries position
      one_of (inl ends) = table_ends (ltb-false position field_count ends)
      one_of (inr (inl other)) = no_member other
      one_of (inr (inr (inl both))) = delimiter_around (eqb-true (tag_at position) (delimiter group) both.0) both.1
      one_of (inr (inr (inr both))) = nothing_declared (eqb-true entries 0 both.0) both.1

      each : MayFollow group around entries position
          → follows_by (ltb position field_count) (is_member group (tag_at position)) (eqb (tag_at position) (delimiter group)) (around (tag_at position)) (eqb entries 0) ≡ true
      each (table_ends over) = rw (le-ltb position field_count over)
      each (no_member other) = rw (other, follows_by-other)
      each (delimiter_around delimits has) = rw (eq-eqb (tag_at position) (delimiter group) delimits, has, follows_by-delimiter)
      each (nothing_declared none-there has) = rw (eq-eqb entries 0 none-there, has, follows_by-none)

  -- ---- a reading passes fields

  mutual
    pub reading-advances : {group : Group} {depth : ℕ} {around : ℕ → Bool} {first past : ℕ} → Reading input group depth around first past
        → first < past
    reading-advances (reading entries _ _ _ body _) = let body-on = entries-advance body in omega arith

    pub entries-advance : {group : Group} {depth entries first past : ℕ} → Entries input group depth entries first past → first ≤ past
    entries-advance (no_entry _ same) = omega arith
    entries-advance (entry others second next _ _ _ lead items rest) =
        let lead-on = item-advances lead in
        let items-on = items_advance items in
        let rest-on = entries-advance rest in
        omega arith

    pub items_advance : {group : Group} {depth : ℕ} {seen : List ℕ} {first past : ℕ} → Items input group depth seen first past → first ≤ past
    items_advance (no_item same) = omega arith
    items_advance (item next _ _ _ _ one rest) =
        let one_on = item-advances one in
        let rest-on = items_advance rest in
        omega arith

    pub item-advances : {group : Group} {depth first past : ℕ} → Item input group depth first past → first < past
    item-advances (plain _ same) = omega arith
    item-advances (nested inner _ inside) = reading-advances inside

  -- where there is no entry, nothing is passed
  pub no_entries : {group : Group} {depth entries first past : ℕ} → Entries input group depth entries first past → entries ≡ 0 → first ≡ past
  no_entries (no_entry _ same) none-there = same
  no_entries (entry others second next more _ _ _ _ _) none-there = absurd (omega arith)

  -- ---- no event of a reading is a fault

  mutual
    unfolding reading_events

    pub reading_events-no_fault : {group : Group} {depth : ℕ} {around : ℕ → Bool} {first past : ℕ} (read : Reading input group depth around first past)
        → NoFault (reading_events input read)
    reading_events-no_fault (reading entries _ _ _ body _) = (refl, no_fault_append _ (entries_events input body 0) (entries_events-no_fault body 0) (refl, tt))

    entries_events-no_fault : {group : Group} {depth entries first past : ℕ} (body : Entries input group depth entries first past) (number : ℕ)
        → NoFault (entries_events input body number)
    entries_events-no_fault (no_entry _ same) number = tt
    entries_events-no_fault (entry others second next _ _ _ lead items rest) number =
        no_fault_append _ (item_events input lead) (item_events-no_fault lead)
        (no_fault_append _ (items_events input items) (items_events-no_fault items) (refl, entries_events-no_fault rest (suc number)))

    items_events-no_fault : {group : Group} {depth : ℕ} {seen : List ℕ} {first past : ℕ} (items : Items input group depth seen first past)
        → NoFault (items_events input items)
    items_events-no_fault (no_item same) = tt
    items_events-no_fault (item next _ _ _ _ one rest) = no_fault_append _ (item_events input one) (item_events-no_fault one) (items_events-no_fault rest)

    item_events-no_fault : {group : Group} {depth first past : ℕ} (one : Item input group depth first past) → NoFault (item_events input one)
    item_events-no_fault (plain _ same) = tt
    item_events-no_fault (nested inner _ inside) = reading_events-no_fault inside

  -- ---- the events of a reading are of groups

  mutual
    unfolding reading_events

    pub reading_events-of_groups : {group : Group} {depth : ℕ} {around : ℕ → Bool} {first past : ℕ} (read : Reading input group depth around first past)
        → of_groups (reading_events input read) ≡ reading_events input read
    reading_events-of_groups (reading entries _ _ _ body _) = rw (of_groups-append (entries_events input body 0), entries_events-of_groups body 0)

    entries_events-of_groups : {group : Group} {depth entries first past : ℕ} (body : Entries input group depth entries first past) (number : ℕ)
        → of_groups (entries_events input body number) ≡ entries_events input body number
    entries_events-of_groups (no_entry _ same) number = refl
    entries_events-of_groups (entry others second next _ _ _ lead items rest) number =
        rw (of_groups-append (item_events input lead), of_groups-append (items_events input items), item_events-of_groups lead, items_events-of_groups items, entries_events-of_groups rest (suc number))

    items_events-of_groups : {group : Group} {depth : ℕ} {seen : List ℕ} {first past : ℕ} (items : Items input group depth seen first past)
        → of_groups (items_events input items) ≡ items_events input items
    items_events-of_groups (no_item same) = refl
    items_events-of_groups (item next _ _ _ _ one rest) = rw (of_groups-append (item_events input one), item_events-of_groups one, items_events-of_groups rest)

    item_events-of_groups : {group : Group} {depth first past : ℕ} (one : Item input group depth first past)
        → of_groups (item_events input one) ≡ item_events input one
    item_events-of_groups (plain _ same) = refl
    item_events-of_groups (nested inner _ inside) = reading_events-of_groups inside
