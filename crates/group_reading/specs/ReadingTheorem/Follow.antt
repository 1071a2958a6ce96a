-- What may follow a reading is what ends the walk of its group: `may_follow` of the grammar against the decisions of the walk. Assumes nothing.
use Rattle.std.specs.Prelude.{◌≡◌, refl, ◌≢◌, ◌⊎◌, ℕ, ◌<◌, Bool, true, false, ltb, eqb, Some}
use Rattle.std.proofs.Common.{◌∙◌, inl, inr, true≢false, arith}
use Rattle.std.proofs.lemmas.Bool.{false≢true}
use borrow.Author.Tests.{eqb-true, lt-ltb, eq-eqb, ne_eqb}
use Rattle.field_table.specs.WalkInput.{Input}
use Rattle.group_reading.specs.GroupReading.{may_follow, Entries, no_entry, entry}
use Rattle.group_reading.specs.GroupReadingLaws.{follows_by}
use Rattle.group_reading.specs.GroupSteps.{member_leads, entry_begins, entry_stops}
use Rattle.group_reading.specs.GroupStepsLaws.{stops_by, begins_by, leads_by, entry_stops-delimiter, member_leads-delimiter}

-- ---- over the outcomes of the tests

-- behind an entry: it stopped, and no other begins
follows_some : (inside member delimits around no_entries : Bool) → stops_by inside member false delimits ≡ true
    → begins_by inside delimits around ≡ false
    → follows_by inside member delimits around no_entries ≡ true
follows_some false member delimits around no_entries stopped no_other = refl
follows_some true false delimits around no_entries stopped no_other = refl
follows_some true true false around no_entries stopped no_other = absurd (false≢true stopped)
follows_some true true true false no_entries stopped no_other = absurd (true≢false no_other)
follows_some true true true true no_entries stopped no_other = refl

-- behind a count of 0: no member leads, and no entry begins
follows_none : (inside member delimits around : Bool) → leads_by inside delimits member around ≡ false → begins_by inside delimits around ≡ false
    → follows_by inside member delimits around true ≡ true
follows_none false member delimits around no_lead no_other = refl
follows_none true false delimits around no_lead no_other = refl
follows_none true true false true no_lead no_other = refl
follows_none true true true true no_lead no_other = refl
follows_none true true false false no_lead no_other = absurd (true≢false no_lead)
follows_none true true true false no_lead no_other = absurd (true≢false no_other)

-- the other way round
begins-not : (inside member delimits around no_entries : Bool) → (delimits ≡ true → member ≡ true)
    → follows_by inside member delimits around no_entries ≡ true
    → begins_by inside delimits around ≡ false
begins-not false member delimits around no_entries rule follows = refl
begins-not true member false around no_entries rule follows = refl
begins-not true member true true no_entries rule follows = refl
begins-not true true true false false rule follows = absurd (false≢true follows)
begins-not true true true false true rule follows = absurd (false≢true follows)
begins-not true false true false no_entries rule follows = absurd (false≢true (rule refl))

stops-there : (inside member delimits around : Bool) → follows_by inside member delimits around false ≡ true
    → stops_by inside member false delimits ≡ true
stops-there false member delimits around follows = refl
stops-there true false delimits around follows = refl
stops-there true true true around follows = refl
stops-there true true false false follows = absurd (false≢true follows)
stops-there true true false true follows = absurd (false≢true follows)

leads-not : (inside member delimits around : Bool) → follows_by inside member delimits around true ≡ true
    → leads_by inside delimits member around ≡ false
leads-not false member delimits around follows = refl
leads-not true member true around follows = refl
leads-not true false false around follows = refl
leads-not true true false true follows = refl
leads-not true true false false follows = absurd (false≢true follows)

-- ---- over the fields

module _ (input : Input) where
  open input use {layout, fields}
  open layout use {Group, delimiter, is_member}
  open fields use {field_count, tag_at}

  module _ (group : Group) (around : ℕ → Bool) (entries position : ℕ) where
    follows_behind_entry : entry_stops input false group position ≡ true → entry_begins input group around (Some entries) entries position ≡ false
        → may_follow input group around entries position ≡ true
    unfolding may_follow entry_stops entry_begins
    follows_behind_entry stopped no_other =
        follows_some (ltb position field_count) (is_member group (tag_at position)) (eqb (tag_at position) (delimiter group)) (around (tag_at position)) (eqb entries 0)
        stopped (rw (eq-eqb entries entries refl) at no_other)

    follows_behind_zero : entries ≡ 0 → member_leads input group around (Some entries) position ≡ false
        → entry_begins input group around (Some entries) entries position ≡ false
        → may_follow input group around entries position ≡ true
    unfolding may_follow member_leads entry_begins
    follows_behind_zero none-there no_lead no_other =
        rw (eq-eqb entries 0 none-there)
        (follows_none (ltb position field_count) (is_member group (tag_at position)) (eqb (tag_at position) (delimiter group)) (around (tag_at position))
        (rw (eq-eqb entries 0 none-there) at no_lead) (rw (eq-eqb entries entries refl) at no_other))

    pub follows_begins_not : (found : ℕ) → is_member group (delimiter group) ≡ true → entries ≡ found
        → may_follow input group around entries position ≡ true
        → entry_begins input group around (Some entries) found position ≡ false
    unfolding may_follow entry_begins
    follows_begins_not found member all_found follows =
        rw (eq-eqb entries found all_found)
        (begins-not (ltb position field_count) (is_member group (tag_at position)) (eqb (tag_at position) (delimiter group)) (around (tag_at position)) (eqb entries 0)
        (λ delimits. rw (eqb-true (tag_at position) (delimiter group) delimits) member) follows)

    follows_stops : 0 < entries → may_follow input group around entries position ≡ true → entry_stops input false group position ≡ true
    unfolding may_follow entry_stops
    follows_stops some-there follows =
        stops-there (ltb position field_count) (is_member group (tag_at position)) (eqb (tag_at position) (delimiter group)) (around (tag_at position))
        (rw (ne_eqb entries 0 (omega arith)) at follows)

    follows_leads_not : entries ≡ 0 → may_follow input group around entries position ≡ true
        → member_leads input group around (Some entries) position ≡ false
    unfolding may_follow member_leads
    follows_leads_not none-there follows =
        rw (eq-eqb entries 0 none-there)
        (leads-not (ltb position field_count) (is_member group (tag_at position)) (eqb (tag_at position) (delimiter group)) (around (tag_at position))
        (rw (eq-eqb entries 0 none-there) at follows))

  -- the walk of so many entries ended at `past`: no entry was there (so nothing was passed), or the last one stopped
  pub follows_behind : (group : Group) (around : ℕ → Bool) (entries found first past : ℕ) → entries ≡ found → (found ≡ 0 → first ≡ past)
      → (found ≡ 0) ⊎ (entry_stops input false group past ≡ true)
      → member_leads input group around (Some entries) first ≡ false
      → entry_begins input group around (Some entries) entries past ≡ false
      → may_follow input group around found past ≡ true
  follows_behind group around entries found first past all_found nothing-passed (inl none-there) no_lead no_other =
      rw all_found at (follows_behind_zero group around entries past (all_found ∙ none-there) (rw (nothing-passed none-there) at no_lead) no_other)
  follows_behind group around entries found first past all_found nothing-passed (inr stopped) no_lead no_other =
      rw all_found at (follows_behind_entry group around entries past stopped no_other)

  -- a declared entry that is not yet there begins at its delimiter
  pub declared_begins : (group : Group) (around : ℕ → Bool) (entries found cursor : ℕ) → entries ≢ found → cursor < field_count
      → tag_at cursor ≡ delimiter group
      → entry_begins input group around (Some entries) found cursor ≡ true
  unfolding entry_begins
  declared_begins group around entries found cursor not-all inside delimits =
      rw (lt-ltb cursor field_count inside, eq-eqb (tag_at cursor) (delimiter group) delimits, ne_eqb entries found not-all)

  -- where the rest of the entries begins, the entry before it stops
  pub rest-stops : {group : Group} {depth others first past : ℕ} (around : ℕ → Bool) (entries : ℕ) → 0 < entries
      → Entries input group depth others first past
      → may_follow input group around entries past ≡ true → entry_stops input false group first ≡ true
  rest-stops {group = group} around entries some-there (no_entry {past = past} _ same) follows = rw same (follows_stops group around entries past some-there follows)
  rest-stops {group = group} around entries some-there (entry {first = first} _ _ _ _ _ delimits _ _ _) follows = entry_stops-delimiter input group first delimits

  -- nor does a member lead there
  pub entries-no_lead : {group : Group} {depth entries first past : ℕ} (around : ℕ → Bool) → Entries input group depth entries first past
      → may_follow input group around entries past ≡ true → member_leads input group around (Some entries) first ≡ false
  entries-no_lead {group = group} around (no_entry {entries = entries} {past = past} none-there same) follows = rw same (follows_leads_not group around entries past none-there follows)
  entries-no_lead {group = group} around (entry {entries = entries} {first = first} _ _ _ _ _ delimits _ _ _) follows = member_leads-delimiter input group around (Some entries) first delimits
