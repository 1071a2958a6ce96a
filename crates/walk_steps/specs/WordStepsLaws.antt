-- Laws of `WordSteps.antt`: what each step and turn is by the tests in the order of the code, and what it tells of the decisions of `GroupSteps.antt` of
-- group_reading at the words' input. Assumes nothing.
use Rattle.std.specs.Prelude.{◌≡◌, ℕ, ◌+◌, ◌≤◌, ◌<◌, Bool, not, ◌&&◌, List, ltb, if◌then◌else◌, Option, Some, None}
use Rattle.std.proofs.Math.Path.{refl}
use Rattle.std.proofs.Common.{sym, ap, ◌∙◌, arith}
use Rattle.std.proofs.Math.Bool.{true, false}
use Rattle.std.proofs.lemmas.Bool.{false≢true}
use Rattle.std.proofs.Math.Dec.{eqb}
use borrow.Author.Tests.{lt-ltb, le-ltb, ltb-true, eq-eqb, ne_eqb, eqb-true, eqb-false}
use Rattle.ascending.specs.Search.{rank_in, is_found}
use Rattle.layouts.specs.LayoutRules.{◌∈ᵇ◌}
use Rattle.layouts.specs.LayoutWords.{level_members, level_count_tags, first_group, delimiter_at}
use Rattle.field_table.specs.FieldTable.{row_count, tag_of}
use Rattle.field_table.specs.WalkInput.{Layout, Input}
use Rattle.group_reading.specs.GroupSteps.{ends_group, member_leads, entry_begins, entry_stops, step_at, Step, stops, plain_field, nested_group_lem}
use Rattle.group_reading.specs.GroupStepsLaws.{stops_by, begins_by, leads_by, step_at-stops, step_at-plain, step_at-nested}
use Rattle.walk_steps.specs.declared.group_steps.EntryStep.{EntryStep}
use Rattle.walk_steps.specs.declared.group_steps.EntryStep.TheVariants.{Stop, Plain, Nested}
use Rattle.walk_steps.specs.declared.group_steps.Turn.{Turn}
use Rattle.walk_steps.specs.declared.group_steps.Turn.TheVariants.{Over, Entry, Lead}
use Rattle.walk_steps.specs.WalkWords.{among, number_found, group_of, layout_of, input_of}
use Rattle.walk_steps.specs.WalkWordsLaws.{found-member, member-found, member-nowhere}
use Rattle.walk_steps.specs.WordSteps.{member_step, rank_step, entry_step, lead_by, turn_by, turn_at}

-- ---- entry_step, as code finds it

module _ (fields members count_tags : List ℕ) (first delimiter start cursor : ℕ) where
  pub step-outside : row_count fields ≤ cursor → Stop ≡ entry_step fields members count_tags first delimiter start cursor
  unfolding entry_step
  step-outside over = rw (le-ltb cursor (row_count fields) over)

  module _ (inside : cursor < row_count fields) (tag : ℕ) (is-tag : tag ≡ tag_of fields cursor) where
    pub step-foreign : rank_in members tag ≡ None → Stop ≡ entry_step fields members count_tags first delimiter start cursor
    unfolding entry_step
    step-foreign nowhere =
        let nowhere' : rank_in members (tag_of fields cursor) ≡ None = rw (← is-tag) nowhere in
        rw (lt-ltb cursor (row_count fields) inside, nowhere')

    module _ (rank : ℕ) (there : rank_in members tag ≡ Some rank) where
      there-too : rank_in members (tag_of fields cursor) ≡ Some rank
      there-too = rw (← is-tag) there

      pub step-delimiter : (cursor ≡ start → ⊥) → tag ≡ delimiter → Stop ≡ entry_step fields members count_tags first delimiter start cursor
      unfolding entry_step
      step-delimiter later delimits =
          rw (lt-ltb cursor (row_count fields) inside, there-too, ne_eqb cursor start later, eq-eqb (tag_of fields cursor) delimiter (sym is-tag ∙ delimits))

      -- the field is taken: it is the entry's first, or another one than the delimiter
      module _ (taken : (not (eqb cursor start) && eqb tag delimiter) ≡ false) where
        taken-too : (not (eqb cursor start) && eqb (tag_of fields cursor) delimiter) ≡ false
        taken-too = rw (← is-tag) taken

        pub step-taken : (step : EntryStep) → step ≡ member_step rank tag (number_found first (rank_in count_tags tag)) → step ≡ entry_step fields members count_tags first delimiter start cursor
        unfolding entry_step
        step-taken step_taken is = is ∙ rw (lt-ltb cursor (row_count fields) inside, there-too, taken-too, is-tag)

pub taken-first : (cursor start tag delimiter : ℕ) → cursor ≡ start → (not (eqb cursor start) && eqb tag delimiter) ≡ false
taken-first cursor start tag delimiter same = rw (eq-eqb cursor start same)

pub taken-other : (cursor start tag delimiter : ℕ) → (tag ≡ delimiter → ⊥) → (not (eqb cursor start) && eqb tag delimiter) ≡ false
taken-other cursor start tag delimiter other = go (eqb cursor start)
  where
    go : (same : Bool) → (not same && eqb tag delimiter) ≡ false
    go true = refl
    go false = ne_eqb tag delimiter other

-- ---- what a step tells

pub record StepSays (inside at_start delimits : Bool) (rank-of : Option ℕ) (here : ℕ) (inner : Option ℕ) (step : EntryStep) : Type 0 where
  pub stop : step ≡ Stop → stops_by inside (is_found rank-of) at_start delimits ≡ true
  pub plain : (rank tag : ℕ) → step ≡ Plain rank tag → (stops_by inside (is_found rank-of) at_start delimits ≡ false) × (rank-of ≡ Some rank) × (tag ≡ here) × (inner ≡ None)
  pub nested : (rank tag number : ℕ) → step ≡ Nested rank tag number
      → (stops_by inside (is_found rank-of) at_start delimits ≡ false) × (rank-of ≡ Some rank) × (tag ≡ here) × (inner ≡ Some number)

taken-says : (at_start delimits ends : Bool) → (not at_start && delimits) ≡ ends → (there here : ℕ) (inner : Option ℕ)
    → StepSays true at_start delimits (Some there) here inner (if ends then Stop else member_step there here inner)
unfolding is_found
taken-says at_start delimits true is-ends there here inner = record {
  stop = λ same. is-ends;
  plain = λ rank tag same. let zero_one : ◌≡◌ {A = ℕ} 0 1 = cc in absurd (omega arith);
  nested = λ rank tag number same. let zero_one : ◌≡◌ {A = ℕ} 0 1 = cc in absurd (omega arith);
}
taken-says at_start delimits false is-ends there here None = record {
  stop = λ same. let zero_one : ◌≡◌ {A = ℕ} 0 1 = cc in absurd (omega arith);
  plain = λ rank tag same. (is-ends, cc, cc, refl);
  nested = λ rank tag number same. let zero_one : ◌≡◌ {A = ℕ} 0 1 = cc in absurd (omega arith);
}
taken-says at_start delimits false is-ends there here (Some inner) = record {
  stop = λ same. let zero_one : ◌≡◌ {A = ℕ} 0 1 = cc in absurd (omega arith);
  plain = λ rank tag same. let zero_one : ◌≡◌ {A = ℕ} 0 1 = cc in absurd (omega arith);
  nested = λ rank tag number same. (is-ends, cc, cc, cc);
}

step-says : (inside at_start delimits : Bool) (rank-of : Option ℕ) (here : ℕ) (inner : Option ℕ)
    → StepSays inside at_start delimits rank-of here inner (if inside then rank_step rank-of here (not at_start && delimits) inner else Stop)
unfolding is_found
step-says false at_start delimits rank-of here inner = record {
  stop = λ same. refl;
  plain = λ rank tag same. let zero_one : ◌≡◌ {A = ℕ} 0 1 = cc in absurd (omega arith);
  nested = λ rank tag number same. let zero_one : ◌≡◌ {A = ℕ} 0 1 = cc in absurd (omega arith);
}
step-says true at_start delimits None here inner = record {
  stop = λ same. refl;
  plain = λ rank tag same. let zero_one : ◌≡◌ {A = ℕ} 0 1 = cc in absurd (omega arith);
  nested = λ rank tag number same. let zero_one : ◌≡◌ {A = ℕ} 0 1 = cc in absurd (omega arith);
}
step-says true at_start delimits (Some there) here inner = taken-says at_start delimits (not at_start && delimits) refl there here inner

-- a field that is taken: its tag, and the tag's rank
pub record FieldHere (words fields message : List ℕ) (group start cursor rank tag : ℕ) : Type 0 where
  pub goes_on : entry_stops (input_of words fields message) (eqb cursor start) group cursor ≡ false
  pub tag_is : tag ≡ tag_of fields cursor
  pub ranked : rank_in (level_members words (1 + group)) tag ≡ Some rank

module _ (words fields message : List ℕ) (group start cursor : ℕ) where
  entry_stops-is : (at_start : Bool) → entry_stops (input_of words fields message) at_start group cursor
      ≡ stops_by (ltb cursor (row_count fields)) (is_found (rank_in (level_members words (1 + group)) (tag_of fields cursor))) at_start (eqb (tag_of fields cursor) (delimiter_at words group))
  unfolding entry_stops
  entry_stops-is at_start = rw (found-member (level_members words (1 + group)) (tag_of fields cursor))

  says : StepSays (ltb cursor (row_count fields)) (eqb cursor start) (eqb (tag_of fields cursor) (delimiter_at words group))
      (rank_in (level_members words (1 + group)) (tag_of fields cursor)) (tag_of fields cursor) (group_of words (1 + group) (tag_of fields cursor))
      (entry_step fields (level_members words (1 + group)) (level_count_tags words (1 + group)) (first_group words (1 + group)) (delimiter_at words group) start cursor)
  unfolding entry_step
  says =
      step-says (ltb cursor (row_count fields)) (eqb cursor start) (eqb (tag_of fields cursor) (delimiter_at words group))
      (rank_in (level_members words (1 + group)) (tag_of fields cursor)) (tag_of fields cursor) (group_of words (1 + group) (tag_of fields cursor))

  module _ (step : EntryStep) (steps : step ≡ entry_step fields (level_members words (1 + group)) (level_count_tags words (1 + group)) (first_group words (1 + group)) (delimiter_at words group) start cursor) where
    pub entry-stops : step ≡ Stop → entry_stops (input_of words fields message) (eqb cursor start) group cursor ≡ true
    entry-stops is = entry_stops-is (eqb cursor start) ∙ says.stop (sym steps ∙ is)

    pub entry-plain : (rank tag : ℕ) → step ≡ Plain rank tag
        → FieldHere words fields message group start cursor rank tag × (group_of words (1 + group) (tag_of fields cursor) ≡ None)
    entry-plain rank tag is =
        let facts = says.plain rank tag (sym steps ∙ is) in
        (record { goes_on = entry_stops-is (eqb cursor start) ∙ facts.0; tag_is = facts.2; ranked = rw facts.2 facts.1 }, facts.3)

    pub entry-nested : (rank tag number : ℕ) → step ≡ Nested rank tag number
        → FieldHere words fields message group start cursor rank tag × (group_of words (1 + group) (tag_of fields cursor) ≡ Some number)
    entry-nested rank tag number is =
        let facts = says.nested rank tag number (sym steps ∙ is) in
        (record { goes_on = entry_stops-is (eqb cursor start) ∙ facts.0; tag_is = facts.2; ranked = rw facts.2 facts.1 }, facts.3)

-- ---- the end of a group by its declared count

module _ (enclosing : List ℕ) (entries tag : ℕ) where
  module _ (declared : Option ℕ) (number : ℕ) (is_number : declared ≡ Some number) where
    pub ends-other : (number ≡ entries → ⊥) → false ≡ ends_group declared entries (among enclosing) tag
    ends-other other = rw (is_number, ne_eqb number entries other)

    pub ends_foreign : number ≡ entries → rank_in enclosing tag ≡ None → false ≡ ends_group declared entries (among enclosing) tag
    ends_foreign same nowhere = rw (is_number, eq-eqb number entries same, member-nowhere enclosing tag nowhere)

    pub ends_there : number ≡ entries → (rank : ℕ) → rank_in enclosing tag ≡ Some rank → true ≡ ends_group declared entries (among enclosing) tag
    ends_there same rank there = rw (is_number, eq-eqb number entries same, member-found enclosing tag rank there)

-- ---- lead_by and turn_at, as code finds them

module _ (members : List ℕ) (entries : ℕ) (ends : Bool) (tag : ℕ) where
  pub lead-later : (entries ≡ 0 → ⊥) → Over ≡ lead_by (eqb entries 0) (tag ∈ᵇ members) ends tag
  lead-later later = rw (ne_eqb entries 0 later)

  pub lead-foreign : entries ≡ 0 → rank_in members tag ≡ None → Over ≡ lead_by (eqb entries 0) (tag ∈ᵇ members) ends tag
  lead-foreign none_yet nowhere = rw (eq-eqb entries 0 none_yet, member-nowhere members tag nowhere)

  module _ (none_yet : entries ≡ 0) (rank : ℕ) (there : rank_in members tag ≡ Some rank) where
    pub lead-ends : ends ≡ true → Over ≡ lead_by (eqb entries 0) (tag ∈ᵇ members) ends tag
    lead-ends is-end = rw (eq-eqb entries 0 none_yet, member-found members tag rank there, is-end)

    pub lead-here : ends ≡ false → Lead tag ≡ lead_by (eqb entries 0) (tag ∈ᵇ members) ends tag
    lead-here no_end = rw (eq-eqb entries 0 none_yet, member-found members tag rank there, no_end)

module _ (fields members enclosing : List ℕ) (delimiter : ℕ) (declared : Option ℕ) (entries cursor : ℕ) where
  pub turn-outside : row_count fields ≤ cursor → Over ≡ turn_at fields members enclosing delimiter declared entries cursor
  unfolding turn_at
  turn-outside over = rw (le-ltb cursor (row_count fields) over)

  module _ (inside : cursor < row_count fields) (tag : ℕ) (is-tag : tag ≡ tag_of fields cursor) where
    pub turn-other : (tag ≡ delimiter → ⊥) → (turn : Turn) → turn ≡ lead_by (eqb entries 0) (tag ∈ᵇ members) (ends_group declared entries (among enclosing) tag) tag
        → turn ≡ turn_at fields members enclosing delimiter declared entries cursor
    unfolding turn_at
    turn-other other turn leads =
        let other' : eqb (tag_of fields cursor) delimiter ≡ false = rw (← is-tag) (ne_eqb tag delimiter other) in
        leads ∙ rw (lt-ltb cursor (row_count fields) inside, other', is-tag)

    module _ (delimits : tag ≡ delimiter) (ends : Bool) (is-end : ends ≡ ends_group declared entries (among enclosing) tag) where
      here-delimits : eqb (tag_of fields cursor) delimiter ≡ true
      here-delimits = eq-eqb (tag_of fields cursor) delimiter (sym is-tag ∙ delimits)

      here-ends : (answer : Bool) → ends ≡ answer → ends_group declared entries (among enclosing) (tag_of fields cursor) ≡ answer
      here-ends answer same = rw (← is-tag) (sym is-end ∙ same)

      pub turn-ends : ends ≡ true → Over ≡ turn_at fields members enclosing delimiter declared entries cursor
      unfolding turn_at
      turn-ends yes-ends = rw (lt-ltb cursor (row_count fields) inside, here-delimits, here-ends true yes-ends)

      pub turn-begins : ends ≡ false → Entry ≡ turn_at fields members enclosing delimiter declared entries cursor
      unfolding turn_at
      turn-begins no_end = rw (lt-ltb cursor (row_count fields) inside, here-delimits, here-ends false no_end)

-- ---- what a turn tells

record TurnSays (inside delimits ends none_yet member : Bool) (here : ℕ) (turn : Turn) : Type 0 where
  over : turn ≡ Over → (begins_by inside delimits ends ≡ false) × (none_yet ≡ true → leads_by inside delimits member ends ≡ false)
  entry : turn ≡ Entry → (begins_by inside delimits ends ≡ true) × (leads_by inside delimits member ends ≡ false)
  lead : (tag : ℕ) → turn ≡ Lead tag → (none_yet ≡ true) × (leads_by inside delimits member ends ≡ true) × (tag ≡ here)

turn-says : (inside delimits ends none_yet member : Bool) (here : ℕ) → TurnSays inside delimits ends none_yet member here (turn_by inside delimits ends none_yet member here)
turn-says false delimits ends none_yet member here = record {
  over = λ same. (refl, λ first. refl);
  entry = λ same. let zero_one : ◌≡◌ {A = ℕ} 0 1 = cc in absurd (omega arith);
  lead = λ tag same. let zero_one : ◌≡◌ {A = ℕ} 0 1 = cc in absurd (omega arith);
}
turn-says true true true none_yet member here = record {
  over = λ same. (refl, λ first. refl);
  entry = λ same. let zero_one : ◌≡◌ {A = ℕ} 0 1 = cc in absurd (omega arith);
  lead = λ tag same. let zero_one : ◌≡◌ {A = ℕ} 0 1 = cc in absurd (omega arith);
}
turn-says true true false none_yet member here = record {
  over = λ same. let zero_one : ◌≡◌ {A = ℕ} 0 1 = cc in absurd (omega arith);
  entry = λ same. (refl, refl);
  lead = λ tag same. let zero_one : ◌≡◌ {A = ℕ} 0 1 = cc in absurd (omega arith);
}
turn-says true false ends false member here = record {
  over = λ same. (refl, λ first. absurd (false≢true first));
  entry = λ same. let zero_one : ◌≡◌ {A = ℕ} 0 1 = cc in absurd (omega arith);
  lead = λ tag same. let zero_one : ◌≡◌ {A = ℕ} 0 1 = cc in absurd (omega arith);
}
turn-says true false ends true false here = record {
  over = λ same. (refl, λ first. refl);
  entry = λ same. let zero_one : ◌≡◌ {A = ℕ} 0 1 = cc in absurd (omega arith);
  lead = λ tag same. let zero_one : ◌≡◌ {A = ℕ} 0 1 = cc in absurd (omega arith);
}
turn-says true false true true true here = record {
  over = λ same. (refl, λ first. refl);
  entry = λ same. let zero_one : ◌≡◌ {A = ℕ} 0 1 = cc in absurd (omega arith);
  lead = λ tag same. let zero_one : ◌≡◌ {A = ℕ} 0 1 = cc in absurd (omega arith);
}
turn-says true false false true true here = record {
  over = λ same. let zero_one : ◌≡◌ {A = ℕ} 0 1 = cc in absurd (omega arith);
  entry = λ same. let zero_one : ◌≡◌ {A = ℕ} 0 1 = cc in absurd (omega arith);
  lead = λ tag same. (refl, refl, cc);
}

module _ (words fields message enclosing : List ℕ) (group : ℕ) (declared : Option ℕ) (entries cursor : ℕ) where
  turn-here : TurnSays (ltb cursor (row_count fields)) (eqb (tag_of fields cursor) (delimiter_at words group)) (ends_group declared entries (among enclosing) (tag_of fields cursor))
      (eqb entries 0) (tag_of fields cursor ∈ᵇ level_members words (1 + group)) (tag_of fields cursor)
      (turn_at fields (level_members words (1 + group)) enclosing (delimiter_at words group) declared entries cursor)
  unfolding turn_at
  turn-here =
      turn-says (ltb cursor (row_count fields)) (eqb (tag_of fields cursor) (delimiter_at words group)) (ends_group declared entries (among enclosing) (tag_of fields cursor))
      (eqb entries 0) (tag_of fields cursor ∈ᵇ level_members words (1 + group)) (tag_of fields cursor)

  -- `member_leads` asks of no entries; where there are none, that is the same
  leads-is : entries ≡ 0 → member_leads (input_of words fields message) group (among enclosing) declared cursor
      ≡ leads_by (ltb cursor (row_count fields)) (eqb (tag_of fields cursor) (delimiter_at words group)) (tag_of fields cursor ∈ᵇ level_members words (1 + group))
      (ends_group declared entries (among enclosing) (tag_of fields cursor))
  unfolding member_leads
  leads-is none_yet = rw none_yet

  begins-is : entry_begins (input_of words fields message) group (among enclosing) declared entries cursor
      ≡ begins_by (ltb cursor (row_count fields)) (eqb (tag_of fields cursor) (delimiter_at words group)) (ends_group declared entries (among enclosing) (tag_of fields cursor))
  unfolding entry_begins
  begins-is = refl

  module _ (turn : Turn) (turns : turn ≡ turn_at fields (level_members words (1 + group)) enclosing (delimiter_at words group) declared entries cursor) where
    pub turn-over : turn ≡ Over → (entry_begins (input_of words fields message) group (among enclosing) declared entries cursor ≡ false)
        × (entries ≡ 0 → member_leads (input_of words fields message) group (among enclosing) declared cursor ≡ false)
    turn-over is =
        let facts = turn-here.over (sym turns ∙ is) in
        (begins-is ∙ facts.0, λ (none_yet : entries ≡ 0). leads-is none_yet ∙ facts.1 (eq-eqb entries 0 none_yet))

    pub turn-entry : turn ≡ Entry → (entry_begins (input_of words fields message) group (among enclosing) declared entries cursor ≡ true)
        × (entries ≡ 0 → member_leads (input_of words fields message) group (among enclosing) declared cursor ≡ false)
    turn-entry is =
        let facts = turn-here.entry (sym turns ∙ is) in
        (begins-is ∙ facts.0, λ (none_yet : entries ≡ 0). leads-is none_yet ∙ facts.1)

    pub turn-lead : (tag : ℕ) → turn ≡ Lead tag → (entries ≡ 0) × (member_leads (input_of words fields message) group (among enclosing) declared cursor ≡ true) × (tag ≡ tag_of fields cursor)
    turn-lead tag is =
        let facts = turn-here.lead tag (sym turns ∙ is) in
        let none_yet : entries ≡ 0 = eqb-true entries 0 facts.0 in
        (none_yet, leads-is none_yet ∙ facts.1, facts.2)

-- ---- with the level's lists and numbers as code read them

module _ (words : List ℕ) (group : ℕ) (members count_tags : List ℕ) (first delimiter : ℕ) (are-members : members ≡ level_members words (1 + group))
    (is-delimiter : delimiter ≡ delimiter_at words group) where
  pub level-step : count_tags ≡ level_count_tags words (1 + group) → first ≡ first_group words (1 + group)
      → (fields : List ℕ) (start cursor : ℕ) (step : EntryStep) → step ≡ entry_step fields members count_tags first delimiter start cursor
      → step ≡ entry_step fields (level_members words (1 + group)) (level_count_tags words (1 + group)) (first_group words (1 + group)) (delimiter_at words group) start cursor
  level-step are-tags is-first fields start cursor step_taken steps =
      steps
      ∙ ap (λ (list : List ℕ). entry_step fields list count_tags first delimiter start cursor) are-members
      ∙ ap (λ (list : List ℕ). entry_step fields (level_members words (1 + group)) list first delimiter start cursor) are-tags
      ∙ ap (λ (number : ℕ). entry_step fields (level_members words (1 + group)) (level_count_tags words (1 + group)) number delimiter start cursor) is-first
      ∙ ap (λ (tag : ℕ). entry_step fields (level_members words (1 + group)) (level_count_tags words (1 + group)) (first_group words (1 + group)) tag start cursor) is-delimiter

module _ (words : List ℕ) (group : ℕ) (members : List ℕ) (delimiter : ℕ) (are-members : members ≡ level_members words (1 + group))
    (is-delimiter : delimiter ≡ delimiter_at words group) where
  pub level-turn : (fields enclosing : List ℕ) (declared : Option ℕ) (entries cursor : ℕ) (turn : Turn) → turn ≡ turn_at fields members enclosing delimiter declared entries cursor
      → turn ≡ turn_at fields (level_members words (1 + group)) enclosing (delimiter_at words group) declared entries cursor
  level-turn fields enclosing declared entries cursor turn turns =
      turns
      ∙ ap (λ (list : List ℕ). turn_at fields list enclosing delimiter declared entries cursor) are-members
      ∙ ap (λ (tag : ℕ). turn_at fields (level_members words (1 + group)) enclosing tag declared entries cursor) is-delimiter
