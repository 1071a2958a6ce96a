-- Laws of `GroupSteps.antt`: what each decision tells of the fields, and which decision is taken where. Assumes nothing.
use Rattle.std.specs.Prelude.{◌≡◌, refl, ◌≢◌, ℕ, suc, ◌≤◌, ◌<◌, Bool, true, not, ◌&&◌, ◌||◌, ltb, leb, eqb, if◌then◌else◌, Option, Some, None}
use Rattle.std.proofs.Common.{sym, ◌∙◌, true≢false, arith}
use Rattle.std.proofs.Math.Bool.{false}
use Rattle.std.proofs.lemmas.Bool.{false≢true}
use borrow.Author.Tests.{ltb-true, leb-true, eqb-true, eqb-false, lt-ltb, le-ltb, le-leb, lt-leb, eq-eqb, ne_eqb}
use Rattle.field_table.specs.WalkInput.{Input, count_at}
use Rattle.group_reading.specs.GroupSteps.{ends_group, Opening, outside, too_deep, member_leads_lem, entries_follow, Step, stops, plain_field, nested_group_lem, field_step, member_leads, entry_begins, entry_stops, opening_at, step_at}

-- ---- the decisions, over the outcomes of their tests

-- `entry_stops`
abbrev pub stops_by : (inside member at_start delimits : Bool) → Bool
stops_by inside member at_start delimits = not inside || not member || not at_start && delimits

-- `entry_begins`
abbrev pub begins_by : (inside delimits ends : Bool) → Bool
begins_by inside delimits ends = inside && delimits && not ends

-- `member_leads`
abbrev pub leads_by : (inside delimits member ends : Bool) → Bool
leads_by inside delimits member ends = inside && not delimits && member && not ends

abbrev opening_by : (inside shallow leads : Bool) → Opening
opening_by inside shallow leads =
    if not inside then outside
    else if not shallow then too_deep
    else if leads then member_leads_lem
    else entries_follow

stops_by-open : (inside member at_start delimits : Bool) → stops_by inside member at_start delimits ≡ false
    → (inside ≡ true) × (member ≡ true) × ((not at_start && delimits) ≡ false)
stops_by-open false member at_start delimits going_on = absurd (true≢false going_on)
stops_by-open true false at_start delimits going_on = absurd (true≢false going_on)
stops_by-open true true at_start delimits going_on = (refl, refl, going_on)

stops_by-delimiter : (inside member : Bool) → stops_by inside member false true ≡ true
stops_by-delimiter false member = refl
stops_by-delimiter true false = refl
stops_by-delimiter true true = refl

begins_by-open : (inside delimits ends : Bool) → begins_by inside delimits ends ≡ true → (inside ≡ true) × (delimits ≡ true)
begins_by-open false delimits ends begins = absurd (false≢true begins)
begins_by-open true false ends begins = absurd (false≢true begins)
begins_by-open true true ends begins = (refl, refl)

leads_by-open : (inside delimits member ends : Bool) → leads_by inside delimits member ends ≡ true → (inside ≡ true) × (member ≡ true)
leads_by-open false delimits member ends leads = absurd (false≢true leads)
leads_by-open true true member ends leads = absurd (false≢true leads)
leads_by-open true false false ends leads = absurd (false≢true leads)
leads_by-open true false true ends leads = (refl, refl)

leads_by-delimiter : (inside member ends : Bool) → leads_by inside true member ends ≡ false
leads_by-delimiter false member ends = refl
leads_by-delimiter true member ends = refl

outside-only : (inside shallow leads : Bool) → opening_by inside shallow leads ≡ outside → inside ≡ false
outside-only false shallow leads opening = refl
outside-only true false leads opening = let zero_one : ◌≡◌ {A = ℕ} 0 1 = cc in absurd (omega arith)
outside-only true true true opening = let zero_one : ◌≡◌ {A = ℕ} 0 1 = cc in absurd (omega arith)
outside-only true true false opening = let zero_one : ◌≡◌ {A = ℕ} 0 1 = cc in absurd (omega arith)

leads-only : (inside shallow leads : Bool) → opening_by inside shallow leads ≡ member_leads_lem → leads ≡ true
leads-only false shallow leads opening = let zero_one : ◌≡◌ {A = ℕ} 0 1 = cc in absurd (omega arith)
leads-only true false leads opening = let zero_one : ◌≡◌ {A = ℕ} 0 1 = cc in absurd (omega arith)
leads-only true true true opening = refl
leads-only true true false opening = let zero_one : ◌≡◌ {A = ℕ} 0 1 = cc in absurd (omega arith)

entries-only : (inside shallow leads : Bool) → opening_by inside shallow leads ≡ entries_follow → (shallow ≡ true) × (leads ≡ false)
entries-only false shallow leads opening = let zero_one : ◌≡◌ {A = ℕ} 0 1 = cc in absurd (omega arith)
entries-only true false leads opening = let zero_one : ◌≡◌ {A = ℕ} 0 1 = cc in absurd (omega arith)
entries-only true true true opening = let zero_one : ◌≡◌ {A = ℕ} 0 1 = cc in absurd (omega arith)
entries-only true true false opening = (refl, refl)

-- what a step tells of the two tests that it is made from
pub record StepTells {Group : Type 0} (stopped : Bool) (inner : Option Group) (step : Step Group) : Type 0 where
  pub stopping : step ≡ stops → stopped ≡ true
  pub plain : step ≡ plain_field → (stopped ≡ false) × (inner ≡ None)
  pub nesting : (group : Group) → step ≡ nested_group_lem group → (stopped ≡ false) × (inner ≡ Some group)

step-tells : {Group : Type 0} (stopped : Bool) (inner : Option Group) → StepTells stopped inner (if stopped then stops else field_step inner)
step-tells true inner = record {
  stopping = λ same. refl;
  plain = λ same. let zero_one : ◌≡◌ {A = ℕ} 0 1 = cc in absurd (omega arith);
  nesting = λ group same. let zero_one : ◌≡◌ {A = ℕ} 0 1 = cc in absurd (omega arith);
}
step-tells false None = record {
  stopping = λ same. let zero_one : ◌≡◌ {A = ℕ} 0 1 = cc in absurd (omega arith);
  plain = λ same. (refl, refl);
  nesting = λ group same. let zero_one : ◌≡◌ {A = ℕ} 0 1 = cc in absurd (omega arith);
}
step-tells false (Some inner) = record {
  stopping = λ same. let zero_one : ◌≡◌ {A = ℕ} 0 1 = cc in absurd (omega arith);
  plain = λ same. let zero_one : ◌≡◌ {A = ℕ} 0 1 = cc in absurd (omega arith);
  nesting = λ group same. (refl, cc);
}

module _ (input : Input) where
  open input use {layout, fields, depth_limit}
  open layout use {Group, delimiter, is_member, nested_group}
  open fields use {field_count, tag_at}

  -- ---- entry_stops

  module _ (at_start : Bool) (group : Group) (cursor : ℕ) where
    pub entry_stops-within : entry_stops input at_start group cursor ≡ false → cursor < field_count
    unfolding entry_stops
    entry_stops-within going_on = ltb-true cursor field_count (stops_by-open (ltb cursor field_count) (is_member group (tag_at cursor)) at_start (eqb (tag_at cursor) (delimiter group)) going_on).0

  module _ (group : Group) (cursor : ℕ) where
    pub entry_stops-member : entry_stops input false group cursor ≡ false → (is_member group (tag_at cursor) ≡ true) × (tag_at cursor ≢ delimiter group)
    unfolding entry_stops
    entry_stops-member going_on =
        let open_by = stops_by-open (ltb cursor field_count) (is_member group (tag_at cursor)) false (eqb (tag_at cursor) (delimiter group)) going_on in
        (open_by.1, eqb-false (tag_at cursor) (delimiter group) open_by.2)

    pub entry_stops-goes_on : cursor < field_count → is_member group (tag_at cursor) ≡ true → tag_at cursor ≢ delimiter group
        → entry_stops input false group cursor ≡ false
    unfolding entry_stops
    entry_stops-goes_on inside member other = rw (lt-ltb cursor field_count inside, member, ne_eqb (tag_at cursor) (delimiter group) other)

    -- the delimiter is a member, so the first field of an entry is taken
    pub entry_stops-first : is_member group (delimiter group) ≡ true → cursor < field_count → tag_at cursor ≡ delimiter group
        → entry_stops input true group cursor ≡ false
    unfolding entry_stops
    entry_stops-first member inside delimits = rw (lt-ltb cursor field_count inside, delimits, member)

    pub entry_stops-delimiter : tag_at cursor ≡ delimiter group → entry_stops input false group cursor ≡ true
    unfolding entry_stops
    entry_stops-delimiter delimits = rw (eq-eqb (tag_at cursor) (delimiter group) delimits, stops_by-delimiter)

  -- ---- entry_begins, member_leads

  module _ (group : Group) (enclosing : ℕ → Bool) (declared : Option ℕ) where
    pub entry_begins-delimiter : (entries cursor : ℕ) → entry_begins input group enclosing declared entries cursor ≡ true
        → (cursor < field_count) × (tag_at cursor ≡ delimiter group)
    unfolding entry_begins
    entry_begins-delimiter entries cursor begins =
        let open_by = begins_by-open (ltb cursor field_count) (eqb (tag_at cursor) (delimiter group)) (ends_group declared entries enclosing (tag_at cursor)) begins in
        (ltb-true cursor field_count open_by.0, eqb-true (tag_at cursor) (delimiter group) open_by.1)

    -- a member that leads is taken as the first field of an entry
    pub member_leads-taken : (cursor : ℕ) → member_leads input group enclosing declared cursor ≡ true → entry_stops input true group cursor ≡ false
    unfolding member_leads entry_stops
    member_leads-taken cursor leads =
        let open_by = leads_by-open (ltb cursor field_count) (eqb (tag_at cursor) (delimiter group)) (is_member group (tag_at cursor)) (ends_group declared 0 enclosing (tag_at cursor)) leads in
        rw (open_by.0, open_by.1)

    pub member_leads-delimiter : (cursor : ℕ) → tag_at cursor ≡ delimiter group → member_leads input group enclosing declared cursor ≡ false
    unfolding member_leads
    member_leads-delimiter cursor delimits = rw (eq-eqb (tag_at cursor) (delimiter group) delimits, leads_by-delimiter)

  -- ---- opening_at

  module _ (group : Group) (depth : ℕ) (enclosing : ℕ → Bool) (index : ℕ) where
    pub opening_at-outside : field_count ≤ index → opening_at input group depth enclosing index ≡ outside
    unfolding opening_at
    opening_at-outside over = rw (le-ltb index field_count over)

    pub opening_at-inside : {A : Type 0} → index < field_count → opening_at input group depth enclosing index ≡ outside → A
    unfolding opening_at
    opening_at-inside inside opening =
        absurd (true≢false (sym (lt-ltb index field_count inside)
        ∙ outside-only (ltb index field_count) (leb depth depth_limit) (member_leads input group enclosing (count_at fields index) (suc index)) opening))

    pub opening_at-too_deep : index < field_count → depth_limit < depth → opening_at input group depth enclosing index ≡ too_deep
    unfolding opening_at
    opening_at-too_deep inside deep = rw (lt-ltb index field_count inside, lt-leb depth depth_limit deep)

    pub opening_at-member_leads : index < field_count → depth ≤ depth_limit → member_leads input group enclosing (count_at fields index) (suc index) ≡ true
        → opening_at input group depth enclosing index ≡ member_leads_lem
    unfolding opening_at
    opening_at-member_leads inside shallow leads = rw (lt-ltb index field_count inside, le-leb depth depth_limit shallow, leads)

    pub opening_at-leads : opening_at input group depth enclosing index ≡ member_leads_lem
        → member_leads input group enclosing (count_at fields index) (suc index) ≡ true
    unfolding opening_at
    opening_at-leads opening = leads-only (ltb index field_count) (leb depth depth_limit) (member_leads input group enclosing (count_at fields index) (suc index)) opening

    pub opening_at-entries_follow : index < field_count → depth ≤ depth_limit
        → member_leads input group enclosing (count_at fields index) (suc index) ≡ false
        → opening_at input group depth enclosing index ≡ entries_follow
    unfolding opening_at
    opening_at-entries_follow inside shallow leads = rw (lt-ltb index field_count inside, le-leb depth depth_limit shallow, leads)

    pub opening_at-entries : opening_at input group depth enclosing index ≡ entries_follow
        → (depth ≤ depth_limit) × (member_leads input group enclosing (count_at fields index) (suc index) ≡ false)
    unfolding opening_at
    opening_at-entries opening =
        let only = entries-only (ltb index field_count) (leb depth depth_limit) (member_leads input group enclosing (count_at fields index) (suc index)) opening in
        (leb-true depth depth_limit only.0, only.1)

  -- ---- step_at

  module _ (at_start : Bool) (group : Group) (cursor : ℕ) where
    pub step_at-tells : StepTells (entry_stops input at_start group cursor) (nested_group group (tag_at cursor)) (step_at input at_start group cursor)
    unfolding step_at
    step_at-tells = step-tells (entry_stops input at_start group cursor) (nested_group group (tag_at cursor))

    pub step_at-stops : entry_stops input at_start group cursor ≡ true → step_at input at_start group cursor ≡ stops
    unfolding step_at
    step_at-stops stopped = rw stopped

    pub step_at-plain : entry_stops input at_start group cursor ≡ false → nested_group group (tag_at cursor) ≡ None
        → step_at input at_start group cursor ≡ plain_field
    unfolding step_at
    step_at-plain going_on no_inner = rw (going_on, no_inner)

    pub step_at-nested : (inner : Group) → entry_stops input at_start group cursor ≡ false → nested_group group (tag_at cursor) ≡ Some inner
        → step_at input at_start group cursor ≡ nested_group_lem inner
    unfolding step_at
    step_at-nested inner going_on found = rw (going_on, found)
