-- From one position there is at most one reading of a group, and it has one derivation. Two readings end alike since the walk ends behind
-- both (`Complete.antt`); two derivations between the same positions are then equal, constructor by constructor. Assumes nothing.
use Rattle.std.specs.Prelude.{◌≡◌, refl, ◌≢◌, ℕ, suc, ◌+◌, ◌*◌, ◌-◌, ◌≤◌, ◌<◌, Bool, true, false, List, [], ◌∷◌, Option, Some, None}
use Rattle.std.proofs.Common.{sym, ap, ◌∙◌, subst, arith}
use Rattle.std.proofs.Math.Path.{subst₃}
use mathlib.Core.HLevel.{Discrete, hedberg, ¬_prop, Σ_prop_path}
use Rattle.std.proofs.Math.Bool.{Bool-set}
use Rattle.std.proofs.Math.Nat.{ℕ_set}
use Rattle.std.proofs.Math.Bridge.{le_prop}
use Rattle.std.proofs.Math.Decide.{ℕ_discrete}
use Rattle.ascii.specs.Membership.{◌∈ᵇ◌}
use Rattle.field_table.specs.WalkInput.{Input, count_at}
use Rattle.field_table.specs.ReliedRules.{LayoutRules}
use Rattle.group_reading.specs.GroupReading.{may_follow, Reading, Entries, Items, Item, reading, no_entry, entry, no_item, item, plain, nested}
use Rattle.group_reading.specs.GroupReadingLaws.{items_advance, item-advances}
use Rattle.group_reading.specs.GroupSteps.{entry_stops}
use Rattle.group_reading.specs.ReadingTheorem.Follow.{rest-stops}
use Rattle.group_reading.specs.ReadingTheorem.OptionSet.{option-set}
use Rattle.group_reading.specs.ReadingTheorem.Complete.{reading-walked, items_walked}

-- two counts are equal in at most one way
count-discrete : Discrete (Option ℕ)
count-discrete None None = yes refl
count-discrete None (Some n) = no (λ same. let zero_one : ◌≡◌ {A = ℕ} 0 1 = cc in omega arith)
count-discrete (Some m) None = no (λ same. let zero_one : ◌≡◌ {A = ℕ} 0 1 = cc in omega arith)
count-discrete (Some m) (Some n) = go (ℕ_discrete m n)
  where
    go : Dec (m ≡ n) → Dec (Some m ≡ Some n)
    go (yes same) = yes (ap Some same)
    go (no other) = no (λ same. let inner : m ≡ n = cc in other inner)

count_set : IsSet (Option ℕ)
count_set = hedberg count-discrete

none_or_some : {A : Type 0} {found : Option A} {inner : A} → found ≡ None → found ≡ Some inner → ⊥
none_or_some nothing something = let zero_one : ◌≡◌ {A = ℕ} 0 1 = cc in omega arith

module _ (input : Input) (rules : LayoutRules input.layout) where
  open input use {layout, fields, depth_limit}
  open layout use {Group, delimiter, is_member, nested_group}
  open fields use {field_count, tag_at}
  open rules use {group_set, Valid, nested_valid}

  -- ---- one end

  pub reading-ends : {group : Group} {depth : ℕ} {around : ℕ → Bool} {first past past' : ℕ}
      → Reading input group depth around first past → Reading input group depth around first past' → Valid group → past ≡ past'
  reading-ends {first = first} read read' valid =
      ap (λ walk. walk.next)
      (sym (reading-walked input rules read valid (3 * (field_count - first) + 1) (omega arith)) ∙ reading-walked input rules read' valid (3 * (field_count - first) + 1) (omega arith))

  items_end : {group : Group} {depth : ℕ} {seen : List ℕ} {first past past' : ℕ} → Items input group depth seen first past
      → Items input group depth seen first past' → Valid group
      → entry_stops input false group past ≡ true → entry_stops input false group past' ≡ true → past ≡ past'
  items_end {first = first} items items' valid stopped stopped' =
      ap (λ scan. scan.next)
      (sym (items_walked input rules items valid stopped (3 * (field_count - first) + 2) (omega arith)) ∙ items_walked input rules items' valid stopped' (3 * (field_count - first) + 2) (omega arith))

  item-ends : {group : Group} {depth first past past' : ℕ} → Item input group depth first past → Item input group depth first past' → Valid group
      → past ≡ past'
  item-ends (plain _ passed) (plain _ passed') valid = omega arith
  item-ends (plain nothing _) (nested inner found _) valid = absurd (none_or_some nothing found)
  item-ends (nested inner found _) (plain nothing _) valid = absurd (none_or_some nothing found)
  item-ends {group = group} {depth = depth} {first = first} {past' = past'} (nested inner found read) (nested inner' found' read') valid =
      let same : inner' ≡ inner = cc in
      reading-ends read (subst (λ one. Reading input one (suc depth) (is_member group) first past') same read') (nested_valid group inner (tag_at first) valid found)

  -- ---- two uses of one constructor, where their parts are equal

  reading-path : {group : Group} {depth : ℕ} {around : ℕ → Bool} {first past : ℕ} (entries : ℕ) (inside : first < field_count) (shallow : depth ≤ depth_limit)
      (says : count_at fields first ≡ Some entries) (body : Entries input group depth entries (suc first) past) (follows : may_follow input group around entries past ≡ true)
      → ((other : Entries input group depth entries (suc first) past) → body ≡ other)
      → (entries' : ℕ) (inside' : first < field_count) (shallow' : depth ≤ depth_limit) (says' : count_at fields first ≡ Some entries')
      (body' : Entries input group depth entries' (suc first) past) (follows' : may_follow input group around entries' past ≡ true)
      → ◌≡◌ {A = Reading input group depth around first past} (reading entries inside shallow says body follows) (reading entries' inside' shallow' says' body' follows')
  reading-path {group = group} {depth = depth} {around = around} {first = first} {past = past} entries inside shallow says body follows bodies entries' inside' shallow' says' body' follows' =
      let same : entries ≡ entries' = cc in
      subst (λ number. (says'' : count_at fields first ≡ Some number) (body'' : Entries input group depth number (suc first) past) (follows'' : may_follow input group around number past ≡ true)
      → ◌≡◌ {A = Reading input group depth around first past} (reading entries inside shallow says body follows) (reading number inside' shallow' says'' body'' follows''))
      same
      (λ says'' body'' follows''. λ x. reading entries (le_prop inside inside' x) (le_prop shallow shallow' x) (count_set _ _ says says'' x) (bodies body'' x) (Bool-set _ _ follows follows'' x))
      says' body' follows'

  entry-path : {group : Group} {depth entries first past : ℕ} (others second next : ℕ) (one_more : entries ≡ suc others) (inside : first < field_count) (delimits : tag_at first ≡ delimiter group)
      (lead : Item input group depth first second) (items : Items input group depth (tag_at first ∷ []) second next) (rest : Entries input group depth others next past)
      → ((other : Item input group depth first second) → lead ≡ other)
      → ((other : Items input group depth (tag_at first ∷ []) second next) → items ≡ other)
      → ((other : Entries input group depth others next past) → rest ≡ other)
      → (others' second' next' : ℕ) → others ≡ others' → second ≡ second' → next ≡ next'
      → (one-more' : entries ≡ suc others') (inside' : first < field_count) (delimits' : tag_at first ≡ delimiter group)
      (lead' : Item input group depth first second') (items' : Items input group depth (tag_at first ∷ []) second' next') (rest' : Entries input group depth others' next' past)
      → ◌≡◌ {A = Entries input group depth entries first past} (entry others second next one_more inside delimits lead items rest) (entry others' second' next' one-more' inside' delimits' lead' items' rest')
  entry-path {group = group} {depth = depth} {entries = entries} {first = first} {past = past} others second next one_more inside delimits lead items rest leads all-items rests
      others' second' next' same-others same_second same_next one-more' inside' delimits' lead' items' rest' =
      subst₃ (λ others'' second'' next''. (one-more'' : entries ≡ suc others'') (lead'' : Item input group depth first second'')
      (items'' : Items input group depth (tag_at first ∷ []) second'' next'') (rest'' : Entries input group depth others'' next'' past)
      → ◌≡◌ {A = Entries input group depth entries first past} (entry others second next one_more inside delimits lead items rest) (entry others'' second'' next'' one-more'' inside' delimits' lead'' items'' rest''))
      same-others same_second same_next
      (λ one-more'' lead'' items'' rest''. λ x. entry others second next (ℕ_set _ _ one_more one-more'' x) (le_prop inside inside' x) (ℕ_set _ _ delimits delimits' x) (leads lead'' x) (all-items items'' x) (rests rest'' x))
      one-more' lead' items' rest'

  item-path : {group : Group} {depth : ℕ} {seen : List ℕ} {first past : ℕ} (next : ℕ) (inside : first < field_count) (member : is_member group (tag_at first) ≡ true)
      (other_tag : tag_at first ≢ delimiter group) (fresh : tag_at first ∈ᵇ seen ≡ false) (one : Item input group depth first next) (rest : Items input group depth (tag_at first ∷ seen) next past)
      → ((other : Item input group depth first next) → one ≡ other)
      → ((other : Items input group depth (tag_at first ∷ seen) next past) → rest ≡ other)
      → (next' : ℕ) → next ≡ next'
      → (inside' : first < field_count) (member' : is_member group (tag_at first) ≡ true) (other-tag' : tag_at first ≢ delimiter group) (fresh' : tag_at first ∈ᵇ seen ≡ false)
      (one' : Item input group depth first next') (rest' : Items input group depth (tag_at first ∷ seen) next' past)
      → ◌≡◌ {A = Items input group depth seen first past} (item next inside member other_tag fresh one rest) (item next' inside' member' other-tag' fresh' one' rest')
  item-path {group = group} {depth = depth} {seen = seen} {first = first} {past = past} next inside member other_tag fresh one rest ones rests next' same_next inside' member' other-tag' fresh' one' rest' =
      subst (λ next''. (one'' : Item input group depth first next'') (rest'' : Items input group depth (tag_at first ∷ seen) next'' past)
      → ◌≡◌ {A = Items input group depth seen first past} (item next inside member other_tag fresh one rest) (item next'' inside' member' other-tag' fresh' one'' rest''))
      same_next
      (λ one'' rest''. λ x. item next (le_prop inside inside' x) (Bool-set _ _ member member' x) (¬_prop other_tag other-tag' x) (Bool-set _ _ fresh fresh' x) (ones one'' x) (rests rest'' x))
      one' rest'

  nested-path : {group : Group} {depth first past : ℕ} (inner : Group) (found : nested_group group (tag_at first) ≡ Some inner) (read : Reading input inner (suc depth) (is_member group) first past)
      → ((other : Reading input inner (suc depth) (is_member group) first past) → read ≡ other)
      → (inner' : Group) (found' : nested_group group (tag_at first) ≡ Some inner') (read' : Reading input inner' (suc depth) (is_member group) first past)
      → ◌≡◌ {A = Item input group depth first past} (nested inner found read) (nested inner' found' read')
  nested-path {group = group} {depth = depth} {first = first} {past = past} inner found read reads inner' found' read' =
      let same : inner ≡ inner' = cc in
      subst (λ one. (found'' : nested_group group (tag_at first) ≡ Some one) (read'' : Reading input one (suc depth) (is_member group) first past)
      → ◌≡◌ {A = Item input group depth first past} (nested inner found read) (nested one found'' read''))
      same
      (λ found'' read''. λ x. nested inner (option-set group_set _ _ found found'' x) (reads read'' x))
      found' read'

  -- ---- one derivation

  mutual
    pub reading-unique : {group : Group} {depth : ℕ} {around : ℕ → Bool} {first past : ℕ} (read read' : Reading input group depth around first past)
        → Valid group → read ≡ read'
    reading-unique {around = around} (reading entries inside shallow says body follows) (reading entries' inside' shallow' says' body' follows') valid =
        reading-path entries inside shallow says body follows (λ other. entries-unique body other valid around entries (omega arith) follows) entries' inside' shallow' says' body' follows'

    entries-unique : {group : Group} {depth entries first past : ℕ} (body body' : Entries input group depth entries first past) → Valid group
        → (around : ℕ → Bool) (declared : ℕ) → entries ≤ declared → may_follow input group around declared past ≡ true → body ≡ body'
    entries-unique (no_entry none_left same) (no_entry none-left' same') valid around declared few follows = λ x. no_entry (ℕ_set _ _ none_left none-left' x) (ℕ_set _ _ same same' x)
    entries-unique (no_entry none_left same) (entry others second next one_more _ _ _ _ _) valid around declared few follows = absurd (omega arith)
    entries-unique (entry others second next one_more _ _ _ _ _) (no_entry none_left same) valid around declared few follows = absurd (omega arith)
    entries-unique {group = group} {depth = depth} {first = first} (entry others second next one_more inside delimits lead items rest)
        (entry others' second' next' one-more' inside' delimits' lead' items' rest') valid around declared few follows =
        let same_second = item-ends lead lead' valid in
        let stopped = rest-stops input around declared (omega arith) rest follows in
        let same_next =
        items_end items (subst (λ start. Items input group depth (tag_at first ∷ []) start next') (sym same_second) items') valid stopped
        (rest-stops input around declared (omega arith) rest' follows) in
        entry-path others second next one_more inside delimits lead items rest (λ other. item-unique lead other valid) (λ other. items_unique items other valid stopped)
        (λ other. entries-unique rest other valid around declared (omega arith) follows)
        others' second' next' (omega arith) same_second same_next one-more' inside' delimits' lead' items' rest'

    items_unique : {group : Group} {depth : ℕ} {seen : List ℕ} {first past : ℕ} (items items' : Items input group depth seen first past) → Valid group
        → entry_stops input false group past ≡ true → items ≡ items'
    items_unique (no_item same) (no_item same') valid stopped = λ x. no_item (ℕ_set _ _ same same' x)
    items_unique (no_item same) (item next _ _ _ _ one rest) valid stopped =
        let one_on = item-advances input one in
        let rest-on = items_advance input rest in
        absurd (omega arith)
    items_unique (item next _ _ _ _ one rest) (no_item same) valid stopped =
        let one_on = item-advances input one in
        let rest-on = items_advance input rest in
        absurd (omega arith)
    items_unique (item next inside member other_tag fresh one rest) (item next' inside' member' other-tag' fresh' one' rest') valid stopped =
        item-path next inside member other_tag fresh one rest (λ other. item-unique one other valid) (λ other. items_unique rest other valid stopped)
        next' (item-ends one one' valid) inside' member' other-tag' fresh' one' rest'

    item-unique : {group : Group} {depth first past : ℕ} (one one' : Item input group depth first past) → Valid group → one ≡ one'
    item-unique (plain nothing passed) (plain nothing' passed') valid = λ x. plain (option-set group_set _ _ nothing nothing' x) (ℕ_set _ _ passed passed' x)
    item-unique (plain nothing _) (nested inner found _) valid = absurd (none_or_some nothing found)
    item-unique (nested inner found _) (plain nothing _) valid = absurd (none_or_some nothing found)
    item-unique {group = group} {first = first} (nested inner found read) (nested inner' found' read') valid =
        nested-path inner found read (λ other. reading-unique read other (nested_valid group inner (tag_at first) valid found)) inner' found' read'
