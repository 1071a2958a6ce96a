-- The layout that an expansion gives meets the seven rules of a layout (`LayoutRules.antt`): members and count tags strictly ascending, the
-- delimiter and every count tag a member. Assumes nothing.
--
--   Covers members tags     every one of the tags is among the members
--   GroupsMeet groups       each of the groups, and each below it, meets rules 1 to 4
--   Proper must level       the members of a level in work cover the tags that must be there and the count tags of its groups, and its groups
--                           meet their rules
use Rattle.std.specs.Prelude.{◌≡◌, refl, ℕ, Bool, true, false, cond, ◌||◌, List, [], ◌∷◌, ◌++◌, map, eqb, leb}
use Rattle.std.proofs.Common.{sym, ◌∙◌, eq-eqb, eqb-true}
use Rattle.std.proofs.Math.Path.{ap}
use Rattle.std.proofs.lemmas.Bool.{false≢true}
use Rattle.ascii.specs.Bytes.{every}
use Rattle.ascii.specs.NotationLaws.{and_both}
use Rattle.ascending.specs.Sort.{inserted, sorted, is_in}
use Rattle.ascending.specs.Dedup.{deduped_after, deduped}
use Rattle.ascending.specs.DedupLaws.{members_ascend, is_in-members}
use Rattle.ascending.specs.SearchLaws.{strictly_is_strictly_ascending}
use Rattle.layouts.specs.Limits.{Limits}
use Rattle.layouts.specs.Layout.{Group, Layout, group_of_lem, members_of, count_tags_of, count_tag}
use Rattle.layouts.specs.LayoutLaws.{listed-grouped, map-append, every_below, every_group-below}
use Rattle.layouts.specs.LayoutRules.{is_ascending, ◌∈ᵇ◌, are_among, meets_group_rules, meets_top_rules, every_group, every_with, meets_rules}
use Rattle.expansion.specs.Dictionary.{Body, GroupDef, Dictionary, count_tag_of, delimiter_of}
use Rattle.expansion.specs.Expansion.{Work, OpenLevel, empty_level, add_member, push_member, close_group, inserted_group, sorted_groups, firsts_after, firsts_of, finish, retained, finish_entry, build, Expanded, expand_of}
use Rattle.expansion.specs.ExpansionInduction.{Steps, keeps_build}
use Rattle.expansion.specs.ExpansionLaws.{built, keeps_add_member, keeps_add_required}

-- ---- tags among members

abbrev pub Covers : List ℕ → List ℕ → Type 0
Covers members tags = (tag : ℕ) → is_in tag tags ≡ true → is_in tag members ≡ true

or_cases : (a b c : Bool) → (a ≡ true → c ≡ true) → (b ≡ true → c ≡ true) → a || b ≡ true → c ≡ true
or_cases true b c left right holds = left refl
or_cases false b c left right holds = right holds

or_left : (a b : Bool) → a ≡ true → a || b ≡ true
or_left a b holds = rw holds

or_right : (a b : Bool) → b ≡ true → a || b ≡ true
or_right true b holds = refl
or_right false b holds = holds

or-regroup : (a b c : Bool) → a || (b || c) ≡ a || b || c
or-regroup true b c = refl
or-regroup false b c = refl

pub is_in-append : (tag : ℕ) (these those : List ℕ) → is_in tag (these ++ those) ≡ is_in tag these || is_in tag those
unfolding is_in
is_in-append tag [] those = refl
is_in-append tag (first ∷ rest) those =
    ap (λ (deeper : Bool). eqb first tag || deeper) (is_in-append tag rest those) ∙ or-regroup (eqb first tag) (is_in tag rest) (is_in tag those)

is_in-front : (tag : ℕ) (these those : List ℕ) → is_in tag these ≡ true → is_in tag (these ++ those) ≡ true
is_in-front tag these those holds = is_in-append tag these those ∙ or_left (is_in tag these) (is_in tag those) holds

is_in-one : (tag : ℕ) → is_in tag (tag ∷ []) ≡ true
unfolding is_in
is_in-one tag = rw (eq-eqb tag tag refl)

is_in-last : (tag : ℕ) (these : List ℕ) → is_in tag (these ++ (tag ∷ [])) ≡ true
is_in-last tag these = is_in-append tag these (tag ∷ []) ∙ or_right (is_in tag these) (is_in tag (tag ∷ [])) (is_in-one tag)

covers_more : (members tags : List ℕ) (member : ℕ) → Covers members tags → Covers (members ++ (member ∷ [])) tags
covers_more members tags member covers tag there = is_in-front tag members (member ∷ []) (covers tag there)

covers_nothing : (members : List ℕ) → Covers members []
unfolding is_in
covers_nothing members tag there = absurd (false≢true there)

covers_one : (member : ℕ) (members : List ℕ) → is_in member members ≡ true → Covers members (member ∷ [])
unfolding is_in
covers_one member members there tag same =
    or_cases (eqb member tag) false (is_in tag members) (λ equal. rw (← eqb-true member tag equal) there) (λ never. absurd (false≢true never)) same

-- one more tag, which is the member added
covers_both : (members tags : List ℕ) (member : ℕ) → Covers members tags → Covers (members ++ (member ∷ [])) (tags ++ (member ∷ []))
covers_both members tags member covers tag there =
    or_cases (is_in tag tags) (is_in tag (member ∷ [])) (is_in tag (members ++ (member ∷ [])))
    (λ among. is_in-front tag members (member ∷ []) (covers tag among))
    (λ last. covers_one member (members ++ (member ∷ [])) (is_in-last member members) tag last)
    (sym (is_in-append tag tags (member ∷ [])) ∙ there)

-- sorted and without repeats, on both sides
covers_finished : (members tags : List ℕ) → Covers members tags → Covers (deduped (sorted members)) (deduped (sorted tags))
covers_finished members tags covers tag there = is_in-members tag members ∙ covers tag (sym (is_in-members tag tags) ∙ there)

is_in-first : (tag : ℕ) (others : List ℕ) → is_in tag (tag ∷ others) ≡ true
unfolding is_in
is_in-first tag others = rw (eq-eqb tag tag refl)

is_in-later : (tag next : ℕ) (others : List ℕ) → is_in tag others ≡ true → is_in tag (next ∷ others) ≡ true
unfolding is_in
is_in-later tag next others there = or_right (eqb next tag) (is_in tag others) there

covers_among : (members tags : List ℕ) → Covers members tags → are_among members tags ≡ true
covers_among members [] covers = refl
covers_among members (first ∷ rest) covers =
    and_both (is_in first members) (every (λ tag. is_in tag members) rest) (covers first (is_in-first first rest))
    (covers_among members rest (λ tag there. covers tag (is_in-later tag first rest there)))

-- ---- the count tags of sorted groups, of which the first of equals stays

map-by : (test : Bool) (group next : Group) (rest others : List Group) (tags : List ℕ)
    → map count_tag others ≡ tags
    → map count_tag (cond test (group ∷ next ∷ rest) (next ∷ others)) ≡ cond test (count_tag group ∷ count_tag next ∷ map count_tag rest) (count_tag next ∷ tags)
map-by true group next rest others tags same = refl
map-by false group next rest others tags same = ap {B = List ℕ} (λ after. count_tag next ∷ after) same

inserted-tags : (group : Group) (groups : List Group) → map count_tag (inserted_group group groups) ≡ inserted (count_tag group) (map count_tag groups)
unfolding inserted_group inserted
inserted-tags group [] = refl
inserted-tags group (next ∷ rest) =
    map-by (leb (count_tag group) (count_tag next)) group next rest (inserted_group group rest) (inserted (count_tag group) (map count_tag rest)) (inserted-tags group rest)

sorted_tags : (groups : List Group) → map count_tag (sorted_groups groups) ≡ sorted (map count_tag groups)
unfolding sorted_groups sorted
sorted_tags [] = refl
sorted_tags (group ∷ rest) = inserted-tags group (sorted_groups rest) ∙ ap (inserted (count_tag group)) (sorted_tags rest)

firsts-by : (test : Bool) (group : Group) (these those : List Group) (tags others : List ℕ)
    → map count_tag these ≡ tags
    → map count_tag those ≡ others
    → map count_tag (cond test these (group ∷ those)) ≡ cond test tags (count_tag group ∷ others)
firsts-by true group these those tags others same also = same
firsts-by false group these those tags others same also = ap {B = List ℕ} (λ after. count_tag group ∷ after) also

firsts_after-tags : (last : ℕ) (groups : List Group) → map count_tag (firsts_after last groups) ≡ deduped_after last (map count_tag groups)
unfolding firsts_after deduped_after
firsts_after-tags last [] = refl
firsts_after-tags last (group ∷ rest) =
    firsts-by (eqb (count_tag group) last) group (firsts_after last rest) (firsts_after (count_tag group) rest)
    (deduped_after last (map count_tag rest)) (deduped_after (count_tag group) (map count_tag rest))
    (firsts_after-tags last rest)
    (firsts_after-tags (count_tag group) rest)

firsts-tags : (groups : List Group) → map count_tag (firsts_of groups) ≡ deduped (map count_tag groups)
unfolding firsts_of deduped
firsts-tags [] = refl
firsts-tags (group ∷ rest) = ap {B = List ℕ} (λ after. count_tag group ∷ after) (firsts_after-tags (count_tag group) rest)

pub finished_tags : (groups : List Group) → map count_tag (firsts_of (sorted_groups groups)) ≡ deduped (sorted (map count_tag groups))
finished_tags groups = firsts-tags (sorted_groups groups) ∙ ap deduped (sorted_tags groups)

-- ---- groups that meet their rules

abbrev GroupsMeet : List Group → Type 0
GroupsMeet [] = Unit
GroupsMeet (group ∷ rest) = (every_with meets_group_rules group ≡ true) × GroupsMeet rest

meet-append : (these : List Group) (group : Group) → GroupsMeet these → every_with meets_group_rules group ≡ true → GroupsMeet (these ++ (group ∷ []))
meet-append [] group meet also = (also, tt)
meet-append (first ∷ rest) group meet also = (meet.0, meet-append rest group meet.1 also)

meet-by : (test : Bool) (these those : List Group) → GroupsMeet these → GroupsMeet those → GroupsMeet (cond test these those)
meet-by true these those meet also = meet
meet-by false these those meet also = also

meet-inserted : (group : Group) (groups : List Group) → every_with meets_group_rules group ≡ true → GroupsMeet groups → GroupsMeet (inserted_group group groups)
unfolding inserted_group
meet-inserted group [] one meet = (one, tt)
meet-inserted group (next ∷ rest) one meet =
    meet-by (leb (count_tag group) (count_tag next)) (group ∷ next ∷ rest) (next ∷ inserted_group group rest)
    (one, meet)
    (meet.0, meet-inserted group rest one meet.1)

meet-sorted : (groups : List Group) → GroupsMeet groups → GroupsMeet (sorted_groups groups)
unfolding sorted_groups
meet-sorted [] meet = tt
meet-sorted (group ∷ rest) meet = meet-inserted group (sorted_groups rest) meet.0 (meet-sorted rest meet.1)

meet-after : (last : ℕ) (groups : List Group) → GroupsMeet groups → GroupsMeet (firsts_after last groups)
unfolding firsts_after
meet-after last [] meet = tt
meet-after last (group ∷ rest) meet =
    meet-by (eqb (count_tag group) last) (firsts_after last rest) (group ∷ firsts_after (count_tag group) rest)
    (meet-after last rest meet.1)
    (meet.0, meet-after (count_tag group) rest meet.1)

meet-firsts : (groups : List Group) → GroupsMeet groups → GroupsMeet (firsts_of groups)
unfolding firsts_of
meet-firsts [] meet = tt
meet-firsts (group ∷ rest) meet = (meet.0, meet-after (count_tag group) rest meet.1)

meet_below : (groups : List Group) → GroupsMeet groups → every_below meets_group_rules groups ≡ true
unfolding every_below
meet_below [] meet = refl
meet_below (group ∷ rest) meet = and_both (every_with meets_group_rules group) (every_below meets_group_rules rest) meet.0 (meet_below rest meet.1)

-- ---- a finished level

pub record Proper (must : List ℕ) (level : OpenLevel) : Type 0 where
  pub there : Covers level.members must
  pub tags_there : Covers level.members (map count_tag level.groups)
  pub meet : GroupsMeet level.groups

module _ (must : List ℕ) (level : OpenLevel) (proper : Proper must level) where
  tags-of : count_tags_of (finish level) ≡ deduped (sorted (map count_tag level.groups))
  unfolding finish
  tags-of = ap (map count_tag) (listed-grouped (firsts_of (sorted_groups level.groups))) ∙ finished_tags level.groups

  finished_ascends : is_ascending (members_of (finish level)) ≡ true
  unfolding finish
  finished_ascends = strictly_is_strictly_ascending (deduped (sorted level.members)) (members_ascend level.members)

  finished_tags_ascend : is_ascending (count_tags_of (finish level)) ≡ true
  finished_tags_ascend = rw tags-of (strictly_is_strictly_ascending (deduped (sorted (map count_tag level.groups))) (members_ascend (map count_tag level.groups)))

  finished_tags_among : are_among (members_of (finish level)) (count_tags_of (finish level)) ≡ true
  unfolding finish
  finished_tags_among =
      rw tags-of
      (covers_among (deduped (sorted level.members)) (deduped (sorted (map count_tag level.groups)))
      (covers_finished level.members (map count_tag level.groups) proper.tags_there))

  finished_must : (tag : ℕ) → is_in tag must ≡ true → tag ∈ᵇ members_of (finish level) ≡ true
  unfolding finish
  finished_must tag there = is_in-members tag level.members ∙ proper.there tag there

  finished_below : every_group meets_group_rules (finish level) ≡ true
  unfolding finish
  finished_below =
      every_group-below meets_group_rules (finish level)
      ∙ ap (every_below meets_group_rules) (listed-grouped (firsts_of (sorted_groups level.groups)))
      ∙ meet_below (firsts_of (sorted_groups level.groups)) (meet-firsts (sorted_groups level.groups) (meet-sorted level.groups proper.meet))

  pub finished_rules : meets_rules (finish level) ≡ true
  unfolding meets_rules
  finished_rules =
      and_both (meets_top_rules (finish level)) (every_group meets_group_rules (finish level))
      (rw (finished_tags_ascend, finished_ascends, finished_tags_among))
      finished_below

module _ (delimiter : ℕ) (level : OpenLevel) (proper : Proper (delimiter ∷ []) level) where
  entry-proper : Proper (delimiter ∷ []) (record { members = level.members; required = retained delimiter [] level.required; groups = level.groups })
  entry-proper = record { there = proper.there; tags_there = proper.tags_there; meet = proper.meet }

  -- a group whose entry is this level meets its rules, and all below it do
  pub finished_group : (tag : ℕ) (required : Bool) → every_with meets_group_rules (group_of_lem tag delimiter required (finish_entry delimiter level)) ≡ true
  unfolding every_group finish_entry
  finished_group tag required =
      and_both (meets_group_rules (group_of_lem tag delimiter required (finish_entry delimiter level))) (every_group meets_group_rules (finish_entry delimiter level))
      (rw (
        finished_ascends (delimiter ∷ []) _ entry-proper,
        finished_must (delimiter ∷ []) _ entry-proper delimiter (is_in-one delimiter),
        finished_tags_ascend (delimiter ∷ []) _ entry-proper,
        finished_tags_among (delimiter ∷ []) _ entry-proper,
      ))
      (finished_below (delimiter ∷ []) _ entry-proper)

-- ---- every step keeps a level proper

abbrev ProperWork : List ℕ → Work → Type 0
ProperWork must work = Proper must work.level

push_proper : (must : List ℕ) (tag : ℕ) (work : Work) → ProperWork must work → ProperWork must (push_member tag work)
push_proper must tag work proper = record {
  there = covers_more work.level.members must tag proper.there;
  tags_there = covers_more work.level.members (map count_tag work.level.groups) tag proper.tags_there;
  meet = proper.meet;
}

entry-begins : (delimiter : ℕ) (work : Work) → ProperWork (delimiter ∷ []) (push_member delimiter (record { builder = work.builder; level = empty_level }))
entry-begins delimiter work = record {
  there = covers_one delimiter (delimiter ∷ []) (is_in-one delimiter);
  tags_there = covers_nothing (delimiter ∷ []);
  meet = tt;
}

module _ (must : List ℕ) (group : GroupDef) (required : Bool) (spent filled : Work) where
  close_proper : ProperWork must spent
      → ProperWork (delimiter_of group ∷ []) filled
      → ProperWork must (close_group group required (push_member (count_tag_of group) spent) filled)
  close_proper around inside = record {
    there = covers_more spent.level.members must (count_tag_of group) around.there;
    tags_there =
        rw (map-append count_tag spent.level.groups)
        (covers_both spent.level.members (map count_tag spent.level.groups) (count_tag_of group) around.tags_there);
    meet = meet-append spent.level.groups _ around.meet (finished_group (delimiter_of group) filled.level inside (count_tag_of group) required);
  }

module _ (limits : Limits) where
  rules-steps : Steps limits (List ℕ) ProperWork
  rules-steps = record {
    member = λ must tag work kept. keeps_add_member limits (ProperWork must) tag work (λ within. push_proper must tag work kept) (push_proper must tag work kept);
    needed = λ must tag work kept. keeps_add_required limits (ProperWork must) tag work
        (λ within. record { there = kept.there; tags_there = kept.tags_there; meet = kept.meet })
        (record { there = kept.there; tags_there = kept.tags_there; meet = kept.meet });
    error = λ must refusal work kept. kept;
    node = λ must work room kept. kept;
    inner = λ must group spent kept. delimiter_of group ∷ [];
    opens = λ must group spent kept.
        keeps_add_member limits (ProperWork (delimiter_of group ∷ [])) (delimiter_of group)
        (record { builder = (add_member limits (count_tag_of group) spent).builder; level = empty_level })
        (λ within. entry-begins (delimiter_of group) (add_member limits (count_tag_of group) spent))
        (entry-begins (delimiter_of group) (add_member limits (count_tag_of group) spent));
    closes = λ must group required spent kept filled still.
        keeps_add_member limits (λ around. ProperWork must (close_group group required around filled)) (count_tag_of group) spent
        (λ within. close_proper must group required spent filled kept still)
        (close_proper must group required spent filled kept still);
  }

  pub build-proper : (transport dictionary : Dictionary) (message : Body) → Proper [] (build limits transport dictionary message).level
  build-proper transport dictionary message =
      keeps_build limits (List ℕ) ProperWork rules-steps transport dictionary message []
      (record { there = covers_nothing []; tags_there = covers_nothing []; meet = tt })

  pub expanded-rules : (transport dictionary : Dictionary) (type : List ℕ) (layout : Layout) (nodes : ℕ)
      → expand_of limits transport dictionary type ≡ Expanded layout nodes
      → meets_rules layout ≡ true
  expanded-rules transport dictionary type layout nodes given =
      let from = built limits transport dictionary layout nodes type given in
      rw from.same_layout (finished_rules [] _ (build-proper transport dictionary from.message))
