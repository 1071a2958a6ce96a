-- Reading one level of a trace into memory: the loops of arrange_level.rt, turn by turn. Assumes nothing.
--
--   Passes trace place next     from `next` on the level around is told as it is from `place` on, where one group inside is open
--   PassedSoFar                 the loop of `behind_group`
--   Longer own later            what is told later is not less
--   ReadRoom                    there is room for what the level has of its own
--   OwnRead                     what the level has of its own is read
--   ReadSoFar                   the loop of `read_level`
use Rattle.std.specs.Prelude.{◌≡◌, refl, ℕ, zero, suc, ◌+◌, ◌-◌, ◌≤◌, ◌<◌, ◌%◌, length, get_or, set, drop}
use Rattle.std.proofs.Common.{sym, ap, ◌∙◌, arith, length-append, drop_of_length-le, ne_eqb}
use mathlib.Core.List.{List, [], ◌∷◌, ◌++◌, append-nil}
use Rattle.std.proofs.lemmas.List.{length-map}
use Rattle.std.proofs.lemmas.List.Edits.{sets}
use Rattle.std.proofs.Math.Seq.{length-sets, drop-length}
use Rattle.ascii.specs.BytesLaws.{drop-step}
use Rattle.ascending.specs.Sort.{sorted}
use Rattle.ascending.specs.Dedup.{deduped, deduped_in}
use Rattle.layouts.specs.LayoutLaws.{map-append}
use Rattle.layouts.specs.GatheredLayoutLaws.{sets_append}
use Rattle.arrange_level.specs.declared.arrange_level.OwnLevel.{OwnLevel}
use Rattle.expansion.specs.Expansion.{retained}
use Rattle.expansion.specs.Retained.{retained_in}
use Rattle.expansion.specs.Trace.{tag_in, count_tag_in}
use Rattle.arrange_level.specs.ArrangeTrace.{Start, Own, nothing_own, own_member, own_required, start_of, own_group, own_left, told, own_at, kept_required, kept_in}
use Rattle.arrange_level.specs.ArrangeTraceLaws.{Step, adds_member, adds_required, enters, leaves, step_of, told-member, told-required, told-group, told-left, passed-member, passed-required, passed-group, passed-left, told-ends}
use Rattle.arrange_level.specs.ArrangeGroups.{count_tags}

-- ---- behind_group

pub record Passes (trace : List ℕ) (place next : ℕ) : Type 0 where
  pub from : place ≤ next
  pub within : next ≤ length trace
  pub same : (own : Own) → told place 1 (drop place trace) own ≡ told next 0 (drop next trace) own

pub record PassedSoFar (trace : List ℕ) (place groups index : ℕ) : Type 0 where
  pub from : place ≤ index
  pub within : index ≤ length trace
  pub some_group : 0 < groups
  pub few : groups + place ≤ index + 1
  pub same : (own : Own) → told place 1 (drop place trace) own ≡ told index groups (drop index trace) own

pub passed-begins : (trace : List ℕ) (place : ℕ) → place ≤ length trace → PassedSoFar trace place 1 place
passed-begins trace place inside = record { from = omega arith; within = inside; some_group = omega arith; few = omega arith; same = λ own. refl }

module _ (trace : List ℕ) (place groups index : ℕ) (so_far : PassedSoFar trace place groups index) where
  passed_none : (own : Own) → length trace ≤ index → told index groups (drop index trace) own ≡ told index 0 (drop index trace) own
  passed_none own over = rw (drop_of_length-le trace {i = index} over) (told-ends index groups own ∙ sym (told-ends index 0 own))

  pub passed-ends : length trace ≤ index → Passes trace place index
  passed-ends over = record { from = so_far.from; within = so_far.within; same = λ own. so_far.same own ∙ passed_none own over }

  module _ (inside : index < length trace) where
    abbrev word : ℕ
    word = get_or trace index 0

    -- one word is read, with `inner` groups open besides the first
    passed-over_by : (inner : ℕ) (own : Own) → groups ≡ suc inner → Step word
        → (word % 4 ≡ 2 → ⊥)
        → (word % 4 ≡ 3 → ⊥)
        → told index groups (drop index trace) own ≡ told (index + 1) groups (drop (index + 1) trace) own
    passed-over_by inner own many (adds_member step) no_group no-left =
        rw (drop-step trace index inside, many) (passed-member index word (drop (index + 1) trace) own inner step)
    passed-over_by inner own many (adds_required step) no_group no-left =
        rw (drop-step trace index inside, many) (passed-required index word (drop (index + 1) trace) own inner step)
    passed-over_by inner own many (enters step) no_group no-left = absurd (no_group step)
    passed-over_by inner own many (leaves step) no_group no-left = absurd (no-left step)

    many : groups ≡ suc (groups - 1)
    many = omega (arith, so_far.some_group)

    pub passed_over : (word % 4 ≡ 2 → ⊥) → (word % 4 ≡ 3 → ⊥) → PassedSoFar trace place groups (index + 1)
    passed_over no_group no-left = record {
      from = omega (arith, so_far.from);
      within = omega arith;
      some_group = so_far.some_group;
      few = omega (arith, so_far.few);
      same = λ own. so_far.same own ∙ passed-over_by (groups - 1) own many (step_of word) no_group no-left;
    }

    pub passed-enters : word % 4 ≡ 2 → PassedSoFar trace place (groups + 1) (index + 1)
    passed-enters step =
        let more : groups + 1 ≡ suc (suc (groups - 1)) = omega (arith, so_far.some_group) in
        record {
          from = omega (arith, so_far.from);
          within = omega arith;
          some_group = omega arith;
          few = omega (arith, so_far.few);
          same = λ own.
              so_far.same own
              ∙ ap (λ (count : ℕ). told index count (drop index trace) own) many
              ∙ rw (drop-step trace index inside, more) (passed-group index word (drop (index + 1) trace) own (groups - 1) step);
        }

    pub passed-leaves : word % 4 ≡ 3 → (groups ≡ 1 → ⊥) → PassedSoFar trace place (groups - 1) (index + 1)
    passed-leaves step others = record {
      from = omega (arith, so_far.from);
      within = omega arith;
      some_group = omega (arith, so_far.some_group);
      few = omega (arith, so_far.few);
      same = λ own.
          so_far.same own
          ∙ ap (λ (count : ℕ). told index count (drop index trace) own) many
          ∙ rw (drop-step trace index inside) (passed-left index word (drop (index + 1) trace) own (groups - 1) step);
    }

    pub passed-leaves_last : word % 4 ≡ 3 → groups ≡ 1 → Passes trace place (index + 1)
    passed-leaves_last step last = record {
      from = omega (arith, so_far.from);
      within = omega arith;
      same = λ own. so_far.same own ∙ rw (drop-step trace index inside, last) (passed-left index word (drop (index + 1) trace) own 0 step);
    }

-- ---- what is told only grows

pub record Longer (own later : Own) : Type 0 where
  pub members : length own.members ≤ length later.members
  pub required : length own.required ≤ length later.required
  pub starts : length own.starts ≤ length later.starts

longer-then : (own later last : Own) → Longer own later → Longer later last → Longer own last
longer-then own later last first second = record {
  members = omega (arith, first.members, second.members);
  required = omega (arith, first.required, second.required);
  starts = omega (arith, first.starts, second.starts);
}

longer-same : (own : Own) → Longer own own
longer-same own = record { members = omega arith; required = omega arith; starts = omega arith }

longer-member : (word : ℕ) (own : Own) → Longer own (own_member word own)
longer-member word own = record { members = omega (arith, length-append own.members (tag_in word ∷ [])); required = omega arith; starts = omega arith }

longer-required : (word : ℕ) (own : Own) → Longer own (own_required word own)
longer-required word own = record { members = omega arith; required = omega (arith, length-append own.required (tag_in word ∷ [])); starts = omega arith }

longer-group : (word first : ℕ) (own : Own) → Longer own (own_group word first own)
longer-group word first own = record {
  members = omega (arith, length-append own.members (count_tag_in word ∷ []));
  required = omega arith;
  starts = omega (arith, length-append own.starts (start_of word first ∷ []));
}

pub told-longer : (place depth : ℕ) (words : List ℕ) (own : Own) → Longer own (told place depth words own)
told-longer place depth [] own = rw (told-ends place depth own) (longer-same own)
told-longer place zero (word ∷ words) own =
    elim (step_of word) [
      | adds_member step ↦
          rw (told-member place word words own step)
          (longer-then own (own_member word own) _ (longer-member word own) (told-longer (place + 1) 0 words (own_member word own)))
      | adds_required step ↦
          rw (told-required place word words own step)
          (longer-then own (own_required word own) _ (longer-required word own) (told-longer (place + 1) 0 words (own_required word own)))
      | enters step ↦
          rw (told-group place word words own step)
          (longer-then own (own_group word (place + 1) own) _ (longer-group word (place + 1) own) (told-longer (place + 1) 1 words (own_group word (place + 1) own)))
      | leaves step ↦ rw (told-left place word words own step) (record { members = omega arith; required = omega arith; starts = omega arith })
    ]
told-longer place (suc depth) (word ∷ words) own =
    elim (step_of word) [
      | adds_member step ↦ rw (passed-member place word words own depth step) (told-longer (place + 1) (suc depth) words own)
      | adds_required step ↦ rw (passed-required place word words own depth step) (told-longer (place + 1) (suc depth) words own)
      | enters step ↦ rw (passed-group place word words own depth step) (told-longer (place + 1) (suc (suc depth)) words own)
      | leaves step ↦ rw (passed-left place word words own depth step) (told-longer (place + 1) depth words own)
    ]

-- ---- read_level

pub record ReadRoom (trace : List ℕ) (first : ℕ) (members : List ℕ) (member : ℕ) (required : List ℕ) (need : ℕ) (tags : List ℕ) : Type 0 where
  pub for_members : member + length (own_at trace first).members ≤ length members
  pub for_required : need + length (own_at trace first).required ≤ length required
  pub for_tags : length (own_at trace first).starts ≤ length tags

-- what the level has of its own stands behind what stood there before
pub record OwnRead (own : Own) (members : List ℕ) (member : ℕ) (required : List ℕ) (need : ℕ) (tags : List ℕ) (level : OwnLevel) (members_now required_now tags_now : List ℕ) : Type 0 where
  pub members_are : members_now ≡ sets members member own.members
  pub required_are : required_now ≡ sets required need own.required
  pub tags_are : tags_now ≡ sets tags 0 (count_tags own.starts)
  pub member_end : level.members ≡ member + length own.members
  pub need_end : level.required ≡ need + length own.required
  pub group_end : level.groups ≡ length own.starts
  pub delimiter_is : level.delimiter ≡ own.delimiter

sets_last : (words : List ℕ) (at : ℕ) (list : List ℕ) (word place : ℕ) → place ≡ at + length list → set (sets words at list) place word ≡ sets words at (list ++ (word ∷ []))
sets_last words at list word place here = rw here (sym (sets_append words at list (word ∷ [])))

module _ (trace : List ℕ) (first : ℕ) (members₀ : List ℕ) (member₀ : ℕ) (required₀ : List ℕ) (need₀ : ℕ) (tags₀ : List ℕ) where
  pub record ReadSoFar (members required tags : List ℕ) (place member need group : ℕ) : Type 0 where
    pub own : Own
    pub same : own_at trace first ≡ told place 0 (drop place trace) own
    pub not_left : own.delimiter ≡ 0
    pub members_are : members ≡ sets members₀ member₀ own.members
    pub required_are : required ≡ sets required₀ need₀ own.required
    pub tags_are : tags ≡ sets tags₀ 0 (count_tags own.starts)
    pub member_is : member ≡ member₀ + length own.members
    pub need_is : need ≡ need₀ + length own.required
    pub group_is : group ≡ length own.starts

  pub read-begins : ReadSoFar members₀ required₀ tags₀ first member₀ need₀ 0
  read-begins = record {
    own = nothing_own;
    same = refl;
    not_left = refl;
    members_are = refl;
    required_are = refl;
    tags_are = refl;
    member_is = omega arith;
    need_is = omega arith;
    group_is = refl;
  }

  module _ (members required tags : List ℕ) (place member need group : ℕ) (so_far : ReadSoFar members required tags place member need group) where
    pub members-size : length members ≡ length members₀
    members-size = ap length so_far.members_are ∙ length-sets members₀ member₀ so_far.own.members

    pub required-size : length required ≡ length required₀
    required-size = ap length so_far.required_are ∙ length-sets required₀ need₀ so_far.own.required

    pub tags-size : length tags ≡ length tags₀
    tags-size = ap length so_far.tags_are ∙ length-sets tags₀ 0 (count_tags so_far.own.starts)

    -- what is read so far is all
    all_read : (own : Own) (level : OwnLevel)
        → own_at trace first ≡ own
        → own.members ≡ so_far.own.members
        → own.required ≡ so_far.own.required
        → own.starts ≡ so_far.own.starts
        → level.members ≡ member
        → level.required ≡ need
        → level.groups ≡ group
        → level.delimiter ≡ own.delimiter
        → OwnRead (own_at trace first) members₀ member₀ required₀ need₀ tags₀ level members required tags
    all_read own level same members-same required-same starts-same member_end need_end group_end delimiter_is =
        rw same
        (record {
          members_are = so_far.members_are ∙ ap (sets members₀ member₀) (sym members-same);
          required_are = so_far.required_are ∙ ap (sets required₀ need₀) (sym required-same);
          tags_are = so_far.tags_are ∙ ap (λ (starts : List Start). sets tags₀ 0 (count_tags starts)) (sym starts-same);
          member_end = omega (arith, member_end, so_far.member_is, ap length members-same);
          need_end = omega (arith, need_end, so_far.need_is, ap length required-same);
          group_end = omega (arith, group_end, so_far.group_is, ap length starts-same);
          delimiter_is = delimiter_is;
        })

    pub read-ends : (level : OwnLevel)
        → length trace ≤ place
        → level.members ≡ member
        → level.required ≡ need
        → level.groups ≡ group
        → level.delimiter ≡ 0
        → OwnRead (own_at trace first) members₀ member₀ required₀ need₀ tags₀ level members required tags
    read-ends level over member_end need_end group_end none =
        all_read so_far.own level
        (so_far.same ∙ rw (drop_of_length-le trace {i = place} over) (told-ends place 0 so_far.own))
        refl
        refl
        refl
        member_end
        need_end
        group_end
        (none ∙ sym so_far.not_left)

    module _ (inside : place < length trace) where
      abbrev here : ℕ
      here = get_or trace place 0

      step_same : (own : Own) → told place 0 (here ∷ drop (place + 1) trace) so_far.own ≡ own → own_at trace first ≡ own
      step_same own told-so = so_far.same ∙ rw (drop-step trace place inside) told-so

      same-member : here % 4 ≡ 0 → own_at trace first ≡ told (place + 1) 0 (drop (place + 1) trace) (own_member here so_far.own)
      same-member step = step_same _ (told-member place here (drop (place + 1) trace) so_far.own step)

      same-required : here % 4 ≡ 1 → own_at trace first ≡ told (place + 1) 0 (drop (place + 1) trace) (own_required here so_far.own)
      same-required step = step_same _ (told-required place here (drop (place + 1) trace) so_far.own step)

      same-group : here % 4 ≡ 2 → own_at trace first ≡ told (place + 1) 1 (drop (place + 1) trace) (own_group here (place + 1) so_far.own)
      same-group step = step_same _ (told-group place here (drop (place + 1) trace) so_far.own step)

      pub read-member : (tag : ℕ) → here % 4 ≡ 0 → tag ≡ tag_in here → ReadSoFar (set members member tag) required tags (place + 1) (member + 1) need group
      read-member tag step tag_is = record {
        own = own_member here so_far.own;
        same = same-member step;
        not_left = so_far.not_left;
        members_are =
            ap (λ (words : List ℕ). set words member tag) so_far.members_are
            ∙ sets_last members₀ member₀ so_far.own.members tag member so_far.member_is
            ∙ ap (λ (last : ℕ). sets members₀ member₀ (so_far.own.members ++ (last ∷ []))) tag_is;
        required_are = so_far.required_are;
        tags_are = so_far.tags_are;
        member_is = omega (arith, so_far.member_is, length-append so_far.own.members (tag_in here ∷ []));
        need_is = so_far.need_is;
        group_is = so_far.group_is;
      }

      pub read-required : (tag : ℕ) → here % 4 ≡ 1 → tag ≡ tag_in here → ReadSoFar members (set required need tag) tags (place + 1) member (need + 1) group
      read-required tag step tag_is = record {
        own = own_required here so_far.own;
        same = same-required step;
        not_left = so_far.not_left;
        members_are = so_far.members_are;
        required_are =
            ap (λ (words : List ℕ). set words need tag) so_far.required_are
            ∙ sets_last required₀ need₀ so_far.own.required tag need so_far.need_is
            ∙ ap (λ (last : ℕ). sets required₀ need₀ (so_far.own.required ++ (last ∷ []))) tag_is;
        tags_are = so_far.tags_are;
        member_is = so_far.member_is;
        need_is = omega (arith, so_far.need_is, length-append so_far.own.required (tag_in here ∷ []));
        group_is = so_far.group_is;
      }

      pub read-group : (tag next : ℕ) → here % 4 ≡ 2 → tag ≡ count_tag_in here → Passes trace (place + 1) next
          → ReadSoFar (set members member tag) required (set tags group tag) next (member + 1) need (group + 1)
      read-group tag next step tag_is passes =
          let begun = start_of here (place + 1) in
          let all : count_tags (so_far.own.starts ++ (begun ∷ [])) ≡ count_tags so_far.own.starts ++ (count_tag_in here ∷ []) =
          map-append (λ (start : Start). start.count_tag) so_far.own.starts (begun ∷ []) in
          record {
            own = own_group here (place + 1) so_far.own;
            same = same-group step ∙ passes.same (own_group here (place + 1) so_far.own);
            not_left = so_far.not_left;
            members_are =
                ap (λ (words : List ℕ). set words member tag) so_far.members_are
                ∙ sets_last members₀ member₀ so_far.own.members tag member so_far.member_is
                ∙ ap (λ (last : ℕ). sets members₀ member₀ (so_far.own.members ++ (last ∷ []))) tag_is;
            required_are = so_far.required_are;
            tags_are =
                ap (λ (words : List ℕ). set words group tag) so_far.tags_are
                ∙ sets_last tags₀ 0 (count_tags so_far.own.starts) tag group
                (omega (arith, so_far.group_is, length-map so_far.own.starts (λ (start : Start). start.count_tag)))
                ∙ ap (λ (last : ℕ). sets tags₀ 0 (count_tags so_far.own.starts ++ (last ∷ []))) tag_is
                ∙ ap (sets tags₀ 0) (sym all);
            member_is = omega (arith, so_far.member_is, length-append so_far.own.members (count_tag_in here ∷ []));
            need_is = so_far.need_is;
            group_is = omega (arith, so_far.group_is, length-append so_far.own.starts (begun ∷ []));
          }

      pub read_left : (level : OwnLevel)
          → here % 4 ≡ 3
          → level.members ≡ member
          → level.required ≡ need
          → level.groups ≡ group
          → level.delimiter ≡ tag_in here
          → OwnRead (own_at trace first) members₀ member₀ required₀ need₀ tags₀ level members required tags
      read_left level step member_end need_end group_end delimiter_is =
          all_read (own_left here so_far.own) level
          (step_same _ (told-left place here (drop (place + 1) trace) so_far.own step))
          refl
          refl
          refl
          member_end
          need_end
          group_end
          delimiter_is

      module _ (room : ReadRoom trace first members₀ member₀ required₀ need₀ tags₀) where
        pub member-room : here % 4 ≡ 0 → member < length members
        member-room step =
            let later = told-longer (place + 1) 0 (drop (place + 1) trace) (own_member here so_far.own) in
            omega (
              arith,
              room.for_members,
              ap (λ (own : Own). length own.members) (same-member step),
              later.members,
              length-append so_far.own.members (tag_in here ∷ []),
              so_far.member_is,
              members-size,
            )

        pub need_room : here % 4 ≡ 1 → need < length required
        need_room step =
            let later = told-longer (place + 1) 0 (drop (place + 1) trace) (own_required here so_far.own) in
            omega (
              arith,
              room.for_required,
              ap (λ (own : Own). length own.required) (same-required step),
              later.required,
              length-append so_far.own.required (tag_in here ∷ []),
              so_far.need_is,
              required-size,
            )

        pub group-room : here % 4 ≡ 2 → (member < length members) × (group < length tags)
        group-room step =
            let later = told-longer (place + 1) 1 (drop (place + 1) trace) (own_group here (place + 1) so_far.own) in (
              omega (
                arith,
                room.for_members,
                ap (λ (own : Own). length own.members) (same-group step),
                later.members,
                length-append so_far.own.members (count_tag_in here ∷ []),
                so_far.member_is,
                members-size,
              ),
              omega (
                arith,
                room.for_tags,
                ap (λ (own : Own). length own.starts) (same-group step),
                later.starts,
                length-append so_far.own.starts (start_of here (place + 1) ∷ []),
                so_far.group_is,
                tags-size,
              ),
            )

-- ---- in_order, keep_required

pub in_order : (words later last : List ℕ) (kept : ℕ)
    → later ≡ sorted words
    → kept ≡ length (deduped later)
    → last ≡ deduped_in later
    → (kept ≡ length (deduped (sorted words))) × (last ≡ deduped_in (sorted words))
in_order words later last kept sorted-so many dedup-so = (many ∙ ap (λ (list : List ℕ). length (deduped list)) sorted-so, dedup-so ∙ ap deduped_in sorted-so)

module _ (place delimiter : ℕ) (words : List ℕ) where
  pub kept_top : place ≡ 0 → (length words ≡ length (kept_required place delimiter words)) × (words ≡ kept_in place delimiter words)
  unfolding kept_in
  kept_top top = rw (top, drop-length words, append-nil words) (refl, refl)

  pub kept_entry : (kept : ℕ) (last : List ℕ)
      → (place ≡ 0 → ⊥)
      → kept ≡ length (retained delimiter [] words)
      → last ≡ retained_in delimiter words
      → (kept ≡ length (kept_required place delimiter words)) × (last ≡ kept_in place delimiter words)
  unfolding kept_in retained_in
  kept_entry kept last entry many memory = rw (ne_eqb place 0 entry) (many, memory)
