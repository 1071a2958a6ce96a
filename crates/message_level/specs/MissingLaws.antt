-- Laws of what is missing (`MessageWalk.antt`), as src/missing.rt writes it: one tag, one group, and the two loops. Assumes nothing.
--
--   TagsWritten ..     the loop of `put_missing_tags`: the tags before `index` are looked at
--   GroupsWritten ..   the loop of `put_missing_groups`: the groups before `number` are
use Rattle.std.specs.Prelude.{◌≡◌, refl, ℕ, zero, suc, ◌+◌, ◌*◌, ◌≤◌, ◌<◌, Bool, true, false, not, ◌&&◌, List, [], ◌∷◌, ◌++◌, eqb, length, get_or, take, if◌then◌else◌}
use Rattle.std.proofs.Common.{sym, ap, ◌∙◌, append_assoc, append-nil, arith, add-one, take-suc, take_all, eq-eqb, ne_eqb}
use Rattle.ascii.specs.Notation.{◌≡ᵇ◌}
use Rattle.layouts.specs.Limits.{gate_limits}
use Rattle.layouts.specs.LayoutWords.{required_places, group_count, level_required, level_count_tags, count_tag_at, flag_at}
use Rattle.layouts.specs.LayoutWordsLaws.{length-stretch}
use Rattle.layouts.specs.LayoutCheckLaws.{required-places, required-few}
use Rattle.layouts.specs.LayoutCheckFacts.{Passed, required_inside}
use Rattle.events.specs.declared.event.Kind.TheVariants.{Missing}
use Rattle.ascii.specs.Membership.{◌∈ᵇ◌}
use Rattle.events.specs.EventSpaceLaws.{Wrote, wrote_none, wrote_then}
use Rattle.walk_steps.specs.WalkWordsLaws.{groups-few}
use Rattle.walk_steps.specs.WrittenEvents.{tag_event}
use Rattle.message_level.specs.MessageWalk.{missing_if, missing_tags, missing_groups}
use Rattle.message_level.specs.MessageWords.{required_from}
use Rattle.message_level.specs.SeenTags.{SeenTags}

-- ---- one tag

module _ (defined seen : List ℕ) (tag : ℕ) (held : Bool) (is_held_lem : (tags : List ℕ) → SeenTags defined seen tags → held ≡ tag ∈ᵇ tags) where
  pub absent_seen : held ≡ true → (space : List ℕ) (at : ℕ) → (tags : List ℕ) → SeenTags defined seen tags → Wrote space space at at (missing_if (not (tag ∈ᵇ tags)) tag)
  absent_seen there space at tags kept = rw (sym (is_held_lem tags kept) ∙ there) (wrote_none space at)

  pub absent_not_seen : {before after : List ℕ} {at next : ℕ} → held ≡ false → Wrote before after at next (tag_event 0 0 (Missing tag) ∷ [])
      → (tags : List ℕ) → SeenTags defined seen tags → Wrote before after at next (missing_if (not (tag ∈ᵇ tags)) tag)
  absent_not_seen nowhere wrote tags kept = rw (sym (is_held_lem tags kept) ∙ nowhere) wrote

module _ (defined seen : List ℕ) (tag : ℕ) where
  pub tag-10 : tag ≡ 10 → (space : List ℕ) (at : ℕ) → (tags : List ℕ) → SeenTags defined seen tags
      → Wrote space space at at (missing_if (not (tag ≡ᵇ 10) && not (tag ∈ᵇ tags)) tag)
  tag-10 ten space at tags kept = rw (eq-eqb tag 10 ten) (wrote_none space at)

  pub tag-other : {before after : List ℕ} {at next : ℕ} → (tag ≡ 10 → ⊥)
      → ((tags : List ℕ) → SeenTags defined seen tags → Wrote before after at next (missing_if (not (tag ∈ᵇ tags)) tag))
      → (tags : List ℕ) → SeenTags defined seen tags → Wrote before after at next (missing_if (not (tag ≡ᵇ 10) && not (tag ∈ᵇ tags)) tag)
  tag-other other wrote tags kept = rw (ne_eqb tag 10 other) (wrote tags kept)

-- ---- one group

module _ (defined seen words : List ℕ) (number : ℕ) where
  pub group-free : flag_at words number ≡ᵇ 1 ≡ false → (space : List ℕ) (at : ℕ) → (tags : List ℕ) → SeenTags defined seen tags
      → Wrote space space at at (missing_groups tags (required_from words number 1))
  unfolding missing_groups required_from
  group-free free space at tags kept = rw free (wrote_none space at)

  pub group-required : {before after : List ℕ} {at next : ℕ} (tag : ℕ) → flag_at words number ≡ᵇ 1 ≡ true → tag ≡ count_tag_at words number
      → ((tags : List ℕ) → SeenTags defined seen tags → Wrote before after at next (missing_if (not (tag ∈ᵇ tags)) tag))
      → (tags : List ℕ) → SeenTags defined seen tags → Wrote before after at next (missing_groups tags (required_from words number 1))
  unfolding missing_groups required_from
  group-required tag needed tag_is wrote tags kept = rw (needed, ← tag_is, append-nil) (wrote tags kept)

-- ---- one behind the other

missing_tags-append : (seen tags others : List ℕ) → missing_tags seen (tags ++ others) ≡ missing_tags seen tags ++ missing_tags seen others
unfolding missing_tags
missing_tags-append seen [] others = refl
missing_tags-append seen (tag ∷ rest) others = rw (missing_tags-append seen rest others, append_assoc)

missing_groups-append : (seen tags others : List ℕ) → missing_groups seen (tags ++ others) ≡ missing_groups seen tags ++ missing_groups seen others
unfolding missing_groups
missing_groups-append seen [] others = refl
missing_groups-append seen (tag ∷ rest) others = rw (missing_groups-append seen rest others, append_assoc)

missing_tags-next : (seen required : List ℕ) (index : ℕ) → index < length required
    → missing_tags seen (take (index + 1) required)
    ≡ missing_tags seen (take index required) ++ missing_if (not (get_or required index 0 ≡ᵇ 10) && not (get_or required index 0 ∈ᵇ seen)) (get_or required index 0)
unfolding missing_tags
missing_tags-next seen required index inside =
    rw (add-one, take-suc required index 0 inside) (missing_tags-append seen (take index required) (get_or required index 0 ∷ []) ∙ rw append-nil)

required_from-more : (words : List ℕ) (number count : ℕ) → required_from words number (suc count) ≡ required_from words number count ++ required_from words (number + count) 1
unfolding required_from
required_from-more words number zero = let same : number + 0 ≡ number = omega arith in rw same
required_from-more words number (suc count) =
    let same : number + suc count ≡ suc number + count = omega arith in
    rw same (go (eqb (flag_at words number) 1) (required_from-more words (suc number) count))
  where
    go : (needed : Bool) → required_from words (suc number) (suc count) ≡ required_from words (suc number) count ++ required_from words (suc number + count) 1
        → (if needed then count_tag_at words number ∷ required_from words (suc number) (suc count) else required_from words (suc number) (suc count))
        ≡ (if needed then count_tag_at words number ∷ required_from words (suc number) count else required_from words (suc number) count) ++ required_from words (suc number + count) 1
    go true rest = ap (λ (tags : List ℕ). count_tag_at words number ∷ tags) rest
    go false rest = rest

required_from-next : (words : List ℕ) (number : ℕ) → required_from words 0 (number + 1) ≡ required_from words 0 number ++ required_from words number 1
required_from-next words number =
    let same : 0 + number ≡ number = omega arith in
    rw add-one (required_from-more words 0 number ∙ rw same)

-- ---- the loop over the tags

module _ (defined seen required before : List ℕ) (at : ℕ) where
  pub record TagsWritten (after : List ℕ) (index to : ℕ) : Type 0 where
    pub near : to ≤ at + 5 * index
    pub wrote : (tags : List ℕ) → SeenTags defined seen tags → Wrote before after at to (missing_tags tags (take index required))

  pub tags-start : TagsWritten before 0 at
  unfolding missing_tags
  tags-start = record { near = omega arith; wrote = λ tags kept. wrote_none before at }

  pub tags_more : {after : List ℕ} {index to : ℕ} → TagsWritten after index to → index < length required → {after' : List ℕ} {next : ℕ} → next ≤ to + 5
      → ((tags : List ℕ) → SeenTags defined seen tags
      → Wrote after after' to next (missing_if (not (get_or required index 0 ≡ᵇ 10) && not (get_or required index 0 ∈ᵇ tags)) (get_or required index 0)))
      → TagsWritten after' (index + 1) next
  tags_more {index = index} written inside near wrote = record {
    near = omega (arith, written.near);
    wrote = λ tags kept. rw (missing_tags-next tags required index inside) (wrote_then (written.wrote tags kept) (wrote tags kept));
  }

-- ---- the loop over the groups

module _ (defined seen words before : List ℕ) (at : ℕ) where
  pub record GroupsWritten (after : List ℕ) (number to : ℕ) : Type 0 where
    pub near : to ≤ at + 5 * number
    pub wrote : (tags : List ℕ) → SeenTags defined seen tags → Wrote before after at to (missing_groups tags (required_from words 0 number))

  pub groups-start : GroupsWritten before 0 at
  unfolding missing_groups required_from
  groups-start = record { near = omega arith; wrote = λ tags kept. wrote_none before at }

  pub groups-more : {after : List ℕ} {number to : ℕ} → GroupsWritten after number to → {after' : List ℕ} {next : ℕ} → next ≤ to + 5
      → ((tags : List ℕ) → SeenTags defined seen tags → Wrote after after' to next (missing_groups tags (required_from words number 1)))
      → GroupsWritten after' (number + 1) next
  groups-more {number = number} written near wrote = record {
    near = omega (arith, written.near);
    wrote = λ tags kept.
        rw (required_from-next words number, missing_groups-append tags (required_from words 0 number) (required_from words number 1))
        (wrote_then (written.wrote tags kept) (wrote tags kept));
  }

-- ---- both

pub both_missing : (defined seen words : List ℕ) (required : List ℕ) (groups : ℕ) → required ≡ level_required words 0 → groups ≡ length (level_count_tags words 0)
    → {before between after : List ℕ} {at to past : ℕ}
    → ((tags : List ℕ) → SeenTags defined seen tags → Wrote before between at to (missing_tags tags required))
    → ((tags : List ℕ) → SeenTags defined seen tags → Wrote between after to past (missing_groups tags (required_from words 0 groups)))
    → (tags : List ℕ) → SeenTags defined seen tags
    → Wrote before after at past (missing_tags tags (level_required words 0) ++ missing_groups tags (required_from words 0 (length (level_count_tags words 0))))
both_missing defined seen words required groups are-required are-groups one two tags kept = rw (← are-required, ← are-groups) (wrote_then (one tags kept) (two tags kept))

-- ---- how many are required

pub required_from-few : (words : List ℕ) (number count : ℕ) → length (required_from words number count) ≤ count
unfolding required_from
required_from-few words number zero = omega arith
required_from-few words number (suc count) = go (eqb (flag_at words number) 1) (required_from-few words (suc number) count)
  where
    go : (needed : Bool) → length (required_from words (suc number) count) ≤ count
        → length (if needed then count_tag_at words number ∷ required_from words (suc number) count else required_from words (suc number) count) ≤ suc count
    go true few = omega arith
    go false few = omega arith

required-few_here : (words : List ℕ) → Passed gate_limits words → length (level_required words 0) ≤ 2048
required-few_here words passed =
    let places = required_places (group_count words) in
    let run = required-places gate_limits (group_count words) words passed.heads passed.required_hold in
    let most = required-few gate_limits (group_count words) words passed.heads passed.required_hold in
    let inside = required_inside gate_limits words passed 0 (omega arith) in
    let size = length-stretch words (places + 0) inside in
    let first : get_or words (places + 0) 0 ≡ get_or words places 0 = ap (λ (place : ℕ). get_or words place 0) (omega arith) in
    let second : get_or words (places + 0 + 1) 0 ≡ get_or words (places + 1) 0 = ap (λ (place : ℕ). get_or words place 0) (omega arith) in
    let last : get_or words (places + (group_count words + 1)) 0 ≡ get_or words (4 + 2 * group_count words) 0 = ap (λ (place : ℕ). get_or words place 0) (omega arith) in
    omega (arith, size, first, second, last, run.begins, run.reaches 1 (omega arith), most, inside.rises)

module _ (words : List ℕ) (passed : Passed gate_limits words) where
  pub required-part_few : (required : List ℕ) → required ≡ level_required words 0 → length required ≤ 2048
  required-part_few required are-required = rw are-required (required-few_here words passed)

  pub groups-part_few : (tags : List ℕ) → tags ≡ level_count_tags words 0 → length tags ≤ group_count words
  groups-part_few tags are-tags = rw are-tags (omega (arith, groups-few words passed 0 (omega arith)))

-- ---- the ends of both loops

module _ (defined seen required before : List ℕ) (at : ℕ) {after : List ℕ} {index to : ℕ} (written : TagsWritten defined seen required before at after index to) where
  pub tags-over : length required ≤ index → (tags : List ℕ) → SeenTags defined seen tags → Wrote before after at to (missing_tags tags required)
  tags-over over tags kept = rw (take_all index required over) at (written.wrote tags kept)

  pub tags-near : index ≤ length required → to ≤ at + 5 * length required
  tags-near within = omega (arith, written.near)

pub groups-over : (defined seen words before : List ℕ) (at : ℕ) (groups : ℕ) {after : List ℕ} {number to : ℕ} → GroupsWritten defined seen words before at after number to
    → number ≤ groups
    → groups ≤ number
    → (tags : List ℕ) → SeenTags defined seen tags → Wrote before after at to (missing_groups tags (required_from words 0 groups))
groups-over defined seen words before at groups {number = number} written within over tags kept =
    let all : number ≡ groups = omega arith in
    rw all at (written.wrote tags kept)
