-- The loop of a message walk on words: what each function of src/message_walk.rt writes is what a turn gives (`MessageWalk.antt`), and the set stands for the
-- tags seen. Assumes nothing.
--
--   TurnsWritten ..   the loop of `walk_fields`: the turns before `index` are taken
use Rattle.std.specs.Prelude.{◌≡◌, refl, ℕ, suc, ◌+◌, ◌*◌, ◌-◌, ◌/◌, ◌≤◌, ◌<◌, Bool, true, false, not, List, [], ◌∷◌, ◌++◌, length, Option, Some, None, Ok}
use Rattle.std.proofs.Common.{sym, ap, ◌∙◌, arith}
use Rattle.ascending.specs.Search.{StrictlyAscending, is_strictly_ascending, rank_in}
use Rattle.ascending.specs.SearchLaws.{is_strictly_ascending-true}
use Rattle.layouts.specs.Limits.{gate_limits}
use Rattle.layouts.specs.LayoutWords.{group_count, level_members}
use Rattle.layouts.specs.LayoutCheck.{is_layout}
use Rattle.layouts.specs.LayoutCheckFacts.{Passed, is_layout-passed}
use Rattle.events.specs.declared.event.Kind.TheVariants.{Twice, Foreign}
use Rattle.events.specs.declared.event.Event.{Event}
use Rattle.ascii.specs.Membership.{◌∈ᵇ◌}
use Rattle.field_table.specs.FieldTable.{row_count, tag_of, table_check_of}
use Rattle.field_table.specs.FieldTableLaws.{table_check_of-accepted}
use Rattle.entry_tags.specs.EntryTags.{no_ranks, holds_rank, insert_rank}
use Rattle.events.specs.EventSpaceLaws.{Wrote, wrote_none, wrote_then}
use Rattle.group_reading.specs.GroupWalk.{walk_group}
use Rattle.walk_steps.specs.WrittenEvents.{tag_event}
use Rattle.walk_steps.specs.WalkWords.{among, number_found, group_of, input_of, top_members}
use Rattle.walk_steps.specs.WalkWordsLaws.{member-found, member-nowhere, group_of_number, layout_of_rules, top-ascends}
use Rattle.group_walk.specs.WalkPromises.{Walks}
use Rattle.message_level.specs.MessageWalk.{twice_if, foreign_unless, Turn, place_at, turn_at, message_turns}
use Rattle.message_level.specs.MessageWalkLaws.{Passes, turn-undefined, turn-defined, turn-passes, TurnsSoFar, turns_begin, turns_end, turns_go_on}
use Rattle.message_level.specs.MessageWords.{level_of}
use Rattle.message_level.specs.SeenTags.{seen_words, SeenTags}
use Rattle.std.proofs.Math.Bool.{not-not}
use Rattle.message_level.specs.SeenTagsLaws.{none-held, none_seen, not_defined, is-defined, rank_low, rank_held, rank_inserted}
use Rattle.message_walk.specs.MessagePromises.{Lent, PlaceAsks, Placed, TurnAsks, Turned, Walked}

-- ---- what the types hold of the lent words

pub lent_of : {defined words fields message : List ℕ} → is_strictly_ascending defined ≡ true → length defined ≤ 10922 → is_layout gate_limits words ≡ true
    → group_count words < 4294967296 → table_check_of fields (length message) ≡ Ok tt → Lent defined words fields message
lent_of {defined} {words} {fields} {message} ascends few passed few_groups accepted = record {
  ascends = is_strictly_ascending-true defined ascends;
  few_tags_lem = few;
  passed = is_layout-passed gate_limits words passed;
  few_groups_lem = few_groups;
  table = (table_check_of-accepted fields (length message)).0 accepted;
}

-- ---- twice and foreign, as code writes them

module _ (tag : ℕ) (fresh : Bool) where
  pub twice-fresh : fresh ≡ true → (space : List ℕ) (place : ℕ) → Wrote space space place place (twice_if (not fresh) tag)
  twice-fresh new space place = rw new (wrote_none space place)

  pub twice-again : {before after : List ℕ} {at next : ℕ} → fresh ≡ false → Wrote before after at next (tag_event 0 0 (Twice tag) ∷ [])
      → Wrote before after at next (twice_if (not fresh) tag)
  twice-again again wrote = rw again wrote

module _ (words : List ℕ) (passed : Passed gate_limits words) (top : List ℕ) (is-top : top ≡ level_members words 0) (tag : ℕ) (found : Option ℕ)
    (searched : StrictlyAscending top → found ≡ rank_in top tag) where
  ranked : found ≡ rank_in (level_members words 0) tag
  ranked = searched (top-ascends words passed top is-top) ∙ ap (λ (members : List ℕ). rank_in members tag) is-top

  pub foreign_member : (rank : ℕ) → found ≡ Some rank → (space : List ℕ) (place : ℕ) → Wrote space space place place (foreign_unless (top_members words tag) tag)
  foreign_member rank there space place = rw (member-found (level_members words 0) tag rank (sym ranked ∙ there)) (wrote_none space place)

  pub foreign_outside : {before after : List ℕ} {at next : ℕ} → found ≡ None → Wrote before after at next (tag_event 0 0 (Foreign tag) ∷ [])
      → Wrote before after at next (foreign_unless (top_members words tag) tag)
  foreign_outside nowhere wrote = rw (member-nowhere (level_members words 0) tag (sym ranked ∙ nowhere)) wrote

-- ---- the field of a defined tag

module _ (words fields message : List ℕ) (passed : Passed gate_limits words) (index tag at : ℕ) (asks : PlaceAsks fields index tag at) (found : Option ℕ)
    (found_is : number_found 0 found ≡ group_of words 0 tag) where
  pub place-plain : found ≡ None → (before after : List ℕ) (past : ℕ) → Wrote before after at past (foreign_unless (top_members words tag) tag)
      → Placed words fields message index tag before after at past (index + 1)
  place-plain nowhere before after past wrote =
      let none-there : group_of words 0 tag ≡ None = sym found_is ∙ ap (number_found 0) nowhere in
      record {
        wrote = λ defined. rw (none-there, ← asks.tag_is) wrote;
        next_is = λ defined. rw none-there (omega arith);
      }

  module _ (group : ℕ) (there : found ≡ Some group) where
    number_there : group_of words 0 tag ≡ Some group
    number_there =
        let same : 0 + group ≡ group = omega arith in
        sym found_is ∙ ap (number_found 0) there ∙ ap Some same

    pub group-valid : group < group_count words
    group-valid = group_of_number words passed 0 tag group (omega arith) number_there

    pub place-group : (top : List ℕ) → top ≡ level_members words 0 → (before after : List ℕ) (past next : ℕ)
        → Walks words fields message top group index 0 before after at past next
        → Placed words fields message index tag before after at past next
    place-group top is-top before after past next walks = record {
      wrote = λ defined. rw (number_there, ← is-top) walks.wrote;
      next_is = λ defined. rw (number_there, ← is-top) walks.next_is;
    }

-- ---- a turn

module _ (defined words fields message : List ℕ) (lent : Lent defined words fields message) (seen : List ℕ) (index at : ℕ) (asks : TurnAsks fields seen index at)
    (tag : ℕ) (tag_is : tag ≡ tag_of fields index)
    (found : Option ℕ) (searched : StrictlyAscending defined → found ≡ rank_in defined tag) where
  pub turn-skips : found ≡ None → (space tags : List ℕ) → SeenTags defined seen tags
      → Turned defined words fields message tags index seen space space at at (index + 1)
  turn-skips nowhere space tags kept =
      let unknown : among defined (tag_of fields index) ≡ false = rw (← tag_is) (not_defined defined lent.ascends tag found searched nowhere) in
      let turn = turn-undefined (input_of words fields message) (level_of defined words) tags index unknown in
      record {
        wrote = rw turn (wrote_none space at);
        kept = rw turn kept;
        next_is = rw turn (omega arith);
      }

  module _ (rank : ℕ) (there : found ≡ Some rank) where
    low : rank < length defined
    low = rank_low defined lent.ascends tag found searched rank there

    pub rank_inside : rank / 64 < length seen
    rank_inside = omega (arith, low, lent.few_tags_lem, asks.wide)

    module _ (seen' : List ℕ) (fresh : Bool) (is-fresh : fresh ≡ not (holds_rank seen rank)) (inserted : seen' ≡ insert_rank seen rank)
        (before between : List ℕ) (to : ℕ) (wrote-twice : Wrote before between at to (twice_if (not fresh) tag)) where
      pub twice-room : to ≤ 25 * index
      twice-room = go (holds_rank seen rank) refl
        where
          go : (held : Bool) → holds_rank seen rank ≡ held → to ≤ 25 * index
          go true held =
              let again : fresh ≡ false = is-fresh ∙ ap not held in
              let one : to ≡ at + 5 * 1 = wrote-twice.next_is ∙ rw again in
              omega (arith, one, asks.again rank (omega (arith, low, lent.few_tags_lem)) held)
          go false held =
              let new : fresh ≡ true = is-fresh ∙ ap not held in
              let none_written : to ≡ at + 5 * 0 = wrote-twice.next_is ∙ rw new in
              omega (arith, none_written, asks.room)

      pub turn-taken : (after : List ℕ) (past next : ℕ) → Placed words fields message index tag between after to past next → (tags : List ℕ) → SeenTags defined seen tags
          → Turned defined words fields message tags index seen' before after at past next
      turn-taken after past next placed tags kept =
          let known : among defined (tag_of fields index) ≡ true = rw (← tag_is) (is-defined defined lent.ascends tag found searched rank there) in
          let turn = turn-defined (input_of words fields message) (level_of defined words) tags index known in
          let repeats : not fresh ≡ tag ∈ᵇ tags =
          ap not is-fresh ∙ not-not (holds_rank seen rank) ∙ rank_held defined lent.ascends tag found searched rank there seen tags kept in
          record {
            wrote = rw (turn, ← tag_is, ← repeats) (wrote_then wrote-twice (placed.wrote defined));
            kept = rw (turn, ← tag_is) (rank_inserted defined lent.ascends tag found searched rank there seen tags kept seen' inserted);
            next_is = rw (turn, ← tag_is) (placed.next_is defined);
          }

-- ---- the loop

module _ (defined words fields message before : List ℕ) where
  pub record TurnsWritten (seen after : List ℕ) (index at : ℕ) : Type 0 where
    pub tags : List ℕ
    pub done : List Event
    pub so_far : TurnsSoFar (input_of words fields message) (level_of defined words) done tags index
    pub kept : SeenTags defined seen tags
    pub wrote : Wrote before after 0 at done
    pub within : index ≤ row_count fields
    pub room : at ≤ 25 * index
    pub again : (rank : ℕ) → rank < 10944 → holds_rank seen rank ≡ true → at + 5 ≤ 25 * index

  module _ (lent : Lent defined words fields message) where
    pub turns_start : (seen : List ℕ) → seen ≡ no_ranks seen_words → TurnsWritten seen before 0 0
    turns_start seen empty = record {
      tags = [];
      done = [];
      so_far = turns_begin (input_of words fields message) (level_of defined words);
      kept = none_seen defined lent.few_tags_lem seen empty;
      wrote = wrote_none before 0;
      within = omega arith;
      room = omega arith;
      again = λ rank low held. absurd (none-held seen empty rank low held);
    }

    module _ (seen after : List ℕ) (index at : ℕ) (written : TurnsWritten seen after index at) where
      pub turn-asks : index < row_count fields → TurnAsks fields seen index at
      turn-asks inside = record { wide = written.kept.stands.wide; inside = inside; room = written.room; again = written.again }

      passes : index < row_count fields
          → Passes (row_count fields) index (turn_at (input_of words fields message) (level_of defined words) written.tags index).next
          (length (turn_at (input_of words fields message) (level_of defined words) written.tags index).events)
      passes inside =
          turn-passes (input_of words fields message) (level_of defined words) (layout_of_rules words lent.passed)
          (λ tag group there. group_of_number words lent.passed 0 tag group (omega arith) there) index inside written.tags

      module _ (inside : index < row_count fields) (seen' after' : List ℕ) (past next : ℕ)
          (turned : (tags : List ℕ) → SeenTags defined seen tags → Turned defined words fields message tags index seen' after after' at past next) where
        pub turn-moves : index < next
        turn-moves = omega (arith, (turned written.tags written.kept).next_is, (passes inside).moves)

        past_room : past + 5 ≤ 25 * next
        past_room =
            omega (
              arith,
              (turned written.tags written.kept).next_is,
              (turned written.tags written.kept).wrote.next_is,
              (passes inside).moves,
              (passes inside).few,
              written.room,
            )

        pub turns_more : TurnsWritten seen' after' next past
        turns_more =
            let turn = turned written.tags written.kept in
            record {
              tags = (turn_at (input_of words fields message) (level_of defined words) written.tags index).seen;
              done = written.done ++ (turn_at (input_of words fields message) (level_of defined words) written.tags index).events;
              so_far =
                  rw turn.next_is
                  (turns_go_on (input_of words fields message) (level_of defined words) written.done written.tags index written.so_far inside
                  (turn_at (input_of words fields message) (level_of defined words) written.tags index) refl (passes inside).moves);
              kept = turn.kept;
              wrote = wrote_then written.wrote turn.wrote;
              within = omega (arith, turn.next_is, (passes inside).within);
              room = omega (arith, past_room);
              again = λ rank low held. past_room;
            }

      pub turns_over : row_count fields ≤ index → Walked defined words fields message seen before after at
      turns_over over =
          let whole = turns_end (input_of words fields message) (level_of defined words) written.done written.tags index written.so_far over in
          record {
            wrote = rw whole written.wrote;
            kept = rw whole written.kept;
            few = omega (arith, written.room, written.within);
          }
