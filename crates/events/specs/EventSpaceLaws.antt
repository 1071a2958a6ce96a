-- Laws of `EventSpace.antt`: one event, events one behind the other, and what the words hold where there is room for all of them. Assumes nothing.
--
--   Wrote before after at next events   a call that was lent the words `before` and began at `at` left `after`, having put the events, and gives `next`
use Rattle.std.specs.Prelude.{◌≡◌, ℕ, suc, ◌+◌, ◌*◌, ◌≤◌, ◌<◌, Bool, List, [], ◌∷◌, ◌++◌, leb, take, drop, set, if◌then◌else◌}
use Rattle.std.proofs.Math.Path.{refl}
use Rattle.std.proofs.Common.{sym, ap, ◌∙◌, append_assoc, arith, length-append, take-append-drop, take_at, drop_at, drop-drop, length-take-le, le-leb}
use Rattle.std.proofs.Math.Bool.{true, false}
use Rattle.std.proofs.Math.Numerals.{add-one, add-two, add-three, add-four}
use Rattle.std.proofs.Math.ListN.{length}
use Rattle.std.proofs.Math.Seq.{sets, length-sets}
use Rattle.std.proofs.lemmas.List.Edits.{sets-eq}
use Rattle.std.proofs.lemmas.Bool.{lt-leb}
use Rattle.events.specs.declared.event.Event.{Event}
use Rattle.events.specs.Events.{kind_number, kind_first, kind_second, event_words, events_words}
use Rattle.events.specs.EventSpace.{put_in, put_all_in}

-- ---- the words of events

event_words-length : (event : Event) → length (event_words event) ≡ 5
unfolding event_words
event_words-length event = refl

pub events_words-length : (events : List Event) → length (events_words events) ≡ 5 * length events
unfolding events_words
events_words-length [] = refl
events_words-length (event ∷ rest) = length-append (event_words event) (events_words rest) ∙ omega (arith, event_words-length event, events_words-length rest)

-- ---- one event

module _ (space : List ℕ) (at : ℕ) (event : Event) where
  pub put_in_no_room : length space < at + 5 → put_in space at event ≡ space
  unfolding put_in
  put_in_no_room short = rw (lt-leb _ _ short)

  -- the five stores, as code makes them
  pub put_in_stores : (number count_tag_lem depth first second : ℕ) → at + 5 ≤ length space
      → number ≡ kind_number event.kind → count_tag_lem ≡ event.count_tag → depth ≡ event.depth → first ≡ kind_first event.kind
      → second ≡ kind_second event.kind
      → set (set (set (set (set space at number) (at + 1) count_tag_lem) (at + 2) depth) (at + 3) first) (at + 4) second ≡ put_in space at event
  unfolding put_in event_words
  put_in_stores number count_tag_lem depth first second room is_number is-tag is-depth is-first is-second =
      rw (le-leb _ _ room, is_number, is-tag, is-depth, is-first, is-second, add-one, add-two, add-three, add-four)

  pub put_in_length : length (put_in space at event) ≡ length space
  unfolding put_in
  put_in_length = go (leb (at + 5) (length space))
    where
      go : (room : Bool) → length (if room then sets space at (event_words event) else space) ≡ length space
      go true = length-sets space at (event_words event)
      go false = refl

  module _ (room : at + 5 ≤ length space) where
    put_in_parts : put_in space at event ≡ (take at space ++ event_words event) ++ drop (at + 5) space
    unfolding put_in event_words
    put_in_parts = rw (le-leb _ _ room) (sets-eq (event_words event) space at room)

    front_length : length (take at space ++ event_words event) ≡ at + 5
    front_length = length-append (take at space) (event_words event) ∙ omega (arith, length-take-le at space (omega arith), event_words-length event)

    put_in_take : take (at + 5) (put_in space at event) ≡ take at space ++ event_words event
    put_in_take = rw put_in_parts (take_at (take at space ++ event_words event) (drop (at + 5) space) (at + 5) front_length)

    put_in_drop : (more : ℕ) → drop (at + 5 + more) (put_in space at event) ≡ drop (at + 5 + more) space
    put_in_drop more =
        sym (drop-drop more (at + 5) (put_in space at event))
        ∙ ap (drop more) (ap (drop (at + 5)) put_in_parts ∙ drop_at (take at space ++ event_words event) (drop (at + 5) space) (at + 5) front_length)
        ∙ drop-drop more (at + 5) space

-- ---- events one behind the other

pub put_all_in-length : (space : List ℕ) (at : ℕ) (events : List Event) → length (put_all_in space at events) ≡ length space
unfolding put_all_in
put_all_in-length space at [] = refl
put_all_in-length space at (event ∷ rest) = put_all_in-length (put_in space at event) (at + 5) rest ∙ put_in_length space at event

pub put_all_in-append : (space : List ℕ) (at : ℕ) (events others : List Event)
    → put_all_in (put_all_in space at events) (at + 5 * length events) others ≡ put_all_in space at (events ++ others)
unfolding put_all_in
put_all_in-append space at [] others = let same : at + 5 * 0 ≡ at = omega arith in rw same
put_all_in-append space at (event ∷ rest) others =
    let same : at + 5 * suc (length rest) ≡ at + 5 + 5 * length rest = omega arith in
    rw same (put_all_in-append (put_in space at event) (at + 5) rest others)

-- with room for all: the words before stay, then the events' words, then what stood behind them
pub put_all_in-room : (space : List ℕ) (at : ℕ) (events : List Event) → at + 5 * length events ≤ length space
    → put_all_in space at events ≡ take at space ++ (events_words events ++ drop (at + 5 * length events) space)
unfolding put_all_in events_words
put_all_in-room space at [] room = let same : at + 5 * 0 ≡ at = omega arith in rw same (sym (take-append-drop at space))
put_all_in-room space at (event ∷ rest) room =
    let same : at + 5 * suc (length rest) ≡ at + 5 + 5 * length rest = omega arith in
    let here : at + 5 ≤ length space = omega arith in
    put_all_in-room (put_in space at event) (at + 5) rest (omega (arith, put_in_length space at event))
    ∙ rw (put_in_take space at event here, put_in_drop space at event here (5 * length rest), same) (simp append_assoc)

-- in no space nothing is written
pub put_all_in-empty : (at : ℕ) (events : List Event) → put_all_in [] at events ≡ []
unfolding put_all_in put_in
put_all_in-empty at [] = refl
put_all_in-empty at (event ∷ rest) = rw (lt-leb (at + 5) 0 (omega arith)) (put_all_in-empty (at + 5) rest)

-- ---- calls that put events

pub record Wrote (before after : List ℕ) (at next : ℕ) (events : List Event) : Type 0 where
  pub next_is : next ≡ at + 5 * length events
  pub after_is : after ≡ put_all_in before at events

pub wrote_none : (space : List ℕ) (at : ℕ) → Wrote space space at at []
unfolding put_all_in
wrote_none space at = record { next_is = omega arith; after_is = refl }

pub wrote_one : (before after : List ℕ) (at next : ℕ) (event : Event) → next ≡ at + 5 → after ≡ put_in before at event
    → Wrote before after at next (event ∷ [])
unfolding put_all_in
wrote_one before after at next event behind put = record { next_is = omega arith; after_is = put }

pub wrote_then : {before between after : List ℕ} {at middle next : ℕ} {events others : List Event}
    → Wrote before between at middle events → Wrote between after middle next others → Wrote before after at next (events ++ others)
wrote_then {before = before} {between = between} {at = at} {middle = middle} {events = events} {others = others} one two = record {
  next_is = omega (arith, one.next_is, two.next_is, length-append events others);
  after_is = two.after_is ∙ rw (one.after_is, one.next_is) (put_all_in-append before at events others);
}

pub wrote-length : {before after : List ℕ} {at next : ℕ} {events : List Event} → Wrote before after at next events → length after ≡ length before
wrote-length {before = before} {at = at} {events = events} wrote = ap length wrote.after_is ∙ put_all_in-length before at events
