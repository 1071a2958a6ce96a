-- Laws of `TextCheck.antt`: the loop of `read_lines`, turn by turn, and what its end says of row 5. Assumes nothing.
use Rattle.std.specs.Prelude.{◌≡◌, ℕ, ◌+◌, ◌*◌, ◌-◌, ◌≤◌, Bool, true, false, cond, ◌&&◌, ◌||◌, List, [], ◌∷◌, ◌++◌, ltb, get_or, set, take, drop, Option, Some, None, Result, Ok, Err}
use Rattle.std.proofs.Math.Path.{refl, ap}
use Rattle.std.proofs.Common.{sym, ◌∙◌, append-nil, arith, length-append, take_at, length-take-le, le-ltb}
use Rattle.std.proofs.Math.Dec.{eqb}
use Rattle.std.proofs.Math.ListN.{length}
use Rattle.std.proofs.lemmas.List.Edits.{sets, sets-eq}
use Rattle.std.proofs.Math.Seq.{length-sets}
use Rattle.ascending.specs.Search.{is_strictly_ascending}
use Rattle.ascending.specs.SearchLaws.{is_strictly_ascending-true}
use Rattle.ascending.specs.Sort.{sorted, how_often, AsOften}
use Rattle.ascending.specs.SortLaws.{sorted-as_often}
use Rattle.refusals.specs.declared.refusal.Refusal.{Refusal}
use Rattle.refusals.specs.declared.refusal.Refusal.TheVariants.{UnknownForm, NotAllowed, TooManyOpen}
use Rattle.line_forms.specs.declared.line.Line.{Line}
use Rattle.line_forms.specs.declared.line.Line.TheVariants.{Def, Value, BeginHeader, BeginTrailer, EndHeader, EndTrailer, Component, Message, Field, Group, Use, End, Member, RequiredTag, Unknown}
use Rattle.dictionary_order.specs.declared.dictionary_order.State.{State}
use Rattle.dictionary_order.specs.declared.dictionary_order.Stage.TheVariants.{Beginning, Definitions, AfterHeader, AfterTrailer, AfterMessage, InHeader, InTrailer, InComponent, InMessage}
use Rattle.dictionary_order.specs.declared.dictionary_order.Part.TheVariants.{Fields, Groups, Uses}
use Rattle.texts.specs.declared.dictionary_text.Counts.{Counts}
use Rattle.texts.specs.declared.dictionary_text.Defined.{Defined}
use Rattle.texts.specs.declared.dictionary_text.Defined.TheVariants.{Tag, ComponentName, MessageName}
use Rattle.refusals.specs.Refusal.{refusal_place}
use Rattle.lines.specs.Lines.{Pieces, last, piece, lines_of}
use Rattle.lines.specs.TextLines.{IsFirstLine, IsUnended}
use Rattle.line_forms.specs.LineForms.{line_of}
use Rattle.dictionary_order.specs.DictionaryOrder.{start, standing, step_of, is_at, is_from, goes_on_with, has_uses, allowed_if, closed_block, opened_block, used_in, is_name, close_group, close_component, close_message, open_group, end_step}
use Rattle.texts.specs.DictionaryText.{counts, counted, defined_by, key_of, is_in, on_key, again_from, again_of, order_of, first_of}
use Rattle.texts.specs.DictionaryTextLaws.{line-length, OrderSoFar, order-begins, order-faulty, order-turns, again-ends, again-unended, again-no_key, again-new, defines-length}
use Rattle.records.specs.RecordsLaws.{Held}
use Rattle.records.specs.LineReadLaws.{line_of_fits}
use Rattle.dictionary.specs.DictionaryWords.{names_of}
use Rattle.definitions.specs.IndexLaws.{strictly_distinct, distinct_often, once-same}
use Rattle.definitions.specs.PassAccepted.{AllHeld, counted-lines, key_in, keys_of, keys_once, not_seen, how_often-append, tag_in, component_in, message_in, tags-step, components-step, messages-step}
use Rattle.definitions.specs.AcceptedPass.{usable_held}
use Rattle.read_dictionary.specs.ReadDictionaryLaws.{counted-more}
use Rattle.read_dictionary.specs.TextCheck.{OnceEach, NamesRoom, NamesRead}

-- ---- sorted names

pub ascending_once : (names : List ℕ) → is_strictly_ascending (sorted names) ≡ true → OnceEach names
ascending_once names ascends each =
    omega (arith, sorted-as_often names each, distinct_often (sorted names) (strictly_distinct (sorted names) (is_strictly_ascending-true (sorted names) ascends)) each)

-- ---- the place of a line's refusal is the line's number

abbrev Placed : ℕ → Result State Refusal → Type 0
Placed number step = (refusal : Refusal) → step ≡ Err refusal → refusal_place refusal ≡ number

either-placed : (number : ℕ) (test : Bool) (this that : Result State Refusal) → Placed number this → Placed number that → Placed number (cond test this that)
either-placed number true this that one other = one
either-placed number false this that one other = other

taken-placed : (number : ℕ) (next : State) → Placed number (Ok next)
taken-placed number next refusal same = let never : ◌≡◌ {A = ℕ} 0 1 = cc in absurd (omega arith)

refused-placed : (number : ℕ) (given : Refusal) → refusal_place given ≡ number → Placed number (Err given)
refused-placed number given at-line refusal same = let equal : given ≡ refusal = cc in ap refusal_place (sym equal) ∙ at-line

module _ (state : State) (number : ℕ) where
  allowed-placed : (test : Bool) (next : State) → Placed number (allowed_if test next number)
  allowed-placed test next = either-placed number test (Ok next) (Err (NotAllowed number)) (taken-placed number next) (refused-placed number (NotAllowed number) refl)

  group-placed : (count : ℕ) → Placed number (open_group count state number)
  group-placed count =
      let opened = standing state.stage Fields state.name (state.depth + 1) (set state.counts state.depth count) in
      either-placed number (ltb state.depth 40) (Ok opened) (Err (TooManyOpen number)) (taken-placed number opened)
      (refused-placed number (TooManyOpen number) refl)

  end-placed : (name : Option ℕ) (letters : Option ℕ) → Placed number (end_step name letters state number)
  end-placed name letters =
      either-placed number (ltb 0 state.depth) (close_group name state number) _ (allowed-placed (is_name (get_or state.counts (state.depth - 1) 0) name) _)
      (either-placed number (is_at InComponent state.stage) (close_component name state number) _ (allowed-placed (is_name state.name name) _)
      (either-placed number (is_at InMessage state.stage) (close_message letters state number) _ (allowed-placed (is_name state.name letters) _)
      (refused-placed number (NotAllowed number) refl)))

  pub step-placed : (line : Line) → Placed number (step_of state number line)
  unfolding step_of
  step-placed (Def tag place) = allowed-placed (is_from Beginning Definitions state.stage) (closed_block Definitions state)
  step-placed (Value admitted) = allowed-placed (is_at Definitions state.stage) state
  step-placed BeginHeader = allowed-placed (is_from Beginning Definitions state.stage) (opened_block InHeader 0 state)
  step-placed BeginTrailer = allowed-placed (is_at AfterHeader state.stage) (opened_block InTrailer 0 state)
  step-placed EndHeader = allowed-placed (is_at InHeader state.stage && eqb state.depth 0) (closed_block AfterHeader state)
  step-placed EndTrailer = allowed-placed (is_at InTrailer state.stage && eqb state.depth 0) (closed_block AfterTrailer state)
  step-placed (Component name) = allowed-placed (is_at AfterTrailer state.stage) (opened_block InComponent name state)
  step-placed (Message letters app) = allowed-placed (is_from AfterTrailer AfterMessage state.stage) (opened_block InMessage letters state)
  step-placed (Field tag required) = allowed-placed (goes_on_with Fields state.part) state
  step-placed (Group count delimiter required) =
      either-placed number (goes_on_with Groups state.part) (open_group count state number) (Err (NotAllowed number)) (group-placed count)
      (refused-placed number (NotAllowed number) refl)
  step-placed (Use name required) =
      allowed-placed (goes_on_with Uses state.part && (ltb 0 state.depth || has_uses state.stage)) (used_in state)
  step-placed (End name letters) = end-placed name letters
  step-placed (Member tag) = refused-placed number (UnknownForm number) refl
  step-placed (RequiredTag tag) = refused-placed number (UnknownForm number) refl
  step-placed Unknown = refused-placed number (UnknownForm number) refl

-- ---- row 5 is not met before the line from which it is searched

abbrev NotBefore : ℕ → Option ℕ → Type 0
NotBefore number (Some line) = number ≤ line
NotBefore number None = Unit

not-before_next : (number : ℕ) (again : Option ℕ) → NotBefore (number + 1) again → NotBefore number again
not-before_next number (Some line) behind = omega arith
not-before_next number None behind = tt

key_behind_by : (seen-before : Bool) (number : ℕ) (goes_on : Option ℕ) → NotBefore (number + 1) goes_on → NotBefore number (cond seen-before (Some number) goes_on)
key_behind_by true number goes_on behind = omega arith
key_behind_by false number goes_on behind = not-before_next number goes_on behind

key_behind : (key : Option ℕ) (seen : List ℕ) (number : ℕ) (goes_on : List ℕ → Option ℕ) → ((more : List ℕ) → NotBefore (number + 1) (goes_on more)) → NotBefore number (on_key key seen number goes_on)
key_behind (Some key) seen number goes_on behind = key_behind_by (is_in key seen) number (goes_on (seen ++ (key ∷ []))) (behind (seen ++ (key ∷ [])))
key_behind None seen number goes_on behind = not-before_next number (goes_on seen) (behind seen)

again_behind : (seen : List ℕ) (number : ℕ) (pieces : Pieces) → NotBefore number (again_from seen number pieces)
unfolding again_from
again_behind seen number (last bytes) = tt
again_behind seen number (piece bytes others) =
    key_behind (key_of (defined_by (line_of bytes))) seen number (λ (more : List ℕ). again_from more (number + 1) others) (λ more. again_behind more (number + 1) others)

refusal_stands : (number : ℕ) (again : Option ℕ) (refusal : Refusal) → refusal_place refusal ≡ number → NotBefore number again → first_of again (Err refusal) ≡ Err refusal
refusal_stands number (Some line) refusal at-line behind = rw (le-ltb line (refusal_place refusal) (omega arith))
refusal_stands number None refusal at-line behind = refl

-- ---- the loop of `read_lines`

-- the names of the lines before the rest, the last line first, are the first ones kept; while no key is there twice, row 5 is searched in the rest
pub record NamesSoFar (text rest : List ℕ) (read : Counts) (tags components messages : List ℕ) : Type 0 where
  pub lines : List Line
  pub seen : List ℕ
  pub held : AllHeld lines
  pub tags_are : AsOften (take read.tags tags) (names_of 1 lines)
  pub components_are : AsOften (take read.components components) (names_of 5 lines)
  pub messages_are : AsOften (take read.messages messages) (names_of 6 lines)
  pub keys_are : AsOften seen (keys_of lines)
  pub again : OnceEach (keys_of lines) → again_of text ≡ again_from seen (read.lines + 1) (lines_of rest)
  pub few_tags_lem : 5 * read.tags + length rest ≤ length text
  pub few_components : 5 * read.components + length rest ≤ length text
  pub few_messages : 5 * read.messages + length rest ≤ length text
  pub tag_places : length tags ≡ 13108
  pub component_places : length components ≡ 13108
  pub message_places : length messages ≡ 13108

pub record ReadSoFar (text rest : List ℕ) (state : State) (read : Counts) (tags components messages : List ℕ) : Type 0 where
  pub in_order : OrderSoFar text rest state read
  pub names : NamesSoFar text rest read tags components messages

pub reading_begins : (text tags components messages : List ℕ) → length tags ≡ 13108 → length components ≡ 13108 → length messages ≡ 13108
    → ReadSoFar text text start (counts 0 0 0 0) tags components messages
unfolding again_of keys_of names_of
reading_begins text tags components messages tag_places component_places message_places = record {
  in_order = order-begins text;
  names = record {
    lines = [];
    seen = [];
    held = tt;
    tags_are = λ each. refl;
    components_are = λ each. refl;
    messages_are = λ each. refl;
    keys_are = λ each. refl;
    again = λ once_each. refl;
    few_tags_lem = omega arith;
    few_components = omega arith;
    few_messages = omega arith;
    tag_places = tag_places;
    component_places = component_places;
    message_places = message_places;
  };
}

-- a line that defines a name has at least four bytes
long_by : (bytes : List ℕ) (defined : Option Defined) → defined ≡ defined_by (line_of bytes)
    → (5 * length (tag_in defined) ≤ length bytes + 1) × ((5 * length (component_in defined) ≤ length bytes + 1) × (5 * length (message_in defined) ≤ length bytes + 1))
long_by bytes (Some (Tag tag)) same = let long = defines-length bytes tag (rw (← same)) in (omega arith, (omega arith, omega arith))
long_by bytes (Some (ComponentName name)) same = let long = defines-length bytes (4294967296 + name) (rw (← same)) in (omega arith, (omega arith, omega arith))
long_by bytes (Some (MessageName letters)) same = let long = defines-length bytes (8589934592 + letters) (rw (← same)) in (omega arith, (omega arith, omega arith))
long_by bytes None same = (omega arith, (omega arith, omega arith))

defined-short : (defined : Option Defined) → (length (tag_in defined) ≤ 1) × ((length (component_in defined) ≤ 1) × (length (message_in defined) ≤ 1))
defined-short (Some (Tag tag)) = (omega arith, (omega arith, omega arith))
defined-short (Some (ComponentName name)) = (omega arith, (omega arith, omega arith))
defined-short (Some (MessageName letters)) = (omega arith, (omega arith, omega arith))
defined-short None = (omega arith, (omega arith, omega arith))

-- a name that is kept behind the others
kept-often : (each at : ℕ) (words new names more : List ℕ) → at + length new ≤ length words
    → more ≡ new ++ names
    → how_often each (take at words) ≡ how_often each names
    → how_often each (take (at + length new) (sets words at new)) ≡ how_often each more
kept-often each at words new names more fits parts same =
    let first : length (take at words) ≡ at = length-take-le at words (omega arith) in
    let whole : length (take at words ++ new) ≡ at + length new = omega (arith, length-append (take at words) new) in
    let stored : sets words at new ≡ (take at words ++ new) ++ drop (at + length new) words = sets-eq new words at fits in
    let front : take (at + length new) (sets words at new) ≡ take at words ++ new = rw stored (take_at (take at words ++ new) (drop (at + length new) words) (at + length new) whole) in
    rw (front, parts) (omega (arith, how_often-append each (take at words) new, how_often-append each new names))

-- a key that is not there yet is new
key_turns : (key : Option ℕ) (seen keys : List ℕ) (number : ℕ) (rest bytes left : List ℕ) (line : Line)
    → key ≡ key_of (defined_by line)
    → IsFirstLine rest bytes left
    → line ≡ line_of bytes
    → AsOften seen keys
    → OnceEach (key_in key ++ keys)
    → again_from seen number (lines_of rest) ≡ again_from (seen ++ key_in key) (number + 1) (lines_of left)
unfolding how_often
key_turns (Some key) seen keys number rest bytes left line defines first reads same once_each =
    again-new seen number rest bytes left first line reads key (sym defines)
    (not_seen key seen (omega (arith, once_each key, once-same key, same key)))
key_turns None seen keys number rest bytes left line defines first reads same once_each =
    again-no_key seen number rest bytes left first line reads (sym defines)
    ∙ ap (λ (more : List ℕ). again_from more (number + 1) (lines_of left)) (sym (append-nil seen))

module _ (text rest : List ℕ) (state : State) (read : Counts) (tags components messages : List ℕ) (so_far : ReadSoFar text rest state read tags components messages) where
  pub names-room : length text ≤ 65536 → NamesRoom read tags components messages
  names-room few_bytes = record {
    few_lines = omega (arith, so_far.in_order.few.few_lines);
    few_tags_lem = omega (arith, so_far.names.few_tags_lem);
    few_components = omega (arith, so_far.names.few_components);
    few_messages = omega (arith, so_far.names.few_messages);
    tag_places = so_far.names.tag_places;
    component_places = so_far.names.component_places;
    message_places = so_far.names.message_places;
  }

  -- row 5 changes nothing where the search in the rest would change nothing
  read_by : length text ≤ 65536
      → first_of (again_from so_far.names.seen (read.lines + 1) (lines_of rest)) (order_of text) ≡ order_of text
      → NamesRead text read tags components messages
  read_by few_bytes unchanged = record {
    few_tags_lem = omega (arith, so_far.names.few_tags_lem, so_far.in_order.within);
    few_components = omega (arith, so_far.names.few_components, so_far.in_order.within);
    few_messages = omega (arith, so_far.names.few_messages, so_far.in_order.within);
    tag_places = so_far.names.tag_places;
    component_places = so_far.names.component_places;
    message_places = so_far.names.message_places;
    unrepeated = λ one two three.
        let keys =
        keys_once so_far.names.lines so_far.names.held
        (λ name. omega (arith, one name, so_far.names.tags_are name))
        (λ name. omega (arith, two name, so_far.names.components_are name))
        (λ name. omega (arith, three name, so_far.names.messages_are name)) in
        rw (so_far.names.again keys) unchanged;
  }

  pub reading-stops : length text ≤ 65536 → rest ≡ [] → NamesRead text read tags components messages
  reading-stops few_bytes over = read_by few_bytes (rw (again-ends so_far.names.seen (read.lines + 1) rest over))

  pub reading-breaks : length text ≤ 65536 → IsUnended rest → NamesRead text read tags components messages
  reading-breaks few_bytes bytes = read_by few_bytes (rw (again-unended so_far.names.seen (read.lines + 1) rest bytes))

  module _ (bytes left : List ℕ) (first : IsFirstLine rest bytes left) (line : Line) (reads : line ≡ line_of bytes) where
    pub reading-faulty : length text ≤ 65536 → (refusal : Refusal) → step_of state (read.lines + 1) line ≡ Err refusal → NamesRead text read tags components messages
    reading-faulty few_bytes refusal faulty =
        let refuses = order-faulty text rest state read so_far.in_order bytes left first line reads refusal faulty in
        let at-line = step-placed state (read.lines + 1) line refusal faulty in
        read_by few_bytes
        (rw refuses
        (refusal_stands (read.lines + 1) (again_from so_far.names.seen (read.lines + 1) (lines_of rest)) refusal at-line
        (again_behind so_far.names.seen (read.lines + 1) (lines_of rest))))

    module _ (next : State) (good : step_of state (read.lines + 1) line ≡ Ok next) (after : Counts) (counts-on : after ≡ counted read (defined_by line)) where
      line-held : Held line
      line-held =
          let usable = (line_of_fits bytes).0 in
          usable_held state (read.lines + 1) line (rw good) (rw reads usable)

      line-long : (5 * length (tag_in (defined_by line)) + length left ≤ length rest)
          × ((5 * length (component_in (defined_by line)) + length left ≤ length rest) × (5 * length (message_in (defined_by line)) + length left ≤ length rest))
      line-long =
          let longer = line-length rest bytes left first in
          let long = long_by bytes (defined_by line) (ap defined_by reads) in
          (omega (arith, long.0, longer), (omega (arith, long.1.0, longer), omega (arith, long.1.1, longer)))

      turns_by : length text ≤ 65536
          → (tags-on : List ℕ) → tags-on ≡ sets tags read.tags (tag_in (defined_by line))
          → (components-on : List ℕ) → components-on ≡ sets components read.components (component_in (defined_by line))
          → (messages-on : List ℕ) → messages-on ≡ sets messages read.messages (message_in (defined_by line))
          → ReadSoFar text left next after tags-on components-on messages-on
      unfolding keys_of
      turns_by few_bytes tags-on tags-put components-on components-put messages-on messages-put =
          let names = so_far.names in
          let more = counted-more read (defined_by line) in
          let room = names-room few_bytes in
          let short = defined-short (defined_by line) in
          let key = key_of (defined_by line) in
          record {
            in_order = order-turns text rest state read so_far.in_order bytes left first line reads next good after counts-on;
            names = record {
              lines = line ∷ names.lines;
              seen = names.seen ++ key_in key;
              held = (line-held, names.held);
              tags_are = λ each.
                  rw (counts-on, more.1.0, tags-put)
                  (kept-often each read.tags tags (tag_in (defined_by line)) (names_of 1 names.lines) (names_of 1 (line ∷ names.lines))
                  (omega (arith, room.few_tags_lem, room.tag_places, short.0)) (tags-step line names.lines) (names.tags_are each));
              components_are = λ each.
                  rw (counts-on, more.1.1.0, components-put)
                  (kept-often each read.components components (component_in (defined_by line)) (names_of 5 names.lines) (names_of 5 (line ∷ names.lines))
                  (omega (arith, room.few_components, room.component_places, short.1.0)) (components-step line names.lines) (names.components_are each));
              messages_are = λ each.
                  rw (counts-on, more.1.1.1, messages-put)
                  (kept-often each read.messages messages (message_in (defined_by line)) (names_of 6 names.lines) (names_of 6 (line ∷ names.lines))
                  (omega (arith, room.few_messages, room.message_places, short.1.1)) (messages-step line names.lines) (names.messages_are each));
              keys_are = λ each. omega (arith, how_often-append each names.seen (key_in key), how_often-append each (key_in key) (keys_of names.lines), names.keys_are each);
              again = λ once_each.
                  let before : OnceEach (keys_of names.lines) = λ each. omega (arith, once_each each, how_often-append each (key_in key) (keys_of names.lines)) in
                  let number : read.lines + 1 + 1 ≡ (counted read (defined_by line)).lines + 1 = counted-lines read line (read.lines + 1) refl in
                  rw (counts-on, ← number)
                  (names.again before
                  ∙ key_turns key names.seen (keys_of names.lines) (read.lines + 1) rest bytes left line refl first reads names.keys_are once_each);
              few_tags_lem = omega (arith, ap (λ (each : Counts). each.tags) counts-on, more.1.0, names.few_tags_lem, line-long.0);
              few_components = omega (arith, ap (λ (each : Counts). each.components) counts-on, more.1.1.0, names.few_components, line-long.1.0);
              few_messages = omega (arith, ap (λ (each : Counts). each.messages) counts-on, more.1.1.1, names.few_messages, line-long.1.1);
              tag_places = ap length tags-put ∙ length-sets tags read.tags (tag_in (defined_by line)) ∙ names.tag_places;
              component_places = ap length components-put ∙ length-sets components read.components (component_in (defined_by line)) ∙ names.component_places;
              message_places = ap length messages-put ∙ length-sets messages read.messages (message_in (defined_by line)) ∙ names.message_places;
            };
          }

    -- `defined_by` says what the line defines
    pub reading-turns : (next : State) → step_of state (read.lines + 1) line ≡ Ok next → (defined : Option Defined) → defined ≡ defined_by line
        → (after : Counts) → after ≡ counted read defined
        → length text ≤ 65536
        → (tags-on : List ℕ) → tags-on ≡ sets tags read.tags (tag_in defined)
        → (components-on : List ℕ) → components-on ≡ sets components read.components (component_in defined)
        → (messages-on : List ℕ) → messages-on ≡ sets messages read.messages (message_in defined)
        → ReadSoFar text left next after tags-on components-on messages-on
    reading-turns next good defined defines after counts-on few_bytes tags-on tags-put components-on components-put messages-on messages-put =
        turns_by next good after (rw defines at counts-on) few_bytes tags-on (rw defines at tags-put) components-on (rw defines at components-put) messages-on
        (rw defines at messages-put)
