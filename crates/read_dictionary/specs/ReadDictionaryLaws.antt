-- Laws of `ReadDictionary.antt`: the counts of an accepted text are those of its lines; the loop of `put_records`, turn by turn; the parts of a dictionary,
-- written one behind the other; and what the call answers. `written-passes`: what `read_dictionary` wrote passes the check of lent words. `written-size`: it
-- wrote at most 131,068 words. Assumes nothing.
use Rattle.std.specs.Prelude.{◌≡◌, refl, ℕ, ◌+◌, ◌*◌, ◌≤◌, ◌<◌, Bool, true, false, cond, leb, drop, Result, Ok, Err, Option, Some, None}
use Rattle.std.proofs.Math.Path.{sym}
use Rattle.std.proofs.Common.{ap, ◌∙◌, take_at, le-leb}
use mathlib.Core.List.{List, [], ◌∷◌, ◌++◌, append_assoc}
use native.Mathlib.Omega.{arith}
use Rattle.std.proofs.Math.ListN.{length, length-append}
use Rattle.std.proofs.Math.Seq.{sets, length-sets}
use Rattle.std.proofs.lemmas.List.Edits.{sets-eq}
use Rattle.std.proofs.lemmas.Bool.{lt-leb}
use Rattle.ascii.specs.Bytes.{non_empty}
use Rattle.ascending.specs.Sort.{how_often}
use Rattle.refusals.specs.declared.refusal.Refusal.{Refusal}
use Rattle.refusals.specs.declared.refusal.Refusal.TheVariants.{UnknownForm, NotAllowed, SpaceShort}
use Rattle.line_forms.specs.declared.line.Line.{Line}
use Rattle.dictionary_order.specs.declared.dictionary_order.State.{State}
use Rattle.texts.specs.declared.dictionary_text.Counts.{Counts}
use Rattle.texts.specs.declared.dictionary_text.Defined.{Defined}
use Rattle.texts.specs.declared.dictionary_text.Defined.TheVariants.{Tag, ComponentName, MessageName}
use Rattle.lines.specs.Lines.{Pieces, last, piece, cut, lines_of}
use Rattle.lines.specs.TextLines.{IsFirstLine, IsUnended}
use Rattle.line_forms.specs.LineForms.{line_of}
use Rattle.dictionary_order.specs.DictionaryOrder.{start, step_of, after, may_end}
use Rattle.texts.specs.DictionaryText.{counts, counted, defined_by, order_from, order_of, dictionary_text_of}
use Rattle.records.specs.Records.{record_of}
use Rattle.records.specs.RecordsLaws.{record_of-length}
use Rattle.dictionary.specs.DictionaryWords.{names_of, records_of, index_of, dictionary_words, lines_in}
use Rattle.dictionary.specs.DictionaryCheck.{is_dictionary}
use Rattle.definitions.specs.PassAccepted.{tag_in, component_in, message_in, tags-step, components-step, messages-step}
use Rattle.definitions.specs.AcceptedPass.{fault_by, accepted-parts, accepted-pass, accepted-size, dictionary_words-length, records_of-length, index_of_length, lines_from_records, text-lines, text-keys, tags-once, components-once, messages-once}
use Rattle.put_dictionary.specs.IndexWords.{lines_held, IndexSpace}
use Rattle.put_dictionary.specs.IndexWordsLaws.{sets_append, space-kept, lines-kept}
use Rattle.read_dictionary.specs.ReadDictionary.{text_lines, needed_for, space_answer, space_with, text_answer, read_of, read_in}

-- ---- the counts of an accepted text

-- what was counted, from what was counted before and the lines behind it
pub record CountsBehind (before after : Counts) (lines : List Line) : Type 0 where
  pub lines_more : after.lines ≡ before.lines + length lines
  pub tags_more : after.tags ≡ before.tags + length (names_of 1 lines)
  pub components_more : after.components ≡ before.components + length (names_of 5 lines)
  pub messages_more : after.messages ≡ before.messages + length (names_of 6 lines)

pub counted-more : (before : Counts) (defined : Option Defined) → ((counted before defined).lines ≡ before.lines + 1)
    × (((counted before defined).tags ≡ before.tags + length (tag_in defined))
    × (((counted before defined).components ≡ before.components + length (component_in defined))
    × ((counted before defined).messages ≡ before.messages + length (message_in defined))))
counted-more before (Some (Tag tag)) = (omega arith, (omega arith, (omega arith, omega arith)))
counted-more before (Some (ComponentName name)) = (omega arith, (omega arith, (omega arith, omega arith)))
counted-more before (Some (MessageName letters)) = (omega arith, (omega arith, (omega arith, omega arith)))
counted-more before None = (omega arith, (omega arith, (omega arith, omega arith)))

counts-end_by : (some ends : Bool) (read outcome : Counts) (one two : Refusal)
    → cond some (Err one) (cond ends (Ok read) (Err two)) ≡ Ok outcome
    → outcome ≡ read
counts-end_by true ends read outcome one two same = let never : ◌≡◌ {A = ℕ} 0 1 = cc in absurd (omega arith)
counts-end_by false true read outcome one two same = cc
counts-end_by false false read outcome one two same = let never : ◌≡◌ {A = ℕ} 0 1 = cc in absurd (omega arith)

order-counts : (state : State) (read : Counts) (pieces : Pieces) (outcome : Counts) → order_from state read pieces ≡ Ok outcome → CountsBehind read outcome (lines_in pieces)
unfolding order_from lines_in
order-counts state read (last bytes) outcome accepted =
    let same =
    counts-end_by (non_empty bytes) (may_end state) read outcome (UnknownForm (read.lines + 1)) (NotAllowed (read.lines + 1)) accepted in
    unfold names_of in rw same record { lines_more = omega arith; tags_more = omega arith; components_more = omega arith; messages_more = omega arith }
order-counts state read (piece bytes others) outcome accepted =
    let line = line_of bytes in
    let step = step_of state (read.lines + 1) line in
    let going_on = (fault_by state step (λ next. order_from next (counted read (defined_by line)) others) outcome accepted).1 in
    let deeper = order-counts (after state step) (counted read (defined_by line)) others outcome going_on in
    let more = counted-more read (defined_by line) in
    record {
      lines_more = omega (arith, deeper.lines_more, more.0);
      tags_more =
          omega (arith, deeper.tags_more, more.1.0, ap length (tags-step line (lines_in others)) ∙ length-append (tag_in (defined_by line)) (names_of 1 (lines_in others)));
      components_more =
          omega (arith, deeper.components_more, more.1.1.0, ap length (components-step line (lines_in others)) ∙ length-append (component_in (defined_by line)) (names_of 5 (lines_in others)));
      messages_more =
          omega (arith, deeper.messages_more, more.1.1.1, ap length (messages-step line (lines_in others)) ∙ length-append (message_in (defined_by line)) (names_of 6 (lines_in others)));
    }

-- the numbers of an accepted text are those of its lines
pub record CountsOfLines (read : Counts) (lines : List Line) : Type 0 where
  pub lines_are : read.lines ≡ length lines
  pub tags_are : read.tags ≡ length (names_of 1 lines)
  pub components_are : read.components ≡ length (names_of 5 lines)
  pub messages_are : read.messages ≡ length (names_of 6 lines)

module _ (bytes : List ℕ) (read : Counts) (accepted : dictionary_text_of bytes ≡ Ok read) where
  pub accepted-counts : CountsOfLines read (text_lines bytes)
  unfolding order_of
  accepted-counts =
      let behind = order-counts start (counts 0 0 0 0) (lines_of bytes) read (accepted-parts bytes read accepted).1.1 in
      record {
        lines_are = omega (arith, behind.lines_more);
        tags_are = omega (arith, behind.tags_more);
        components_are = omega (arith, behind.components_more);
        messages_are = omega (arith, behind.messages_more);
      }

  -- what the counts need is what the dictionary has
  pub accepted-needs : needed_for read ≡ length (dictionary_words (text_lines bytes))
  accepted-needs = let are = accepted-counts in omega (arith, are.lines_are, are.tags_are, are.components_are, are.messages_are, dictionary_words-length (text_lines bytes))

  pub accepted-few : needed_for read ≤ 131068
  accepted-few = omega (arith, accepted-needs, accepted-size bytes read accepted)

-- ---- the loop of `put_records`

-- the records of the lines before those that are left stand before `at`
pub record RecordsSoFar (bytes before left : List ℕ) (words : List ℕ) (at : ℕ) : Type 0 where
  pub size : length words ≡ length before
  pub room : at + length (records_of (lines_in (lines_of left))) ≤ length before
  pub rest : sets before 4 (records_of (text_lines bytes)) ≡ sets words at (records_of (lines_in (lines_of left)))

pub records-begin : (bytes before : List ℕ) → 4 + 10 * length (text_lines bytes) ≤ length before → RecordsSoFar bytes before bytes before 4
records-begin bytes before fits = record { size = refl; room = omega (arith, records_of-length (text_lines bytes)); rest = refl }

module _ (bytes before left : List ℕ) (words : List ℕ) (at : ℕ) (so_far : RecordsSoFar bytes before left words at) where
  pub records-end : left ≡ [] → words ≡ sets before 4 (records_of (text_lines bytes))
  unfolding lines_in records_of cut
  records-end none = sym (so_far.rest ∙ rw none refl)

  pub records-break : IsUnended left → words ≡ sets before 4 (records_of (text_lines bytes))
  unfolding lines_in records_of
  records-break unended = sym (so_far.rest ∙ rw unended.uncut refl)

  module _ (own left' : List ℕ) (first : IsFirstLine left own left') (line : Line) (reads : line ≡ line_of own) where
    records-here : records_of (lines_in (lines_of left)) ≡ record_of line ++ records_of (lines_in (lines_of left'))
    unfolding lines_in records_of
    records-here = rw (first.cut_off, ← reads)

    records-more : length (records_of (lines_in (lines_of left))) ≡ 10 + length (records_of (lines_in (lines_of left')))
    records-more = omega (arith, ap length records-here ∙ length-append (record_of line) (records_of (lines_in (lines_of left'))), record_of-length line)

    pub records-room : at + 10 ≤ length words
    records-room = omega (arith, records-more, so_far.room, so_far.size)

    pub records-turn : (next : List ℕ) → next ≡ sets words at (record_of line) → RecordsSoFar bytes before left' next (at + 10)
    records-turn next puts =
        let behind = records_of (lines_in (lines_of left')) in
        let ten : at + 10 ≡ at + length (record_of line) = omega (arith, record_of-length line) in
        record {
          size = ap length puts ∙ length-sets words at (record_of line) ∙ so_far.size;
          room = omega (arith, records-more, so_far.room);
          rest = so_far.rest ∙ rw (records-here, puts, ten) (sym (sets_append words (record_of line) behind at));
        }

-- ---- the parts of a dictionary, one behind the other

front-stored : (words new : List ℕ) → length new ≤ length words → sets words 0 new ≡ new ++ drop (length new) words
front-stored words new fits = let same : 0 + length new ≡ length new = omega arith in sets-eq new words 0 (omega arith) ∙ rw same

module _ (bytes : List ℕ) (read : Counts) (accepted : dictionary_text_of bytes ≡ Ok read) (words : List ℕ) (fits : needed_for read ≤ length words)
    (headed : List ℕ) (heads : headed ≡ sets words 0 (read.lines ∷ read.tags ∷ read.components ∷ read.messages ∷ [])) where
  pub records-fit : 4 + 10 * length (text_lines bytes) ≤ length headed
  records-fit =
      omega (
        arith,
        (accepted-counts bytes read accepted).lines_are,
        ap length heads,
        length-sets words 0 (read.lines ∷ read.tags ∷ read.components ∷ read.messages ∷ []),
      )

  module _ (recorded : List ℕ) (records : recorded ≡ sets headed 4 (records_of (text_lines bytes))) where
    front : List ℕ
    front = read.lines ∷ read.tags ∷ read.components ∷ read.messages ∷ records_of (text_lines bytes)

    recorded_front : recorded ≡ sets words 0 front
    unfolding front
    recorded_front = rw (records, heads) (sets_append words (read.lines ∷ read.tags ∷ read.components ∷ read.messages ∷ []) (records_of (text_lines bytes)) 0)

    front_length : length front ≡ 4 + 10 * read.lines
    unfolding front
    front_length = omega (arith, records_of-length (text_lines bytes), (accepted-counts bytes read accepted).lines_are)

    behind : List ℕ
    behind = drop (length front) words

    recorded_records : drop 4 recorded ≡ records_of (text_lines bytes) ++ behind
    unfolding front behind
    recorded_records = rw (recorded_front, front-stored words front (omega (arith, front_length)))

    recorded_lines : lines_held read.lines recorded ≡ text_lines bytes
    recorded_lines =
        ap (λ (count : ℕ). lines_held count recorded) (accepted-counts bytes read accepted).lines_are
        ∙ rw recorded_records (lines_from_records (text_lines bytes) behind (text-lines bytes read accepted).0)

    recorded_length : length recorded ≡ length words
    recorded_length = ap length recorded_front ∙ length-sets words 0 front

    -- an index may be written behind the records
    recorded_space : (kind at count : ℕ)
        → 4 + 10 * read.lines ≤ at
        → at + 2 * count ≤ needed_for read
        → length (names_of kind (text_lines bytes)) ≡ count
        → ((name : ℕ) → how_often name (names_of kind (text_lines bytes)) ≤ 1)
        → IndexSpace recorded read.lines kind at count
    recorded_space kind at count from within counts_same once = record {
      few_lines = omega (arith, accepted-few bytes read accepted);
      behind_records = from;
      fits = omega (arith, recorded_length);
      records =
          rw (recorded_lines, recorded_records)
          (sym (take_at (records_of (text_lines bytes)) behind (10 * read.lines)
          (records_of-length (text_lines bytes) ∙ ap (λ (each : ℕ). 10 * each) (sym (accepted-counts bytes read accepted).lines_are))));
      counted = rw recorded_lines counts_same;
      once_each = rw recorded_lines once;
    }

    pub tags-space : IndexSpace recorded read.lines 1 (4 + 10 * read.lines) read.tags
    tags-space =
        recorded_space 1 (4 + 10 * read.lines) read.tags (omega arith) (omega arith) (sym (accepted-counts bytes read accepted).tags_are)
        (tags-once (text_lines bytes) (text-lines bytes read accepted).0 (text-keys bytes read accepted))

    module _ (tagged : List ℕ) (tags : tagged ≡ sets recorded (4 + 10 * read.lines) (index_of 1 (lines_held read.lines recorded))) where
      tagged_space : (kind at count : ℕ) → IndexSpace recorded read.lines kind at count → IndexSpace tagged read.lines kind at count
      tagged_space kind at count space =
          rw tags (space-kept read.lines (4 + 10 * read.lines) recorded (index_of 1 (lines_held read.lines recorded)) (omega arith) kind at count space)

      tagged_lines : lines_held read.lines tagged ≡ text_lines bytes
      tagged_lines = rw tags (lines-kept read.lines (4 + 10 * read.lines) recorded (index_of 1 (lines_held read.lines recorded)) (omega arith)) ∙ recorded_lines

      pub components-space : IndexSpace tagged read.lines 5 (4 + 10 * read.lines + 2 * read.tags) read.components
      components-space =
          tagged_space 5 (4 + 10 * read.lines + 2 * read.tags) read.components
          (recorded_space 5 (4 + 10 * read.lines + 2 * read.tags) read.components (omega arith) (omega arith) (sym (accepted-counts bytes read accepted).components_are)
          (components-once (text_lines bytes) (text-lines bytes read accepted).0 (text-keys bytes read accepted)))

      module _ (named : List ℕ) (components : named ≡ sets tagged (4 + 10 * read.lines + 2 * read.tags) (index_of 5 (lines_held read.lines tagged))) where
        named-lines : lines_held read.lines named ≡ text_lines bytes
        named-lines =
            rw components (lines-kept read.lines (4 + 10 * read.lines + 2 * read.tags) tagged (index_of 5 (lines_held read.lines tagged)) (omega arith))
            ∙ tagged_lines

        pub messages-space : IndexSpace named read.lines 6 (4 + 10 * read.lines + 2 * read.tags + 2 * read.components) read.messages
        messages-space =
            let place = 4 + 10 * read.lines + 2 * read.tags + 2 * read.components in
            rw components
            (space-kept read.lines (4 + 10 * read.lines + 2 * read.tags) tagged (index_of 5 (lines_held read.lines tagged)) (omega arith) 6 place read.messages
            (tagged_space 6 place read.messages
            (recorded_space 6 place read.messages (omega arith) (omega arith) (sym (accepted-counts bytes read accepted).messages_are)
            (messages-once (text_lines bytes) (text-lines bytes read accepted).0 (text-keys bytes read accepted)))))

        pub dictionary-put : (whole : List ℕ)
            → whole ≡ sets named (4 + 10 * read.lines + 2 * read.tags + 2 * read.components) (index_of 6 (lines_held read.lines named))
            → whole ≡ sets words 0 (dictionary_words (text_lines bytes))
        unfolding front dictionary_words
        dictionary-put whole messages =
            let lines = text_lines bytes in
            let are = accepted-counts bytes read accepted in
            let one : 4 + 10 * read.lines ≡ 0 + length front = omega (arith, front_length) in
            let two : 4 + 10 * read.lines + 2 * read.tags ≡ 0 + length (front ++ index_of 1 lines) =
            omega (arith, front_length, length-append front (index_of 1 lines), index_of_length 1 lines, are.tags_are) in
            let three : 4 + 10 * read.lines + 2 * read.tags + 2 * read.components ≡ 0 + length ((front ++ index_of 1 lines) ++ index_of 5 lines) =
            omega (arith, two, length-append (front ++ index_of 1 lines) (index_of 5 lines), index_of_length 5 lines, are.components_are) in
            let first : tagged ≡ sets words 0 (front ++ index_of 1 lines) = rw (tags, recorded_lines, one, recorded_front) (sets_append words front (index_of 1 lines) 0) in
            let second : named ≡ sets words 0 ((front ++ index_of 1 lines) ++ index_of 5 lines) =
            rw (components, tagged_lines, two, first) (sets_append words (front ++ index_of 1 lines) (index_of 5 lines) 0) in
            let third : whole ≡ sets words 0 (((front ++ index_of 1 lines) ++ index_of 5 lines) ++ index_of 6 lines) =
            rw (messages, named-lines, three, second) (sets_append words ((front ++ index_of 1 lines) ++ index_of 5 lines) (index_of 6 lines) 0) in
            let joined : ((records_of lines ++ index_of 1 lines) ++ index_of 5 lines) ++ index_of 6 lines ≡ records_of lines ++ (index_of 1 lines ++ (index_of 5 lines ++ index_of 6 lines)) =
            append_assoc (records_of lines ++ index_of 1 lines) (index_of 5 lines) (index_of 6 lines) ∙ append_assoc (records_of lines) (index_of 1 lines) (index_of 5 lines ++ index_of 6 lines) in
            third
            ∙ rw (are.lines_are, are.tags_are, are.components_are, are.messages_are)
            (ap (λ (rest : List ℕ). sets words 0 (length lines ∷ length (names_of 1 lines) ∷ length (names_of 5 lines) ∷ length (names_of 6 lines) ∷ rest)) joined)

-- ---- what the call answers

-- where the words are enough, and where not
module _ (dictionary words : List ℕ) (needed : ℕ) (needs : needed ≡ length dictionary) where
  pub space_short : length words < needed → (Err (SpaceShort needed) ≡ space_answer dictionary (length words)) × (words ≡ space_with dictionary words)
  space_short short =
      let fails = lt-leb (length dictionary) (length words) (omega arith) in
      (rw (needs, fails), rw fails)

  pub space-holds : needed ≤ length words → (written : List ℕ) → written ≡ sets words 0 dictionary
      → (Ok needed ≡ space_answer dictionary (length words)) × (written ≡ space_with dictionary words)
  space-holds fits written puts =
      let holds = le-leb (length dictionary) (length words) (omega arith) in
      (rw (needs, holds), rw holds (puts ∙ front-stored words dictionary (omega arith)))

module _ (bytes words : List ℕ) where
  pub text-refused : (refusal : Refusal) → dictionary_text_of bytes ≡ Err refusal → (Err refusal ≡ read_of bytes (length words)) × (words ≡ read_in bytes words)
  unfolding read_of read_in
  text-refused refusal refused = (rw refused, rw refused)

  pub text-accepted : (read : Counts) → dictionary_text_of bytes ≡ Ok read → (answer : Result ℕ Refusal) (left : List ℕ)
      → answer ≡ space_answer (dictionary_words (text_lines bytes)) (length words)
      → left ≡ space_with (dictionary_words (text_lines bytes)) words
      → (answer ≡ read_of bytes (length words)) × (left ≡ read_in bytes words)
  unfolding read_of read_in
  text-accepted read accepted answer left answers leaves = (rw accepted answers, rw accepted leaves)

-- ---- what is written is a dictionary

answer-by : (test : Bool) (needed count : ℕ) → cond test (Ok needed) (Err (SpaceShort needed)) ≡ Ok count → (test ≡ true) × (count ≡ needed)
answer-by true needed count same = (refl, let equal : needed ≡ count = cc in sym equal)
answer-by false needed count same = let never : ◌≡◌ {A = ℕ} 0 1 = cc in absurd (omega arith)

-- a text whose dictionary was written is accepted
written-by : (outcome : Result Counts Refusal) (dictionary : List ℕ) (space count : ℕ) → text_answer outcome dictionary space ≡ Ok count
    → ((read : Counts) × (outcome ≡ Ok read)) × ((leb (length dictionary) space ≡ true) × (count ≡ length dictionary))
written-by (Ok read) dictionary space count written = ((read, refl), answer-by (leb (length dictionary) space) (length dictionary) count written)
written-by (Err refusal) dictionary space count written = let never : ◌≡◌ {A = ℕ} 0 1 = cc in absurd (omega arith)

module _ (bytes words : List ℕ) (count : ℕ) (written : read_of bytes (length words) ≡ Ok count) where
  written-parts : ((read : Counts) × (dictionary_text_of bytes ≡ Ok read))
      × ((leb (length (dictionary_words (text_lines bytes))) (length words) ≡ true) × (count ≡ length (dictionary_words (text_lines bytes))))
  unfolding read_of
  written-parts = written-by (dictionary_text_of bytes) (dictionary_words (text_lines bytes)) (length words) count written

  pub written-words : read_in bytes words ≡ dictionary_words (text_lines bytes) ++ drop count words
  unfolding read_in
  written-words = rw (written-parts.0.1, written-parts.1.0, written-parts.1.1)

  -- whatever `read_dictionary` wrote passes `is_dictionary`
  pub written-passes : is_dictionary (read_in bytes words) ≡ true
  written-passes = rw written-words (accepted-pass bytes written-parts.0.0 written-parts.0.1 (drop count words))

  -- "no dictionary and no layout takes more than 262,144 words"
  pub written-size : count ≤ 131068
  written-size = omega (arith, written-parts.1.1, accepted-size bytes written-parts.0.0 written-parts.0.1)
