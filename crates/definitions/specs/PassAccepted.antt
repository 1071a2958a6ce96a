-- Words that pass the check of lent words begin with the arrangement of the lines of an accepted text (`pass_accepted`). The text is written from the
-- decoded lines, each with its line feed; the reader reads these lines from it (`lines_in-texts_of`), finds them in order (`accepts-order`), finds the text
-- short enough (`accepts-length`) and nothing in it defined again (`again-nowhere`). The converse is `AcceptedPass.antt`. Assumes nothing.
--
--   texts_of lines          the lines' texts, each with its line feed
--   AllHeld lines          a record can hold each of the lines
--   keys_of lines           what the lines define, as the numbers that row 5 compares
--   AcceptedWords words    some text is accepted, and the words begin with the arrangement of its lines
use Rattle.std.specs.Prelude.{◌≡◌, ℕ, zero, suc, ◌+◌, ◌*◌, ◌-◌, ◌≤◌, ◌<◌, Bool, true, false, ◌||◌, cond, leb, ltb, eqb, length, take, drop, Option, Some, None, Result, Ok, Err}
use Rattle.std.proofs.Math.Path.{refl, sym}
use Rattle.std.proofs.Common.{ap, ◌∙◌, length-append, get_or-drop, length-take-le, le-ltb, leb-true, ltb-true, ltb-false, eqb-true, eq-eqb, ne_eqb}
use Rattle.std.proofs.lemmas.Bool.{false≢true, eqb-false}
use mathlib.Core.List.{List, [], ◌∷◌, ◌++◌, append_assoc}
use native.Mathlib.Omega.{arith}
use Rattle.std.proofs.Math.ListN.{get_or, length-drop}
use Rattle.std.proofs.Math.Seq.{take-append_seam, take-add}
use Rattle.ascii.specs.NotationLaws.{and_left, and_right}
use Rattle.ascii.specs.Bytes.{non_empty, every}
use Rattle.ascending.specs.Sort.{once, how_often}
use Rattle.line_forms.specs.declared.line.Line.{Line}
use Rattle.line_forms.specs.declared.line.Line.TheVariants.{Def, Value, BeginHeader, BeginTrailer, EndHeader, EndTrailer, Component, Message, Field, Group, Use, End, Member, RequiredTag, Unknown}
use Rattle.dictionary_order.specs.declared.dictionary_order.State.{State}
use Rattle.texts.specs.declared.dictionary_text.Counts.{Counts}
use Rattle.texts.specs.declared.dictionary_text.Defined.{Defined}
use Rattle.texts.specs.declared.dictionary_text.Defined.TheVariants.{Tag, ComponentName, MessageName}
use Rattle.lines.specs.Lines.{piece, cut, lines_of, line_feed}
use Rattle.lines.specs.LinesLaws.{cut-first_piece}
use Rattle.lines.specs.LineParts.{is_visible}
use Rattle.dictionary_order.specs.DictionaryOrder.{start, step_of, after}
use Rattle.texts.specs.DictionaryText.{counted, counts, defined_by, order_from, key_of, is_in, on_key, again_from, again_of, order_of, dictionary_text_of}
use Rattle.records.specs.Records.{record_of, line_from, letters_text, lines_from, Words32}
use Rattle.records.specs.RecordsLaws.{Held, HeldEnd, record_of-line_from, line_from-held}
use Rattle.records.specs.LineTexts.{numeral, type_text, value_text, flag_text, app_text, end_text, text_of}
use Rattle.records.specs.LineLengths.{length_of}
use Rattle.records.specs.NumeralLaws.{every_append, every-weaker, is_above, visible_above, above-above, position_of_behind, numeral-above}
use Rattle.records.specs.TypeTextLaws.{type_text-above}
use Rattle.records.specs.WordTextLaws.{letters_text-above, value_text-visible}
use Rattle.records.specs.LineTextsLaws.{line_of_text_of, text_of_length}
use Rattle.dictionary.specs.DictionaryWords.{lines_in, is_of, name_of, names_of, records_of, index_of, dictionary_words}
use Rattle.definitions.specs.IndexLaws.{once-same, index-count, index-once, index-words}
use Rattle.definitions.specs.DefinitionsLaws.{Dictionary, is_dictionary-parts}
use Rattle.dictionary.specs.DictionaryCheck.{is_taken, accepts, tags_at, components_at, messages_at, size_of, is_dictionary}
use Rattle.refusals.specs.declared.refusal.Refusal.{Refusal}

unfoldable pub texts_of : List Line → List ℕ
texts_of [] = []
texts_of (line ∷ rest) = text_of line ++ (line_feed ∷ texts_of rest)

-- every line of the list is one that a record can hold
abbrev pub AllHeld : List Line → Type 0
AllHeld [] = Unit
AllHeld (line ∷ rest) = Held line × AllHeld rest

-- ---- no line feed stands in the text of a line

abbrev above : List ℕ → Type 0
above bytes = every (is_above 10) bytes ≡ true

low : (limit : ℕ) (bytes : List ℕ) → 10 ≤ limit → every (is_above limit) bytes ≡ true → above bytes
low limit bytes order over = every-weaker (is_above limit) (is_above 10) bytes (λ byte. above-above limit 10 byte order) over

numeral-low : (n : ℕ) → above (numeral n)
numeral-low n = low 44 (numeral n) (omega arith) (numeral-above n)

letters-low : (letters : ℕ) → Held (Message letters true) → above (letters_text letters)
letters-low letters held = low 44 (letters_text letters) (omega arith) (letters_text-above letters held)

behind-comma : (bytes rest : List ℕ) → above bytes → above rest → above (bytes ++ (44 ∷ rest))
behind-comma bytes rest one other = every_append (is_above 10) bytes (44 ∷ rest) one (other)

flag-low : (required : Bool) → above (flag_text required)
flag-low true = refl
flag-low false = refl

app_low : (app : Bool) → above (app_text app)
app_low true = refl
app_low false = refl

end_low : (number : Option ℕ) (letters : Option ℕ) → HeldEnd number letters → above (end_text number letters)
end_low read_number (Some letters) held = letters-low letters held.0
end_low (Some number) None held = numeral-low number
end_low None None held = absurd held

text_of_low : (line : Line) → Held line → above (text_of line)
unfolding text_of
text_of_low (Def tag place) held = behind-comma (numeral tag) (type_text place) (numeral-low tag) (low 32 (type_text place) (omega arith) (type_text-above place held.1))
text_of_low (Value value) held =
    low 32 (value_text value) (omega arith) (every-weaker is_visible (is_above 32) (value_text value) visible_above (value_text-visible value held.0 held.1))
text_of_low BeginHeader held = refl
text_of_low BeginTrailer held = refl
text_of_low EndHeader held = refl
text_of_low EndTrailer held = refl
text_of_low (Component name) held = numeral-low name
text_of_low (Message letters app) held = behind-comma (letters_text letters) (app_text app) (letters-low letters held) (app_low app)
text_of_low (Field tag required) held = behind-comma (numeral tag) (flag_text required) (numeral-low tag) (flag-low required)
text_of_low (Group count delimiter required) held =
    behind-comma (numeral count) (numeral delimiter ++ (44 ∷ flag_text required)) (numeral-low count) (behind-comma (numeral delimiter) (flag_text required) (numeral-low delimiter) (flag-low required))
text_of_low (Use name required) held = behind-comma (numeral name) (flag_text required) (numeral-low name) (flag-low required)
text_of_low (End number letters) held = end_low number letters held
text_of_low (Member tag) held = absurd held
text_of_low (RequiredTag tag) held = absurd held
text_of_low Unknown held = absurd held

-- ---- the lines are read from their text

drop_past : (bytes rest : List ℕ) → drop (suc (length bytes)) (bytes ++ (line_feed ∷ rest)) ≡ rest
drop_past [] rest = refl
drop_past (byte ∷ bytes) rest = drop_past bytes rest

cut_line : (bytes rest : List ℕ) → above bytes → lines_of (bytes ++ (line_feed ∷ rest)) ≡ piece bytes (lines_of rest)
cut_line bytes rest over =
    let position = position_of_behind line_feed bytes rest over in
    let whole = length-append bytes (line_feed ∷ rest) in
    cut-first_piece line_feed (bytes ++ (line_feed ∷ rest)) (omega arith)
    ∙ rw (position, take-append_seam bytes (line_feed ∷ rest), drop_past bytes rest)

pub lines_in-texts_of : (lines : List Line) → AllHeld lines → lines_in (lines_of (texts_of lines)) ≡ lines
unfolding texts_of lines_in
lines_in-texts_of [] held = unfold cut in refl
lines_in-texts_of (line ∷ rest) held =
    rw (cut_line (text_of line) (texts_of rest) (text_of_low line held.0), line_of_text_of line held.0, lines_in-texts_of rest held.1)

-- ---- rows 2 to 4: what passes is in order

taken-by : (state : State) (step : Result State Refusal) → is_taken step ≡ true → step ≡ Ok (after state step)
taken-by state (Ok next) taken = refl
taken-by state (Err refusal) taken = absurd (false≢true taken)

-- what the check counts along the lines
abbrev pub counts_of : Counts → List Line → Counts
counts_of read [] = read
counts_of read (line ∷ rest) = counts_of (counted read (defined_by line)) rest

counted-by : (read : Counts) (defined : Option Defined) (number : ℕ) → number ≡ read.lines + 1 → number + 1 ≡ (counted read defined).lines + 1
counted-by read (Some (Tag tag)) number same = omega arith
counted-by read (Some (ComponentName name)) number same = omega arith
counted-by read (Some (MessageName letters)) number same = omega arith
counted-by read None number same = omega arith

pub counted-lines : (read : Counts) (line : Line) (number : ℕ) → number ≡ read.lines + 1 → number + 1 ≡ (counted read (defined_by line)).lines + 1
counted-lines read line number same = counted-by read (defined_by line) number same

pub accepts-order : (state : State) (read : Counts) (number total : ℕ) (lines : List Line) → number ≡ read.lines + 1
    → AllHeld lines
    → accepts state number total lines ≡ true
    → order_from state read (lines_of (texts_of lines)) ≡ Ok (counts_of read lines)
unfolding accepts order_from texts_of
accepts-order state read number total [] same held passes = unfold cut non_empty in rw passes
accepts-order state read number total (line ∷ rest) same held passes =
    let step = step_of state number line in
    let taken = taken-by state step (and_left (is_taken step) _ passes) in
    let behind = and_right (leb (total + (length_of line + 1)) 65536) _ (and_right (is_taken step) _ passes) in
    rw (cut_line (text_of line) (texts_of rest) (text_of_low line held.0), line_of_text_of line held.0, ← same, taken)
    (accepts-order (after state step) (counted read (defined_by line)) (number + 1) (total + (length_of line + 1)) rest (counted-lines read line number same) held.1 behind)

-- ---- row 1: what passes is short enough

pub accepts-length : (state : State) (number total : ℕ) (lines : List Line)
    → AllHeld lines
    → total ≤ 65536
    → accepts state number total lines ≡ true
    → total + length (texts_of lines) ≤ 65536
unfolding accepts texts_of
accepts-length state number total [] held few passes = omega arith
accepts-length state number total (line ∷ rest) held few passes =
    let step = step_of state number line in
    let both = and_right (is_taken step) _ passes in
    let more = leb-true (total + (length_of line + 1)) 65536 (and_left (leb (total + (length_of line + 1)) 65536) _ both) in
    let behind = accepts-length (after state step) (number + 1) (total + (length_of line + 1)) rest held.1 more (and_right (leb (total + (length_of line + 1)) 65536) _ both) in
    omega (arith, length-append (text_of line) (line_feed ∷ texts_of rest), text_of_length line held.0)

-- ---- the records that pass are those of their lines

take-small : (count : ℕ) (words : List ℕ) → Words32 words → Words32 (take count words)
take-small zero words small place = omega arith
take-small (suc count) [] small place = omega arith
take-small (suc count) (word ∷ rest) small zero = small 0
take-small (suc count) (word ∷ rest) small (suc place) = take-small count rest (λ later. small (suc later)) place

drop-small : (count : ℕ) (words : List ℕ) → Words32 words → Words32 (drop count words)
drop-small count words small place = rw (get_or-drop count words place 0) (small (count + place))

-- a line of no form is not taken
known-line : (state : State) (number : ℕ) (line : Line) → is_taken (step_of state number line) ≡ true → line ≡ Unknown → ⊥
unfolding step_of
known-line state number line taken unknown = let never : false ≡ true = rw unknown at taken in false≢true never

pub accepts-records : (state : State) (number total count : ℕ) (words : List ℕ)
    → 10 * count ≤ length words
    → Words32 words
    → accepts state number total (lines_from count words) ≡ true
    → AllHeld (lines_from count words) × (records_of (lines_from count words) ≡ take (10 * count) words)
unfolding accepts lines_from records_of
accepts-records state number total zero words fits small passes = (tt, refl)
accepts-records state number total (suc count) words fits small passes =
    let line = line_from (take 10 words) in
    let step = step_of state number line in
    let taken = and_left (is_taken step) _ passes in
    let behind = and_right (leb (total + (length_of line + 1)) 65536) _ (and_right (is_taken step) _ passes) in
    let ten : length (take 10 words) ≡ 10 = length-take-le 10 words (omega arith) in
    let known = known-line state number line taken in
    let others = accepts-records (after state step) (number + 1) (total + (length_of line + 1)) count (drop 10 words) (omega (arith, length-drop 10 words)) (drop-small 10 words small) behind in
    let more : 10 * suc count ≡ 10 + 10 * count = omega arith in (
      (line_from-held (take 10 words) ten (take-small 10 words small) known, others.0),
      rw (record_of-line_from (take 10 words) ten (take-small 10 words small) known, others.1, more) (sym (take-add 10 (10 * count) words)),
    )

-- ---- row 5: nothing that passes is defined again

abbrev pub tag_in : Option Defined → List ℕ
tag_in (Some (Tag tag)) = tag ∷ []
tag_in (Some (ComponentName name)) = []
tag_in (Some (MessageName letters)) = []
tag_in None = []

abbrev pub component_in : Option Defined → List ℕ
component_in (Some (Tag tag)) = []
component_in (Some (ComponentName name)) = name ∷ []
component_in (Some (MessageName letters)) = []
component_in None = []

abbrev pub message_in : Option Defined → List ℕ
message_in (Some (Tag tag)) = []
message_in (Some (ComponentName name)) = []
message_in (Some (MessageName letters)) = letters ∷ []
message_in None = []

abbrev pub SmallNames : Option Defined → Type 0
SmallNames (Some (Tag tag)) = tag < 4294967296
SmallNames (Some (ComponentName name)) = name < 4294967296
SmallNames (Some (MessageName letters)) = Unit
SmallNames None = Unit

tags-step_end : (number : Option ℕ) (letters : Option ℕ) (rest : List Line) → names_of 1 (End number letters ∷ rest) ≡ names_of 1 rest
unfolding names_of is_of name_of record_of
tags-step_end read_number (Some letters) rest = refl
tags-step_end (Some number) None rest = refl
tags-step_end None None rest = refl

pub tags-step : (line : Line) (rest : List Line) → names_of 1 (line ∷ rest) ≡ tag_in (defined_by line) ++ names_of 1 rest
unfolding names_of is_of name_of record_of
tags-step (Def tag place) rest = refl
tags-step (Value value) rest = refl
tags-step BeginHeader rest = refl
tags-step BeginTrailer rest = refl
tags-step EndHeader rest = refl
tags-step EndTrailer rest = refl
tags-step (Component name) rest = refl
tags-step (Message letters app) rest = refl
tags-step (Field tag required) rest = refl
tags-step (Group count delimiter required) rest = refl
tags-step (Use name required) rest = refl
tags-step (Member tag) rest = refl
tags-step (RequiredTag tag) rest = refl
tags-step Unknown rest = refl
tags-step (End number letters) rest = tags-step_end number letters rest

components-step_end : (number : Option ℕ) (letters : Option ℕ) (rest : List Line) → names_of 5 (End number letters ∷ rest) ≡ names_of 5 rest
unfolding names_of is_of name_of record_of
components-step_end read_number (Some letters) rest = refl
components-step_end (Some number) None rest = refl
components-step_end None None rest = refl

pub components-step : (line : Line) (rest : List Line) → names_of 5 (line ∷ rest) ≡ component_in (defined_by line) ++ names_of 5 rest
unfolding names_of is_of name_of record_of
components-step (Def tag place) rest = refl
components-step (Value value) rest = refl
components-step BeginHeader rest = refl
components-step BeginTrailer rest = refl
components-step EndHeader rest = refl
components-step EndTrailer rest = refl
components-step (Component name) rest = refl
components-step (Message letters app) rest = refl
components-step (Field tag required) rest = refl
components-step (Group count delimiter required) rest = refl
components-step (Use name required) rest = refl
components-step (Member tag) rest = refl
components-step (RequiredTag tag) rest = refl
components-step Unknown rest = refl
components-step (End number letters) rest = components-step_end number letters rest

messages-step_end : (number : Option ℕ) (letters : Option ℕ) (rest : List Line) → names_of 6 (End number letters ∷ rest) ≡ names_of 6 rest
unfolding names_of is_of name_of record_of
messages-step_end read_number (Some letters) rest = refl
messages-step_end (Some number) None rest = refl
messages-step_end None None rest = refl

pub messages-step : (line : Line) (rest : List Line) → names_of 6 (line ∷ rest) ≡ message_in (defined_by line) ++ names_of 6 rest
unfolding names_of is_of name_of record_of
messages-step (Def tag place) rest = refl
messages-step (Value value) rest = refl
messages-step BeginHeader rest = refl
messages-step BeginTrailer rest = refl
messages-step EndHeader rest = refl
messages-step EndTrailer rest = refl
messages-step (Component name) rest = refl
messages-step (Message letters app) rest = refl
messages-step (Field tag required) rest = refl
messages-step (Group count delimiter required) rest = refl
messages-step (Use name required) rest = refl
messages-step (Member tag) rest = refl
messages-step (RequiredTag tag) rest = refl
messages-step Unknown rest = refl
messages-step (End number letters) rest = messages-step_end number letters rest

pub held_small : (line : Line) → Held line → SmallNames (defined_by line)
held_small (Def tag place) held = held.0
held_small (Value value) held = tt
held_small BeginHeader held = tt
held_small BeginTrailer held = tt
held_small EndHeader held = tt
held_small EndTrailer held = tt
held_small (Component name) held = held
held_small (Message letters app) held = tt
held_small (Field tag required) held = tt
held_small (Group count delimiter required) held = tt
held_small (Use name required) held = tt
held_small (Member tag) held = absurd held
held_small (RequiredTag tag) held = absurd held
held_small Unknown held = absurd held
held_small (End read_number read_letters) held = tt

pub once-other : (word other : ℕ) → (other ≡ word → ⊥) → once word other ≡ 0
unfolding once
once-other word other differ = rw (ne_eqb other word differ)

once-shifted_by : (shift word other : ℕ) (same : Bool) → eqb other word ≡ same → once (shift + word) (shift + other) ≡ cond same 1 0
unfolding once
once-shifted_by shift word other true test = let equal = eqb-true other word test in rw (eq-eqb (shift + other) (shift + word) (omega arith))
once-shifted_by shift word other false test = let differ = eqb-false other word test in rw (ne_eqb (shift + other) (shift + word) (λ same. differ (omega arith)))

once-shifted : (shift word other : ℕ) → once (shift + word) (shift + other) ≡ once word other
once-shifted shift word other = once-shifted_by shift word other (eqb other word) refl ∙ unfold once in refl

-- what the lines define, as the numbers that row 5 compares
abbrev pub key_in : Option ℕ → List ℕ
key_in (Some key) = key ∷ []
key_in None = []

unfoldable pub keys_of : List Line → List ℕ
keys_of [] = []
keys_of (line ∷ rest) = key_in (key_of (defined_by line)) ++ keys_of rest

module _ (key : ℕ) (keys names : List ℕ) (same : how_often key keys ≡ how_often key names) where
  tag-key : (defined : Option Defined) → key < 4294967296 → how_often key (key_in (key_of defined) ++ keys) ≡ how_often key (tag_in defined ++ names)
  unfolding how_often
  tag-key (Some (Tag tag)) low = omega arith
  tag-key (Some (ComponentName name)) low = omega (arith, once-other key (4294967296 + name) (λ equal. omega arith))
  tag-key (Some (MessageName letters)) low = omega (arith, once-other key (8589934592 + letters) (λ equal. omega arith))
  tag-key None low = same

module _ (name : ℕ) (keys names : List ℕ) where
  component-key : (defined : Option Defined) → SmallNames defined
      → name < 4294967296
      → how_often (4294967296 + name) keys ≡ how_often name names
      → how_often (4294967296 + name) (key_in (key_of defined) ++ keys) ≡ how_often name (component_in defined ++ names)
  unfolding how_often
  component-key (Some (Tag tag)) small low same = omega (arith, once-other (4294967296 + name) tag (λ equal. omega arith))
  component-key (Some (ComponentName other)) small low same = omega (arith, once-shifted 4294967296 name other)
  component-key (Some (MessageName letters)) small low same = omega (arith, once-other (4294967296 + name) (8589934592 + letters) (λ equal. omega arith))
  component-key None small low same = same

  message-key : (defined : Option Defined) → SmallNames defined
      → how_often (8589934592 + name) keys ≡ how_often name names
      → how_often (8589934592 + name) (key_in (key_of defined) ++ keys) ≡ how_often name (message_in defined ++ names)
  unfolding how_often
  message-key (Some (Tag tag)) small same = omega (arith, once-other (8589934592 + name) tag (λ equal. omega arith))
  message-key (Some (ComponentName other)) small same = omega (arith, once-other (8589934592 + name) (4294967296 + other) (λ equal. omega arith))
  message-key (Some (MessageName letters)) small same = omega (arith, once-shifted 8589934592 name letters)
  message-key None small same = same

pub tag-keys : (key : ℕ) (lines : List Line) → key < 4294967296 → how_often key (keys_of lines) ≡ how_often key (names_of 1 lines)
unfolding keys_of
tag-keys key [] low = unfold names_of in refl
tag-keys key (line ∷ rest) low = rw (tags-step line rest) (tag-key key (keys_of rest) (names_of 1 rest) (tag-keys key rest low) (defined_by line) low)

pub component-keys : (name : ℕ) (lines : List Line) → AllHeld lines → name < 4294967296 → how_often (4294967296 + name) (keys_of lines) ≡ how_often name (names_of 5 lines)
unfolding keys_of
component-keys name [] held low = unfold names_of how_often in refl
component-keys name (line ∷ rest) held low =
    rw (components-step line rest)
    (component-key name (keys_of rest) (names_of 5 rest) (defined_by line) (held_small line held.0) low (component-keys name rest held.1 low))

pub message-keys : (name : ℕ) (lines : List Line) → AllHeld lines → how_often (8589934592 + name) (keys_of lines) ≡ how_often name (names_of 6 lines)
unfolding keys_of
message-keys name [] held = unfold names_of how_often in refl
message-keys name (line ∷ rest) held =
    rw (messages-step line rest)
    (message-key name (keys_of rest) (names_of 6 rest) (defined_by line) (held_small line held.0) (message-keys name rest held.1))

module _ (lines : List Line) (held : AllHeld lines)
    (tags : (name : ℕ) → how_often name (names_of 1 lines) ≤ 1)
    (component_names : (name : ℕ) → how_often name (names_of 5 lines) ≤ 1)
    (message_names : (name : ℕ) → how_often name (names_of 6 lines) ≤ 1) where
  keys_by : (key : ℕ) (low middle : Bool) → ltb key 4294967296 ≡ low → ltb key 8589934592 ≡ middle → how_often key (keys_of lines) ≤ 1
  keys_by key true middle test other = rw (tag-keys key lines (ltb-true key 4294967296 test)) (tags key)
  keys_by key false true test other =
      let from = ltb-false key 4294967296 test in
      let to = ltb-true key 8589934592 other in
      let name : key ≡ 4294967296 + (key - 4294967296) = omega arith in
      let few : how_often (4294967296 + (key - 4294967296)) (keys_of lines) ≤ 1 =
      rw (component-keys (key - 4294967296) lines held (omega arith)) (component_names (key - 4294967296)) in
      rw (← name) at few
  keys_by key false false test other =
      let from = ltb-false key 8589934592 other in
      let name : key ≡ 8589934592 + (key - 8589934592) = omega arith in
      let few : how_often (8589934592 + (key - 8589934592)) (keys_of lines) ≤ 1 =
      rw (message-keys (key - 8589934592) lines held) (message_names (key - 8589934592)) in
      rw (← name) at few

  pub keys_once : (key : ℕ) → how_often key (keys_of lines) ≤ 1
  keys_once key = keys_by key (ltb key 4294967296) (ltb key 8589934592) refl refl

pub how_often-append : (each : ℕ) (words others : List ℕ) → how_often each (words ++ others) ≡ how_often each words + how_often each others
unfolding how_often
how_often-append each [] others = omega arith
how_often-append each (word ∷ rest) others = omega (arith, how_often-append each rest others)

not-seen_by : (same : Bool) (key first : ℕ) (rest : List ℕ) → eqb first key ≡ same → once key first + how_often key rest ≡ 0 → is_in key rest ≡ false → same || is_in key rest ≡ false
not-seen_by true key first rest test none deeper =
    let here : once key first ≡ 1 = unfold once in rw test in absurd (omega arith)
not-seen_by false key first rest test none deeper = deeper

pub not_seen : (key : ℕ) (seen : List ℕ) → how_often key seen ≡ 0 → is_in key seen ≡ false
unfolding how_often is_in
not_seen key [] none = refl
not_seen key (first ∷ rest) none = not-seen_by (eqb first key) key first rest refl none (not_seen key rest (omega arith))

again_by : (key : Option ℕ) (seen keys : List ℕ) (number : ℕ) (goes_on : List ℕ → Option ℕ)
    → ((each : ℕ) → how_often each seen + how_often each (key_in key ++ keys) ≤ 1)
    → ((more : List ℕ) → ((each : ℕ) → how_often each more + how_often each keys ≤ 1) → goes_on more ≡ None)
    → on_key key seen number goes_on ≡ None
unfolding how_often
again_by (Some key) seen keys number goes_on few nowhere =
    rw (not_seen key seen (omega (arith, few key, once-same key)))
    (nowhere (seen ++ (key ∷ [])) (λ each. omega (arith, few each, how_often-append each seen (key ∷ []))))
again_by None seen keys number goes_on few nowhere = nowhere seen few

pub again-nowhere : (seen : List ℕ) (number : ℕ) (lines : List Line) → AllHeld lines
    → ((key : ℕ) → how_often key seen + how_often key (keys_of lines) ≤ 1)
    → again_from seen number (lines_of (texts_of lines)) ≡ None
unfolding again_from texts_of keys_of
again-nowhere seen number [] held few = unfold cut in refl
again-nowhere seen number (line ∷ rest) held few =
    rw (cut_line (text_of line) (texts_of rest) (text_of_low line held.0), line_of_text_of line held.0)
    (again_by (key_of (defined_by line)) seen (keys_of rest) number (λ (more : List ℕ). again_from more (number + 1) (lines_of (texts_of rest))) few
    (λ more once_each. again-nowhere more (number + 1) rest held.1 once_each))

-- ---- words that pass are the arrangement of an accepted text

take-four : (words : List ℕ) → 4 ≤ length words → take 4 words ≡ get_or words 0 0 ∷ get_or words 1 0 ∷ get_or words 2 0 ∷ get_or words 3 0 ∷ []
take-four [] some = absurd (omega arith)
take-four (w0 ∷ []) some = absurd (omega arith)
take-four (w0 ∷ w1 ∷ []) some = absurd (omega arith)
take-four (w0 ∷ w1 ∷ w2 ∷ []) some = absurd (omega arith)
take-four (w0 ∷ w1 ∷ w2 ∷ w3 ∷ rest) some = refl

lines_from_length : (count : ℕ) (words : List ℕ) → length (lines_from count words) ≡ count
unfolding lines_from
lines_from_length zero words = refl
lines_from_length (suc count) words = ap suc (lines_from_length count (drop 10 words))

pub record AcceptedWords (words : List ℕ) : Type 0 where
  pub text : List ℕ
  pub outcome : Counts
  pub accepted : dictionary_text_of text ≡ Ok outcome
  pub arranged : take (size_of words) words ≡ dictionary_words (lines_in (lines_of text))

module _ (words : List ℕ) (small : Words32 words) (known : Dictionary words) where
  word_lines : List Line
  word_lines = lines_from (get_or words 0 0) (drop 4 words)

  lines-counted : get_or words 0 0 ≡ length word_lines
  unfolding word_lines
  lines-counted = sym (lines_from_length (get_or words 0 0) (drop 4 words))

  lines-and_records : AllHeld word_lines × (records_of word_lines ≡ take (10 * get_or words 0 0) (drop 4 words))
  unfolding word_lines
  lines-and_records =
      accepts-records start 1 0 (get_or words 0 0) (drop 4 words) (omega (arith, length-drop 4 words, known.fits)) (drop-small 4 words small) known.accepted

  lines-records : records_of word_lines ≡ take (10 * length word_lines) (drop 4 words)
  lines-records = rw (← lines-counted) lines-and_records.1

  lines-whole : 4 + 10 * length word_lines ≤ length words
  lines-whole = rw (← lines-counted) (omega (arith, known.fits))

  text-order : order_of (texts_of word_lines) ≡ Ok (counts_of (counts 0 0 0 0) word_lines)
  unfolding order_of word_lines
  text-order = accepts-order start (counts 0 0 0 0) 1 0 word_lines refl lines-and_records.0 known.accepted

  text-again : again_of (texts_of word_lines) ≡ None
  unfolding again_of
  text-again =
      again-nowhere [] 1 word_lines lines-and_records.0
      (λ key.
      unfold how_often in omega (
        arith,
        keys_once word_lines lines-and_records.0
            (index-once words word_lines lines-counted lines-records lines-whole 1 (tags_at words) (get_or words 1 0) (omega (arith, known.fits)) known.tags)
            (index-once words word_lines lines-counted lines-records lines-whole 5 (components_at words) (get_or words 2 0) (omega (arith, known.fits)) known.component_names)
            (index-once words word_lines lines-counted lines-records lines-whole 6 (messages_at words) (get_or words 3 0) (omega (arith, known.fits)) known.message_names)
            key,
      ))

  text-short : length (texts_of word_lines) ≤ 65536
  unfolding word_lines
  text-short = omega (arith, accepts-length start 1 0 word_lines lines-and_records.0 (omega arith) known.accepted)

  text-accepted : dictionary_text_of (texts_of word_lines) ≡ Ok (counts_of (counts 0 0 0 0) word_lines)
  unfolding dictionary_text_of
  text-accepted = rw (le-ltb 65536 (length (texts_of word_lines)) text-short, text-again, text-order)

  words-arranged : take (size_of words) words ≡ dictionary_words word_lines
  unfolding dictionary_words
  words-arranged =
      let first = index-count words word_lines lines-counted lines-records lines-whole 1 (tags_at words) (get_or words 1 0) (omega (arith, known.fits)) known.tags in
      let second = index-count words word_lines lines-counted lines-records lines-whole 5 (components_at words) (get_or words 2 0) (omega (arith, known.fits)) known.component_names in
      let third = index-count words word_lines lines-counted lines-records lines-whole 6 (messages_at words) (get_or words 3 0) (omega (arith, known.fits)) known.message_names in
      let tag-index = index-words words word_lines lines-counted lines-records lines-whole 1 (tags_at words) (get_or words 1 0) (omega (arith, known.fits)) known.tags in
      let component-index = index-words words word_lines lines-counted lines-records lines-whole 5 (components_at words) (get_or words 2 0) (omega (arith, known.fits)) known.component_names in
      let message-index = index-words words word_lines lines-counted lines-records lines-whole 6 (messages_at words) (get_or words 3 0) (omega (arith, known.fits)) known.message_names in
      rw (
        take-add (messages_at words) (2 * get_or words 3 0) words,
        take-add (components_at words) (2 * get_or words 2 0) words,
        take-add (tags_at words) (2 * get_or words 1 0) words,
        take-add 4 (10 * get_or words 0 0) words,
        tag-index,
        component-index,
        message-index,
        ← lines-and_records.1,
        take-four words known.some_words,
        ← lines-counted,
        ← first,
        ← second,
        ← third,
      )
      (ap (λ (rest : List ℕ). get_or words 0 0 ∷ get_or words 1 0 ∷ get_or words 2 0 ∷ get_or words 3 0 ∷ rest)
      (append_assoc (records_of word_lines ++ index_of 1 word_lines) (index_of 5 word_lines) (index_of 6 word_lines)
      ∙ append_assoc (records_of word_lines) (index_of 1 word_lines) (index_of 5 word_lines ++ index_of 6 word_lines)))

pub pass_accepted : (words : List ℕ) → Words32 words → is_dictionary words ≡ true → AcceptedWords words
pass_accepted words small passes =
    let known = is_dictionary-parts words passes in
    record {
      text = texts_of (word_lines words small known);
      outcome = counts_of (counts 0 0 0 0) (word_lines words small known);
      accepted = text-accepted words small known;
      arranged = rw (lines_in-texts_of (word_lines words small known) (lines-and_records words small known).0) (words-arranged words small known);
    }
