-- Laws of `DictionaryText.antt`: the loops over the lines of a text, turn by turn. Of the text a `rest` is left, whose first line is read next; no byte is
-- left behind its last line. Assumes nothing.
use Rattle.std.specs.Prelude.{◌≡◌, refl, ℕ, ◌+◌, ◌*◌, ◌-◌, ◌≤◌, ◌<◌, Bool, true, false, ◌||◌, List, [], ◌∷◌, ◌++◌, ltb, length, get_or, drop, take, set, Option, Some, None, Ok, Err}
use Rattle.std.specs.List.{list_any}
use Rattle.std.proofs.Common.{sym, ap, ◌∙◌, arith, rules, add-one, eqb, length-set, length-append, take-suc-set, drop_of_length-le}
use borrow.Author.Tests.{ltb-true, ltb-false, eq-eqb, ne_eqb}
use Rattle.ascii.specs.Bytes.{non_empty}
use Rattle.ascii.specs.BytesLaws.{drop-step}
use Rattle.refusals.specs.declared.refusal.Refusal.{Refusal}
use Rattle.refusals.specs.declared.refusal.Refusal.TheVariants.{UnknownForm}
use Rattle.line_forms.specs.declared.line.Line.{Line}
use Rattle.line_forms.specs.declared.line.Line.TheVariants.{Unknown}
use Rattle.dictionary_order.specs.declared.dictionary_order.State.{State}
use Rattle.texts.specs.declared.dictionary_text.Defined.{Defined}
use Rattle.texts.specs.declared.dictionary_text.Defined.TheVariants.{Tag, ComponentName, MessageName}
use Rattle.texts.specs.declared.dictionary_text.Counts.{Counts}
use Rattle.lines.specs.Lines.{cut, lines_of, line_feed}
use Rattle.lines.specs.TextLines.{IsFirstLine, IsUnended}
use Rattle.line_forms.specs.LineForms.{line_of}
use Rattle.line_forms.specs.LineFormsLaws.{line_of_short}
use Rattle.dictionary_order.specs.DictionaryOrder.{start, step_of}
use Rattle.texts.specs.DictionaryText.{counts, order_of, again_of, defined_by, counted, at_end, order_from, key_of, is_in, again_from}
use Rattle.texts.specs.DictionaryOrderLaws.{taken-depth}

-- ---- counted: no count passes the number of bytes read

pub record CountsWithin (read : Counts) (bytes : ℕ) : Type 0 where
  pub few_lines : read.lines ≤ bytes
  pub few_tags_lem : read.tags ≤ bytes
  pub few_components : read.components ≤ bytes
  pub few_messages : read.messages ≤ bytes

pub counted-within : (read : Counts) (defined : Option Defined) (bytes more : ℕ) → bytes < more → CountsWithin read bytes → CountsWithin (counted read defined) more
counted-within read (Some (Tag tag)) bytes more longer few = record { few_lines = omega arith; few_tags_lem = omega arith; few_components = omega arith; few_messages = omega arith }
counted-within read (Some (ComponentName name)) bytes more longer few = record { few_lines = omega arith; few_tags_lem = omega arith; few_components = omega arith; few_messages = omega arith }
counted-within read (Some (MessageName letters)) bytes more longer few = record { few_lines = omega arith; few_tags_lem = omega arith; few_components = omega arith; few_messages = omega arith }
counted-within read None bytes more longer few = record { few_lines = omega arith; few_tags_lem = omega arith; few_components = omega arith; few_messages = omega arith }

pub few-up_to : (read : Counts) (first bytes : ℕ) → first ≤ bytes → bytes ≤ 65536 → CountsWithin read first → CountsWithin read 65536
few-up_to read first bytes within few_bytes few = record { few_lines = omega arith; few_tags_lem = omega arith; few_components = omega arith; few_messages = omega arith }

-- ---- a line longer: how many bytes are left

pub line-length : (rest bytes left : List ℕ) → IsFirstLine rest bytes left → length rest ≡ length bytes + (length left + 1)
line-length rest bytes left first = ap length first.bytes ∙ length-append bytes (line_feed ∷ left) ∙ search rules

-- ---- order_from

module _ (state : State) (read : Counts) where
  pub order-ends : (rest : List ℕ) → rest ≡ [] → order_from state read (lines_of rest) ≡ at_end state read
  unfolding order_from non_empty cut
  order-ends rest over = rw over

  module _ (rest : List ℕ) where
    pub order-unended : IsUnended rest → order_from state read (lines_of rest) ≡ Err (UnknownForm (read.lines + 1))
    unfolding order_from
    order-unended bytes = rw (bytes.uncut, bytes.some_byte)

    module _ (bytes left : List ℕ) (first : IsFirstLine rest bytes left) (line : Line) (reads : line ≡ line_of bytes) where
      pub order-goes_on : (next : State) → step_of state (read.lines + 1) line ≡ Ok next
          → order_from state read (lines_of rest) ≡ order_from next (counted read (defined_by line)) (lines_of left)
      unfolding order_from
      order-goes_on next taken = rw (first.cut_off, ← reads, taken)

      pub order-refuses : (refusal : Refusal) → step_of state (read.lines + 1) line ≡ Err refusal → order_from state read (lines_of rest) ≡ Err refusal
      unfolding order_from
      order-refuses refusal refuses = rw (first.cut_off, ← reads, refuses)

-- the loop of `read_in_order`: the lines before the rest were taken
pub record OrderSoFar (text rest : List ℕ) (state : State) (read : Counts) : Type 0 where
  pub within : length rest ≤ length text
  pub few_open : state.depth ≤ 40
  pub few : CountsWithin read (length text - length rest)
  pub to_come : order_of text ≡ order_from state read (lines_of rest)

pub order-begins : (text : List ℕ) → OrderSoFar text text start (counts 0 0 0 0)
unfolding order_of
order-begins text = record {
  within = omega arith;
  few_open = omega arith;
  few = record { few_lines = omega arith; few_tags_lem = omega arith; few_components = omega arith; few_messages = omega arith };
  to_come = refl;
}

module _ (text rest : List ℕ) (state : State) (read : Counts) (so_far : OrderSoFar text rest state read) where
  pub order-counts : length text ≤ 65536 → CountsWithin read 65536
  order-counts few_bytes = few-up_to read (length text - length rest) (length text) (omega arith) few_bytes so_far.few

  pub order-stops : rest ≡ [] → order_of text ≡ at_end state read
  order-stops over = so_far.to_come ∙ order-ends state read rest over

  pub order-breaks : IsUnended rest → order_of text ≡ Err (UnknownForm (read.lines + 1))
  order-breaks bytes = so_far.to_come ∙ order-unended state read rest bytes

  module _ (bytes left : List ℕ) (first : IsFirstLine rest bytes left) (line : Line) (reads : line ≡ line_of bytes) where
    pub order-faulty : (refusal : Refusal) → step_of state (read.lines + 1) line ≡ Err refusal → order_of text ≡ Err refusal
    order-faulty refusal refuses = so_far.to_come ∙ order-refuses state read rest bytes left first line reads refusal refuses

    pub order-turns : (next : State) → step_of state (read.lines + 1) line ≡ Ok next → (after : Counts) → after ≡ counted read (defined_by line)
        → OrderSoFar text left next after
    order-turns next taken after counts-on =
        let longer = line-length rest bytes left first in
        record {
          within = omega (arith, longer, so_far.within);
          few_open = taken-depth state (read.lines + 1) so_far.few_open line next taken;
          few = rw counts-on (counted-within read (defined_by line) (length text - length rest) (length text - length left) (omega (arith, longer, so_far.within)) so_far.few);
          to_come = rw counts-on (so_far.to_come ∙ order-goes_on state read rest bytes left first line reads next taken);
        }

-- ---- is_in

module _ (key : ℕ) (keys : List ℕ) (index : ℕ) where
  pub is_in-here : index < length keys → get_or keys index 0 ≡ key → is_in key (drop index keys) ≡ true
  unfolding is_in
  is_in-here inside same = rw (drop-step keys index inside, eq-eqb _ _ same)

  pub is_in-further : index < length keys → (get_or keys index 0 ≡ key → ⊥) → is_in key (drop index keys) ≡ is_in key (drop (index + 1) keys)
  unfolding is_in
  is_in-further inside other = rw (drop-step keys index inside, ne_eqb _ _ other)

  pub is_in-end : length keys ≤ index → is_in key (drop index keys) ≡ false
  unfolding is_in
  is_in-end over = rw (drop_of_length-le keys over)

pub is_in-any : (key : ℕ) (keys : List ℕ) → list_any (λ next. eqb next key) keys ≡ is_in key keys
unfolding is_in
is_in-any key [] = refl
is_in-any key (first ∷ rest) = ap (λ (later : Bool). eqb first key || later) (is_in-any key rest)

-- ---- again_from

module _ (seen : List ℕ) (number : ℕ) (rest : List ℕ) where
  pub again-ends : rest ≡ [] → again_from seen number (lines_of rest) ≡ None
  unfolding again_from cut
  again-ends over = rw over

  pub again-unended : IsUnended rest → again_from seen number (lines_of rest) ≡ None
  unfolding again_from
  again-unended bytes = rw bytes.uncut

  module _ (bytes left : List ℕ) (first : IsFirstLine rest bytes left) (line : Line) (reads : line ≡ line_of bytes) where
    pub again-no_key : key_of (defined_by line) ≡ None → again_from seen number (lines_of rest) ≡ again_from seen (number + 1) (lines_of left)
    unfolding again_from
    again-no_key none = rw (first.cut_off, ← reads, none)

    module _ (key : ℕ) (defines : key_of (defined_by line) ≡ Some key) where
      pub again-here : is_in key seen ≡ true → again_from seen number (lines_of rest) ≡ Some number
      unfolding again_from
      again-here known = rw (first.cut_off, ← reads, defines, known)

      pub again-new : is_in key seen ≡ false → again_from seen number (lines_of rest) ≡ again_from (seen ++ (key ∷ [])) (number + 1) (lines_of left)
      unfolding again_from
      again-new new = rw (first.cut_off, ← reads, defines, new)

-- a line that defines something is no short one
defines-by : (bytes : List ℕ) (key : ℕ) (short : Bool) → ltb (length bytes) 4 ≡ short → key_of (defined_by (line_of bytes)) ≡ Some key → 4 ≤ length bytes
defines-by bytes key true test defines =
    let unknown : line_of bytes ≡ Unknown = line_of_short bytes (ltb-true _ _ test) in
    let none : key_of (defined_by (line_of bytes)) ≡ None = rw unknown in
    let never : ◌≡◌ {A = ℕ} 0 1 = cc in
    absurd (omega arith)
defines-by bytes key false test defines = ltb-false _ _ test

pub defines-length : (bytes : List ℕ) (key : ℕ) → key_of (defined_by (line_of bytes)) ≡ Some key → 4 ≤ length bytes
defines-length bytes key defines = defines-by bytes key (ltb (length bytes) 4) refl defines

-- the keys seen, in the first places of an array
pub seen-grows : (keys : List ℕ) (known key : ℕ) → known < length keys → take (known + 1) (set keys known key) ≡ take known keys ++ (key ∷ [])
seen-grows keys known key room = rw add-one (take-suc-set keys known key room)

-- the loop of `first_again`: the lines before the rest define the first `known` keys of the array, each once
pub record AgainSoFar (text rest seen : List ℕ) (known number : ℕ) : Type 0 where
  pub within : length rest ≤ length text
  pub few_keys : 5 * known + length rest ≤ length text
  pub few_lines : number + length rest ≤ length text + 1
  pub places : length seen ≡ 13108
  pub to_come : again_of text ≡ again_from (take known seen) number (lines_of rest)

pub again-begins : (text seen : List ℕ) → length seen ≡ 13108 → AgainSoFar text text seen 0 1
unfolding again_of
again-begins text seen places = record { within = omega arith; few_keys = omega arith; few_lines = omega arith; places = places; to_come = refl }

module _ (text rest seen : List ℕ) (known number : ℕ) (so_far : AgainSoFar text rest seen known number) where
  pub again-stops : rest ≡ [] → again_of text ≡ None
  again-stops over = so_far.to_come ∙ again-ends (take known seen) number rest over

  pub again-breaks : IsUnended rest → again_of text ≡ None
  again-breaks bytes = so_far.to_come ∙ again-unended (take known seen) number rest bytes

  module _ (bytes left : List ℕ) (first : IsFirstLine rest bytes left) (line : Line) (reads : line ≡ line_of bytes) where
    pub again-skips : key_of (defined_by line) ≡ None → AgainSoFar text left seen known (number + 1)
    again-skips none =
        let longer = line-length rest bytes left first in
        record {
          within = omega (arith, longer, so_far.within);
          few_keys = omega (arith, longer, so_far.few_keys);
          few_lines = omega (arith, longer, so_far.few_lines);
          places = so_far.places;
          to_come = so_far.to_come ∙ again-no_key (take known seen) number rest bytes left first line reads none;
        }

    module _ (key : ℕ) (defines : key_of (defined_by line) ≡ Some key) where
      pub again-found : is_in key (take known seen) ≡ true → again_of text ≡ Some number
      again-found old = so_far.to_come ∙ again-here (take known seen) number rest bytes left first line reads key defines old

      pub again-room : length text ≤ 65536 → known < 13108
      again-room few_bytes =
          let long : 4 ≤ length bytes = defines-length bytes key (ap (λ (l : Line). key_of (defined_by l)) (sym reads) ∙ defines) in
          omega (arith, long, line-length rest bytes left first, so_far.few_keys)

      pub again-adds : length text ≤ 65536 → is_in key (take known seen) ≡ false → AgainSoFar text left (set seen known key) (known + 1) (number + 1)
      again-adds few_bytes new =
          let longer = line-length rest bytes left first in
          let long : 4 ≤ length bytes = defines-length bytes key (ap (λ (l : Line). key_of (defined_by l)) (sym reads) ∙ defines) in
          let room : known < length seen = omega (arith, again-room few_bytes, so_far.places) in
          record {
            within = omega (arith, longer, so_far.within);
            few_keys = omega (arith, longer, long, so_far.few_keys);
            few_lines = omega (arith, longer, so_far.few_lines);
            places = length-set seen known key ∙ so_far.places;
            to_come = rw (seen-grows seen known key room) (so_far.to_come ∙ again-new (take known seen) number rest bytes left first line reads key defines new);
          }
