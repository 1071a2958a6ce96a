-- The lines that the words of a dictionary tell (`word_lines`, DictionaryWords.antt): a line is the one at its record's number, the number that an index gives a name
-- is the place of its line, and words that pass the check begin, after their first four, with the records of these lines. Assumes nothing.
--
--   placed_at lines place   the place, or Nothing where it is after the last line
use Rattle.std.specs.Prelude.{◌≡◌, ℕ, zero, suc, ◌+◌, ◌*◌, ◌≤◌, ◌<◌, Bool, ◌&&◌, ◌||◌, cond, ltb, eqb, take, drop, if◌then◌else◌, Option, Some, None, Ok}
use Rattle.std.proofs.Math.Path.{refl, sym, ap}
use Rattle.std.proofs.Common.{◌∙◌, arith, length-drop, take-append-drop, drop-drop, get_or-take, get_or-drop, get_or-append-add, take-take, ltb-true, ltb-false, lt-ltb, le-ltb, eqb-true}
use Rattle.std.proofs.Math.Bool.{true, false}
use mathlib.Core.List.{List, [], ◌∷◌, ◌++◌, map, append_assoc}
use Rattle.std.proofs.Math.ListN.{length, get_or, get_or-map}
use Rattle.std.proofs.lemmas.List.{length-map}
use Rattle.std.proofs.Math.Seq.{take-append_seam}
use Rattle.ascii.specs.Notation.{◌<ᵇ◌}
use Rattle.ascending.specs.Sort.{sorted, is_in}
use Rattle.ascending.specs.SortLaws.{sorted-length, is_in-sorted}
use Rattle.ascending.specs.Search.{rank_from, rank_in, is_found}
use Rattle.ascending.specs.SearchLaws.{is_found-rank}
use Rattle.line_forms.specs.declared.line.Line.{Line}
use Rattle.line_forms.specs.declared.line.Line.TheVariants.{Unknown}
use Rattle.lines.specs.Lines.{lines_of}
use Rattle.texts.specs.declared.dictionary_text.Counts.{Counts}
use Rattle.dictionary_order.specs.DictionaryOrder.{start}
use Rattle.texts.specs.DictionaryText.{dictionary_text_of}
use Rattle.records.specs.Records.{record_of, line_from, lines_from, Words32}
use Rattle.dictionary.specs.DictionaryWords.{is_of, name_of, names_of, place_of, records_of, index_of, dictionary_words, word_lines, lines_in}
use Rattle.dictionary.specs.DictionaryCheck.{is_index, size_of, is_dictionary}
use Rattle.definitions.specs.Definitions as Words
use Rattle.definitions.specs.DefinitionsLaws.{is_dictionary-parts}
use Rattle.definitions.specs.DefinitionsLaws as Passed
use Rattle.definitions.specs.IndexLaws.{record_word, record_behind, get_d_any, index-count, index-words}
use Rattle.definitions.specs.PassAccepted.{AllHeld, accepts-records, AcceptedWords, pass_accepted}
use Rattle.definitions.specs.AcceptedPass.{lines_from_records, text-lines}

-- ---- the line with a number

lines_from_length : (count : ℕ) (words : List ℕ) → length (lines_from count words) ≡ count
unfolding lines_from
lines_from_length zero words = refl
lines_from_length (suc count) words = ap suc (lines_from_length count (drop 10 words))

lines_from_at : (count : ℕ) (words : List ℕ) (number : ℕ) → number < count → line_from (take 10 (drop (10 * number) words)) ≡ get_or (lines_from count words) number Unknown
unfolding lines_from
lines_from_at zero words number inside = absurd (omega arith)
lines_from_at (suc count) words zero inside = refl
lines_from_at (suc count) words (suc number) inside =
    let behind : 10 * suc number ≡ 10 + 10 * number = omega arith in
    ap (λ (place : ℕ). line_from (take 10 (drop place words))) behind
    ∙ ap (λ (rest : List ℕ). line_from (take 10 rest)) (sym (drop-drop (10 * number) 10 words))
    ∙ lines_from_at count (drop 10 words) number (omega arith)

module _ (words : List ℕ) where
  pub lines-counted : length (word_lines words) ≡ get_or words 0 0
  lines-counted = lines_from_length (get_or words 0 0) (drop 4 words)

  pub line_at : (number : ℕ) → number < get_or words 0 0 → Words.line_numbered words number ≡ get_or (word_lines words) number Unknown
  unfolding Words.line_numbered
  line_at number inside =
      ap (λ (rest : List ℕ). line_from (take 10 rest)) (sym (drop-drop (10 * number) 4 words))
      ∙ lines_from_at (get_or words 0 0) (drop 4 words) number inside

-- ---- the place of a name

less_suc_by : (m n : ℕ) (test : Bool) → ltb m n ≡ test → ltb m n ≡ ltb (suc m) (suc n)
less_suc_by m n true less = less ∙ sym (lt-ltb (suc m) (suc n) (omega (arith, ltb-true m n less)))
less_suc_by m n false less = less ∙ sym (le-ltb (suc m) (suc n) (omega (arith, ltb-false m n less)))

pub less_suc : (m n : ℕ) → ltb m n ≡ ltb (suc m) (suc n)
less_suc m n = less_suc_by m n (ltb m n) refl

-- a name that no line has is placed behind the last line
place-named_by : (kind name : ℕ) (line : Line) (rest : List Line) (of' same : Bool)
    → is_in name (names_of kind rest) ≡ (place_of kind name rest <ᵇ length rest)
    → eqb (name_of line) name ≡ same
    → is_in name (cond of' (name_of line ∷ names_of kind rest) (names_of kind rest)) ≡ (cond (of' && same) 0 (suc (place_of kind name rest)) <ᵇ suc (length rest))
unfolding is_in
place-named_by kind name line rest true true behind test = rw test (sym (lt-ltb 0 (suc (length rest)) (omega arith)))
place-named_by kind name line rest true false behind test = rw test (behind ∙ less_suc (place_of kind name rest) (length rest))
place-named_by kind name line rest false same behind test = behind ∙ less_suc (place_of kind name rest) (length rest)

place-named : (kind name : ℕ) (lines : List Line) → is_in name (names_of kind lines) ≡ (place_of kind name lines <ᵇ length lines)
unfolding names_of place_of
place-named kind name [] = unfold is_in in refl
place-named kind name (line ∷ rest) = place-named_by kind name line rest (is_of kind line) (eqb (name_of line) name) (place-named kind name rest) refl

abbrev pub placed_at : List Line → ℕ → Option ℕ
placed_at lines place = if place <ᵇ length lines then Some place else None

rank_holds_by : (index : ℕ) (word : ℕ) (rest : List ℕ) (tag rank : ℕ) (test : Bool)
    → eqb word tag ≡ test
    → (rank_from (index + 1) rest tag ≡ Some rank → (other : ℕ) × ((rank ≡ index + 1 + other) × ((other < length rest) × (get_or rest other 0 ≡ tag))))
    → cond test (Some index) (rank_from (index + 1) rest tag) ≡ Some rank
    → (other : ℕ) × ((rank ≡ index + other) × ((other < suc (length rest)) × (get_or (word ∷ rest) other 0 ≡ tag)))
rank_holds_by index word rest tag rank true test behind there = let same : index ≡ rank = cc in (0, (omega arith, (omega arith, eqb-true word tag test)))
rank_holds_by index word rest tag rank false test behind there =
    let deeper = behind there in
    (suc deeper.0, (omega (arith, deeper.1.0), (omega (arith, deeper.1.1.0), deeper.1.1.1)))

rank_holds : (index : ℕ) (words : List ℕ) (tag rank : ℕ)
    → rank_from index words tag ≡ Some rank
    → (other : ℕ) × ((rank ≡ index + other) × ((other < length words) × (get_or words other 0 ≡ tag)))
unfolding rank_from
rank_holds index [] tag rank there = let never : ◌≡◌ {A = ℕ} 0 1 = cc in absurd (omega arith)
rank_holds index (word ∷ rest) tag rank there = rank_holds_by index word rest tag rank (eqb word tag) refl (rank_holds (index + 1) rest tag rank) there

-- the number that an index gives a name
module _ (words : List ℕ) (lines : List Line) (counted : get_or words 0 0 ≡ length lines)
    (records : records_of lines ≡ take (10 * length lines) (drop 4 words)) (whole : 4 + 10 * length lines ≤ length words)
    (kind at count : ℕ) (fits : at + 2 * count ≤ length words) (index : is_index kind at count words ≡ true) where
  names : List ℕ
  names = sorted (names_of kind lines)

  names-counted : length names ≡ count
  unfolding names
  names-counted = sorted-length (names_of kind lines) ∙ sym (index-count words lines counted records whole kind at count fits index)

  all_words : take (2 * count) (drop at words) ≡ names ++ map (λ (name : ℕ). place_of kind name lines) names
  unfolding names index_of
  all_words = index-words words lines counted records whole kind at count fits index

  names-first : take count (drop at words) ≡ names
  names-first =
      sym (take-take count (2 * count) (drop at words) (omega arith))
      ∙ ap (take count) all_words
      ∙ ap (λ (number : ℕ). take number (names ++ map (λ (name : ℕ). place_of kind name lines) names)) (sym names-counted)
      ∙ take-append_seam names (map (λ (name : ℕ). place_of kind name lines) names)

  number_of : (rank : ℕ) → rank < count → get_or words (at + count + rank) 0 ≡ place_of kind (get_or names rank 0) lines
  number_of rank inside =
      let places = map (λ (name : ℕ). place_of kind name lines) names in
      let shift : at + count + rank ≡ at + (count + rank) = omega arith in
      let within : rank < length places = omega (arith, length-map names (λ (name : ℕ). place_of kind name lines), names-counted) in
      ap (λ (place : ℕ). get_or words place 0) shift
      ∙ sym (get_or-drop at words (count + rank) 0)
      ∙ sym (get_or-take (2 * count) (drop at words) (count + rank) 0 (omega arith))
      ∙ ap (λ (each : List ℕ). get_or each (count + rank) 0) all_words
      ∙ ap (λ (number : ℕ). get_or (names ++ places) (number + rank) 0) (sym names-counted)
      ∙ get_or-append-add names places rank 0
      ∙ get_d_any places rank 0 (place_of kind 0 lines) within
      ∙ get_or-map (λ (name : ℕ). place_of kind name lines) names rank 0

  module _ (name : ℕ) where
    named : is_in name names ≡ (place_of kind name lines <ᵇ length lines)
    unfolding names
    named = is_in-sorted name (names_of kind lines) ∙ place-named kind name lines

    record_in-by : (found : Option ℕ)
        → rank_in names name ≡ found
        → Words.number_at (at + count) words found ≡ placed_at lines (place_of kind name lines)
    unfolding rank_in is_found
    record_in-by (Some rank) there =
        let stands = rank_holds 0 names name rank there in
        let inside : rank < count = omega (arith, stands.1.0, stands.1.1.0, names-counted) in
        let same : stands.0 ≡ rank = omega (arith, stands.1.0) in
        let here : get_or names rank 0 ≡ name = ap (λ (place : ℕ). get_or names place 0) (sym same) ∙ stands.1.1.1 in
        let found : (place_of kind name lines <ᵇ length lines) ≡ true = sym named ∙ sym (is_found-rank names name) ∙ ap is_found there in
        rw found (ap Some (number_of rank inside ∙ ap (λ (each : ℕ). place_of kind each lines) here))
    record_in-by None missing =
        let none : (place_of kind name lines <ᵇ length lines) ≡ false = sym named ∙ sym (is_found-rank names name) ∙ ap is_found missing in
        rw none refl

    pub record_in-placed : Words.record_in at count name words ≡ placed_at lines (place_of kind name lines)
    unfolding Words.record_in
    record_in-placed = ap (λ (each : List ℕ). Words.number_at (at + count) words (rank_in each name)) names-first ∙ record_in-by (rank_in names name) refl

-- ---- words that pass the check

-- a word of the record of a line, among the records of all lines
record_word_at : (lines : List Line) (number place : ℕ) → number < length lines
    → place < 10
    → get_or (records_of lines) (10 * number + place) 0 ≡ get_or (record_of (get_or lines number Unknown)) place 0
unfolding records_of
record_word_at [] number place inside few = absurd (omega arith)
record_word_at (line ∷ rest) zero place inside few =
    let here : 10 * 0 + place ≡ place = omega arith in
    ap (λ (at : ℕ). get_or (record_of line ++ records_of rest) at 0) here ∙ record_word line (records_of rest) place few
record_word_at (line ∷ rest) (suc number) place inside few =
    let behind : 10 * suc number + place ≡ 10 + (10 * number + place) = omega arith in
    ap (λ (at : ℕ). get_or (record_of line ++ records_of rest) at 0) behind
    ∙ record_behind line (records_of rest) (10 * number + place)
    ∙ record_word_at rest number place (omega arith) few

module _ (words : List ℕ) (small : Words32 words) (passes : is_dictionary words ≡ true) where
  abbrev known : Passed.Dictionary words
  known = is_dictionary-parts words passes

  held-records : AllHeld (word_lines words) × (records_of (word_lines words) ≡ take (10 * get_or words 0 0) (drop 4 words))
  held-records =
      accepts-records start 1 0 (get_or words 0 0) (drop 4 words) (omega (arith, length-drop 4 words, known.fits))
      (λ place. rw (get_or-drop 4 words place 0) (small (4 + place)))
      known.accepted

  -- a record can hold each of the lines
  pub lines-held : AllHeld (word_lines words)
  lines-held = held-records.0

  pub lines-records : records_of (word_lines words) ≡ take (10 * length (word_lines words)) (drop 4 words)
  lines-records = rw (lines-counted words) held-records.1

  pub lines-whole : 4 + 10 * length (word_lines words) ≤ length words
  lines-whole = omega (arith, lines-counted words, known.fits)

  -- after the first four words come the records of the lines
  pub records-first : drop 4 words ≡ records_of (word_lines words) ++ drop (10 * length (word_lines words)) (drop 4 words)
  records-first = rw lines-records (sym (take-append-drop (10 * length (word_lines words)) (drop 4 words)))

  -- a word of the record with a number is that of the line at this place
  pub word_at : (number place : ℕ) → number < get_or words 0 0
      → place < 10
      → get_or words (4 + 10 * number + place) 0 ≡ get_or (record_of (get_or (word_lines words) number Unknown)) place 0
  word_at number place inside few =
      let counted = lines-counted words in
      let shift : 4 + 10 * number + place ≡ 4 + (10 * number + place) = omega arith in
      ap (λ (at : ℕ). get_or words at 0) shift
      ∙ sym (get_or-drop 4 words (10 * number + place) 0)
      ∙ sym (get_or-take (10 * length (word_lines words)) (drop 4 words) (10 * number + place) 0 (omega arith))
      ∙ ap (λ (each : List ℕ). get_or each (10 * number + place) 0) (sym lines-records)
      ∙ record_word_at (word_lines words) number place (omega arith) few

  -- an index that passes gives a name the place of its line
  module _ (kind at count : ℕ) (fits : at + 2 * count ≤ length words) (index : is_index kind at count words ≡ true) where
    pub record_in-line : (name : ℕ) → Words.record_in at count name words ≡ placed_at (word_lines words) (place_of kind name (word_lines words))
    record_in-line = record_in-placed words (word_lines words) (sym (lines-counted words)) lines-records lines-whole kind at count fits index

    pub index-names : take count (drop at words) ≡ sorted (names_of kind (word_lines words))
    unfolding names
    index-names = names-first words (word_lines words) (sym (lines-counted words)) lines-records lines-whole kind at count fits index

-- ---- words and texts

-- the words of an accepted text tell its lines, whatever follows them
pub word_lines-arranged : (text : List ℕ) (outcome : Counts) → dictionary_text_of text ≡ Ok outcome → (more : List ℕ)
    → word_lines (dictionary_words (lines_in (lines_of text)) ++ more) ≡ lines_in (lines_of text)
unfolding dictionary_words
word_lines-arranged text outcome accepted more =
    let lines = lines_in (lines_of text) in
    let rest = index_of 1 lines ++ (index_of 5 lines ++ index_of 6 lines) in
    rw (append_assoc (records_of lines) rest more) (lines_from_records lines (rest ++ more) (text-lines text outcome accepted).0)

-- words that pass the check tell the lines of the text whose arrangement they begin with
pub word_lines-text : (words : List ℕ) (small : Words32 words) (passes : is_dictionary words ≡ true)
    → word_lines words ≡ lines_in (lines_of (pass_accepted words small passes).text)
word_lines-text words small passes =
    let from = pass_accepted words small passes in
    ap word_lines (sym (take-append-drop (size_of words) words))
    ∙ ap (λ (front : List ℕ). word_lines (front ++ drop (size_of words) words)) from.arranged
    ∙ word_lines-arranged from.text from.outcome from.accepted (drop (size_of words) words)
