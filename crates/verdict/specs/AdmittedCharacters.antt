-- A value compared with the admitted ones by its bytes, as `is_admitted` does, or by its characters after `from_utf8_lossy`, as the Rust does: the answer is the
-- same. Characters stand here by their first bytes, `leads` (characters, Characters.antt): an ASCII character is its own first byte, that of any other is 80 or
-- above, and so is what is left of a maximal invalid part. An admitted value has the bytes 21 to 7E alone (`is_visible`), so it is the text of the same characters
-- exactly where these bytes are the first bytes of the text's characters. Assumes nothing.
--
--   admitted-by-characters   the theorem
use Rattle.std.specs.Prelude.{◌≡◌, refl, ℕ, Bool, true, false, ◌&&◌, List, [], ◌∷◌}
use Rattle.std.proofs.Common.{sym, ◌∙◌, arith}
use Rattle.std.proofs.Math.Path.{ap}
use Prim.Native.Char.{code}
use Rattle.std.proofs.lemmas.Bool.{false≢true}
use Rattle.ascii.specs.NotationLaws.{and_left, and_right, is_between-range}
use Rattle.ascii.specs.Bytes.{every}
use Rattle.ascii.specs.Split.{Parts, last, part, split, every_part}
use Rattle.field_types.specs.declared.field_type.FieldType.{FieldType}
use Rattle.characters.specs.Characters.{nothing_expected, expected_after, leads_from, leads}
use Rattle.characters.specs.CharactersLaws.{expected_after-below, continues-none, leads_from-begins}
use Rattle.multi_values.specs.MultiValueOrder.{leads_of_parts, split-leads}
use Rattle.lines.specs.Lines.{is_same}
use Rattle.lines.specs.LineParts.{is_visible}
use Rattle.records.specs.Records.{Words32}
use Rattle.dictionary.specs.DictionaryWords.{word_lines}
use Rattle.dictionary.specs.DictionaryCheck.{is_dictionary}
use Rattle.definitions.specs.WordLinesLaws.{lines-held}
use Rattle.definitions.specs.DefinedFields.{FieldDef, DefinedAs, field_in, is_one_of, is_admitted_by}
use Rattle.definitions.specs.DefinedFieldsLaws.{AllVisible, is_same-true, field_visible}
use Rattle.verdict.specs.Verdict.{admits_each, is_admitted}

-- ---- the characters of visible bytes

-- where no character is open, the next byte begins one
begins : (byte : ℕ) (rest : List ℕ) → leads_from nothing_expected (byte ∷ rest) ≡ byte ∷ leads_from (expected_after byte) rest
begins byte rest = leads_from-begins nothing_expected byte rest (continues-none nothing_expected byte refl)

begins-visible : (byte : ℕ) (rest : List ℕ) → is_visible byte ≡ true → leads_from nothing_expected (byte ∷ rest) ≡ byte ∷ leads_from nothing_expected rest
begins-visible byte rest visible =
    let none : expected_after byte ≡ nothing_expected = expected_after-below byte (omega (arith, is_between-range 0x21 0x7E byte visible)) in
    begins byte rest ∙ rw none

every-leads_by : (byte : ℕ) (rest : List ℕ) (visible : Bool) → is_visible byte ≡ visible
    → every is_visible (leads_from nothing_expected rest) ≡ every is_visible rest
    → every is_visible (leads_from nothing_expected (byte ∷ rest)) ≡ every is_visible (byte ∷ rest)
every-leads_by byte rest true visible behind =
    ap (every is_visible) (begins-visible byte rest visible) ∙ ap (λ (others : Bool). is_visible byte && others) behind
every-leads_by byte rest false other behind = ap (every is_visible) (begins byte rest) ∙ rw other

every-leads : (value : List ℕ) → every is_visible (leads_from nothing_expected value) ≡ every is_visible value
unfolding leads_from
every-leads [] = refl
every-leads (byte ∷ rest) = every-leads_by byte rest (is_visible byte) refl (every-leads rest)

-- visible bytes are their own characters
leads-visible : (value : List ℕ) → every is_visible value ≡ true → leads_from nothing_expected value ≡ value
unfolding leads_from
leads-visible [] visible = refl
leads-visible (byte ∷ rest) visible =
    begins-visible byte rest (and_left (is_visible byte) (every is_visible rest) visible)
    ∙ ap (λ (others : List ℕ). byte ∷ others) (leads-visible rest (and_right (is_visible byte) (every is_visible rest) visible))

-- ---- a value and its characters

-- visible bytes are the value exactly where they are its characters
is_same-leads : (admitted value : List ℕ) → every is_visible admitted ≡ true → is_same admitted (leads value) ≡ is_same admitted value
is_same-leads admitted value visible = go (every is_visible value) refl
  where
    never : (bytes : List ℕ) → every is_visible bytes ≡ false → (same : Bool) → is_same admitted bytes ≡ same → same ≡ false
    never bytes other false test = refl
    never bytes other true test = absurd (false≢true (sym other ∙ ap (every is_visible) (sym (is_same-true admitted bytes test)) ∙ visible))

    go : (all : Bool) → every is_visible value ≡ all → is_same admitted (leads value) ≡ is_same admitted value
    go true all = ap (is_same admitted) (leads-visible value all)
    go false other =
        never (leads value) (every-leads value ∙ other) (is_same admitted (leads value)) refl ∙ sym (never value other (is_same admitted value) refl)

is_one_of-leads : (values : List (List ℕ)) (value : List ℕ) → AllVisible values → is_one_of values (leads value) ≡ is_one_of values value
unfolding is_one_of
is_one_of-leads [] value visible = refl
is_one_of-leads (first ∷ others) value visible = rw (is_same-leads first value visible.0, is_one_of-leads others value visible.1)

is_admitted_by-leads : (values : List (List ℕ)) (value : List ℕ) → AllVisible values → is_admitted_by values (leads value) ≡ is_admitted_by values value
is_admitted_by-leads [] value visible = refl
is_admitted_by-leads (first ∷ others) value visible = is_one_of-leads (first ∷ others) value visible

module _ (values : List (List ℕ)) (visible : AllVisible values) where
  every_part-leads : (parts : Parts) → every_part (is_admitted_by values) (leads_of_parts nothing_expected parts) ≡ every_part (is_admitted_by values) parts
  unfolding every_part leads_of_parts
  every_part-leads (last bytes) = is_admitted_by-leads values bytes visible
  every_part-leads (part bytes others) = rw (is_admitted_by-leads values bytes visible, every_part-leads others)

  admits_each-leads : (value : List ℕ) → admits_each (is_admitted_by values) (leads value) ≡ admits_each (is_admitted_by values) value
  unfolding admits_each
  admits_each-leads value = ap (every_part (is_admitted_by values)) (split-leads (code " ") (omega arith) value) ∙ every_part-leads (split (code " ") value)

  visible_by_characters : (type : FieldType) (value : List ℕ) → is_admitted (is_admitted_by values) type (leads value) ≡ is_admitted (is_admitted_by values) type value
  visible_by_characters type value = rw (admits_each-leads value, is_admitted_by-leads values value visible)

-- the values of a field that a dictionary defines have the bytes 21 to 7E alone
pub admitted-by_characters : (words : List ℕ) → Words32 words
    → is_dictionary words ≡ true
    → (tag : ℕ) (field : FieldDef)
    → field_in (word_lines words) tag ≡ DefinedAs field
    → (type : FieldType) (value : List ℕ)
    → is_admitted (is_admitted_by field.values) type (leads value) ≡ is_admitted (is_admitted_by field.values) type value
admitted-by_characters words small passes tag field defined =
    visible_by_characters field.values (field_visible (word_lines words) (lines-held words small passes) tag field defined)
