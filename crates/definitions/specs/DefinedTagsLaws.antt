-- Laws of `DefinedTags.antt`: the tags are the names of the index of the definitions, they ascend, and a text of 65,536 bytes has at most 10,922 of them.
-- Assumes nothing.
use Rattle.std.specs.Prelude.{◌≡◌, refl, ℕ, zero, suc, ◌+◌, ◌*◌, ◌-◌, ◌≤◌, Bool, true, false, ◌&&◌, List, eqb, length, get_or, take, drop, if◌then◌else◌}
use Rattle.std.proofs.Common.{ap, ◌∙◌, arith, length-drop, length-take-le, eqb-true}
use Rattle.ascii.specs.NotationLaws.{and_left}
use Rattle.ascending.specs.Search.{StrictlyAscending, is_strictly_ascending}
use Rattle.dictionary.specs.DictionaryCheck.{count_of, stands_each, is_index, tags_at, size_of, is_dictionary}
use Rattle.records.specs.Records.{Words32}
use Rattle.definitions.specs.DefinitionsLaws.{Dictionary, is_dictionary-parts, index-ascends}
use Rattle.definitions.specs.PassAccepted.{pass_accepted}
use Rattle.definitions.specs.AcceptedPass.{accepted-size}
use Rattle.definitions.specs.DefinedFieldsLaws.{tags-index}
use Rattle.definitions.specs.DefinedTags.{defined_tags}

-- records of a kind are among all records
count_of_few : (kind count : ℕ) (words : List ℕ) → count_of kind count words ≤ count
unfolding count_of
count_of_few kind zero words = omega arith
count_of_few kind (suc count) words = go (eqb (get_or words 0 0) kind) (count_of_few kind count (drop 10 words))
  where
    go : (this : Bool) → count_of kind count (drop 10 words) ≤ count
        → (if this then suc (count_of kind count (drop 10 words)) else count_of kind count (drop 10 words)) ≤ suc count
    go true few = omega arith
    go false few = omega arith

index-few : (kind at count : ℕ) (words : List ℕ) → is_index kind at count words ≡ true → count ≤ get_or words 0 0
unfolding is_index
index-few kind at count words index =
    let names = is_strictly_ascending (take count (drop at words)) in
    let test = eqb (count_of kind (get_or words 0 0) (drop 4 words)) count in
    let counted : count_of kind (get_or words 0 0) (drop 4 words) ≡ count = eqb-true _ _ (and_left test (names && stands_each kind count at count words) index) in
    omega (arith, counted, count_of_few kind (get_or words 0 0) (drop 4 words))

module _ (words : List ℕ) (passes : is_dictionary words ≡ true) (small : Words32 words) where
  known : Dictionary words
  known = is_dictionary-parts words passes

  defined_tags-ascend : StrictlyAscending (defined_tags words)
  defined_tags-ascend = rw (← tags-index words small passes) (index-ascends 1 (tags_at words) (get_or words 1 0) words known.tags)

  defined_tags-length : length (defined_tags words) ≡ get_or words 1 0
  defined_tags-length =
      rw (← tags-index words small passes)
      (length-take-le (get_or words 1 0) (drop (tags_at words) words) (omega (arith, length-drop (tags_at words) words, known.fits)))

  -- a line takes ten words and each definition two more
  defined_tags-few : length (defined_tags words) ≤ 10922
  defined_tags-few =
      let accepted = pass_accepted words small passes in
      let size : length (take (size_of words) words) ≡ size_of words = length-take-le (size_of words) words known.fits in
      omega (
        arith,
        size,
        defined_tags-length,
        ap length accepted.arranged,
        accepted-size accepted.text accepted.outcome accepted.accepted,
        index-few 1 (tags_at words) (get_or words 1 0) words known.tags,
      )

  -- as a part of the words: the names of the index of the definitions
  pub defined_tags-part : (part : List ℕ) → part ≡ take (tags_at words + get_or words 1 0 - tags_at words) (drop (tags_at words) words)
      → (part ≡ defined_tags words) × (StrictlyAscending part × (length part ≤ 10922))
  defined_tags-part part lent =
      let same : tags_at words + get_or words 1 0 - tags_at words ≡ get_or words 1 0 = omega arith in
      let whole : part ≡ defined_tags words = lent ∙ rw same (tags-index words small passes) in
      rw whole (refl, (defined_tags-ascend, defined_tags-few))
