-- What the words of a dictionary hold: facts that a lookup in them rests on. Assumes nothing.
use Rattle.std.specs.Prelude.{◌≡◌, ◌≤◌, true, List, ℕ, leb, ◌&&◌, length, get_or, drop}
use borrow.Author.Tests.{leb-true}
use Rattle.ascii.specs.NotationLaws.{and_left, and_right}
use Rattle.dictionary_order.specs.DictionaryOrder.{start}
use Rattle.records.specs.Records.{lines_from}
use Rattle.dictionary.specs.DictionaryCheck.{accepts, is_index, tags_at, components_at, messages_at, size_of, is_dictionary}

-- the words have a head, and hold all records and indexes
pub is_dictionary-fits : (words : List ℕ) → is_dictionary words ≡ true → (4 ≤ length words) × (size_of words ≤ length words)
unfolding is_dictionary
is_dictionary-fits words holds =
    let indexes =
    is_index 1 (tags_at words) (get_or words 1 0) words
    && (is_index 5 (components_at words) (get_or words 2 0) words && is_index 6 (messages_at words) (get_or words 3 0) words) in
    let lines = accepts start 1 0 (lines_from (get_or words 0 0) (drop 4 words)) in
    let behind = and_right (leb 4 (length words)) (leb (size_of words) (length words) && (lines && indexes)) holds in (
      leb-true _ _ (and_left (leb 4 (length words)) (leb (size_of words) (length words) && (lines && indexes)) holds),
      leb-true _ _ (and_left (leb (size_of words) (length words)) (lines && indexes) behind),
    )
