-- The tags seen at the message level (validator.rs, `seen: HashSet<u32>`), as a set of ranks among the tags that the dictionary defines: "undefined tags are
-- skipped", so that no other tag is ever seen. The set is that of the entries of a group (`EntryTags.antt` of entry_tags), in more words. Assumes nothing.
--
--   seen_words                     how many words hold the ranks of 10,922 tags
--   SeenTags defined words seen   the words stand for the tags in `seen`
--   SeenWords defined words       words for a set of these tags
use Rattle.std.specs.Prelude.{◌≡◌, ℕ, ◌≤◌, List, length}
use Rattle.ascending.specs.Search.{StrictlyAscending}
use Rattle.entry_tags.specs.EntryTags.{TagsSeen}
use Rattle.walk_steps.specs.WalkWords.{among}
use Rattle.walk_steps.specs.WalkWordsLaws.{rank_of}

abbrev pub seen_words : ℕ
seen_words = 171

abbrev pub SeenTags : List ℕ → List ℕ → List ℕ → Type 0
SeenTags defined words seen = TagsSeen words seen_words (length defined) (among defined) (rank_of defined) seen

-- words for the ranks of these tags
pub record SeenWords (defined seen : List ℕ) : Type 0 where
  pub ascends : StrictlyAscending defined
  pub few_tags_lem : length defined ≤ 10922
  pub wide : length seen ≡ seen_words
