-- `read_dictionary::read_dictionary::put_dictionary` meets its contract: the parts of a dictionary, one behind the other (specs/ReadDictionaryLaws.antt).
use native.Mathlib.Omega.{arith}
use Rattle.read_dictionary.specs.ReadDictionaryLaws.{accepted-few, records-fit, tags-space, components-space, messages-space, dictionary-put}
use Rattle.read_dictionary.proofs.read_dictionary.put_dictionary.Goals as goal

-- lines as u32,
pub overflow_cast-counts : goal.overflow_cast-counts
overflow_cast-counts c = omega (arith, accepted-few _ _ c.requires.0)

-- tags as u32,
pub overflow_cast-counts-2 : goal.overflow_cast-counts-2
overflow_cast-counts-2 c = omega (arith, accepted-few _ _ c.requires.0)

-- components as u32,
pub overflow_cast-counts-3 : goal.overflow_cast-counts-3
overflow_cast-counts-3 c = omega (arith, accepted-few _ _ c.requires.0)

-- messages as u32,
pub overflow_cast-counts-4 : goal.overflow_cast-counts-4
overflow_cast-counts-4 c = omega (arith, accepted-few _ _ c.requires.0)

-- put_records(text, words);
pub put_records-requires : goal.put_records-requires
put_records-requires c = records-fit _ _ c.requires.0 c.args.words.now c.requires.1 _ c.put_counts.ensures

-- put_index(words, lines, 1, tags_at, tags);
pub put_index-requires : goal.put_index-requires
put_index-requires c = tags-space _ _ c.requires.0 c.args.words.now c.requires.1 _ c.put_counts.ensures _ c.put_records.ensures

-- put_index(words, lines, 5, components_at, components);
pub put_index-requires-2 : goal.put_index-requires-2
put_index-requires-2 c = components-space _ _ c.requires.0 c.args.words.now c.requires.1 _ c.put_counts.ensures _ c.put_records.ensures _ c.put_index.ensures

-- put_index(words, lines, 6, messages_at, messages);
pub put_index-requires-3 : goal.put_index-requires-3
put_index-requires-3 c = messages-space _ _ c.requires.0 c.args.words.now c.requires.1 _ c.put_counts.ensures _ c.put_records.ensures _ c.put_index.ensures _ c.put_index-2.ensures

pub returns : goal.returns
returns c = dictionary-put _ _ c.requires.0 c.args.words.now c.requires.1 _ c.put_counts.ensures _ c.put_records.ensures _ c.put_index.ensures _ c.put_index-2.ensures _ c.put_index-3.ensures
