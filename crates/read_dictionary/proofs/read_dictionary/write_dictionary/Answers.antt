-- `read_dictionary::read_dictionary::write_dictionary` meets its contract: the words are too few, or enough (specs/ReadDictionaryLaws.antt).
use mathlib.Core.Path.{◌∙◌}
use native.Mathlib.Omega.{arith}
use Rattle.dictionary.specs.DictionaryWords.{dictionary_words}
use Rattle.read_dictionary.specs.ReadDictionary.{text_lines}
use Rattle.read_dictionary.specs.ReadDictionaryLaws.{accepted-needs, accepted-few, space_short, space-holds}
use Rattle.read_dictionary.proofs.read_dictionary.write_dictionary.Goals as goal

-- let needed = words_needed(counts);
pub words_needed-needed-requires : goal.words_needed-needed-requires
words_needed-needed-requires c = let few = accepted-few _ _ c.requires in (omega arith, (omega arith, (omega arith, omega arith)))

-- return Err(Refusal::SpaceShort(needed));
pub returns-then-words-needed : goal.returns-then-words-needed
returns-then-words-needed c = record {
  outcome = (space_short (dictionary_words (text_lines c.args.text.now)) c.args.words.now _ (c.words_needed-needed.ensures ∙ accepted-needs _ _ c.requires) c.if-words-needed.true).0;
  memory = (space_short (dictionary_words (text_lines c.args.text.now)) c.args.words.now _ (c.words_needed-needed.ensures ∙ accepted-needs _ _ c.requires) c.if-words-needed.true).1;
}

-- put_dictionary(text, counts, words);
pub put_dictionary-requires : goal.put_dictionary-requires
put_dictionary-requires c = (c.requires, omega (arith, c.words_needed-needed.ensures, c.if-words-needed.false))

pub returns : goal.returns
returns c = record {
  outcome = (space-holds (dictionary_words (text_lines c.args.text.now)) c.args.words.now _ (c.words_needed-needed.ensures ∙ accepted-needs _ _ c.requires) c.if-words-needed.false _ c.put_dictionary.ensures).0;
  memory = (space-holds (dictionary_words (text_lines c.args.text.now)) c.args.words.now _ (c.words_needed-needed.ensures ∙ accepted-needs _ _ c.requires) c.if-words-needed.false _ c.put_dictionary.ensures).1;
}
