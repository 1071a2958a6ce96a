-- `dictionary::dictionary_check::is_dictionary` meets its contract: its tests are those of `is_dictionary` (specs/DictionaryCheckLaws.antt).
use Rattle.std.proofs.Common.{◌∙◌, sym, arith}
use Rattle.std.proofs.lemmas.Bool.{false≢true}
use Rattle.dictionary.specs.DictionaryCheckLaws.{dictionary-headless, dictionary-short, dictionary-disordered, dictionary-tags, dictionary-components, dictionary-messages}
use Rattle.dictionary.proofs.dictionary_check.is_dictionary.Goals as goal
use Rattle.dictionary.proofs.dictionary_check.is_dictionary.Goals.{then-is_index, else-is_index}

-- let [lines, tags, components, messages, ..] = words else {
pub returns-in_default : goal.returns-in_default
returns-in_default c = record { outcome = sym (dictionary-headless _ (omega arith)) }

-- return false;
pub returns-then-words-size : goal.returns-then-words-size
returns-then-words-size c = record { outcome = sym (dictionary-short _ (omega arith) c.if-words-size.true) }

-- let Some(read) = read_lines(words, lines) else {
pub returns-in_default-read_lines : goal.returns-in_default-read_lines
returns-in_default-read_lines c = record {
  outcome = sym (dictionary-disordered c.args.words.now (omega arith) c.if-words-size.false _ c.read_lines.ensures.accepted (rw c.in_default-read_lines.is));
}

-- pub fn is_dictionary(words: &[u32]) -> bool
pub returns-then-is_index-2 : goal.returns-then-is_index-2
returns-then-is_index-2 c = record {
  outcome =
      elim c.if-is_index.branch [
        | then-is_index w ↦
            c.is_index-then-is_index-2.ensures
            ∙ sym (dictionary-messages c.args.words.now (omega arith) c.if-words-size.false _ c.read_lines.ensures.accepted (rw c.in-Some.is)
            _ c.is_index.ensures w.if-is_index.true
            _ w.is_index-then-is_index.ensures (sym w.value-is ∙ c.if-is_index-2.true))
        | else-is_index w ↦ absurd (false≢true (sym w.if-is_index.false ∙ sym w.value-is ∙ c.if-is_index-2.true))
      ];
}

pub returns-else-is_index-2 : goal.returns-else-is_index-2
returns-else-is_index-2 c = record {
  outcome =
      elim c.if-is_index.branch [
        | then-is_index w ↦
            c.if-is_index-2.false
            ∙ sym (dictionary-components c.args.words.now (omega arith) c.if-words-size.false _ c.read_lines.ensures.accepted (rw c.in-Some.is)
            _ c.is_index.ensures w.if-is_index.true
            _ w.is_index-then-is_index.ensures (sym w.value-is ∙ c.if-is_index-2.false))
        | else-is_index w ↦
            c.if-is_index-2.false
            ∙ sym (dictionary-tags c.args.words.now (omega arith) c.if-words-size.false _ c.read_lines.ensures.accepted (rw c.in-Some.is)
            _ c.is_index.ensures w.if-is_index.false)
      ];
}
