-- `read_dictionary::read_dictionary::read_dictionary` meets its contract: the text is accepted, or refused (specs/ReadDictionaryLaws.antt).
use mathlib.Core.Path.{sym, ◌∙◌}
use Rattle.refusals.specs.HandedOn.{handed_on}
use Rattle.read_dictionary.specs.ReadDictionaryLaws.{text-refused, text-accepted}
use Rattle.read_dictionary.proofs.read_dictionary.read_dictionary.Goals as goal

pub write_dictionary-requires : goal.write_dictionary-requires
write_dictionary-requires c = sym c.check_text.ensures.outcome ∙ c.in_ok-counts.was

pub returns : goal.returns
returns c = record {
  outcome = (text-accepted _ c.args.words.now _ (sym c.check_text.ensures.outcome ∙ c.in_ok-counts.was) _ _ c.write_dictionary.ensures.outcome c.write_dictionary.ensures.memory).0;
  memory = (text-accepted _ c.args.words.now _ (sym c.check_text.ensures.outcome ∙ c.in_ok-counts.was) _ _ c.write_dictionary.ensures.outcome c.write_dictionary.ensures.memory).1;
}

pub returns-in_err-counts : goal.returns-in_err-counts
returns-in_err-counts c = record {
  outcome = handed_on _ _ c.from_residual.ensures.1 ∙ (text-refused _ c.args.words.now _ (sym c.check_text.ensures.outcome ∙ c.in_err-counts.was)).0;
  memory = (text-refused _ c.args.words.now _ (sym c.check_text.ensures.outcome ∙ c.in_err-counts.was)).1;
}
