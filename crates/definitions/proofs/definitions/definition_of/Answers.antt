-- `definitions::definitions::definition_of` meets its contract: the first index is searched, and the record found has its type in its third word.
use Rattle.std.proofs.Common.{sym, ◌∙◌, arith}
use Rattle.definitions.specs.Definitions.{definition_of}
use Rattle.definitions.specs.DefinitionsLaws.{is_dictionary-parts, below-number}
use Rattle.definitions.specs.AdmittedRecords.{record-word}
use Rattle.definitions.proofs.definitions.definition_of.Goals as goal

-- let number = record_in(words, RecordKind::Def, at, count, tag)?;
pub record_in-requires : goal.record_in-requires
record_in-requires c = (omega (arith, c.args.dictionary.fits), (is_dictionary-parts _ c.args.dictionary.accepted).tags)

pub returns : goal.returns
unfolding definition_of
returns c =
    rw (
      sym c.record_in.ensures.found ∙ c.in_ok-number.was,
      record-word c.args.dictionary.words.now c.records.result.now 2 c.in_ok-number.number c.records.ensures.records (below-number _ _ _ c.in_ok-number.was c.record_in.ensures.inside) (omega arith),
    )

pub returns-in_err-number : goal.returns-in_err-number
unfolding definition_of
returns-in_err-number c = rw (c.from_residual.ensures, sym c.record_in.ensures.found ∙ c.in_err-number.was)
