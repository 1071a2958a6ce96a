-- `verdicts::verdicts_call::verdict_at` meets its contract: the number is that of the tag's record.
use mathlib.Core.Path.{◌∙◌}
use native.Mathlib.Omega.{arith}
use Rattle.verdict.specs.FieldRecordsLaws.{recorded_verdict-of}
use Rattle.verdicts.proofs.verdicts_call.verdict_at.Goals as goal

-- fn verdict_at(
pub returns : goal.returns
returns c = c.check_value.ensures ∙ rw (c.requires.number_value, c.value_at.ensures) (recorded_verdict-of _ _ _ _ c.args.dictionary.words32 c.args.dictionary.accepted)
