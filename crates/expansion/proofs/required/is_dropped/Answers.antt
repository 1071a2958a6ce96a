-- `expansion::required::is_dropped` meets its contract: what the slice contains was seen.
use Rattle.std.proofs.Common.{sym, ◌∙◌, eq-eqb}
use Rattle.expansion.specs.SeenLaws.{seen_is}
use Rattle.expansion.specs.RetainedLaws.{dropped_delimiter, dropped_seen}
use Rattle.expansion.proofs.required.is_dropped.Goals as goal

pub returns-then-tag-delimiter : goal.returns-then-tag-delimiter
returns-then-tag-delimiter c = eq-eqb _ _ c.if-tag-delimiter.true ∙ sym (dropped_delimiter _ _ _ c.if-tag-delimiter.true)

pub returns-else-tag-delimiter : goal.returns-else-tag-delimiter
returns-else-tag-delimiter c = c.contains.ensures.value ∙ seen_is _ _ ∙ sym (dropped_seen _ _ _ c.if-tag-delimiter.false)
