-- `line_forms::line::after` meets its contract: bytes that start with the key are at least as long as it.
use Rattle.std.proofs.Common.{sym, ◌∙◌}
use Rattle.lines.specs.LinesLaws.{starts_with_length}
use Rattle.line_forms.proofs.line.after.Goals as goal

-- return Some(&bytes[key.len()..]);
pub slice_bounds-result-count : goal.slice_bounds-result-count
slice_bounds-result-count c = starts_with_length _ _ (sym c.starts_with.ensures ∙ c.if-starts_with.true)

pub slice_bounds-result-start : goal.slice_bounds-result-start
slice_bounds-result-start c = starts_with_length _ _ (sym c.starts_with.ensures ∙ c.if-starts_with.true)
