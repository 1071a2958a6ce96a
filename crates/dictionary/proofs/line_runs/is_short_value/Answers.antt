-- `dictionary::line_runs::is_short_value` meets its contract: its tests are those of a value of one to four bytes (specs/LineRuns.antt).
use Rattle.std.proofs.Common.{arith}
use Rattle.dictionary.specs.LineRunsLaws.{short-value_held}
use Rattle.dictionary.proofs.line_runs.is_short_value.Goals as goal

-- fn is_short_value(head: u64, next: u64) -> bool
pub returns : goal.returns
returns c = λ holds. short-value_held c.args.head c.args.next (omega arith) (omega arith) (omega arith) (omega arith) _ c.holds_visible_part.ensures holds
