-- `dictionary::line_runs::is_one_byte` meets its contract: a byte 21 to 7E stands highest in the third word (specs/LineRunsLaws.antt).
use Rattle.std.proofs.Common.{arith}
use Rattle.dictionary.specs.LineRunsLaws.{one_byte}
use Rattle.dictionary.proofs.line_runs.is_one_byte.Goals as goal

-- fn is_one_byte(next: u64) -> bool
pub returns-in-33-to-126 : goal.returns-in-33-to-126
returns-in-33-to-126 c = λ holds. one_byte c.args.next c.if-next-eq0.true (omega arith) (omega arith)
