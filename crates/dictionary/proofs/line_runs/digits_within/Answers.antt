-- `dictionary::line_runs::digits_within` meets its contract: a power of ten for each number of digits (specs/LineRunsLaws.antt).
use Rattle.std.proofs.Common.{arith}
use Rattle.dictionary.specs.LineRunsLaws.{digits-below}
use Rattle.records.specs.NumeralLaws.{digit_count-few}
use Rattle.dictionary.proofs.line_runs.digits_within.Goals as goal

pub returns-in-0-to-9-clause-digits : goal.returns-in-0-to-9-clause-digits
returns-in-0-to-9-clause-digits c = digits-below 0 c.args.names (omega arith)

pub returns-in-10-to-99-clause-digits : goal.returns-in-10-to-99-clause-digits
returns-in-10-to-99-clause-digits c = digits-below 1 c.args.names (omega arith)

pub returns-in-100-to-999-clause-digits : goal.returns-in-100-to-999-clause-digits
returns-in-100-to-999-clause-digits c = digits-below 2 c.args.names (omega arith)

pub returns-in-1000-to-9999-clause-digits : goal.returns-in-1000-to-9999-clause-digits
returns-in-1000-to-9999-clause-digits c = digits-below 3 c.args.names (omega arith)

pub returns-in-10000-to-99999-clause-digits : goal.returns-in-10000-to-99999-clause-digits
returns-in-10000-to-99999-clause-digits c = digits-below 4 c.args.names (omega arith)

pub returns-in_default-clause-digits : goal.returns-in_default-clause-digits
returns-in_default-clause-digits c = λ tag upto. digit_count-few tag
