-- `dictionary::line_runs::run_behind` meets its contract: the run that was found, and no line where none was (specs/LineRunsLaws.antt).
use Rattle.std.proofs.Common.{drop}
use Rattle.dictionary.specs.LineRunsLaws.{run_found}
use Rattle.dictionary.proofs.line_runs.run_behind.Goals as goal

pub returns : goal.returns
returns c =
    let run = run_found c.args.standing c.args.count (drop c.args.first c.args.words.now) _ _ c.unwrap_or_default.ensures c.run_after.ensures.run c.run_after.ensures.few in
    record { run = run.0; few = run.1 }
