-- `dictionary::line_runs::run_after` meets its contract: each run is passed over (specs/LineRunsLaws.antt).
use Rattle.std.proofs.Common.{◌∙◌, sym, drop}
use Rattle.std.proofs.lemmas.Option.{IfSome_then}
use Rattle.dictionary.specs.LineRunsLaws.{definitions-passed, fields-passed, no_run}
use Rattle.dictionary.proofs.line_runs.run_after.Goals as goal

-- return definitions_run(count, words, first);
pub returns-then-is_among_definitions : goal.returns-then-is_among_definitions
returns-then-is_among_definitions c = record {
  run = IfSome_then _ c.definitions_run.ensures.run (λ run is. definitions-passed _ _ _ _ _ (sym c.is_among_definitions.ensures ∙ c.if-is_among_definitions.true) is);
  few = c.definitions_run.ensures.few;
}

-- Part::Fields => fields_run(count, words, first),
pub returns-in-Fields : goal.returns-in-Fields
returns-in-Fields c = record {
  run = IfSome_then _ c.fields_run.ensures.run (λ run is. fields-passed _ _ _ _ _ c.in-Fields.is is);
  few = c.fields_run.ensures.few;
}

-- _ => Some(Run::default()),
pub returns-in_default : goal.returns-in_default
returns-in_default c = let none = no_run c.args.standing c.args.count (drop c.args.first c.args.words.now) _ c.default.ensures in record { run = none.0; few = none.1 }
