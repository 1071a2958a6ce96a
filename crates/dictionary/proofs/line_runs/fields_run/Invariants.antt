-- `dictionary::line_runs::fields_run` meets its contract. The loop's invariant is `FieldsSoFar`; the laws are those of specs/LineRunsLaws.antt.
use Rattle.std.proofs.Common.{◌≡◌, ◌+◌, ◌*◌}
use Rattle.std.specs.Slice.Iter.{chunks_exact_rest, chunks_exact_size}
use Rattle.dictionary.specs.LineRunsLaws.{FieldsSoFar, records_left}
use Rattle.dictionary.proofs.line_runs.fields_run.Given as goal

abbrev pub invariant-loop-record : goal.invariant-loop-record
invariant-loop-record l =
    FieldsSoFar l.count l.words l.first l.lines l.names l.flags l.pair4 l.pair6 l.pair8 (l.first + 10 * l.lines)
    × ((chunks_exact_rest l.record-iterator ≡ records_left l.count l.words l.first l.lines) × (chunks_exact_size l.record-iterator ≡ 10))
