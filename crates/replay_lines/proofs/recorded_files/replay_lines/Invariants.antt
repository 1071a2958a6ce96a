-- `replay_lines::recorded_files::replay_lines` is safe: the line stands in its buffer, which keeps its length.
use Rattle.std.proofs.Common.{◌≡◌, ◌≤◌, ◌<◌, length, IfSome}
use Rattle.replay_lines.proofs.recorded_files.replay_lines.Given as goal

abbrev pub invariant-loop : goal.invariant-loop
invariant-loop g l = IfSome l.line (λ line. (line.first ≤ line.past) × (line.past < line.filled) × (line.filled ≤ length l.buffer)) × (length l.buffer ≡ length l.initial.buffer)
