-- `replay_texts::recorded_text::repeated` is safe: the copies end inside the room, which keeps its length.
use Rattle.std.proofs.Common.{◌≡◌, ◌≤◌, length}
use Rattle.replay_texts.proofs.recorded_text.repeated.Given as goal

abbrev pub invariant-loop : goal.invariant-loop
invariant-loop l = (l.past ≤ length l.room) × (length l.room ≡ length l.initial.room)
