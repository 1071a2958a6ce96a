-- `events::event::put` meets its contract: the five stores are those of `put_in` (specs/EventSpaceLaws.antt).
use Rattle.std.proofs.Common.{ℕ, sym, ap, arith}
use Rattle.events.specs.EventSpaceLaws.{put_in_no_room, put_in_stores}
use Rattle.events.proofs.event.put.Goals as goal

pub returns-then-next-events-clause-memory : goal.returns-then-next-events-clause-memory
returns-then-next-events-clause-memory c =
    put_in_stores c.args.events.now c.args.at c.args.event _ _ _ _ _ c.if-next-events.true
    (ap (λ (words : ℕ × ℕ × ℕ). words.0) c.words_of-number.ensures) c.from.ensures c.from-then-next-events.ensures
    (ap (λ (words : ℕ × ℕ × ℕ). words.1) c.words_of-number.ensures) (ap (λ (words : ℕ × ℕ × ℕ). words.2) c.words_of-number.ensures)

pub returns-else-next-events-clause-memory : goal.returns-else-next-events-clause-memory
returns-else-next-events-clause-memory c = sym (put_in_no_room c.args.events.now c.args.at c.args.event (omega arith))
