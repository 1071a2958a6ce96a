-- `dictionary::dictionary_check::read_lines` meets its contract: its tests are those of the two halves of `accepts` (specs/DictionaryCheckLaws.antt).
use Rattle.std.proofs.Common.{◌∙◌, sym, arith}
use Rattle.dictionary.specs.DictionaryCheckLaws.{accepts-not_taken, accepts-short, accepts-long, takes-known}
use Rattle.dictionary.proofs.dictionary_check.read_lines.Goals as goal
use Rattle.dictionary.proofs.dictionary_check.read_lines.Goals.{then-read-le65536-via-then-read-le65536, then-read-le65536-via-else-read-le65536+then-text_length-le65536}

-- let read = take_lines(words, lines)?;
pub returns-in_err-read-clause-accepted : goal.returns-in_err-read-clause-accepted
returns-in_err-read-clause-accepted c = rw c.from_residual.ensures (sym (accepts-not_taken _ (sym c.take_lines.ensures.accepted ∙ rw c.in_err-read.was)))

-- if read.bytes <= 65536 || text_length(words, lines) <= 65536 {
pub text_length-requires : goal.text_length-requires
text_length-requires c = (c.requires.0, (c.requires.1, takes-known _ _ _ _ (sym c.take_lines.ensures.accepted ∙ rw c.in_ok-read.was)))

-- return Some(read);
pub returns-then-read-le65536-clause-accepted : goal.returns-then-read-le65536-clause-accepted
returns-then-read-le65536-clause-accepted c =
    elim c.then-read-le65536.branch [
      | then-read-le65536-via-then-read-le65536 w ↦
          sym (accepts-short _ (sym c.take_lines.ensures.accepted ∙ rw c.in_ok-read.was) (omega (arith, rw c.in_ok-read.was at c.take_lines.ensures.bytes, w.if-read-le65536.true)))
      | then-read-le65536-via-else-read-le65536+then-text_length-le65536 w ↦
          sym (accepts-short _ (sym c.take_lines.ensures.accepted ∙ rw c.in_ok-read.was) (omega (arith, w.text_length.ensures, w.if-text_length-le65536.true)))
    ]

-- fn read_lines(words: &[u32], lines: usize) -> Option<LinesRead>
pub returns-clause-accepted : goal.returns-clause-accepted
returns-clause-accepted c =
    sym (accepts-long _ (sym c.take_lines.ensures.accepted ∙ rw c.in_ok-read.was) (omega (arith, c.text_length.ensures, c.if-text_length-le65536.false)))
