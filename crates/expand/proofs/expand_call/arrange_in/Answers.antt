-- `expand::expand_call::arrange_in` meets its contract: the working memory has room for the trace.
use Rattle.std.proofs.Common.{ℕ, arith}
use Rattle.std.proofs.lemmas.List.{length-replicate}
use Rattle.expand.specs.ExpandCallLaws.{gather_room}
use Rattle.expand.proofs.expand_call.arrange_in.Goals as goal

pub arrange-requires : goal.arrange-requires
arrange-requires g c =
    let words = length-replicate {A = ℕ} g.row.WORDS 0 in
    let rows = length-replicate {A = ℕ} g.row.ROWS 0 in (
      gather_room g.row.WORDS _ _ _ _ _ c.requires.0 c.requires.2 c.requires.3 words words words (omega (arith, rows, c.requires.4)),
      omega (arith, words, c.requires.0),
      omega (arith, words, c.requires.0),
      c.requires.3,
    )
