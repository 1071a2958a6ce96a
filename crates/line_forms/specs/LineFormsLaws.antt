-- Laws of `LineForms.antt`. Assumes nothing.
use Rattle.std.specs.Prelude.{◌≡◌, refl, ℕ, ◌≤◌, ◌<◌, Bool, true, false, List, length}
use Rattle.std.proofs.Common.{arith}
use Rattle.ascii.specs.Bytes.{ascii}
use Rattle.line_forms.specs.declared.line.Line.TheVariants.{Unknown}
use Rattle.lines.specs.Lines.{starts_with}
use Rattle.lines.specs.LinesLaws.{starts_with_length}
use Rattle.line_forms.specs.LineForms.{block_line_of, definition_line_of, line_of}

starts_by : (key bytes : List ℕ) (starts : Bool) → starts_with key bytes ≡ starts → length bytes < length key → starts_with key bytes ≡ false
starts_by key bytes true test short = absurd (omega (arith, starts_with_length key bytes test))
starts_by key bytes false test short = test

module _ (bytes : List ℕ) (short : length bytes < 4) where
  too_short : (key : List ℕ) → 4 ≤ length key → starts_with key bytes ≡ false
  too_short key long = starts_by key bytes (starts_with key bytes) refl (omega arith)

  -- every key but its `=` has three letters or more
  pub line_of_short : line_of bytes ≡ Unknown
  unfolding line_of definition_line_of block_line_of
  line_of_short =
      rw (
        too_short (ascii "field=") (omega arith),
        too_short (ascii "group=") (omega arith),
        too_short (ascii "use=") (omega arith),
        too_short (ascii "end=") (omega arith),
        too_short (ascii "def=") (omega arith),
        too_short (ascii "value=") (omega arith),
        too_short (ascii "begin=") (omega arith),
        too_short (ascii "component=") (omega arith),
        too_short (ascii "message=") (omega arith),
        too_short (ascii "member=") (omega arith),
        too_short (ascii "required=") (omega arith),
      )
