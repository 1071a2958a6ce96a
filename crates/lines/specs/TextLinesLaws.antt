-- Laws of `TextLines.antt`: what the library's search for the line feed cuts off is the first line, and the lines that the iterator gives are those of
-- `lines_of`. Assumes nothing.
use Rattle.std.specs.Prelude.{◌≡◌, refl, ℕ, suc, ◌+◌, ◌-◌, ◌≤◌, ◌<◌, List, [], ◌∷◌, length, take, drop, eqb, Option, Some, None, Ok, Err}
use Rattle.std.specs.List.{position}
use Rattle.std.specs.Option.{ok_or}
use Rattle.std.proofs.Common.{◌∙◌, arith, rules}
use Rattle.std.proofs.lemmas.Bool.{false≢true}
use Rattle.std.specs.Iterator.{YieldsFirstBy}
use denote.Ref.{Bor}
use Rattle.ascii.specs.Bytes.{non_empty}
use Rattle.ascii.specs.BytesLaws.{non_empty-some, part_to_end}
use Rattle.lines.specs.Lines.{position_of, cut, lines_of, line_feed}
use Rattle.lines.specs.LinesLaws.{position_of-found, position_of-missing, position_of-split, cut-first_piece, cut-last_piece}
use Rattle.lines.specs.TextLines.{listed, IsFirstLine, IsUnended, GivesLine}

module _ (text : List ℕ) where
  pub first_line : (past : ℕ) → position (λ byte. eqb byte line_feed) text ≡ Some past
      → IsFirstLine text (take past text) (take (length text - (past + 1)) (drop (past + 1) text))
  first_line past found =
      let place = position_of-found line_feed text past found in
      let inside : position_of line_feed text < length text = omega (arith, place) in
      let next : suc past ≡ past + 1 = omega arith in
      rw (part_to_end text (past + 1))
      (record {
        bytes = position_of-split line_feed text past place.0 place.1;
        cut_off = cut-first_piece line_feed text inside ∙ rw (← place.0, next);
      })

  pub unended : position (λ byte. eqb byte line_feed) text ≡ None → (length text ≡ 0 → ⊥)
      → IsUnended text × (take (length text - length text) (drop (length text) text) ≡ [])
  unended missing some_byte =
      let uncut : length text ≤ position_of line_feed text = omega (arith, position_of-missing line_feed text missing) in (
        record { some_byte = non_empty-some text some_byte; uncut = cut-last_piece line_feed text uncut },
        search rules,
      )

-- ---- what the iterator gives, call by call, is the list of the lines

pub listed_unended : (text : List ℕ) → IsUnended text → listed (lines_of text) ≡ None ∷ []
unfolding listed non_empty
listed_unended [] is = absurd (false≢true is.some_byte)
listed_unended (byte ∷ bytes) is = rw is.uncut refl

pub listed_line : (text line left : List ℕ) → IsFirstLine text line left → listed (lines_of text) ≡ Some line ∷ listed (lines_of left)
unfolding listed
listed_line text line left first = rw first.cut_off

abbrev pub line_view : Option (Bor (List ℕ)) → Option (List ℕ)
line_view (Some bytes) = Some bytes.now
line_view None = None

pub gives_listed : (text left : List ℕ) (given : Option (Option (Bor (List ℕ)))) → GivesLine text given left
    → YieldsFirstBy line_view (λ bytes. listed (lines_of bytes)) text given left
unfolding listed cut
gives_listed text left None empty = rw (empty.0, empty.1) (refl, refl)
gives_listed text left (Some None) bytes = rw bytes.1 (listed_unended text bytes.0)
gives_listed text left (Some (Some line)) first = listed_line text line.now left first

-- ---- a caller that refuses the bytes after the last line feed, with `ok_or`

module _ {E : Type 0} (refusal : E) (text left : List ℕ) where
  pub given_unended : (given : Option (Bor (List ℕ))) → GivesLine text (Some given) left → (error : E) → ok_or given refusal ≡ Err error → IsUnended text × (refusal ≡ error)
  given_unended None gives error refused = (gives.0, cc)
  given_unended (Some line) gives error other = cc

  pub given_line : (given : Option (Bor (List ℕ))) → GivesLine text (Some given) left → (line : Bor (List ℕ)) → ok_or given refusal ≡ Ok line → IsFirstLine text line.now left
  given_line None gives line other = cc
  given_line (Some own) gives line taken = let same : own ≡ line = cc in rw same at gives
