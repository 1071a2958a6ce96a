-- The lines of a text one after the other, as an iterator gives them (`TextLines` of text_lines.rt): each line without its line feed, and `None` for the
-- bytes after the last line feed. Document 01: "a last line without its line feed is of no known form". Assumes nothing.
--
--   listed lines                   the list of what the iterator gives
--   IsFirstLine text line left     the text is the line, a line feed, and the bytes that are left
--   IsUnended text                 the text has bytes and no line feed
--   GivesLine text given left      what a call of `next` gives where the text is left, and what it leaves of it
use Rattle.std.specs.Prelude.{◌≡◌, ℕ, List, [], ◌∷◌, ◌++◌, true, Option, Some, None, MatchOption}
use denote.Ref.{Bor}
use Rattle.ascii.specs.Bytes.{non_empty}
use Rattle.lines.specs.Lines.{Pieces, last, piece, lines_of, line_feed}

unfoldable pub listed : Pieces → List (Option (List ℕ))
listed (last []) = []
listed (last (byte ∷ bytes)) = None ∷ []
listed (piece line others) = Some line ∷ listed others

pub record IsFirstLine (text line left : List ℕ) : Type 0 where
  pub bytes : text ≡ line ++ (line_feed ∷ left)
  pub cut_off : lines_of text ≡ piece line (lines_of left)

pub record IsUnended (text : List ℕ) : Type 0 where
  pub some_byte : non_empty text ≡ true
  pub uncut : lines_of text ≡ last text

abbrev pub GivesLine : List ℕ → Option (Option (Bor (List ℕ))) → List ℕ → Type 0
GivesLine text given left =
    MatchOption given ((text ≡ []) × (left ≡ []))
    (λ line. MatchOption line (IsUnended text × (left ≡ [])) (λ bytes. IsFirstLine text bytes.now left))
