-- The lines of the list (document 01, 'One list in full'), as bytes, each with its line feed. Assumes nothing.
--
--   numeral_of n                        the number in decimal, without leading zeros
--   labelled label n                   the label and the number
--   kind_name kind                      the name of an event's kind in the table of 'The events of a walk', no bytes for another number
--   type_line type fields               type=D fields=5
--   event_line kind group depth a b     event=enter group=453 depth=0 a=0 b=0
--   verdict_line verdicts               verdicts=00000
--   refused_line refusal                refused=N place=P
use Rattle.std.specs.Prelude.{ℕ, ◌+◌, ◌%◌, List, [], ◌∷◌, ◌++◌, if◌then◌else◌}
use Prim.Native.Char.{code}
use Rattle.ascii.specs.Notation.{◌≡ᵇ◌}
use Rattle.ascii.specs.Bytes.{ascii}
use Rattle.refusals.specs.declared.refusal.Refusal.{Refusal}
use Rattle.refusals.specs.Refusal.{refusal_number, refusal_place}
use Rattle.lines.specs.Lines.{line_feed}
use Rattle.records.specs.LineTexts.{digits_of}

abbrev pub feed : List ℕ
feed = line_feed ∷ []

-- a number of 64 bits has at most twenty digits
abbrev pub numeral_of : ℕ → List ℕ
numeral_of n = digits_of 20 n

unfoldable pub labelled : List ℕ → ℕ → List ℕ
labelled label n = label ++ numeral_of n

-- ---- type=D fields=5

unfoldable pub type_line : List ℕ → ℕ → List ℕ
type_line type fields = ascii "type=" ++ (type ++ (labelled (ascii " fields=") fields ++ feed))

-- ---- event=enter group=453 depth=0 a=0 b=0

unfoldable pub kind_name : ℕ → List ℕ
kind_name kind =
    if kind ≡ᵇ 1 then ascii "enter"
    else if kind ≡ᵇ 2 then ascii "badcount"
    else if kind ≡ᵇ 3 then ascii "delim"
    else if kind ≡ᵇ 4 then ascii "repeat"
    else if kind ≡ᵇ 5 then ascii "close"
    else if kind ≡ᵇ 6 then ascii "miscount"
    else if kind ≡ᵇ 7 then ascii "deep"
    else if kind ≡ᵇ 8 then ascii "leave"
    else if kind ≡ᵇ 9 then ascii "twice"
    else if kind ≡ᵇ 10 then ascii "foreign"
    else if kind ≡ᵇ 11 then ascii "missing"
    else []

unfoldable pub event_line : ℕ → ℕ → ℕ → ℕ → ℕ → List ℕ
event_line kind group depth a b =
    ascii "event="
    ++ (kind_name kind
    ++ (labelled (ascii " group=") group
    ++ (labelled (ascii " depth=") depth
    ++ (labelled (ascii " a=") a
    ++ (labelled (ascii " b=") b
    ++ feed)))))

-- ---- verdicts=00000: "One verdict digit a field."

unfoldable pub verdict_digits : List ℕ → List ℕ
verdict_digits [] = []
verdict_digits (verdict ∷ rest) = (code "0" + verdict % 10) ∷ verdict_digits rest

unfoldable pub verdict_line : List ℕ → List ℕ
verdict_line verdicts = ascii "verdicts=" ++ (verdict_digits verdicts ++ feed)

-- ---- refused=N place=P

unfoldable pub refused_line : Refusal → List ℕ
refused_line refusal = labelled (ascii "refused=") (refusal_number refusal) ++ (labelled (ascii " place=") (refusal_place refusal) ++ feed)
