-- `ListLines.antt` on the lines of document 01's 'One list in full', the names of the other kinds, and the largest number. Assumes nothing.
use Rattle.std.specs.Prelude.{◌≡◌, refl, ℕ, List, [], ◌∷◌, ◌++◌}
use Prim.Native.String.{String}
use Rattle.ascii.specs.Bytes.{ascii}
use Rattle.refusals.specs.declared.refusal.Refusal.TheVariants.{TypeNotDefined, RuleBroken}
use Rattle.records.specs.LineTexts.{digits_of}
use Rattle.list_lines.specs.ListLines.{feed, labelled, type_line, kind_name, event_line, verdict_digits, verdict_line, refused_line}

abbrev ended : String → List ℕ
ended line = ascii line ++ feed

pub type-line : type_line (ascii "D") 5 ≡ ended "type=D fields=5"
unfolding digits_of labelled type_line
type-line = refl

pub enter_line : event_line 1 453 0 0 0 ≡ ended "event=enter group=453 depth=0 a=0 b=0"
unfolding digits_of labelled kind_name event_line
enter_line = refl

pub close_line : event_line 5 453 0 1 1 ≡ ended "event=close group=453 depth=0 a=1 b=1"
unfolding digits_of labelled kind_name event_line
close_line = refl

pub leave_line : event_line 8 453 0 1 2 ≡ ended "event=leave group=453 depth=0 a=1 b=2"
unfolding digits_of labelled kind_name event_line
leave_line = refl

pub verdict_line_lem : verdict_line (0 ∷ 0 ∷ 0 ∷ 0 ∷ 0 ∷ []) ≡ ended "verdicts=00000"
unfolding verdict_digits verdict_line
verdict_line_lem = refl

pub other_verdicts : verdict_line (0 ∷ 1 ∷ 2 ∷ 3 ∷ []) ≡ ended "verdicts=0123"
unfolding verdict_digits verdict_line
other_verdicts = refl

pub refused-line : refused_line TypeNotDefined ≡ ended "refused=6 place=0"
unfolding digits_of labelled refused_line
refused-line = refl

pub rule_line : refused_line (RuleBroken 3 453) ≡ ended "refused=11 place=12884902341"
unfolding digits_of labelled refused_line
rule_line = refl

-- kind 6, miscount: the declared count is any number of 64 bits
pub largest : event_line 6 4294967295 32 18446744073709551615 0 ≡ ended "event=miscount group=4294967295 depth=32 a=18446744073709551615 b=0"
unfolding digits_of labelled kind_name event_line
largest = refl

pub other_names : kind_name 2 ++ kind_name 3 ++ kind_name 4 ++ kind_name 7 ++ kind_name 9 ++ kind_name 10 ++ kind_name 11 ≡ ascii "badcountdelimrepeatdeeptwiceforeignmissing"
unfolding kind_name
other_names = refl
