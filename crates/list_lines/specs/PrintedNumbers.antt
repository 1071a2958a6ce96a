-- The numerals of `ListLines.antt` are what the library prints of a number. Assumes nothing.
use Rattle.std.specs.Prelude.{◌≡◌, ℕ, ◌+◌, ◌/◌, ◌%◌, ◌^◌, ◌≤◌, ◌<◌, List, [], ◌∷◌, ◌++◌}
use Rattle.std.specs.Fmt.{decimal}
use Rattle.std.proofs.Common.{sym, ap, ◌∙◌, arith}
use Rattle.std.proofs.lemmas.Fmt.{decimal_by_steps}
use Rattle.list_lines.specs.ListLines.{numeral_of}
use Rattle.list_lines.specs.ListLinesLaws.{numeral_of-one, numeral_of-more}

abbrev Printed : ℕ → List ℕ → Type 0
Printed n text = n < 2 ^ 64 → text ≡ numeral_of n

one-digit : (n : ℕ) → n < 10 → Printed n ((48 + n) ∷ [])
one-digit n small fits = sym (numeral_of-one n small)

more-digits : (n : ℕ) (front : List ℕ) → 10 ≤ n → Printed (n / 10) front → Printed n (front ++ ((48 + n % 10) ∷ []))
more-digits n front large before fits = ap (λ digits. digits ++ ((48 + n % 10) ∷ [])) (before (omega arith)) ∙ sym (numeral_of-more n large fits)

pub decimal-numeral : (n : ℕ) → n < 2 ^ 64 → decimal n ≡ numeral_of n
decimal-numeral n fits = decimal_by_steps Printed one-digit more-digits n fits fits
