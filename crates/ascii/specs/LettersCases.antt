-- Examples of `is_letter` and `is_alpha_of_len`, by computation: the letters' neighbours in ASCII, and lengths. Assumes nothing.
use Rattle.std.specs.Prelude.{◌≡◌, refl, true, false}
use Prim.Native.Char.{code}
use Rattle.ascii.specs.Notation.{is_between}
use Rattle.ascii.specs.Bytes.{ascii}
use Rattle.ascii.specs.Letters.{is_letter, is_alpha_of_len}

pub record LettersCases : Type 0 where
  pub first_capital : is_letter (code "A") ≡ true
  pub last_capital : is_letter (code "Z") ≡ true
  pub first_small : is_letter (code "a") ≡ true
  pub last_small : is_letter (code "z") ≡ true
  pub before_capitals : is_letter (code "@") ≡ false
  pub behind_capitals : is_letter (code "[") ≡ false
  pub before_small : is_letter (code "`") ≡ false
  pub behind_small : is_letter (code "{") ≡ false
  pub digit : is_letter (code "7") ≡ false
  pub currency : is_alpha_of_len 3 (ascii "USD") ≡ true
  pub small_letters : is_alpha_of_len 3 (ascii "usd") ≡ true
  pub too_short : is_alpha_of_len 3 (ascii "US") ≡ false
  pub too_long : is_alpha_of_len 3 (ascii "USDX") ≡ false
  pub a_digit : is_alpha_of_len 3 (ascii "US1") ≡ false

pub letters-cases : LettersCases
unfolding is_between
letters-cases = record {
  first_capital = refl;
  last_capital = refl;
  first_small = refl;
  last_small = refl;
  before_capitals = refl;
  behind_capitals = refl;
  before_small = refl;
  behind_small = refl;
  digit = refl;
  currency = refl;
  small_letters = refl;
  too_short = refl;
  too_long = refl;
  a_digit = refl;
}
