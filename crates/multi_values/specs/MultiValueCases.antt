-- Examples of `is_multi_value_list`, by computation. Two of them are document 01's ('The verdict on a value'): `A B` good, which is not
-- starred there, and the same with two spaces between bad, which is. Assumes nothing.
use Rattle.std.specs.Prelude.{◌≡◌, refl, true, false, [], ◌∷◌, Some, None}
use Rattle.ascii.specs.Notation.{is_between}
use Rattle.ascii.specs.Bytes.{ascii, non_empty}
use Rattle.characters.specs.Characters.{expected_after, continues, characters_from, characters}
use Rattle.ascii.specs.Split.{with_first, split, every_part}
use Rattle.multi_values.specs.MultiValue.{is_multi_value_list}

pub record MultiValueCases : Type 0 where
  pub two_tokens : is_multi_value_list (Some 1) (ascii "A B") ≡ true
  pub two_spaces : is_multi_value_list (Some 1) (ascii "A  B") ≡ false
  pub one_token : is_multi_value_list (Some 1) (ascii "A") ≡ true
  pub empty : is_multi_value_list None [] ≡ false
  pub space_before : is_multi_value_list None (ascii " A") ≡ false
  pub space_behind : is_multi_value_list None (ascii "A ") ≡ false
  pub space_alone : is_multi_value_list None (ascii " ") ≡ false
  pub long_token : is_multi_value_list (Some 1) (ascii "A BC") ≡ false
  pub any_length : is_multi_value_list None (ascii "A BC") ≡ true
  -- a token that is no UTF-8: FF; E2 82, a character broken off by a space; C0 80
  pub no_lead : is_multi_value_list (Some 1) (0xFF ∷ []) ≡ true
  pub broken_off : is_multi_value_list (Some 1) (0xE2 ∷ 0x82 ∷ 0x20 ∷ 0x41 ∷ []) ≡ true
  pub overlong : is_multi_value_list (Some 1) (0xC0 ∷ 0x80 ∷ []) ≡ false

pub multi_value_cases : MultiValueCases
unfolding is_between non_empty expected_after continues characters_from characters with_first split every_part is_multi_value_list
multi_value_cases = record {
  two_tokens = refl;
  two_spaces = refl;
  one_token = refl;
  empty = refl;
  space_before = refl;
  space_behind = refl;
  space_alone = refl;
  long_token = refl;
  any_length = refl;
  no_lead = refl;
  broken_off = refl;
  overlong = refl;
}
