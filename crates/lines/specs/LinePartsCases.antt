-- Parts of lines, read by the definitions of `LineParts.antt`: the limits of each form. Assumes nothing.
use Rattle.std.specs.Prelude.{◌≡◌, refl, Some, None, true, false}
use Rattle.ascii.specs.Notation.{is_between}
use Rattle.ascii.specs.Bytes.{ascii, non_empty}
use Rattle.lines.specs.Lines.{starts_with, is_same, longer, cut}
use Rattle.lines.specs.LineParts.{no_leading_zero, number_of, flag_of, type_in, type_of, word_at, is_alphanumeric, message_type_of, value_of}

pub record Numbers : Type 0 where
  pub zero_alone : number_of (ascii "0") ≡ Some 0
  pub leading_zero : number_of (ascii "01") ≡ None
  pub nothing : number_of (ascii "") ≡ None
  pub sign : number_of (ascii "+1") ≡ None
  pub largest : number_of (ascii "4294967295") ≡ Some 4294967295
  pub over : number_of (ascii "4294967296") ≡ None

pub numbers : Numbers
unfolding is_between non_empty no_leading_zero number_of
numbers = record { zero_alone = refl; leading_zero = refl; nothing = refl; sign = refl; largest = refl; over = refl }

pub record Flags : Type 0 where
  pub one : flag_of (ascii "1") ≡ (Some true)
  pub zero_flag : flag_of (ascii "0") ≡ (Some false)
  pub two : flag_of (ascii "2") ≡ None
  pub two_bytes : flag_of (ascii "01") ≡ None

pub flags : Flags
unfolding flag_of
flags = record { one = refl; zero_flag = refl; two = refl; two_bytes = refl }

pub record Types : Type 0 where
  pub first : type_of (ascii "Int") ≡ Some 0
  pub timestamp : type_of (ascii "UtcTimestamp") ≡ Some 21
  pub final : type_of (ascii "Reserved") ≡ Some 33
  pub other_case : type_of (ascii "INT") ≡ None
  pub part : type_of (ascii "Price,PriceOffset") ≡ None
  pub nothing : type_of (ascii "") ≡ None

pub types : Types
unfolding starts_with is_same longer cut type_in type_of
types = record { first = refl; timestamp = refl; final = refl; other_case = refl; part = refl; nothing = refl }

pub record MessageTypes : Type 0 where
  pub one_letter : message_type_of (ascii "D") ≡ Some 1140850688
  pub four : message_type_of (ascii "0453") ≡ Some 808727859
  pub five : message_type_of (ascii "ABCDE") ≡ None
  pub hyphen : message_type_of (ascii "A-") ≡ None
  pub nothing : message_type_of (ascii "") ≡ None

pub message_types : MessageTypes
unfolding is_between word_at is_alphanumeric message_type_of
message_types = record { one_letter = refl; four = refl; five = refl; hyphen = refl; nothing = refl }

pub record Values : Type 0 where
  pub space : value_of (ascii "A B") ≡ None
  pub nothing : value_of (ascii "") ≡ None
  pub thirty_three : value_of (ascii "123456789012345678901234567890123") ≡ None

pub values : Values
unfolding is_between value_of
values = record { space = refl; nothing = refl; thirty_three = refl }
