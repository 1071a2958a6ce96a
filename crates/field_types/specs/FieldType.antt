-- The data types of FIX fields: schema.rs's `FieldType`, in its order and with its names, and the form that a value of each must have
-- (schema.rs, `is_valid_value`; the data types of FIX 4.4, 5.0 and 5.0 SP2). Assumes nothing.
--
--   field_types             the 34 types in the Rust's order
--   number_of type          the type's place in that order, from 0
--   type_numbered number    the type of that number, where there is one
--   spelling_of type        the type's name, as a dictionary text spells it
--   format_of type          the form that its values have; several types share one
--   is_multi_value type      "this type carries a space-separated list of values" (schema.rs, `is_multi_value`)
use Rattle.std.specs.Prelude.{ℕ, Bool, true, false, List, [], ◌∷◌, get_or, if◌then◌else◌, Option, Some, None}
use Rattle.field_types.specs.declared.field_type.FieldType.{FieldType}
use Rattle.field_types.specs.declared.field_type.FieldType.TheVariants.{Int, Length, SeqNum, NumInGroup, TagNum, DayOfMonth, Float, Qty, Price, PriceOffset, Amt, Percentage, Char, Boolean, String, MultipleCharValue, MultipleStringValue, Country, Currency, Exchange, MonthYear, UtcTimestamp, UtcTimeOnly, UtcDateOnly, LocalMktDate, LocalMktTime, TzTimeOnly, TzTimestamp, Data, XmlData, Language, Pattern, Tenor, Reserved}
use Rattle.field_types.specs.declared.field_type.Format.{Format}
use Rattle.field_types.specs.declared.field_type.Format.TheVariants.{SignedInteger, UnsignedInteger, Day, Decimal, OneCharacter, YesOrNo, Tokens, Letters, YearMonth, Date, TimeOfDay, DateAndTime, Anything}
use Rattle.ascii.specs.Notation.{◌<ᵇ◌}
use Rattle.ascii.specs.Bytes.{ascii}

abbrev pub field_types : List FieldType
field_types =
    Int
    ∷ Length
    ∷ SeqNum
    ∷ NumInGroup
    ∷ TagNum
    ∷ DayOfMonth
    ∷ Float
    ∷ Qty
    ∷ Price
    ∷ PriceOffset
    ∷ Amt
    ∷ Percentage
    ∷ Char
    ∷ Boolean
    ∷ String
    ∷ MultipleCharValue
    ∷ MultipleStringValue
    ∷ Country
    ∷ Currency
    ∷ Exchange
    ∷ MonthYear
    ∷ UtcTimestamp
    ∷ UtcTimeOnly
    ∷ UtcDateOnly
    ∷ LocalMktDate
    ∷ LocalMktTime
    ∷ TzTimeOnly
    ∷ TzTimestamp
    ∷ Data
    ∷ XmlData
    ∷ Language
    ∷ Pattern
    ∷ Tenor
    ∷ Reserved
    ∷ []

abbrev pub number_of : FieldType → ℕ
number_of Int = 0
number_of Length = 1
number_of SeqNum = 2
number_of NumInGroup = 3
number_of TagNum = 4
number_of DayOfMonth = 5
number_of Float = 6
number_of Qty = 7
number_of Price = 8
number_of PriceOffset = 9
number_of Amt = 10
number_of Percentage = 11
number_of Char = 12
number_of Boolean = 13
number_of String = 14
number_of MultipleCharValue = 15
number_of MultipleStringValue = 16
number_of Country = 17
number_of Currency = 18
number_of Exchange = 19
number_of MonthYear = 20
number_of UtcTimestamp = 21
number_of UtcTimeOnly = 22
number_of UtcDateOnly = 23
number_of LocalMktDate = 24
number_of LocalMktTime = 25
number_of TzTimeOnly = 26
number_of TzTimestamp = 27
number_of Data = 28
number_of XmlData = 29
number_of Language = 30
number_of Pattern = 31
number_of Tenor = 32
number_of Reserved = 33

unfoldable pub type_numbered : ℕ → Option FieldType
type_numbered number = if number <ᵇ 34 then Some (get_or field_types number Int) else None

unfoldable pub spelling_of : FieldType → List ℕ
spelling_of Int = ascii "Int"
spelling_of Length = ascii "Length"
spelling_of SeqNum = ascii "SeqNum"
spelling_of NumInGroup = ascii "NumInGroup"
spelling_of TagNum = ascii "TagNum"
spelling_of DayOfMonth = ascii "DayOfMonth"
spelling_of Float = ascii "Float"
spelling_of Qty = ascii "Qty"
spelling_of Price = ascii "Price"
spelling_of PriceOffset = ascii "PriceOffset"
spelling_of Amt = ascii "Amt"
spelling_of Percentage = ascii "Percentage"
spelling_of Char = ascii "Char"
spelling_of Boolean = ascii "Boolean"
spelling_of String = ascii "String"
spelling_of MultipleCharValue = ascii "MultipleCharValue"
spelling_of MultipleStringValue = ascii "MultipleStringValue"
spelling_of Country = ascii "Country"
spelling_of Currency = ascii "Currency"
spelling_of Exchange = ascii "Exchange"
spelling_of MonthYear = ascii "MonthYear"
spelling_of UtcTimestamp = ascii "UtcTimestamp"
spelling_of UtcTimeOnly = ascii "UtcTimeOnly"
spelling_of UtcDateOnly = ascii "UtcDateOnly"
spelling_of LocalMktDate = ascii "LocalMktDate"
spelling_of LocalMktTime = ascii "LocalMktTime"
spelling_of TzTimeOnly = ascii "TzTimeOnly"
spelling_of TzTimestamp = ascii "TzTimestamp"
spelling_of Data = ascii "Data"
spelling_of XmlData = ascii "XmlData"
spelling_of Language = ascii "Language"
spelling_of Pattern = ascii "Pattern"
spelling_of Tenor = ascii "Tenor"
spelling_of Reserved = ascii "Reserved"

abbrev pub format_of : FieldType → Format
format_of Int = SignedInteger
format_of Length = UnsignedInteger
format_of SeqNum = UnsignedInteger
format_of NumInGroup = UnsignedInteger
format_of TagNum = UnsignedInteger
format_of DayOfMonth = Day
format_of Float = Decimal
format_of Qty = Decimal
format_of Price = Decimal
format_of PriceOffset = Decimal
format_of Amt = Decimal
format_of Percentage = Decimal
format_of Char = OneCharacter
format_of Boolean = YesOrNo
format_of String = Anything
format_of MultipleCharValue = Tokens (Some 1)
format_of MultipleStringValue = Tokens None
format_of Country = Letters 2
format_of Currency = Letters 3
format_of Exchange = Anything
format_of MonthYear = YearMonth
format_of UtcTimestamp = DateAndTime
format_of UtcTimeOnly = TimeOfDay
format_of UtcDateOnly = Date
format_of LocalMktDate = Date
format_of LocalMktTime = Anything
format_of TzTimeOnly = Anything
format_of TzTimestamp = Anything
format_of Data = Anything
format_of XmlData = Anything
format_of Language = Anything
format_of Pattern = Anything
format_of Tenor = Anything
format_of Reserved = Anything

abbrev pub is_multi_value : FieldType → Bool
is_multi_value Int = false
is_multi_value Length = false
is_multi_value SeqNum = false
is_multi_value NumInGroup = false
is_multi_value TagNum = false
is_multi_value DayOfMonth = false
is_multi_value Float = false
is_multi_value Qty = false
is_multi_value Price = false
is_multi_value PriceOffset = false
is_multi_value Amt = false
is_multi_value Percentage = false
is_multi_value Char = false
is_multi_value Boolean = false
is_multi_value String = false
is_multi_value MultipleCharValue = true
is_multi_value MultipleStringValue = true
is_multi_value Country = false
is_multi_value Currency = false
is_multi_value Exchange = false
is_multi_value MonthYear = false
is_multi_value UtcTimestamp = false
is_multi_value UtcTimeOnly = false
is_multi_value UtcDateOnly = false
is_multi_value LocalMktDate = false
is_multi_value LocalMktTime = false
is_multi_value TzTimeOnly = false
is_multi_value TzTimestamp = false
is_multi_value Data = false
is_multi_value XmlData = false
is_multi_value Language = false
is_multi_value Pattern = false
is_multi_value Tenor = false
is_multi_value Reserved = false
