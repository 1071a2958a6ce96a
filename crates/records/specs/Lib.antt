-- Definitions and laws of the crate `records`: a line of a dictionary text as ten words. A definition's laws stand in the file of its name with `Laws`, its
-- examples in the one with `Cases`.
pub mod RecordKind
pub mod RecordKindLaws
pub mod Records
pub mod RecordsLaws
pub mod LettersLaws
pub mod RecordsCases
pub mod KnownLines
pub mod WordPairs
pub mod LineTexts
pub mod LineLengths
pub mod NumeralLaws
pub mod TypeTextLaws
pub mod TypeSpellings
pub mod WordTextLaws
pub mod LineTextsLaws
pub mod LinePartReadLaws
pub mod LineReadLaws
pub mod LineLengthLaws
