-- TYPE's spelling, its number and its meaning. `type_names` (lines) lists the names that a `def` line may
-- spell, `field_types` (field_types) the types that the numbers in a dictionary's words stand for; both
-- are in the order of schema.rs. `spelling_of`, which writes each name beside its variant, joins them:
-- exchange two names, two types or two numbers, and these laws fail. Assumes nothing.
--
--   names-spelled    the names are the spellings of the types, in their order
--   types-numbered   the types are numbered from 0, in their order
--   type-spelled     a type's spelling is read as its number, and the number stands for the type
--   name-read        a name that is read as a number is the spelling of the type it stands for
use Rattle.std.specs.Prelude.{◌≡◌, refl, ℕ, zero, suc, ◌+◌, ◌-◌, ◌≤◌, ◌<◌, Bool, true, false, cond, ◌&&◌, List, [], ◌∷◌, ◌++◌, map, eqb, length, get_or, Option, Some, None}
use Rattle.std.proofs.Common.{◌∙◌, arith, eqb-true, lt-ltb}
use Rattle.std.proofs.lemmas.Bool.{false≢true}
use Rattle.ascii.specs.NotationLaws.{and_left, and_right}
use Rattle.field_types.specs.declared.field_type.FieldType.{FieldType}
use Rattle.field_types.specs.declared.field_type.FieldType.TheVariants.{Int, Length, SeqNum, NumInGroup, TagNum, DayOfMonth, Float, Qty, Price, PriceOffset, Amt, Percentage, Char, Boolean, String, MultipleCharValue, MultipleStringValue, Country, Currency, Exchange, MonthYear, UtcTimestamp, UtcTimeOnly, UtcDateOnly, LocalMktDate, LocalMktTime, TzTimeOnly, TzTimestamp, Data, XmlData, Language, Pattern, Tenor, Reserved}
use Rattle.field_types.specs.FieldType.{field_types, number_of, type_numbered, spelling_of}
use Rattle.lines.specs.Lines.{starts_with, is_same, Pieces, last, piece, longer, cut, comma}
use Rattle.lines.specs.LineParts.{type_names, type_in, type_of}

-- ---- the lists

-- the spellings of the types, commas between them
abbrev spellings : List FieldType → List ℕ
spellings [] = []
spellings (type ∷ []) = spelling_of type
spellings (type ∷ next ∷ rest) = spelling_of type ++ (comma ∷ spellings (next ∷ rest))

pub names-spelled : type_names ≡ spellings field_types
unfolding spelling_of
names-spelled = refl

abbrev count_from : ℕ → ℕ → List ℕ
count_from first zero = []
count_from first (suc count) = first ∷ count_from (suc first) count

pub types-numbered : map number_of field_types ≡ count_from 0 34
types-numbered = refl

-- ---- a type: its spelling is read as its number, and its number stands for it

pub record Spelled (type : FieldType) : Type 0 where
  pub read : type_of (spelling_of type) ≡ Some (number_of type)
  pub meant : type_numbered (number_of type) ≡ Some type

pub type-spelled : (type : FieldType) → Spelled type
unfolding spelling_of type_numbered starts_with is_same longer cut type_in type_of
type-spelled Int = record { read = refl; meant = refl }
type-spelled Length = record { read = refl; meant = refl }
type-spelled SeqNum = record { read = refl; meant = refl }
type-spelled NumInGroup = record { read = refl; meant = refl }
type-spelled TagNum = record { read = refl; meant = refl }
type-spelled DayOfMonth = record { read = refl; meant = refl }
type-spelled Float = record { read = refl; meant = refl }
type-spelled Qty = record { read = refl; meant = refl }
type-spelled Price = record { read = refl; meant = refl }
type-spelled PriceOffset = record { read = refl; meant = refl }
type-spelled Amt = record { read = refl; meant = refl }
type-spelled Percentage = record { read = refl; meant = refl }
type-spelled Char = record { read = refl; meant = refl }
type-spelled Boolean = record { read = refl; meant = refl }
type-spelled String = record { read = refl; meant = refl }
type-spelled MultipleCharValue = record { read = refl; meant = refl }
type-spelled MultipleStringValue = record { read = refl; meant = refl }
type-spelled Country = record { read = refl; meant = refl }
type-spelled Currency = record { read = refl; meant = refl }
type-spelled Exchange = record { read = refl; meant = refl }
type-spelled MonthYear = record { read = refl; meant = refl }
type-spelled UtcTimestamp = record { read = refl; meant = refl }
type-spelled UtcTimeOnly = record { read = refl; meant = refl }
type-spelled UtcDateOnly = record { read = refl; meant = refl }
type-spelled LocalMktDate = record { read = refl; meant = refl }
type-spelled LocalMktTime = record { read = refl; meant = refl }
type-spelled TzTimeOnly = record { read = refl; meant = refl }
type-spelled TzTimestamp = record { read = refl; meant = refl }
type-spelled Data = record { read = refl; meant = refl }
type-spelled XmlData = record { read = refl; meant = refl }
type-spelled Language = record { read = refl; meant = refl }
type-spelled Pattern = record { read = refl; meant = refl }
type-spelled Tenor = record { read = refl; meant = refl }
type-spelled Reserved = record { read = refl; meant = refl }

-- ---- a name: what is read as a number is the spelling of the type that the number stands for

starts-same : (name bytes : List ℕ) → length name ≡ length bytes → starts_with name bytes ≡ true → name ≡ bytes
unfolding starts_with
starts-same [] [] long starts = refl
starts-same [] (first ∷ rest) long starts = absurd (omega arith)
starts-same (byte ∷ name) [] long starts = absurd (omega arith)
starts-same (byte ∷ name) (first ∷ rest) long starts =
    let here = and_left (eqb byte first) (starts_with name rest) starts in
    let later = and_right (eqb byte first) (starts_with name rest) starts in
    let same_byte : byte ≡ first = eqb-true byte first here in
    let same_rest : name ≡ rest = starts-same name rest (omega arith) later in
    rw (same_byte, same_rest)

same_bytes : (name bytes : List ℕ) → is_same name bytes ≡ true → name ≡ bytes
unfolding is_same
same_bytes name bytes same =
    let as_long = eqb (length name) (length bytes) in
    let long : length name ≡ length bytes = eqb-true _ _ (and_left as_long (starts_with name bytes) same) in
    starts-same name bytes long (and_right as_long (starts_with name bytes) same)

-- the pieces are the spellings of the first types
abbrev are_spelled : Pieces → List FieldType → Bool
are_spelled (last bytes) [] = false
are_spelled (last bytes) (type ∷ rest) = is_same bytes (spelling_of type)
are_spelled (piece bytes others) [] = false
are_spelled (piece bytes others) (type ∷ rest) = is_same bytes (spelling_of type) && are_spelled others rest

-- of types numbered from `first` on, the one that is found is spelled by the name
abbrev FoundBy : List ℕ → ℕ → List FieldType → Option ℕ → Type 0
FoundBy name first types (Some number) =
    (first ≤ number)
    × ((number < first + length types) × (name ≡ spelling_of (get_or types (number - first) Int)))
FoundBy name first types None = Unit

found-last : (name bytes : List ℕ) (first : ℕ) (type : FieldType) (rest : List FieldType)
    (same : Bool)
    → is_same name bytes ≡ same
    → bytes ≡ spelling_of type
    → FoundBy name first (type ∷ rest) (cond same (Some first) None)
found-last name bytes first type rest true test spelled =
    let none : first - first ≡ 0 = omega arith in
    (omega arith, (omega arith, rw none (same_bytes name bytes test ∙ spelled)))
found-last name bytes first type rest false test spelled = tt

found-later : (name : List ℕ) (first : ℕ) (type : FieldType) (rest : List FieldType)
    (found : Option ℕ)
    → FoundBy name (first + 1) rest found
    → FoundBy name first (type ∷ rest) found
found-later name first type rest (Some number) later =
    let next : number - first ≡ suc (number - (first + 1)) = omega (arith, later.0) in
    (omega (arith, later.0), (omega (arith, later.1.0), rw next later.1.1))
found-later name first type rest None later = tt

found-piece : (name bytes : List ℕ) (first : ℕ) (others : Pieces) (type : FieldType)
    (rest : List FieldType) (same : Bool)
    → is_same name bytes ≡ same
    → bytes ≡ spelling_of type
    → FoundBy name (first + 1) rest (type_in name (first + 1) others)
    → FoundBy name first (type ∷ rest) (cond same (Some first) (type_in name (first + 1) others))
found-piece name bytes first others type rest true test spelled later =
    found-last name bytes first type rest true test spelled
found-piece name bytes first others type rest false test spelled later =
    found-later name first type rest (type_in name (first + 1) others) later

found-by : (name : List ℕ) (first : ℕ) (pieces : Pieces) (types : List FieldType)
    → are_spelled pieces types ≡ true
    → FoundBy name first types (type_in name first pieces)
unfolding type_in
found-by name first (last bytes) [] spelled = absurd (false≢true spelled)
found-by name first (last bytes) (type ∷ rest) spelled =
    found-last name bytes first type rest (is_same name bytes) refl (same_bytes bytes _ spelled)
found-by name first (piece bytes others) [] spelled = absurd (false≢true spelled)
found-by name first (piece bytes others) (type ∷ rest) spelled =
    let here = and_left (is_same bytes (spelling_of type)) (are_spelled others rest) spelled in
    let there = and_right (is_same bytes (spelling_of type)) (are_spelled others rest) spelled in
    let deeper = found-by name (first + 1) others rest there in
    found-piece name bytes first others type rest (is_same name bytes) refl (same_bytes bytes _ here) deeper

are_spelled_lem : are_spelled (cut comma type_names) field_types ≡ true
unfolding spelling_of starts_with is_same longer cut
are_spelled_lem = refl

pub record Named (name : List ℕ) (number : ℕ) : Type 0 where
  pub spelled : name ≡ spelling_of (get_or field_types number Int)
  pub meant : type_numbered number ≡ Some (get_or field_types number Int)

pub name-read : (name : List ℕ) (number : ℕ) → type_of name ≡ Some number → Named name number
unfolding type_of type_numbered
name-read name number read =
    let by = found-by name 0 (cut comma type_names) field_types are_spelled_lem in
    let found : FoundBy name 0 field_types (Some number) = rw read at by in
    let same : number - 0 ≡ number = omega arith in
    let few : number < 34 = omega (arith, found.1.0) in
    record { spelled = rw same at found.1.1; meant = rw (lt-ltb number 34 few) }
