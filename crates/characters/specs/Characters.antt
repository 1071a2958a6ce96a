-- The number of characters of a value after the Rust's `String::from_utf8_lossy`: the characters of well-formed UTF-8 (Unicode, table 3-7,
-- 'Well-Formed UTF-8 Byte Sequences'), and one, U+FFFD, for each maximal invalid part. Assumes nothing.
--
-- A maximal invalid part is what there is of a character that is broken off (E2 82 before A), or else one byte that begins no character
-- (80, C0, FF). So every byte either continues the open character or begins a new one, valid or not, and the number of characters is the
-- number of bytes that continue nothing. An open character is known by what it still expects, the code's struct `Expected`: `more` bytes,
-- of which the next is one of `low` to `high`; the bytes after that one are 80 to BF in every row of the table.
--
--   expects more low high           the state with these three numbers
--   nothing_expected                 no character is open
--   expected_after lead              what a character that begins with this byte expects
--   continues expected byte         the byte continues the open character
--   next expected                   what the open character expects after a byte that continued it
--   characters_from expected value   the number of characters that begin in the value, where before it one is open that expects this
--   characters value                the number of characters of the value
--   leads_from expected value        the first bytes of the characters that begin in the value, where before it one is open that expects this
--   leads value                     the value's characters in their order, each by its first byte (that of a space is 20)
use Rattle.std.specs.Prelude.{ℕ, suc, ◌-◌, Bool, ◌&&◌, List, [], ◌∷◌, if◌then◌else◌}
use Rattle.characters.specs.declared.characters.Expected.{Expected}
use Rattle.ascii.specs.Notation.{◌<ᵇ◌, is_between}

abbrev pub expects : ℕ → ℕ → ℕ → Expected
expects more low high = record { more = more; low = low; high = high }

abbrev pub nothing_expected : Expected
nothing_expected = expects 0 0x80 0xBF

-- the rows of table 3-7 after 00..7F, by the first byte; the range is that of the second
unfoldable pub expected_after : ℕ → Expected
expected_after lead =
    if is_between 0xC2 0xDF lead then expects 1 0x80 0xBF
    else if is_between 0xE0 0xE0 lead then expects 2 0xA0 0xBF
    else if is_between 0xE1 0xEC lead then expects 2 0x80 0xBF
    else if is_between 0xED 0xED lead then expects 2 0x80 0x9F
    else if is_between 0xEE 0xEF lead then expects 2 0x80 0xBF
    else if is_between 0xF0 0xF0 lead then expects 3 0x90 0xBF
    else if is_between 0xF1 0xF3 lead then expects 3 0x80 0xBF
    else if is_between 0xF4 0xF4 lead then expects 3 0x80 0x8F
    else nothing_expected

unfoldable pub continues : Expected → ℕ → Bool
continues expected byte = 0 <ᵇ expected.more && is_between expected.low expected.high byte

abbrev pub next : Expected → Expected
next expected = expects (expected.more - 1) 0x80 0xBF

unfoldable pub characters_from : Expected → List ℕ → ℕ
characters_from expected [] = 0
characters_from expected (byte ∷ rest) =
    if continues expected byte
    then characters_from (next expected) rest
    else suc (characters_from (expected_after byte) rest)

unfoldable pub characters : List ℕ → ℕ
characters value = characters_from nothing_expected value

unfoldable pub leads_from : Expected → List ℕ → List ℕ
leads_from expected [] = []
leads_from expected (byte ∷ rest) =
    if continues expected byte
    then leads_from (next expected) rest
    else byte ∷ leads_from (expected_after byte) rest

abbrev pub leads : List ℕ → List ℕ
leads value = leads_from nothing_expected value
