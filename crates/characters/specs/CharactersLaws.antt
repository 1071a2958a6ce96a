-- Laws of `Characters.antt`, in its order. Assumes nothing.
use Rattle.std.specs.Prelude.{◌≡◌, refl, ℕ, suc, ◌+◌, ◌≤◌, ◌<◌, Bool, true, false, cond, List, [], ◌∷◌, ◌++◌, ltb, leb, length, get_or, drop}
use Rattle.std.proofs.Common.{ap, ◌∙◌, arith, drop_of_length-le, ltb-true, le-leb, lt-ltb, le-ltb}
use Rattle.std.proofs.lemmas.Bool.{lt-leb}
use Rattle.characters.specs.declared.characters.Expected.{Expected}
use Rattle.ascii.specs.Notation.{is_between}
use Rattle.ascii.specs.NotationLaws.{and_left, and-false, is_between-below, is_between-from}
use Rattle.ascii.specs.Bytes.{non_empty}
use Rattle.ascii.specs.BytesLaws.{drop-step}
use Rattle.characters.specs.Characters.{expects, nothing_expected, expected_after, continues, next, characters_from, characters, leads_from, leads}

-- ---- expected_after, row by row

-- a lead byte in a row of the table, after it, before it
module _ (low high lead : ℕ) (row others : Expected) where
  in_row : low ≤ lead → lead ≤ high → cond (is_between low high lead) row others ≡ row
  in_row from to = rw (is_between-from low high lead from, le-leb lead high to)

  over-row : high < lead → cond (is_between low high lead) row others ≡ others
  unfolding is_between
  over-row over = rw (lt-leb lead high over, and-false (leb low lead))

  under_row : lead < low → cond (is_between low high lead) row others ≡ others
  under_row under = rw (is_between-below low high lead under)

module _ (lead : ℕ) where
  pub expected_after-below : lead < 0xC2 → expected_after lead ≡ nothing_expected
  unfolding expected_after
  expected_after-below before =
      under_row _ _ _ _ _ (omega arith)
      ∙ under_row _ _ _ _ _ (omega arith)
      ∙ under_row _ _ _ _ _ (omega arith)
      ∙ under_row _ _ _ _ _ (omega arith)
      ∙ under_row _ _ _ _ _ (omega arith)
      ∙ under_row _ _ _ _ _ (omega arith)
      ∙ under_row _ _ _ _ _ (omega arith)
      ∙ under_row _ _ _ _ _ (omega arith)

  pub expected_after-C2_DF : 0xC2 ≤ lead → lead ≤ 0xDF → expected_after lead ≡ expects 1 0x80 0xBF
  unfolding expected_after
  expected_after-C2_DF from to = in_row _ _ _ _ _ from to

  pub expected_after-E0 : 0xE0 ≤ lead → lead ≤ 0xE0 → expected_after lead ≡ expects 2 0xA0 0xBF
  unfolding expected_after
  expected_after-E0 from to = over-row _ _ _ _ _ (omega arith) ∙ in_row _ _ _ _ _ from to

  pub expected_after-E1_EC : 0xE1 ≤ lead → lead ≤ 0xEC → expected_after lead ≡ expects 2 0x80 0xBF
  unfolding expected_after
  expected_after-E1_EC from to =
      over-row _ _ _ _ _ (omega arith)
      ∙ over-row _ _ _ _ _ (omega arith)
      ∙ in_row _ _ _ _ _ from to

  pub expected_after-ED : 0xED ≤ lead → lead ≤ 0xED → expected_after lead ≡ expects 2 0x80 0x9F
  unfolding expected_after
  expected_after-ED from to =
      over-row _ _ _ _ _ (omega arith)
      ∙ over-row _ _ _ _ _ (omega arith)
      ∙ over-row _ _ _ _ _ (omega arith)
      ∙ in_row _ _ _ _ _ from to

  pub expected_after-EE_EF : 0xEE ≤ lead → lead ≤ 0xEF → expected_after lead ≡ expects 2 0x80 0xBF
  unfolding expected_after
  expected_after-EE_EF from to =
      over-row _ _ _ _ _ (omega arith)
      ∙ over-row _ _ _ _ _ (omega arith)
      ∙ over-row _ _ _ _ _ (omega arith)
      ∙ over-row _ _ _ _ _ (omega arith)
      ∙ in_row _ _ _ _ _ from to

  pub expected_after-F0 : 0xF0 ≤ lead → lead ≤ 0xF0 → expected_after lead ≡ expects 3 0x90 0xBF
  unfolding expected_after
  expected_after-F0 from to =
      over-row _ _ _ _ _ (omega arith)
      ∙ over-row _ _ _ _ _ (omega arith)
      ∙ over-row _ _ _ _ _ (omega arith)
      ∙ over-row _ _ _ _ _ (omega arith)
      ∙ over-row _ _ _ _ _ (omega arith)
      ∙ in_row _ _ _ _ _ from to

  pub expected_after-F1_F3 : 0xF1 ≤ lead → lead ≤ 0xF3 → expected_after lead ≡ expects 3 0x80 0xBF
  unfolding expected_after
  expected_after-F1_F3 from to =
      over-row _ _ _ _ _ (omega arith)
      ∙ over-row _ _ _ _ _ (omega arith)
      ∙ over-row _ _ _ _ _ (omega arith)
      ∙ over-row _ _ _ _ _ (omega arith)
      ∙ over-row _ _ _ _ _ (omega arith)
      ∙ over-row _ _ _ _ _ (omega arith)
      ∙ in_row _ _ _ _ _ from to

  pub expected_after-F4 : 0xF4 ≤ lead → lead ≤ 0xF4 → expected_after lead ≡ expects 3 0x80 0x8F
  unfolding expected_after
  expected_after-F4 from to =
      over-row _ _ _ _ _ (omega arith)
      ∙ over-row _ _ _ _ _ (omega arith)
      ∙ over-row _ _ _ _ _ (omega arith)
      ∙ over-row _ _ _ _ _ (omega arith)
      ∙ over-row _ _ _ _ _ (omega arith)
      ∙ over-row _ _ _ _ _ (omega arith)
      ∙ over-row _ _ _ _ _ (omega arith)
      ∙ in_row _ _ _ _ _ from to

  pub expected_after-above : 0xF5 ≤ lead → expected_after lead ≡ nothing_expected
  unfolding expected_after
  expected_after-above from =
      over-row _ _ _ _ _ (omega arith)
      ∙ over-row _ _ _ _ _ (omega arith)
      ∙ over-row _ _ _ _ _ (omega arith)
      ∙ over-row _ _ _ _ _ (omega arith)
      ∙ over-row _ _ _ _ _ (omega arith)
      ∙ over-row _ _ _ _ _ (omega arith)
      ∙ over-row _ _ _ _ _ (omega arith)
      ∙ over-row _ _ _ _ _ (omega arith)

-- what is expected lies after ASCII
pub record BehindAscii (expected : Expected) : Type 0 where
  pub from : 0x80 ≤ expected.low

expects-behind : (more low high : ℕ) → 0x80 ≤ low → BehindAscii (expects more low high)
expects-behind more low high behind = record { from = behind }

behind-by : (test : Bool) (row others : Expected) → BehindAscii row → BehindAscii others → BehindAscii (cond test row others)
behind-by true row others of_row of_others = of_row
behind-by false row others of_row of_others = of_others

pub expected_after-behind : (lead : ℕ) → BehindAscii (expected_after lead)
unfolding expected_after
expected_after-behind lead =
    behind-by (is_between 0xC2 0xDF lead) _ _ (expects-behind 1 0x80 0xBF (omega arith))
    (behind-by (is_between 0xE0 0xE0 lead) _ _ (expects-behind 2 0xA0 0xBF (omega arith))
    (behind-by (is_between 0xE1 0xEC lead) _ _ (expects-behind 2 0x80 0xBF (omega arith))
    (behind-by (is_between 0xED 0xED lead) _ _ (expects-behind 2 0x80 0x9F (omega arith))
    (behind-by (is_between 0xEE 0xEF lead) _ _ (expects-behind 2 0x80 0xBF (omega arith))
    (behind-by (is_between 0xF0 0xF0 lead) _ _ (expects-behind 3 0x90 0xBF (omega arith))
    (behind-by (is_between 0xF1 0xF3 lead) _ _ (expects-behind 3 0x80 0xBF (omega arith))
    (behind-by (is_between 0xF4 0xF4 lead) _ _ (expects-behind 3 0x80 0x8F (omega arith)) (expects-behind 0 0x80 0xBF (omega arith)))))))))

-- ---- continues

pub continues_more : (expected : Expected) (byte : ℕ) → continues expected byte ≡ true → 0 < expected.more
unfolding continues
continues_more expected byte going_on = ltb-true _ _ (and_left _ _ going_on)

pub continues-none : (expected : Expected) (byte : ℕ) → expected.more ≡ 0 → continues expected byte ≡ false
unfolding continues
continues-none expected byte none = rw (le-ltb 0 expected.more (omega arith))

pub continues-some : (expected : Expected) (byte : ℕ) → 0 < expected.more → continues expected byte ≡ is_between expected.low expected.high byte
unfolding continues
continues-some expected byte some = rw (lt-ltb 0 expected.more some)

-- an ASCII byte continues no character
pub continues-ascii : (expected : Expected) (byte : ℕ) → BehindAscii expected → byte < 0x80 → continues expected byte ≡ false
unfolding continues
continues-ascii expected byte behind small = rw (is_between-below expected.low expected.high byte (omega arith), and-false (ltb 0 expected.more))

-- ---- characters_from

module _ (expected : Expected) (value : List ℕ) (index : ℕ) where
  pub characters_from_step : index < length value
      → characters_from expected (drop index value)
      ≡ cond (continues expected (get_or value index 0))
      (characters_from (next expected) (drop (index + 1) value))
      (suc (characters_from (expected_after (get_or value index 0)) (drop (index + 1) value)))
  unfolding characters_from
  characters_from_step inside = rw (drop-step value index inside)

  pub characters_from-continues : index < length value → continues expected (get_or value index 0) ≡ true
      → characters_from expected (drop index value) ≡ characters_from (next expected) (drop (index + 1) value)
  unfolding characters_from
  characters_from-continues inside going_on = rw (drop-step value index inside, going_on)

  pub characters_from-begins : index < length value → continues expected (get_or value index 0) ≡ false
      → characters_from expected (drop index value) ≡ suc (characters_from (expected_after (get_or value index 0)) (drop (index + 1) value))
  unfolding characters_from
  characters_from-begins inside new = rw (drop-step value index inside, new)

  pub characters_from_end : length value ≤ index → characters_from expected (drop index value) ≡ 0
  unfolding characters_from
  characters_from_end over = rw (drop_of_length-le value over)

-- what a loop that counts the characters cites
pub ruleset counting = (continues_more, characters_from_step, characters_from_end)

-- ---- characters

-- an ASCII byte is a character of its own, and parts the characters before it from those after it
characters_from-parted_by : (test : Bool) (ascii : ℕ) (expected : Expected) (byte : ℕ) (before behind : List ℕ)
    → characters_from (next expected) (before ++ (ascii ∷ behind)) ≡ characters_from (next expected) before + suc (characters behind)
    → characters_from (expected_after byte) (before ++ (ascii ∷ behind)) ≡ characters_from (expected_after byte) before + suc (characters behind)
    → cond test (characters_from (next expected) (before ++ (ascii ∷ behind))) (suc (characters_from (expected_after byte) (before ++ (ascii ∷ behind))))
    ≡ cond test (characters_from (next expected) before) (suc (characters_from (expected_after byte) before)) + suc (characters behind)
characters_from-parted_by true ascii expected byte before behind continued begun = continued
characters_from-parted_by false ascii expected byte before behind continued begun = omega arith

characters_from-parted : (ascii : ℕ) → ascii < 0x80 → (expected : Expected) → BehindAscii expected → (before behind : List ℕ)
    → characters_from expected (before ++ (ascii ∷ behind)) ≡ characters_from expected before + suc (characters behind)
unfolding characters_from characters
characters_from-parted ascii small expected range [] behind =
    rw (continues-ascii expected ascii range small, expected_after-below ascii (omega arith)) (omega arith)
characters_from-parted ascii small expected range (byte ∷ before) behind =
    characters_from-parted_by
    (continues expected byte)
    ascii
    expected
    byte
    before
    behind
    (characters_from-parted ascii small (next expected) (record { from = omega arith }) before behind)
    (characters_from-parted ascii small (expected_after byte) (expected_after-behind byte) before behind)

pub characters-parted : (ascii : ℕ) → ascii < 0x80 → (before behind : List ℕ)
    → characters (before ++ (ascii ∷ behind)) ≡ characters before + 1 + characters behind
unfolding characters
characters-parted ascii small before behind =
    omega (arith, characters_from-parted ascii small nothing_expected (record { from = omega arith }) before behind)

-- ---- leads_from

module _ (expected : Expected) (byte : ℕ) (rest : List ℕ) where
  pub leads_from-continues : continues expected byte ≡ true → leads_from expected (byte ∷ rest) ≡ leads_from (next expected) rest
  unfolding leads_from
  leads_from-continues going_on = rw going_on

  pub leads_from-begins : continues expected byte ≡ false → leads_from expected (byte ∷ rest) ≡ byte ∷ leads_from (expected_after byte) rest
  unfolding leads_from
  leads_from-begins other = rw other

length-leads_by : (test : Bool) (byte : ℕ) (continued begun : List ℕ) (m n : ℕ) → length continued ≡ m → length begun ≡ n
    → length (cond test continued (byte ∷ begun)) ≡ cond test m (suc n)
length-leads_by true byte continued begun m n of-continued of-begun = of-continued
length-leads_by false byte continued begun m n of-continued of-begun = ap suc of-begun

-- a first byte for each character
pub length-leads_from : (expected : Expected) (value : List ℕ) → length (leads_from expected value) ≡ characters_from expected value
unfolding leads_from characters_from
length-leads_from expected [] = refl
length-leads_from expected (byte ∷ rest) =
    length-leads_by
    (continues expected byte)
    byte
    _
    _
    _
    _
    (length-leads_from (next expected) rest)
    (length-leads_from (expected_after byte) rest)

pub length-leads : (value : List ℕ) → length (leads value) ≡ characters value
unfolding characters
length-leads value = length-leads_from nothing_expected value

-- a value with a byte has a character
pub non_empty-leads : (value : List ℕ) → non_empty (leads value) ≡ non_empty value
unfolding non_empty leads_from
non_empty-leads [] = refl
non_empty-leads (byte ∷ rest) = rw (continues-none nothing_expected byte refl)
