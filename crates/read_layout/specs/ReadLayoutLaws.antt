-- Laws of `ReadLayout.antt`: each outcome by what leads to it, and what holds of the outcomes: what `read_layout` wrote passes the check of
-- lent words, and the rule of refusal 11 is broken at its tag. Assumes nothing.
--
--   Writable text parts   the layout of the text is within the limits, and `parts` counts it
use Rattle.std.specs.Prelude.{◌≡◌, refl, ℕ, ◌+◌, ◌*◌, ◌-◌, ◌≤◌, ◌<◌, Bool, true, false, ◌&&◌, cond, List, ◌++◌, length, take, drop, leb, Result, Ok, Err, is_ok, Option, Some, None}
use Rattle.std.proofs.Common.{sym, ap, ◌∙◌, arith}
use Rattle.std.proofs.lemmas.Bool.{false≢true}
use Rattle.std.proofs.lemmas.List.Edits.{sets}
use borrow.Author.Tests.{le-leb, lt-leb}
use Rattle.refusals.specs.declared.refusal.Refusal.{Refusal}
use Rattle.refusals.specs.declared.refusal.Refusal.TheVariants.{MembersOver, RuleBroken, SpaceShort}
use Rattle.refusals.specs.Refusal.{refusal_number}
use Rattle.layout_text.specs.LayoutText.{layout_text_of}
use Rattle.layouts.specs.Limits.{gate_limits}
use Rattle.layouts.specs.Layout.{Layout, all_groups, all_members, all_required}
use Rattle.layouts.specs.LayoutRules.{meets_rules, meets_limits, BrokenAt}
use Rattle.layouts.specs.LayoutWords.{arranged}
use Rattle.layouts.specs.LayoutCheck.{is_layout}
use Rattle.layouts.specs.LayoutCheckComplete.{length-arranged, arranged-is_layout}
use Rattle.layouts.specs.GatheredLayout.{RowsInside, gathered_words}
use Rattle.layouts.specs.GatheredLayoutLaws.{gathered-inside, gathered-needed, gathered-written}
use Rattle.layout_parts.specs.declared.layout_parts.Parts.{Parts}
use Rattle.layout_text.specs.LevelLines.{lines_at}
use Rattle.layout_text.specs.LayoutOfText.{layout_of}
use Rattle.layout_text.specs.LayoutOfTextLaws.{lines-told}
use Rattle.layout_text.specs.declared.layout_text.Part.TheVariants.{Members}
use Rattle.layout_text.specs.InOrder.{InOrder}
use Rattle.layout_text.specs.AcceptedText.{accepted-short, accepted-order}
use Rattle.layout_rules.specs.FirstBroken.{broken_at, first_broken}
use Rattle.layout_rules.specs.FirstBrokenLaws.{first_broken-meets, first_broken-broken}
use Rattle.layout_parts.specs.LayoutParts.{member_count, required_count, group_count}
use Rattle.layout_parts.specs.LayoutPartsLaws.{CountsOf, lines-count}
use Rattle.layout_parts.specs.GatherLoop.{GatherRoom, GatheredIn}
use Rattle.read_layout.specs.ReadLayout.{space_outcome, rules_outcome, layout_outcome, order_outcome, read_outcome, written_in, read_words}

-- ---- rows 1 to 4

pub ordered-text : (text : List ℕ) (lines : ℕ) → layout_text_of text ≡ Ok lines → (length text ≤ 65536) × InOrder Members 0 (lines_at text 0)
ordered-text text lines accepted =
    let passes : is_ok (layout_text_of text) ≡ true = ap is_ok accepted in
    (accepted-short text passes, accepted-order text passes)

module _ (text : List ℕ) (room : ℕ) where
  pub read-unordered : (refusal : Refusal) → layout_text_of text ≡ Err refusal → read_outcome text room ≡ Err refusal
  unfolding read_outcome
  read-unordered refusal refused = rw refused

  read-passed_by : (outcome : Result ℕ Refusal) → layout_text_of text ≡ outcome → is_ok outcome ≡ true → read_outcome text room ≡ layout_outcome (layout_of text) room
  unfolding read_outcome
  read-passed_by (Ok lines) is accepted = rw is
  read-passed_by (Err refusal) is accepted = absurd (false≢true accepted)

  pub read-passed : is_ok (layout_text_of text) ≡ true → read_outcome text room ≡ layout_outcome (layout_of text) room
  read-passed accepted = read-passed_by (layout_text_of text) refl accepted

  pub read-ordered : (lines : ℕ) → layout_text_of text ≡ Ok lines → read_outcome text room ≡ layout_outcome (layout_of text) room
  unfolding read_outcome
  read-ordered lines accepted = rw accepted

pub read-words : (text words : List ℕ) (outcome : Result ℕ Refusal) → outcome ≡ read_outcome text (length words) → written_in outcome (layout_of text) words ≡ read_words text words
unfolding read_words
read-words text words outcome is = ap (λ (each : Result ℕ Refusal). written_in each (layout_of text) words) is

-- ---- row 10, then 11

module _ (layout : Layout) (room : ℕ) where
  pub over-members : 8192 < length (all_members layout) → layout_outcome layout room ≡ Err MembersOver
  unfolding layout_outcome
  over-members over = rw (lt-leb (length (all_members layout)) 8192 over)

  limits_fail : (few_members few_required : Bool) (within over : Result ℕ Refusal) → few_required ≡ false → cond (few_members && few_required) within over ≡ over
  limits_fail true few_required within over fails = rw fails
  limits_fail false few_required within over fails = refl

  pub over-required : 2048 < length (all_required layout) → layout_outcome layout room ≡ Err MembersOver
  unfolding layout_outcome
  over-required over =
      limits_fail (leb (length (all_members layout)) 8192) (leb (length (all_required layout)) 2048) _ (Err MembersOver) (lt-leb (length (all_required layout)) 2048 over)

  module _ (few_members_lem : length (all_members layout) ≤ 8192) (few-required : length (all_required layout) ≤ 2048) where
    within-limits : layout_outcome layout room ≡ rules_outcome (first_broken layout) (length (arranged layout)) room
    unfolding layout_outcome
    within-limits = rw (le-leb (length (all_members layout)) 8192 few_members_lem, le-leb (length (all_required layout)) 2048 few-required)

    pub rule_breaks : (rule tag : ℕ) → first_broken layout ≡ broken_at rule tag → layout_outcome layout room ≡ Err (RuleBroken rule tag)
    rule_breaks rule tag broken = within-limits ∙ rw broken

    pub no_rule_breaks : first_broken layout ≡ None → layout_outcome layout room ≡ space_outcome (length (arranged layout)) room
    no_rule_breaks unbroken = within-limits ∙ rw unbroken

-- ---- what was counted

pub record Writable (text : List ℕ) (parts : Parts) : Type 0 where
  pub of_members : parts.members ≡ length (all_members (layout_of text))
  pub of_required : parts.required ≡ length (all_required (layout_of text))
  pub of_groups : parts.groups ≡ length (all_groups (layout_of text))
  pub few_members : parts.members ≤ 8192
  pub few_required : parts.required ≤ 2048
  pub few_groups : parts.groups ≤ 5461

module _ (text : List ℕ) (short : length text ≤ 65536) (order : InOrder Members 0 (lines_at text 0)) (parts : Parts)
    (of-members : parts.members ≡ member_count (lines_at text 0)) (of-required : parts.required ≡ required_count (lines_at text 0))
    (of-groups : (parts.groups ≡ group_count (lines_at text 0)) × (12 * parts.groups ≤ length text)) where
  counts : CountsOf (layout_of text) (lines_at text 0)
  counts = lines-count (layout_of text) (lines_at text 0) (lines-told text order)

  pub counted-members : parts.members ≡ length (all_members (layout_of text))
  counted-members = of-members ∙ counts.of_members

  pub counted-required : parts.required ≡ length (all_required (layout_of text))
  counted-required = of-required ∙ counts.of_required

  module _ (few_members_lem : parts.members ≤ 8192) (few-required : parts.required ≤ 2048) where
    pub writable : Writable text parts
    writable = record {
      of_members = counted-members;
      of_required = counted-required;
      of_groups = of-groups.0 ∙ counts.of_groups;
      few_members = few_members_lem;
      few_required = few-required;
      few_groups = omega (arith, of-groups.1);
    }

-- ---- row 13, and the words

module _ (text : List ℕ) (parts : Parts) (writable : Writable text parts) (needed : ℕ) (sum : needed ≡ 7 + 6 * parts.groups + parts.members + parts.required) where
  pub needed-words : needed ≡ length (arranged (layout_of text))
  needed-words = omega (arith, sum, length-arranged (layout_of text), writable.of_members, writable.of_required, writable.of_groups)

  pub space_short : (room : ℕ) → room < needed → space_outcome (length (arranged (layout_of text))) room ≡ Err (SpaceShort needed)
  space_short room short = rw (← needed-words, lt-leb needed room short)

  pub space-fits : (room : ℕ) → needed ≤ room → space_outcome (length (arranged (layout_of text))) room ≡ Ok needed
  space-fits room fits = rw (← needed-words, le-leb needed room fits)

  pub gather_room : InOrder Members 0 (lines_at text 0) → (members required rows starts : List ℕ) → length members ≡ 8192 → length required ≡ 2048 → length rows ≡ 32772 → length starts ≡ 5461 → GatherRoom text members required rows starts
  gather_room order members required rows starts of-members of-required of-rows of-starts = record {
    told = lines-told text order;
    member_room = omega (arith, writable.of_members, writable.few_members, of-members);
    required_room = omega (arith, writable.of_required, writable.few_required, of-required);
    start_room = omega (arith, writable.of_groups, writable.few_groups, of-starts);
    row_room = omega (arith, writable.of_groups, writable.few_groups, of-rows);
    few_members = omega (arith, of-members);
    few_required = omega (arith, of-required);
    few_groups = omega (arith, of-starts);
  }

  -- the parts that were gathered, as `put_layout` takes them
  module _ (members required rows : List ℕ) (gathered : Parts) (held : GatheredIn text members required rows gathered) where
    same-needed : 7 + 6 * gathered.groups + length (take (gathered.members - 0) members) + length (take (gathered.required - 0) required) ≡ needed
    same-needed =
        sym
        (gathered-needed (layout_of text) gathered.groups (take (gathered.members - 0) members) (take (gathered.required - 0) required) (take (6 * (gathered.groups + 1) - 0) rows) held.gathered)
        ∙ sym needed-words

    pub put-room : (words : List ℕ) → needed ≤ length words
        → (7 + 6 * gathered.groups + length (take (gathered.members - 0) members) + length (take (gathered.required - 0) required) ≤ length words)
        × (7 + 6 * gathered.groups + length (take (gathered.members - 0) members) + length (take (gathered.required - 0) required) < 4294967296)
        × RowsInside gathered.groups (take (gathered.members - 0) members) (take (gathered.required - 0) required) (take (6 * (gathered.groups + 1) - 0) rows)
    put-room words fits = (
      omega (arith, same-needed),
      omega (arith, same-needed, sum, writable.few_members, writable.few_required, writable.few_groups),
      gathered-inside (layout_of text) gathered.groups (take (gathered.members - 0) members) (take (gathered.required - 0) required) (take (6 * (gathered.groups + 1) - 0) rows) held.gathered,
    )

    pub words_written : (words after : List ℕ) → needed ≤ length words
        → after ≡ sets words 0 (gathered_words gathered.groups (take (gathered.members - 0) members) (take (gathered.required - 0) required) (take (6 * (gathered.groups + 1) - 0) rows))
        → after ≡ arranged (layout_of text) ++ drop needed words
    words_written words after fits stored =
        stored
        ∙ gathered-written (layout_of text) gathered.groups (take (gathered.members - 0) members) (take (gathered.required - 0) required) (take (6 * (gathered.groups + 1) - 0) rows) held.gathered words (omega (arith, same-needed))
        ∙ ap (λ (count : ℕ). arranged (layout_of text) ++ drop count words) (sym needed-words)

-- ---- what holds of the outcomes

is_written : Result ℕ Refusal → Bool
is_written (Ok needed) = true
is_written (Err refusal) = false

written-refused : (needed : ℕ) (refusal : Refusal) → Err refusal ≡ Ok needed → ⊥
unfolding is_written
written-refused needed refusal same = false≢true (ap is_written same)

-- what leads to words
record Accepted (layout : Layout) (room needed : ℕ) : Type 0 where
  rules : meets_rules layout ≡ true
  within : meets_limits gate_limits layout ≡ true

space-accepted : (layout : Layout) (broken : Option (ℕ × ℕ)) (total room needed : ℕ) → first_broken layout ≡ broken → meets_limits gate_limits layout ≡ true → rules_outcome broken total room ≡ Ok needed → Accepted layout room needed
space-accepted layout (Some (rule, tag)) total room needed is within written = absurd (written-refused needed (RuleBroken rule tag) written)
space-accepted layout None total room needed is within written = record { rules = first_broken-meets layout is; within = within }

limits_accepted : (layout : Layout) (within : Bool) (room needed : ℕ) → meets_limits gate_limits layout ≡ within
    → cond within (rules_outcome (first_broken layout) (length (arranged layout)) room) (Err MembersOver) ≡ Ok needed → Accepted layout room needed
limits_accepted layout true room needed is written = space-accepted layout (first_broken layout) (length (arranged layout)) room needed refl is written
limits_accepted layout false room needed is written = absurd (written-refused needed MembersOver written)

order-accepted : (order : Result ℕ Refusal) (layout : Layout) (room needed : ℕ) → order_outcome order layout room ≡ Ok needed → Accepted layout room needed
unfolding layout_outcome
order-accepted (Ok lines) layout room needed written = limits_accepted layout (meets_limits gate_limits layout) room needed refl written
order-accepted (Err refusal) layout room needed written = absurd (written-refused needed refusal written)

-- what `read_layout` wrote passes the check of lent words
pub read-passes : (text words : List ℕ) (needed : ℕ) → read_outcome text (length words) ≡ Ok needed → is_layout gate_limits (read_words text words) ≡ true
unfolding read_outcome read_words
read-passes text words needed written =
    let accepted = order-accepted (layout_text_of text) (layout_of text) (length words) needed written in
    rw written (arranged-is_layout gate_limits (layout_of text) (drop needed words) accepted.rules accepted.within)

-- of a text whose lines are in order: "the rule given is broken at the tag given"
outcome_number : Result ℕ Refusal → ℕ
outcome_number (Ok needed) = 0
outcome_number (Err refusal) = refusal_number refusal

space-not_11 : (fits : Bool) (needed rule tag : ℕ) → cond fits (Ok needed) (Err (SpaceShort needed)) ≡ Err (RuleBroken rule tag) → ⊥
unfolding outcome_number
space-not_11 true needed rule tag same = let number : ◌≡◌ {A = ℕ} 0 11 = ap outcome_number same in absurd (omega arith)
space-not_11 false needed rule tag same = let number : ◌≡◌ {A = ℕ} 13 11 = ap outcome_number same in absurd (omega arith)

limit_not_11 : (rule tag : ℕ) → ◌≡◌ {A = Result ℕ Refusal} (Err MembersOver) (Err (RuleBroken rule tag)) → ⊥
unfolding outcome_number
limit_not_11 rule tag same = let number : ◌≡◌ {A = ℕ} 10 11 = ap outcome_number same in absurd (omega arith)

same-rule : (rule tag other also : ℕ) → ◌≡◌ {A = Result ℕ Refusal} (Err (RuleBroken other also)) (Err (RuleBroken rule tag)) → broken_at other also ≡ broken_at rule tag
same-rule rule tag other also same =
    let is-rule : other ≡ rule = cc in
    let is-tag : also ≡ tag = cc in
    rw (is-rule, is-tag)

rule_broken : (layout : Layout) (broken : Option (ℕ × ℕ)) (total room rule tag : ℕ) → first_broken layout ≡ broken → rules_outcome broken total room ≡ Err (RuleBroken rule tag) → BrokenAt layout rule tag
rule_broken layout (Some (other, also)) total room rule tag is refused = first_broken-broken layout rule tag (is ∙ same-rule rule tag other also refused)
rule_broken layout None total room rule tag is refused = absurd (space-not_11 (leb total room) total rule tag refused)

layout-broken : (layout : Layout) (within : Bool) (room rule tag : ℕ)
    → cond within (rules_outcome (first_broken layout) (length (arranged layout)) room) (Err MembersOver) ≡ Err (RuleBroken rule tag) → BrokenAt layout rule tag
layout-broken layout true room rule tag refused = rule_broken layout (first_broken layout) (length (arranged layout)) room rule tag refl refused
layout-broken layout false room rule tag refused = absurd (limit_not_11 rule tag refused)

pub read-broken : (text : List ℕ) (lines room rule tag : ℕ) → layout_text_of text ≡ Ok lines → read_outcome text room ≡ Err (RuleBroken rule tag) → BrokenAt (layout_of text) rule tag
unfolding layout_outcome
read-broken text lines room rule tag accepted refused =
    layout-broken (layout_of text) (meets_limits gate_limits (layout_of text)) room rule tag (sym (read-ordered text room lines accepted) ∙ refused)
