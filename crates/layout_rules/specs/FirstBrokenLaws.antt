-- Laws of `FirstBroken.antt`: the rule given is broken at the tag given, none is given just where the layout meets the rules, and the first
-- broken rule found line by line. Assumes nothing.
--
--   broken_from level blocks lines   the first rule that is broken by a group that an `end` line of the lines closes, or by the top
--   broken_so_far level blocks        the first rule that is broken by the groups closed before
--   first_broken-broken              "the rule given is broken at the tag given"
--   first_broken-meets               where none is given, the layout meets the rules
use Rattle.std.specs.Prelude.{◌≡◌, ℕ, zero, suc, ◌+◌, ◌-◌, Bool, true, false, ◌&&◌, not, cond, length, Option, Some, None}
use Rattle.std.proofs.Math.Path.{refl}
use Rattle.std.proofs.Common.{sym, ap, ◌∙◌, arith}
use Rattle.std.proofs.lemmas.Bool.{false≢true}
use mathlib.Core.List.{List, [], ◌∷◌, ◌++◌, Memᴰ}
use Rattle.ascii.specs.NotationLaws.{and_both}
use Rattle.layouts.specs.Layout.{Level, Groups, Group, Layout, level_of_lem, no_groups, group_and, group_of_lem, listed, groups_of, count_tag, entry, groups_below, level_order, all_groups}
use Rattle.layouts.specs.LayoutLaws.{group_total, group_total-first, groups_below-total}
use Rattle.layouts.specs.LayoutRules.{rule1, rule2, rule3, rule4, rule5, rule6, rule7, meets_group_rules, meets_top_rules, every_group, every_among, every_with, meets_rules, BrokenAt, breaks_1, breaks_2, breaks_3, breaks_4, breaks_5, breaks_6, breaks_7}
use Rattle.layout_text.specs.declared.level_line.LevelLine.{LevelLine}
use Rattle.layout_text.specs.declared.level_line.LevelLine.TheVariants.{MemberLine, RequiredLine, GroupLine, EndLine, OtherLine}
use Rattle.layout_text.specs.LevelLines.{lines_at}
use Rattle.layout_text.specs.LayoutOfText.{groups_then, with_member, with_required, with_group, empty_level, Block, block_of, level_from, layout_of}
use Rattle.layout_text.specs.declared.layout_text.Part.{Part}
use Rattle.layout_text.specs.declared.layout_text.Part.TheVariants.{Members, Required, Blocks}
use Rattle.layout_text.specs.InOrder.{InOrder}
use Rattle.layout_rules.specs.FirstBroken.{broken_at, or_else, own_broken, top_broken, first_below, first_among, first_with, first_broken}

-- ---- or_else

or_else_none : (broken : Option (ℕ × ℕ)) → or_else broken None ≡ broken
or_else_none (Some (rule, tag)) = refl
or_else_none None = refl

or_else_assoc : (first second third : Option (ℕ × ℕ)) → or_else (or_else first second) third ≡ or_else first (or_else second third)
or_else_assoc (Some (rule, tag)) second third = refl
or_else_assoc None second third = refl

is_broken : Option (ℕ × ℕ) → Bool
is_broken (Some (rule, tag)) = true
is_broken None = false

broken-unbroken : (rule tag : ℕ) → broken_at rule tag ≡ None → ⊥
unfolding is_broken
broken-unbroken rule tag same = false≢true (sym (ap is_broken same))

or_else_unbroken : (first second : Option (ℕ × ℕ)) → or_else first second ≡ None → (first ≡ None) × (second ≡ None)
or_else_unbroken (Some (rule, tag)) second none = absurd (broken-unbroken rule tag none)
or_else_unbroken None second none = (refl, none)

-- ---- where none is given, the layout meets the rules

own-unbroken : (group : Group) (first second third fourth : Bool) (tag : ℕ)
    → cond (not first) (broken_at 1 tag) (cond (not second) (broken_at 2 tag) (cond (not third) (broken_at 3 tag) (cond (not fourth) (broken_at 4 tag) None))) ≡ None
    → first && second && third && fourth ≡ true
own-unbroken group true true true true tag none = refl
own-unbroken group true true true false tag none = absurd (broken-unbroken 4 tag none)
own-unbroken group true true false fourth tag none = absurd (broken-unbroken 3 tag none)
own-unbroken group true false third fourth tag none = absurd (broken-unbroken 2 tag none)
own-unbroken group false second third fourth tag none = absurd (broken-unbroken 1 tag none)

top-unbroken : (first second third : Bool)
    → cond (not first) (broken_at 5 0) (cond (not second) (broken_at 6 0) (cond (not third) (broken_at 7 0) None)) ≡ None
    → first && second && third ≡ true
top-unbroken true true true none = refl
top-unbroken true true false none = absurd (broken-unbroken 7 0 none)
top-unbroken true false third none = absurd (broken-unbroken 6 0 none)
top-unbroken false second third none = absurd (broken-unbroken 5 0 none)

mutual
  unfolding first_below own_broken every_group

  below-meets : (level : Level) → first_below level ≡ None → every_group meets_group_rules level ≡ true
  below-meets (level_of_lem members required groups) none = among-meets groups none

  among-meets : (groups : Groups) → first_among groups ≡ None → every_among meets_group_rules groups ≡ true
  among-meets no_groups none = refl
  among-meets (group_and first others) none =
      let parts = or_else_unbroken (first_with first) (first_among others) none in
      and_both (every_with meets_group_rules first) (every_among meets_group_rules others) (with_meets first parts.0) (among-meets others parts.1)

  with_meets : (group : Group) → first_with group ≡ None → every_with meets_group_rules group ≡ true
  with_meets (group_of_lem count delimiter flag inner) none =
      let group = group_of_lem count delimiter flag inner in
      let parts = or_else_unbroken (first_below inner) (own_broken group) none in
      and_both (meets_group_rules group) (every_group meets_group_rules inner)
      (own-unbroken group (rule1 group) (rule2 group) (rule3 group) (rule4 group) count parts.1)
      (below-meets inner parts.0)

pub first_broken-meets : (layout : Layout) → first_broken layout ≡ None → meets_rules layout ≡ true
unfolding first_broken top_broken meets_rules
first_broken-meets layout none =
    let parts = or_else_unbroken (first_below layout) (top_broken layout) none in
    and_both (meets_top_rules layout) (every_group meets_group_rules layout)
    (top-unbroken (rule5 layout) (rule6 layout) (rule7 layout) parts.1)
    (below-meets layout parts.0)

-- ---- the rule given is broken at the tag given

-- the group stands in the list or in an entry below
pub data Nested (group : Group) : List Group → Type 0 where
  nested_here : {first : Group} {others : List Group} → group ≡ first → Nested group (first ∷ others)
  nested_later : {first : Group} {others : List Group} → Nested group others → Nested group (first ∷ others)
  nested_inside : {first : Group} {others : List Group} → Nested group (groups_of (entry first)) → Nested group (first ∷ others)

nested-left : (group : Group) (these those : List Group) → Nested group these → Nested group (these ++ those)
nested-left group [] those stands = elim stands [ ]
nested-left group (first ∷ these) those (nested_here same) = nested_here same
nested-left group (first ∷ these) those (nested_later stands) = nested_later (nested-left group these those stands)
nested-left group (first ∷ these) those (nested_inside stands) = nested_inside stands

nested-right : (group : Group) (these those : List Group) → Nested group those → Nested group (these ++ those)
nested-right group [] those stands = stands
nested-right group (first ∷ these) those stands = nested_later (nested-right group these those stands)

nested-order : (group : Group) (count : ℕ) (waiting : List Group) → group_total waiting ≡ count → Nested group waiting → Memᴰ group (level_order count waiting)
unfolding level_order
nested-order group zero [] all stands = elim stands [ ]
nested-order group (suc count) [] all stands = elim stands [ ]
nested-order group zero (first ∷ waiting) all stands = absurd (omega (arith, group_total-first first waiting))
nested-order group (suc count) (first ∷ waiting) all (nested_here same) = Memᴰ.head same
nested-order group (suc count) (first ∷ waiting) all (nested_later stands) =
    Memᴰ.tail (nested-order group count (waiting ++ groups_of (entry first)) (omega (arith, group_total-first first waiting)) (nested-left group waiting (groups_of (entry first)) stands))
nested-order group (suc count) (first ∷ waiting) all (nested_inside stands) =
    Memᴰ.tail (nested-order group count (waiting ++ groups_of (entry first)) (omega (arith, group_total-first first waiting)) (nested-right group waiting (groups_of (entry first)) stands))

-- a group that breaks a rule
pub record Breaks (groups : List Group) (rule tag : ℕ) : Type 0 where
  pub group : Group
  pub stands : Nested group groups
  pub broken : own_broken group ≡ broken_at rule tag

either : (first second : Option (ℕ × ℕ)) (rule tag : ℕ) (A : Type 0) → or_else first second ≡ broken_at rule tag → (first ≡ broken_at rule tag → A) → (second ≡ broken_at rule tag → A) → A
either (Some (some, other)) second rule tag A broken one two = one broken
either None second rule tag A broken one two = two broken

mutual
  unfolding first_below

  below-breaks : (level : Level) (rule tag : ℕ) → first_below level ≡ broken_at rule tag → Breaks (groups_of level) rule tag
  below-breaks (level_of_lem members required groups) rule tag broken = among-breaks groups rule tag broken

  among-breaks : (groups : Groups) (rule tag : ℕ) → first_among groups ≡ broken_at rule tag → Breaks (listed groups) rule tag
  among-breaks no_groups rule tag broken = absurd (broken-unbroken rule tag (sym broken))
  among-breaks (group_and first others) rule tag broken =
      either (first_with first) (first_among others) rule tag (Breaks (first ∷ listed others) rule tag) broken
      (λ here. with_breaks first (listed others) rule tag here)
      (λ there. let found = among-breaks others rule tag there in record { group = found.group; stands = nested_later found.stands; broken = found.broken })

  with_breaks : (group : Group) (others : List Group) (rule tag : ℕ) → first_with group ≡ broken_at rule tag → Breaks (group ∷ others) rule tag
  with_breaks (group_of_lem count delimiter flag inner) others rule tag broken =
      let group = group_of_lem count delimiter flag inner in
      either (first_below inner) (own_broken group) rule tag (Breaks (group ∷ others) rule tag) broken
      (λ inside. let found = below-breaks inner rule tag inside in record { group = found.group; stands = nested_inside found.stands; broken = found.broken })
      (λ own. record { group = group; stands = nested_here refl; broken = own })

same-rule : (rule tag other also : ℕ) → broken_at rule tag ≡ broken_at other also → (other ≡ rule) × (also ≡ tag)
same-rule rule tag other also same =
    let pairs : ◌≡◌ {A = ℕ × ℕ} (rule, tag) (other, also) = cc in
    (sym (ap (λ (pair : ℕ × ℕ). pair.0) pairs), sym (ap (λ (pair : ℕ × ℕ). pair.1) pairs))

module _ (layout : Layout) (rule tag : ℕ) where
  own-breaks : (group : Group) → Memᴰ group (all_groups layout) → (first second third fourth : Bool)
      → rule1 group ≡ first → rule2 group ≡ second → rule3 group ≡ third → rule4 group ≡ fourth
      → cond (not first) (broken_at 1 (count_tag group)) (cond (not second) (broken_at 2 (count_tag group)) (cond (not third) (broken_at 3 (count_tag group)) (cond (not fourth) (broken_at 4 (count_tag group)) None))) ≡ broken_at rule tag
      → BrokenAt layout rule tag
  own-breaks group among true true true true one two three four broken = absurd (broken-unbroken rule tag (sym broken))
  own-breaks group among true true true false one two three four broken = let same = same-rule 4 (count_tag group) rule tag broken in breaks_4 same.0 group among same.1 four
  own-breaks group among true true false fourth one two three four broken = let same = same-rule 3 (count_tag group) rule tag broken in breaks_3 same.0 group among same.1 three
  own-breaks group among true false third fourth one two three four broken = let same = same-rule 2 (count_tag group) rule tag broken in breaks_2 same.0 group among same.1 two
  own-breaks group among false second third fourth one two three four broken = let same = same-rule 1 (count_tag group) rule tag broken in breaks_1 same.0 group among same.1 one

  top-breaks : (first second third : Bool) → rule5 layout ≡ first → rule6 layout ≡ second → rule7 layout ≡ third
      → cond (not first) (broken_at 5 0) (cond (not second) (broken_at 6 0) (cond (not third) (broken_at 7 0) None)) ≡ broken_at rule tag
      → BrokenAt layout rule tag
  top-breaks true true true five six seven broken = absurd (broken-unbroken rule tag (sym broken))
  top-breaks true true false five six seven broken = let same = same-rule 7 0 rule tag broken in breaks_7 same.0 same.1 seven
  top-breaks true false third five six seven broken = let same = same-rule 6 0 rule tag broken in breaks_6 same.0 same.1 six
  top-breaks false second third five six seven broken = let same = same-rule 5 0 rule tag broken in breaks_5 same.0 same.1 five

  pub first_broken-broken : first_broken layout ≡ broken_at rule tag → BrokenAt layout rule tag
  unfolding first_broken top_broken own_broken all_groups
  first_broken-broken broken =
      either (first_below layout) (top_broken layout) rule tag (BrokenAt layout rule tag) broken
      (λ below.
      let found = below-breaks layout rule tag below in
      let group = found.group in
      own-breaks group
      (nested-order group (groups_below layout) (groups_of layout) (sym (groups_below-total layout)) found.stands)
      (rule1 group) (rule2 group) (rule3 group) (rule4 group) refl refl refl refl
      found.broken)
      (λ own. top-breaks (rule5 layout) (rule6 layout) (rule7 layout) refl refl refl own)

-- ---- line by line

unfoldable pub broken_from : Level → List Block → List LevelLine → Option (ℕ × ℕ)
broken_from level blocks [] = top_broken level
broken_from level blocks (MemberLine tag ∷ lines) = broken_from (with_member tag level) blocks lines
broken_from level blocks (RequiredLine tag ∷ lines) = broken_from (with_required tag level) blocks lines
broken_from level blocks (GroupLine count delimiter flag ∷ lines) = broken_from empty_level (block_of count delimiter flag level ∷ blocks) lines
broken_from level [] (EndLine ∷ lines) = broken_from level [] lines
broken_from level (block_of count delimiter flag around ∷ blocks) (EndLine ∷ lines) =
    or_else (own_broken (group_of_lem count delimiter flag level)) (broken_from (with_group (group_of_lem count delimiter flag level) around) blocks lines)
broken_from level blocks (OtherLine ∷ lines) = broken_from level blocks lines

unfoldable broken_so_far : Level → List Block → Option (ℕ × ℕ)
broken_so_far level [] = first_below level
broken_so_far level (block_of count delimiter flag around ∷ blocks) = or_else (broken_so_far around blocks) (first_below level)

so_far_same : (level other : Level) (blocks : List Block) → first_below level ≡ first_below other → broken_so_far level blocks ≡ broken_so_far other blocks
unfolding broken_so_far
so_far_same level other [] same = same
so_far_same level other (block_of count delimiter flag around ∷ blocks) same = ap (or_else (broken_so_far around blocks)) same

among_then : (groups : Groups) (group : Group) → first_among (groups_then groups group) ≡ or_else (first_among groups) (first_with group)
unfolding first_below
among_then no_groups group = or_else_none (first_with group)
among_then (group_and first others) group = ap (or_else (first_with first)) (among_then others group) ∙ sym (or_else_assoc (first_with first) (first_among others) (first_with group))

below_then : (level : Level) (group : Group) → first_below (with_group group level) ≡ or_else (first_below level) (first_with group)
unfolding first_below
below_then (level_of_lem members required groups) group = among_then groups group

so_far_group : (level : Level) (blocks : List Block) (group : Group) → broken_so_far (with_group group level) blocks ≡ or_else (broken_so_far level blocks) (first_with group)
unfolding broken_so_far
so_far_group level [] group = below_then level group
so_far_group level (block_of count delimiter flag around ∷ blocks) group =
    ap (or_else (broken_so_far around blocks)) (below_then level group) ∙ sym (or_else_assoc (broken_so_far around blocks) (first_below level) (first_with group))

member_below : (tag : ℕ) (level : Level) → first_below (with_member tag level) ≡ first_below level
unfolding first_below
member_below tag (level_of_lem members required held_groups) = refl

required-below : (tag : ℕ) (level : Level) → first_below (with_required tag level) ≡ first_below level
unfolding first_below
required-below tag (level_of_lem members required held_groups) = refl

top-whole : (layout : Layout) → first_broken layout ≡ or_else (broken_so_far layout []) (top_broken layout)
unfolding first_broken broken_so_far
top-whole layout = refl

opened : (level : Level) (blocks : List Block) (count delimiter : ℕ) (flag : Bool) → broken_so_far empty_level (block_of count delimiter flag level ∷ blocks) ≡ broken_so_far level blocks
unfolding broken_so_far first_below
opened level blocks count delimiter flag = or_else_none (broken_so_far level blocks)

closed : (level around : Level) (blocks : List Block) (count delimiter : ℕ) (flag : Bool) (later : Option (ℕ × ℕ))
    → or_else (broken_so_far (with_group (group_of_lem count delimiter flag level) around) blocks) later
    ≡ or_else (broken_so_far level (block_of count delimiter flag around ∷ blocks)) (or_else (own_broken (group_of_lem count delimiter flag level)) later)
unfolding broken_so_far first_below
closed level around blocks count delimiter flag later =
    let own = own_broken (group_of_lem count delimiter flag level) in
    ap (λ (before : Option (ℕ × ℕ)). or_else before later) (so_far_group around blocks (group_of_lem count delimiter flag level))
    ∙ ap (λ (before : Option (ℕ × ℕ)). or_else before later) (sym (or_else_assoc (broken_so_far around blocks) (first_below level) own))
    ∙ or_else_assoc (or_else (broken_so_far around blocks) (first_below level)) own later

broken_from-first : (lines : List LevelLine) (level : Level) (blocks : List Block) (part : Part) (depth : ℕ) → depth ≡ length blocks → InOrder part depth lines
    → first_broken (level_from level blocks lines) ≡ or_else (broken_so_far level blocks) (broken_from level blocks lines)
unfolding level_from broken_from
broken_from-first [] level [] part depth deep order = top-whole level
broken_from-first [] level (block ∷ blocks) part depth deep order = absurd (omega arith)
broken_from-first (MemberLine tag ∷ lines) level blocks part depth deep order =
    broken_from-first lines (with_member tag level) blocks part depth deep order.1
    ∙ ap (λ (before : Option (ℕ × ℕ)). or_else before (broken_from (with_member tag level) blocks lines)) (so_far_same (with_member tag level) level blocks (member_below tag level))
broken_from-first (RequiredLine tag ∷ lines) level blocks part depth deep order =
    broken_from-first lines (with_required tag level) blocks Required depth deep order.1
    ∙ ap (λ (before : Option (ℕ × ℕ)). or_else before (broken_from (with_required tag level) blocks lines)) (so_far_same (with_required tag level) level blocks (required-below tag level))
broken_from-first (GroupLine count delimiter flag ∷ lines) level blocks part depth deep order =
    broken_from-first lines empty_level (block_of count delimiter flag level ∷ blocks) Members (depth + 1) (omega arith) order.1
    ∙ ap (λ (before : Option (ℕ × ℕ)). or_else before (broken_from empty_level (block_of count delimiter flag level ∷ blocks) lines)) (opened level blocks count delimiter flag)
broken_from-first (EndLine ∷ lines) level [] part depth deep order = absurd (omega (arith, order.0))
broken_from-first (EndLine ∷ lines) level (block_of count delimiter flag around ∷ blocks) part depth deep order =
    broken_from-first lines (with_group (group_of_lem count delimiter flag level) around) blocks Blocks (depth - 1) (omega arith) order.1
    ∙ closed level around blocks count delimiter flag (broken_from (with_group (group_of_lem count delimiter flag level) around) blocks lines)
broken_from-first (OtherLine ∷ lines) level blocks part depth deep order = absurd order

pub first_broken-lines : (text : List ℕ) → InOrder Members 0 (lines_at text 0) → first_broken (layout_of text) ≡ broken_from empty_level [] (lines_at text 0)
unfolding layout_of broken_so_far first_below
first_broken-lines text order = broken_from-first (lines_at text 0) empty_level [] Members 0 refl order
