-- Laws of `LayoutParts.antt`, in its order: what the parts are of the lines of a level. Assumes nothing.
--
--   Stops lines                 the lines are at an end, or begin with an `end` line: so a level's own lines are behind
--   starts_of groups rest        the blocks of a level's groups, where `rest` stands behind them
--   total_of weight level        the weights of a level and of all entry levels below it, added up
use Rattle.std.specs.Prelude.{◌≡◌, Bool, true, false}
use Rattle.std.proofs.Math.Path.{refl}
use Rattle.std.proofs.Common.{sym, ap, ◌∙◌}
use Prim.Native.Nat.{ℕ, zero, suc, ◌+◌}
use mathlib.Core.List.{List, [], ◌∷◌, ◌++◌, map}
use native.Mathlib.Omega.{arith}
use Rattle.std.proofs.Math.ListN.{length, length-append}
use Rattle.layouts.specs.Layout.{Level, Groups, Group, Layout, level_of_lem, no_groups, group_and, group_of_lem, listed, members_of, required_of, groups_of, entry, groups_below, groups_among, groups_with, level_order, all_groups, all_members, all_required, joined}
use Rattle.layouts.specs.LayoutLaws.{group_total, group_total-first, groups_below-total, length-level_order}
use Rattle.layout_text.specs.declared.level_line.LevelLine.{LevelLine}
use Rattle.layout_text.specs.declared.level_line.LevelLine.TheVariants.{MemberLine, RequiredLine, GroupLine, EndLine, OtherLine}
use Rattle.layout_text.specs.LayoutOfText.{member_lines, required_lines, level_lines, block_lines, group_lines}
use Rattle.layout_parts.specs.LayoutParts.{own_tags, behind_tags, BlockStart, start_of, blocks_in, member_count, required_count, group_count}

abbrev pub Stops : List LevelLine → Type 0
Stops [] = Unit
Stops (MemberLine tag ∷ lines) = ⊥
Stops (RequiredLine tag ∷ lines) = ⊥
Stops (GroupLine count delimiter flag ∷ lines) = ⊥
Stops (EndLine ∷ lines) = Unit
Stops (OtherLine ∷ lines) = ⊥

-- ---- own_tags, behind_tags

-- no line of that kind comes first
abbrev NoTagFirst : Bool → List LevelLine → Type 0
NoTagFirst required lines = (own_tags required lines ≡ []) × (behind_tags required lines ≡ lines)

stops-no_tag : (required : Bool) (rest : List LevelLine) → Stops rest → NoTagFirst required rest
unfolding own_tags behind_tags
stops-no_tag required [] stops = (refl, refl)
stops-no_tag required (MemberLine tag ∷ rest) stops = absurd stops
stops-no_tag required (RequiredLine tag ∷ rest) stops = absurd stops
stops-no_tag required (GroupLine count delimiter flag ∷ rest) stops = absurd stops
stops-no_tag required (EndLine ∷ rest) stops = (refl, refl)
stops-no_tag required (OtherLine ∷ rest) stops = absurd stops

blocks-no_tag : (required : Bool) (groups : Groups) (rest : List LevelLine) → Stops rest → NoTagFirst required (block_lines groups rest)
unfolding own_tags behind_tags level_lines
blocks-no_tag required no_groups rest stops = stops-no_tag required rest stops
blocks-no_tag required (group_and (group_of_lem count delimiter flag inner) others) rest stops = (refl, refl)

required-no_member : (tags : List ℕ) (rest : List LevelLine) → NoTagFirst false rest → NoTagFirst false (required_lines tags rest)
unfolding own_tags behind_tags required_lines
required-no_member [] rest none = none
required-no_member (tag ∷ tags) rest none = (refl, refl)

members-own : (tags : List ℕ) (rest : List LevelLine) → NoTagFirst false rest → (own_tags false (member_lines tags rest) ≡ tags) × (behind_tags false (member_lines tags rest) ≡ rest)
unfolding own_tags behind_tags member_lines
members-own [] rest none = none
members-own (tag ∷ tags) rest none = let later = members-own tags rest none in (ap {B = List ℕ} (λ others. tag ∷ others) later.0, later.1)

required-own : (tags : List ℕ) (rest : List LevelLine) → NoTagFirst true rest → (own_tags true (required_lines tags rest) ≡ tags) × (behind_tags true (required_lines tags rest) ≡ rest)
unfolding own_tags behind_tags required_lines
required-own [] rest none = none
required-own (tag ∷ tags) rest none = let later = required-own tags rest none in (ap {B = List ℕ} (λ others. tag ∷ others) later.0, later.1)

-- ---- blocks_in

unfoldable pub starts_of : Groups → List LevelLine → List BlockStart
starts_of no_groups rest = []
starts_of (group_and (group_of_lem count delimiter flag inner) others) rest = start_of count delimiter flag (level_lines inner (EndLine ∷ block_lines others rest)) ∷ starts_of others rest

pass_members : (depth : ℕ) (tags : List ℕ) (rest : List LevelLine) → blocks_in depth (member_lines tags rest) ≡ blocks_in depth rest
unfolding blocks_in member_lines
pass_members depth [] rest = refl
pass_members depth (tag ∷ tags) rest = pass_members depth tags rest

pass_required : (depth : ℕ) (tags : List ℕ) (rest : List LevelLine) → blocks_in depth (required_lines tags rest) ≡ blocks_in depth rest
unfolding blocks_in required_lines
pass_required depth [] rest = refl
pass_required depth (tag ∷ tags) rest = pass_required depth tags rest

-- the lines of a level in which the blocks are not looked for
mutual
  unfolding blocks_in level_lines

  pass_level : (depth : ℕ) (level : Level) (rest : List LevelLine) → blocks_in (suc depth) (level_lines level rest) ≡ blocks_in (suc depth) rest
  pass_level depth (level_of_lem members required groups) rest =
      pass_members (suc depth) members (required_lines required (block_lines groups rest)) ∙ pass_required (suc depth) required (block_lines groups rest) ∙ pass_blocks depth groups rest

  pass_blocks : (depth : ℕ) (groups : Groups) (rest : List LevelLine) → blocks_in (suc depth) (block_lines groups rest) ≡ blocks_in (suc depth) rest
  pass_blocks depth no_groups rest = refl
  pass_blocks depth (group_and first others) rest = pass_group depth first (block_lines others rest) ∙ pass_blocks depth others rest

  pass_group : (depth : ℕ) (group : Group) (rest : List LevelLine) → blocks_in (suc depth) (group_lines group rest) ≡ blocks_in (suc depth) rest
  pass_group depth (group_of_lem count delimiter flag inner) rest = pass_level (suc depth) inner (EndLine ∷ rest)

no_block : (rest : List LevelLine) → Stops rest → blocks_in 0 rest ≡ []
unfolding blocks_in
no_block [] stops = refl
no_block (MemberLine tag ∷ rest) stops = absurd stops
no_block (RequiredLine tag ∷ rest) stops = absurd stops
no_block (GroupLine count delimiter flag ∷ rest) stops = absurd stops
no_block (EndLine ∷ rest) stops = refl
no_block (OtherLine ∷ rest) stops = absurd stops

pub blocks-own : (groups : Groups) (rest : List LevelLine) → Stops rest → blocks_in 0 (block_lines groups rest) ≡ starts_of groups rest
unfolding blocks_in level_lines starts_of
blocks-own no_groups rest stops = no_block rest stops
blocks-own (group_and (group_of_lem count delimiter flag inner) others) rest stops =
    ap {B = List BlockStart} (λ starts. start_of count delimiter flag (level_lines inner (EndLine ∷ block_lines others rest)) ∷ starts)
    (pass_level 0 inner (EndLine ∷ block_lines others rest) ∙ blocks-own others rest stops)

-- ---- a level's own parts

pub record OwnParts (lines : List LevelLine) (members required : List ℕ) (starts : List BlockStart) : Type 0 where
  pub own_members : own_tags false lines ≡ members
  pub own_required : own_tags true (behind_tags false lines) ≡ required
  pub own_blocks : blocks_in 0 (behind_tags true (behind_tags false lines)) ≡ starts

pub level-parts : (members required : List ℕ) (groups : Groups) (rest lines : List LevelLine) → Stops rest → lines ≡ level_lines (level_of_lem members required groups) rest
    → OwnParts lines members required (starts_of groups rest)
unfolding level_lines
level-parts members required groups rest lines stops are =
    let blocks = block_lines groups rest in
    let of-members = members-own members (required_lines required blocks) (required-no_member required blocks (blocks-no_tag false groups rest stops)) in
    let of-required = required-own required blocks (blocks-no_tag true groups rest stops) in
    let behind : behind_tags false lines ≡ required_lines required blocks = ap (behind_tags false) are ∙ of-members.1 in
    record {
      own_members = ap (own_tags false) are ∙ of-members.0;
      own_required = ap (own_tags true) behind ∙ of-required.0;
      own_blocks = ap (λ (each : List LevelLine). blocks_in 0 (behind_tags true each)) behind ∙ ap (blocks_in 0) of-required.1 ∙ blocks-own groups rest stops;
    }

-- ---- counts

unfoldable mutual
  pub total_of : (Level → ℕ) → Level → ℕ
  total_of weight (level_of_lem members required groups) = weight (level_of_lem members required groups) + total_among weight groups

  pub total_among : (Level → ℕ) → Groups → ℕ
  total_among weight no_groups = 0
  total_among weight (group_and first others) = total_with weight first + total_among weight others

  pub total_with : (Level → ℕ) → Group → ℕ
  total_with weight (group_of_lem count delimiter flag inner) = total_of weight inner

abbrev many_members : Level → ℕ
many_members level = length (members_of level)

abbrev many_required : Level → ℕ
many_required level = length (required_of level)

count-members : (tags : List ℕ) (rest : List LevelLine)
    → (member_count (member_lines tags rest) ≡ length tags + member_count rest) × (required_count (member_lines tags rest) ≡ required_count rest) × (group_count (member_lines tags rest) ≡ group_count rest)
unfolding member_lines member_count required_count group_count
count-members [] rest = (omega arith, refl, refl)
count-members (tag ∷ tags) rest = let later = count-members tags rest in (omega (arith, later.0), later.1, later.2)

count-required : (tags : List ℕ) (rest : List LevelLine)
    → (member_count (required_lines tags rest) ≡ member_count rest) × (required_count (required_lines tags rest) ≡ length tags + required_count rest) × (group_count (required_lines tags rest) ≡ group_count rest)
unfolding required_lines member_count required_count group_count
count-required [] rest = (refl, omega arith, refl)
count-required (tag ∷ tags) rest = let later = count-required tags rest in (later.0, omega (arith, later.1), later.2)

record Counted (lines rest : List LevelLine) (members required groups : ℕ) : Type 0 where
  of_members : member_count lines ≡ members + member_count rest
  of_required : required_count lines ≡ required + required_count rest
  of_groups : group_count lines ≡ groups + group_count rest

mutual
  unfolding level_lines total_of groups_below member_count required_count group_count

  count-level : (level : Level) (rest : List LevelLine) → Counted (level_lines level rest) rest (total_of many_members level) (total_of many_required level) (groups_below level)
  count-level (level_of_lem members required groups) rest =
      let blocks = block_lines groups rest in
      let of-members = count-members members (required_lines required blocks) in
      let of-required = count-required required blocks in
      let of_blocks = count-blocks groups rest in
      record {
        of_members = omega (arith, of-members.0, of-required.0, of_blocks.of_members);
        of_required = omega (arith, of-members.1, of-required.1, of_blocks.of_required);
        of_groups = omega (arith, of-members.2, of-required.2, of_blocks.of_groups);
      }

  count-blocks : (groups : Groups) (rest : List LevelLine) → Counted (block_lines groups rest) rest (total_among many_members groups) (total_among many_required groups) (groups_among groups)
  count-blocks no_groups rest = record { of_members = omega arith; of_required = omega arith; of_groups = omega arith }
  count-blocks (group_and first others) rest =
      let one = count-group first (block_lines others rest) in
      let more = count-blocks others rest in
      record {
        of_members = omega (arith, one.of_members, more.of_members);
        of_required = omega (arith, one.of_required, more.of_required);
        of_groups = omega (arith, one.of_groups, more.of_groups);
      }

  count-group : (group : Group) (rest : List LevelLine) → Counted (group_lines group rest) rest (total_with many_members group) (total_with many_required group) (groups_with group)
  count-group (group_of_lem count delimiter flag inner) rest =
      let inside = count-level inner (EndLine ∷ rest) in
      record { of_members = omega (arith, inside.of_members); of_required = omega (arith, inside.of_required); of_groups = omega (arith, inside.of_groups) }

module _ (weight : Level → ℕ) where
  unfoldable total_listed : List Group → ℕ
  total_listed [] = 0
  total_listed (first ∷ others) = total_of weight (entry first) + total_listed others

  unfoldable weight_listed : List Group → ℕ
  weight_listed [] = 0
  weight_listed (first ∷ others) = weight (entry first) + weight_listed others

  total_listed-append : (these those : List Group) → total_listed (these ++ those) ≡ total_listed these + total_listed those
  unfolding total_listed
  total_listed-append [] those = omega arith
  total_listed-append (first ∷ these) those = omega (arith, total_listed-append these those)

  with_listed : (group : Group) → total_with weight group ≡ total_of weight (entry group)
  unfolding total_of
  with_listed (group_of_lem count delimiter flag inner) = refl

  among-listed : (groups : Groups) → total_among weight groups ≡ total_listed (listed groups)
  unfolding total_of total_listed
  among-listed no_groups = refl
  among-listed (group_and first others) = omega (arith, with_listed first, among-listed others)

  total-level : (level : Level) → total_of weight level ≡ weight level + total_listed (groups_of level)
  unfolding total_of
  total-level (level_of_lem members required groups) = omega (arith, among-listed groups)

  total-order : (count : ℕ) (waiting : List Group) → group_total waiting ≡ count → weight_listed (level_order count waiting) ≡ total_listed waiting
  unfolding level_order weight_listed total_listed group_total
  total-order zero [] all = refl
  total-order zero (first ∷ waiting) all = absurd (omega (arith, group_total-first first waiting))
  total-order (suc count) [] all = absurd (omega arith)
  total-order (suc count) (first ∷ waiting) all =
      omega (
        arith,
        total-order count (waiting ++ groups_of (entry first)) (omega (arith, group_total-first first waiting)),
        total_listed-append waiting (groups_of (entry first)),
        total-level (entry first),
      )

module _ (read : Level → List ℕ) where
  length-listed : (groups : List Group) → length (joined (map read (map entry groups))) ≡ weight_listed (λ level. length (read level)) groups
  unfolding joined weight_listed
  length-listed [] = refl
  length-listed (first ∷ others) = omega (arith, length-append (read (entry first)) (joined (map read (map entry others))), length-listed others)

  length-all : (layout : Layout) → length (joined (map read (layout ∷ map entry (all_groups layout)))) ≡ total_of (λ level. length (read level)) layout
  unfolding joined all_groups
  length-all layout =
      let weight : Level → ℕ = λ level. length (read level) in
      let groups = level_order (groups_below layout) (groups_of layout) in
      omega (
        arith,
        length-append (read layout) (joined (map read (map entry groups))),
        length-listed groups,
        total-order weight (groups_below layout) (groups_of layout) (sym (groups_below-total layout)),
        total-level weight layout,
      )

length-groups : (layout : Layout) → length (all_groups layout) ≡ groups_below layout
unfolding all_groups
length-groups layout = length-level_order (groups_below layout) (groups_of layout) (sym (groups_below-total layout))

-- what the lines of a layout count
pub record CountsOf (layout : Layout) (lines : List LevelLine) : Type 0 where
  pub of_members : member_count lines ≡ length (all_members layout)
  pub of_required : required_count lines ≡ length (all_required layout)
  pub of_groups : group_count lines ≡ length (all_groups layout)

pub lines-count : (layout : Layout) (lines : List LevelLine) → level_lines layout [] ≡ lines → CountsOf layout lines
unfolding member_count required_count group_count
lines-count layout lines told =
    let counted = count-level layout [] in
    record {
      of_members = omega (arith, ap member_count told, counted.of_members, length-all members_of layout);
      of_required = omega (arith, ap required_count told, counted.of_required, length-all required_of layout);
      of_groups = omega (arith, ap group_count told, counted.of_groups, length-groups layout);
    }
