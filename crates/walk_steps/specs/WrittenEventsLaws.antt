-- Laws of `WrittenEvents.antt`: what code writes in each case, and that it is what the walk gives. Assumes nothing.
use Rattle.std.specs.Prelude.{◌≡◌, refl, ℕ, ◌+◌, ◌≤◌, Bool, true, false, not, ◌||◌, List, [], ◌∷◌, eqb, length, if◌then◌else◌, Option, Some, None}
use Rattle.std.proofs.Common.{arith, eq-eqb, ne_eqb}
use Rattle.events.specs.declared.event.Kind.TheVariants.{Enter, BadCount, Repeat, Miscount, Leave}
use Rattle.events.specs.declared.event.Event.{Event}
use Rattle.field_table.specs.WalkInput.{Layout, event}
use Rattle.events.specs.EventSpaceLaws.{Wrote, wrote_none, wrote_then}
use Rattle.group_reading.specs.GroupWalk.{bad_count, repeated_tag, ended}
use Rattle.walk_steps.specs.WrittenEvents.{tag_event, begun_by, repeat_by, left_by}

-- ---- as code writes them

module _ (tag depth index : ℕ) (declared : Option ℕ) {before after : List ℕ} {at next : ℕ} where
  pub begun-number : (number : ℕ) → declared ≡ Some number → Wrote before after at next (tag_event tag depth Enter ∷ []) → Wrote before after at next (begun_by tag depth index declared)
  begun-number number says wrote = rw says wrote

  pub begun-nothing : {between : List ℕ} {middle : ℕ} → declared ≡ None → Wrote before between at middle (tag_event tag depth Enter ∷ []) → Wrote between after middle next (tag_event tag depth (BadCount index) ∷ [])
      → Wrote before after at next (begun_by tag depth index declared)
  begun-nothing says one two = rw says (wrote_then one two)

module _ (tag depth member : ℕ) (fresh : Bool) where
  pub repeat_fresh : fresh ≡ true → (space : List ℕ) (place : ℕ) → Wrote space space place place (repeat_by tag depth member fresh)
  repeat_fresh new space place = rw new (wrote_none space place)

  pub repeat_again : {before after : List ℕ} {at next : ℕ} → fresh ≡ false → Wrote before after at next (tag_event tag depth (Repeat member) ∷ []) → Wrote before after at next (repeat_by tag depth member fresh)
  repeat_again again wrote = rw again wrote

module _ (tag depth : ℕ) (declared : Option ℕ) (unparseable : Bool) (entries : ℕ) {before after : List ℕ} {at next : ℕ} where
  pub left-nothing : declared ≡ None → Wrote before after at next (tag_event tag depth (Leave false entries) ∷ []) → Wrote before after at next (left_by tag depth declared unparseable entries)
  left-nothing says wrote = rw says wrote

  module _ (number : ℕ) (says : declared ≡ Some number) where
    pub left-same : number ≡ entries → Wrote before after at next (tag_event tag depth (Leave (not unparseable) entries) ∷ [])
        → Wrote before after at next (left_by tag depth declared unparseable entries)
    left-same same wrote = rw (says, eq-eqb number entries same) wrote

    pub left-unparseable : (number ≡ entries → ⊥) → unparseable ≡ true → Wrote before after at next (tag_event tag depth (Leave false entries) ∷ [])
        → Wrote before after at next (left_by tag depth declared unparseable entries)
    left-unparseable other spoilt wrote = rw (says, ne_eqb number entries other, spoilt) wrote

    pub left-miscount : {between : List ℕ} {middle : ℕ} → (number ≡ entries → ⊥) → unparseable ≡ false → Wrote before between at middle (tag_event tag depth (Miscount number entries) ∷ [])
        → Wrote between after middle next (tag_event tag depth (Leave false entries) ∷ []) → Wrote before after at next (left_by tag depth declared unparseable entries)
    left-miscount other sound one two = rw (says, ne_eqb number entries other, sound) (wrote_then one two)

-- ---- how many they are

pub begun-few : (tag depth index : ℕ) (declared : Option ℕ) → length (begun_by tag depth index declared) ≤ 2
begun-few tag depth index None = omega arith
begun-few tag depth index (Some declared) = omega arith

pub repeat_few : (tag depth member : ℕ) (fresh : Bool) → length (repeat_by tag depth member fresh) ≤ 1
repeat_few tag depth member true = omega arith
repeat_few tag depth member false = omega arith

-- ---- they are what the walk gives

module _ (layout : Layout) (group : layout.Group) (tag : ℕ) (is-tag : tag ≡ layout.count_tag group) (depth : ℕ) where
  pub begun-is : (index : ℕ) (declared : Option ℕ) → begun_by tag depth index declared ≡ event layout group depth Enter ∷ bad_count layout group depth index declared
  begun-is index None = rw is-tag
  begun-is index (Some declared) = rw is-tag

  pub repeat_is : (member : ℕ) (repeated fresh : Bool) → fresh ≡ not repeated → repeat_by tag depth member fresh ≡ repeated_tag layout group depth member repeated
  repeat_is member true fresh same = rw (same, is-tag)
  repeat_is member false fresh same = rw same

  pub left_is : (declared : Option ℕ) (unparseable : Bool) (entries : ℕ) → left_by tag depth declared unparseable entries ≡ ended layout group depth declared unparseable entries
  left_is None unparseable entries = rw is-tag
  left_is (Some declared) unparseable entries = rw is-tag
