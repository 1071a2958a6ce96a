-- What is known of a layout text that passed its check (`check_layout_text`): it has at most 65,536 bytes, and its lines are in order. The order
-- as a test (`in_order`), which `LayoutText` of layout_text.rt holds. Assumes nothing.
--
--   in_order part depth lines    whether `InOrder part depth lines`
use Rattle.std.specs.Prelude.{◌≡◌, refl, ℕ, ◌+◌, ◌-◌, ◌≤◌, Bool, true, false, ◌&&◌, cond, List, [], ◌∷◌, length, eqb, ltb, Result, Ok, Err, is_ok}
use Rattle.std.proofs.Common.{eqb-true, ltb-true}
use Rattle.std.proofs.lemmas.Bool.{false≢true}
use borrow.Author.Tests.{ltb-false, lt-ltb, eq-eqb}
use Rattle.ascii.specs.NotationLaws.{and_left, and_right, and_both}
use Rattle.refusals.specs.declared.refusal.Refusal.{Refusal}
use Rattle.refusals.specs.declared.refusal.Refusal.TheVariants.{TextTooLong}
use Rattle.layout_text.specs.declared.layout_text.Part.{Part}
use Rattle.layout_text.specs.declared.layout_text.Part.TheVariants.{Members, Required, Blocks}
use Rattle.layout_text.specs.declared.level_line.LevelLine.{LevelLine}
use Rattle.layout_text.specs.declared.level_line.LevelLine.TheVariants.{MemberLine, RequiredLine, GroupLine, EndLine, OtherLine}
use Rattle.layout_text.specs.LayoutText.{takes_member, takes_required, layout_order_of, layout_text_of}
use Rattle.layout_text.specs.LevelLines.{lines_at}
use Rattle.layout_text.specs.InOrder.{InOrder, members_alone, ordered-lines}

pub in_order : Part → ℕ → List LevelLine → Bool
in_order part depth [] = eqb depth 0
in_order part depth (MemberLine tag ∷ lines) = takes_member part && in_order part depth lines
in_order part depth (RequiredLine tag ∷ lines) = takes_required part && in_order Required depth lines
in_order part depth (GroupLine count delimiter flag ∷ lines) = ltb depth 40 && in_order Members (depth + 1) lines
in_order part depth (EndLine ∷ lines) = ltb 0 depth && in_order Blocks (depth - 1) lines
in_order part depth (OtherLine ∷ lines) = false

-- the test and the order are the same
pub passed-order : (lines : List LevelLine) (part : Part) (depth : ℕ) → in_order part depth lines ≡ true → InOrder part depth lines
unfolding in_order
passed-order [] part depth passes = eqb-true depth 0 passes
passed-order (MemberLine tag ∷ lines) part depth passes =
    (members_alone part (and_left (takes_member part) _ passes), passed-order lines part depth (and_right (takes_member part) _ passes))
passed-order (RequiredLine tag ∷ lines) part depth passes =
    (and_left (takes_required part) _ passes, passed-order lines Required depth (and_right (takes_required part) _ passes))
passed-order (GroupLine count delimiter flag ∷ lines) part depth passes =
    (ltb-true depth 40 (and_left (ltb depth 40) _ passes), passed-order lines Members (depth + 1) (and_right (ltb depth 40) _ passes))
passed-order (EndLine ∷ lines) part depth passes =
    (ltb-true 0 depth (and_left (ltb 0 depth) _ passes), passed-order lines Blocks (depth - 1) (and_right (ltb 0 depth) _ passes))
passed-order (OtherLine ∷ lines) part depth passes = absurd (false≢true passes)

pub order-passes : (lines : List LevelLine) (part : Part) (depth : ℕ) → InOrder part depth lines → in_order part depth lines ≡ true
unfolding in_order
order-passes [] part depth order = eq-eqb depth 0 order
order-passes (MemberLine tag ∷ lines) part depth order = rw order.0 (order-passes lines Members depth (rw order.0 at order.1))
order-passes (RequiredLine tag ∷ lines) part depth order = and_both (takes_required part) _ order.0 (order-passes lines Required depth order.1)
order-passes (GroupLine count delimiter flag ∷ lines) part depth order = and_both (ltb depth 40) _ (lt-ltb depth 40 order.0) (order-passes lines Members (depth + 1) order.1)
order-passes (EndLine ∷ lines) part depth order = and_both (ltb 0 depth) _ (lt-ltb 0 depth order.0) (order-passes lines Blocks (depth - 1) order.1)
order-passes (OtherLine ∷ lines) part depth order = absurd order

short-by : (text : List ℕ) (long : Bool) → ltb 65536 (length text) ≡ long → is_ok (cond long (Err TextTooLong) (layout_order_of text)) ≡ true → length text ≤ 65536
short-by text true test accepted = absurd (false≢true accepted)
short-by text false test accepted = ltb-false 65536 (length text) test

order-by : (text : List ℕ) (outcome : Result ℕ Refusal) → layout_text_of text ≡ outcome → is_ok outcome ≡ true → InOrder Members 0 (lines_at text 0)
order-by text (Ok lines) is accepted = ordered-lines text lines is
order-by text (Err refusal) is accepted = absurd (false≢true accepted)

module _ (text : List ℕ) (accepted : is_ok (layout_text_of text) ≡ true) where
  pub accepted-short : length text ≤ 65536
  unfolding layout_text_of
  accepted-short = short-by text (ltb 65536 (length text)) refl accepted

  pub accepted-order : InOrder Members 0 (lines_at text 0)
  accepted-order = order-by text (layout_text_of text) refl accepted

  pub accepted-passes : in_order Members 0 (lines_at text 0) ≡ true
  accepted-passes = order-passes (lines_at text 0) Members 0 accepted-order
