-- `read_layout::read_layout::read_ordered` meets its contract, by specs/ReadLayoutLaws.antt.
use mathlib.Core.Path.{refl, sym, ◌∙◌}
use native.Mathlib.Omega.{arith}
use lib.ListN.{length}
use Rattle.layout_text.specs.LayoutOfText.{layout_of}
use Rattle.layout_text.specs.AcceptedText.{passed-order}
use Rattle.read_layout.specs.ReadLayoutLaws.{over-members, over-required, rule_breaks, no_rule_breaks, counted-members, counted-required, writable}
use Rattle.read_layout.proofs.read_layout.read_ordered.Goals as goal
use Rattle.read_layout.proofs.read_layout.read_ordered.Goals.{then-parts-gt-MEMBERS-via-then-parts-gt-MEMBERS, then-parts-gt-MEMBERS-via-else-parts-gt-MEMBERS+then-parts-gt-REQUIRED}

-- return Err(Refusal::MembersOver);
pub returns-then-parts-gt-MEMBERS : goal.returns-then-parts-gt-MEMBERS
returns-then-parts-gt-MEMBERS c =
    elim c.then-parts-gt-MEMBERS.branch [
      | then-parts-gt-MEMBERS-via-then-parts-gt-MEMBERS w ↦
          record { outcome = sym (over-members (layout_of c.args.layout.text.bytes.now) (length c.args.words.now) (omega (arith, counted-members _ c.args.layout.text.short (passed-order _ _ _ c.args.layout.ordered) _ c.count_parts-parts.ensures.members c.count_parts-parts.ensures.required c.count_parts-parts.ensures.groups, w.if-parts-gt-MEMBERS.true))); memory = refl }
      | then-parts-gt-MEMBERS-via-else-parts-gt-MEMBERS+then-parts-gt-REQUIRED w ↦
          record { outcome = sym (over-required (layout_of c.args.layout.text.bytes.now) (length c.args.words.now) (omega (arith, counted-required _ c.args.layout.text.short (passed-order _ _ _ c.args.layout.ordered) _ c.count_parts-parts.ensures.members c.count_parts-parts.ensures.required c.count_parts-parts.ensures.groups, w.if-parts-gt-REQUIRED.true))); memory = refl }
    ]

pub write_layout-requires : goal.write_layout-requires
write_layout-requires c = writable _ c.args.layout.text.short (passed-order _ _ _ c.args.layout.ordered) _ c.count_parts-parts.ensures.members c.count_parts-parts.ensures.required c.count_parts-parts.ensures.groups (omega (arith, c.if-parts-gt-MEMBERS.false)) (omega (arith, c.if-parts-gt-REQUIRED.false))

-- fn read_ordered(text: &[u8], words: &mut [u32]) -> Result<usize, Refusal>
pub returns-in-Some : goal.returns-in-Some
returns-in-Some c = record {
  outcome = sym (rule_breaks (layout_of c.args.layout.text.bytes.now) (length c.args.words.now) (omega (arith, counted-members _ c.args.layout.text.short (passed-order _ _ _ c.args.layout.ordered) _ c.count_parts-parts.ensures.members c.count_parts-parts.ensures.required c.count_parts-parts.ensures.groups, c.if-parts-gt-MEMBERS.false)) (omega (arith, counted-required _ c.args.layout.text.short (passed-order _ _ _ c.args.layout.ordered) _ c.count_parts-parts.ensures.members c.count_parts-parts.ensures.required c.count_parts-parts.ensures.groups, c.if-parts-gt-REQUIRED.false)) _ _ (sym c.first_broken.ensures ∙ c.in-Some.is));
  memory = refl;
}

pub returns : goal.returns
returns c = record {
  outcome = c.write_layout.ensures.outcome ∙ sym (no_rule_breaks (layout_of c.args.layout.text.bytes.now) (length c.args.words.now) (omega (arith, counted-members _ c.args.layout.text.short (passed-order _ _ _ c.args.layout.ordered) _ c.count_parts-parts.ensures.members c.count_parts-parts.ensures.required c.count_parts-parts.ensures.groups, c.if-parts-gt-MEMBERS.false)) (omega (arith, counted-required _ c.args.layout.text.short (passed-order _ _ _ c.args.layout.ordered) _ c.count_parts-parts.ensures.members c.count_parts-parts.ensures.required c.count_parts-parts.ensures.groups, c.if-parts-gt-REQUIRED.false)) (sym c.first_broken.ensures ∙ c.in_default.is));
  memory = c.write_layout.ensures.memory;
}
