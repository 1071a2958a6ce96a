-- `read_layout::read_layout::write_layout` meets its contract, by specs/ReadLayoutLaws.antt.
use mathlib.Core.Path.{refl, sym}
use Rattle.layout_text.specs.AcceptedText.{passed-order}
use Rattle.read_layout.specs.ReadLayoutLaws.{space_short, space-fits, gather_room, put-room, words_written}
use Rattle.read_layout.proofs.read_layout.write_layout.Goals as goal

-- return Err(Refusal::SpaceShort(needed as u64));
pub returns-then-words-needed : goal.returns-then-words-needed
returns-then-words-needed c = record {
  outcome = sym (space_short _ _ c.requires _ refl _ c.if-words-needed.true);
  memory = refl;
}

pub gather_layout-gathered-requires : goal.gather_layout-gathered-requires
gather_layout-gathered-requires c = gather_room _ _ c.requires _ refl (passed-order _ _ _ c.args.layout.ordered) _ _ _ _ refl refl refl refl

-- put_layout(
pub put_layout-requires : goal.put_layout-requires
put_layout-requires c = put-room _ _ c.requires _ refl _ _ _ _ c.gather_layout-gathered.ensures c.args.words.now c.if-words-needed.false

pub returns : goal.returns
returns c = record {
  outcome = sym (space-fits _ _ c.requires _ refl _ c.if-words-needed.false);
  memory = words_written _ _ c.requires _ refl _ _ _ _ c.gather_layout-gathered.ensures _ _ c.if-words-needed.false c.put_layout.ensures;
}
