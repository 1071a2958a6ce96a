-- `layouts::put_layout::put_layout` meets its contract: nine stores, one behind the other (`gathered-stores`).
use mathlib.Core.Path.{ap}
use lib.ListN.{set}
use Rattle.layouts.specs.GatheredLayoutLaws.{gathered-stores}
use Rattle.layouts.proofs.put_layout.put_layout.Goals as goal

pub returns : goal.returns
returns c = gathered-stores c.args.groups c.args.members.now c.args.required.now c.args.rows.now c.args.words.now _ _ _ _ _ _ _ _ _ (ap (set c.args.words.now 0) c.narrow.ensures) c.put_places.ensures c.put_places-2.ensures c.put_places-3.ensures c.put_column.ensures c.put_column-2.ensures c.put_column-3.ensures c.put_tags.ensures c.put_tags-2.ensures
