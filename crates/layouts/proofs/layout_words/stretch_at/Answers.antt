-- `layouts::layout_words::stretch_at` meets its contract: the part between the two places is the stretch.
use Rattle.std.proofs.Common.{refl}
use Rattle.layouts.specs.LayoutWordsLaws.{stretch-part}
use Rattle.layouts.proofs.layout_words.stretch_at.Goals as goal

-- pub fn stretch_at(words: &[u32], place: usize) -> &[u32]
pub returns : goal.returns
returns c = stretch-part c.args.words.now c.args.place _ _ refl refl
