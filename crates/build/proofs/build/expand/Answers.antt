-- `build::build::expand` meets its contract: the message of the type is built, or there is none. The laws are those of specs/BuildPromisesLaws.antt.
use mathlib.Core.Path.{sym}
use Rattle.build.specs.BuildPromisesLaws.{message-begins, traced_undefined, traced_built}
use Rattle.build.proofs.build.expand.Goals as goal

pub build-requires : goal.build-requires
build-requires c = message-begins c.args.dictionary.words.now c.args.dictionary.words32 c.args.dictionary.accepted c.args.value.now _ (sym c.in-Some.ensures.found)

-- pub fn expand(words: &[u32], value: &[u8], trace: &mut [u64]) -> Result<Builder, Stop>
pub returns-in_default : goal.returns-in_default
returns-in_default c = traced_undefined c.args.dictionary.words.now c.args.dictionary.words32 c.args.dictionary.accepted c.args.value.now _ (sym c.in_default.ensures.found)

pub returns : goal.returns
returns c = traced_built c.args.dictionary.words.now c.args.dictionary.words32 c.args.dictionary.accepted c.args.value.now _ _ _ (sym c.in-Some.ensures.found) c.build.ensures
