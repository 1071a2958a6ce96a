-- `build::build::build` meets its contract: three bodies, one after the other, by the laws of specs/BuildPromisesLaws.antt.
use Rattle.std.proofs.lemmas.Result.{err_from_is_err_and}
use Rattle.bodies.specs.DictionaryLookups.{header-begins, trailer-begins}
use Rattle.expansion.specs.TraceLaws.{done-grown}
use Rattle.build.specs.BuildPromisesLaws.{nothing-fits, built-header_over, built-trailer_over, built-message}
use Rattle.build.proofs.build.build.Goals as goal

-- let head = add_top(words, header, trace, nothing)?;
pub add_top-requires : goal.add_top-requires
add_top-requires c = ((header-begins c.args.dictionary.words.now c.args.dictionary.words32 c.args.dictionary.accepted _ c.header_of-header.ensures).0, nothing-fits)

pub returns-in_err-head : goal.returns-in_err-head
returns-in_err-head c =
    let p = err_from_is_err_and c.from_residual.result c.from_residual.ensures.1 in
    rw (p.1, p.2) (built-header_over c.args.dictionary.words.now c.args.dictionary.words32 c.args.dictionary.accepted _ _ c.args.message c.header_of-header.ensures c.trailer_of-trailer.ensures c.args.trace.now _ _ c.in_err-head.ensures)

-- let envelope = add_top(words, trailer, trace, head)?;
pub add_top-requires-2 : goal.add_top-requires-2
add_top-requires-2 c = ((trailer-begins c.args.dictionary.words.now c.args.dictionary.words32 c.args.dictionary.accepted _ c.trailer_of-trailer.ensures).0, (done-grown _ _ c.in_ok-head.ensures.grows).fits)

pub returns-in_err-envelope : goal.returns-in_err-envelope
returns-in_err-envelope c =
    let p = err_from_is_err_and c.from_residual-in_err-envelope.result c.from_residual-in_err-envelope.ensures.1 in
    rw (p.1, p.2) (built-trailer_over c.args.dictionary.words.now c.args.dictionary.words32 c.args.dictionary.accepted _ _ c.args.message c.header_of-header.ensures c.trailer_of-trailer.ensures c.args.trace.now _ _ c.in_ok-head.ensures _ _ c.in_err-envelope.ensures)

-- add_top(words, message, trace, envelope)
pub add_top-requires-3 : goal.add_top-requires-3
add_top-requires-3 c = (c.requires, (done-grown _ _ c.in_ok-envelope.ensures.grows).fits)

pub returns : goal.returns
returns c = built-message c.args.dictionary.words.now c.args.dictionary.words32 c.args.dictionary.accepted _ _ c.args.message c.header_of-header.ensures c.trailer_of-trailer.ensures c.args.trace.now _ _ c.in_ok-head.ensures _ _ _ _ c.in_ok-envelope.ensures c.add_top-3.ensures
