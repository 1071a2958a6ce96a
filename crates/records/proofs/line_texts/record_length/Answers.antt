-- `records::line_texts::record_length` meets its contract, a kind at a time (specs/LineLengthLaws.antt).
use Rattle.std.proofs.Common.{arith, ap, ◌∙◌}
use Rattle.records.specs.RecordKind.{kind_number}
use Rattle.records.specs.LineLengths.{length_of}
use Rattle.records.specs.LineLengthLaws.{known-def, known-value, known-begin_header, known-begin_trailer, known-component, known-message, known-field, known-group, known-use, known-end_header, known-end_trailer, known-end_letters, known-end_number, known-numbered, known-kind}
use Rattle.records.proofs.line_texts.record_length.Goals as goal

-- unreachable!();
pub unreachable-requires : goal.unreachable-requires
unreachable-requires c = known-kind c.args.words.now c.requires c.in_default.field-0 c.in_default.ensures.outcome

-- fn record_length(words: &Record) -> usize
pub returns-in-Def : goal.returns-in-Def
unfolding length_of
returns-in-Def c = record { length = rw (known-def c.args.words.now c.requires (known-numbered c.args.words.now c.requires c.in-Ok.kind c.in-Ok.ensures.outcome ∙ ap kind_number c.in-Def.is)) (omega (arith, c.digit_count.ensures.count, c.type_length.ensures.length)) }

pub returns-in-Value : goal.returns-in-Value
unfolding length_of
returns-in-Value c = record { length = rw (known-value c.args.words.now c.requires (known-numbered c.args.words.now c.requires c.in-Ok.kind c.in-Ok.ensures.outcome ∙ ap kind_number c.in-Value.is)) (omega arith) }

pub returns-in-BeginHeader : goal.returns-in-BeginHeader
unfolding length_of
returns-in-BeginHeader c = record { length = rw (known-begin_header c.args.words.now c.requires (known-numbered c.args.words.now c.requires c.in-Ok.kind c.in-Ok.ensures.outcome ∙ ap kind_number c.in-BeginHeader.is)) }

pub returns-in-BeginTrailer : goal.returns-in-BeginTrailer
unfolding length_of
returns-in-BeginTrailer c = record { length = rw (known-begin_trailer c.args.words.now c.requires (known-numbered c.args.words.now c.requires c.in-Ok.kind c.in-Ok.ensures.outcome ∙ ap kind_number c.in-BeginTrailer.is)) }

pub returns-in-Component : goal.returns-in-Component
unfolding length_of
returns-in-Component c = record { length = rw (known-component c.args.words.now c.requires (known-numbered c.args.words.now c.requires c.in-Ok.kind c.in-Ok.ensures.outcome ∙ ap kind_number c.in-Component.is)) (omega (arith, c.digit_count-in-Component.ensures.count)) }

pub returns-in-Message : goal.returns-in-Message
unfolding length_of
returns-in-Message c = record { length = rw (known-message c.args.words.now c.requires (known-numbered c.args.words.now c.requires c.in-Ok.kind c.in-Ok.ensures.outcome ∙ ap kind_number c.in-Message.is)) (omega (arith, c.letters_length.ensures.length, c.app_length.ensures.length)) }

pub returns-in-Field : goal.returns-in-Field
unfolding length_of
returns-in-Field c = record { length = rw (known-field c.args.words.now c.requires (known-numbered c.args.words.now c.requires c.in-Ok.kind c.in-Ok.ensures.outcome ∙ ap kind_number c.in-Field.is)) (omega (arith, c.digit_count-in-Field.ensures.count)) }

pub returns-in-Group : goal.returns-in-Group
unfolding length_of
returns-in-Group c = record { length = rw (known-group c.args.words.now c.requires (known-numbered c.args.words.now c.requires c.in-Ok.kind c.in-Ok.ensures.outcome ∙ ap kind_number c.in-Group.is)) (omega (arith, c.digit_count-in-Group.ensures.count, c.digit_count-in-Group-2.ensures.count)) }

pub returns-in-Use : goal.returns-in-Use
unfolding length_of
returns-in-Use c = record { length = rw (known-use c.args.words.now c.requires (known-numbered c.args.words.now c.requires c.in-Ok.kind c.in-Ok.ensures.outcome ∙ ap kind_number c.in-Use.is)) (omega (arith, c.digit_count-in-Use.ensures.count)) }

pub returns-in-EndHeader : goal.returns-in-EndHeader
unfolding length_of
returns-in-EndHeader c = record { length = rw (known-end_header c.args.words.now c.requires (known-numbered c.args.words.now c.requires c.in-Ok.kind c.in-Ok.ensures.outcome ∙ ap kind_number c.in-EndHeader.is)) }

pub returns-in-EndTrailer : goal.returns-in-EndTrailer
unfolding length_of
returns-in-EndTrailer c = record { length = rw (known-end_trailer c.args.words.now c.requires (known-numbered c.args.words.now c.requires c.in-Ok.kind c.in-Ok.ensures.outcome ∙ ap kind_number c.in-EndTrailer.is)) }

pub returns-in-EndLetters : goal.returns-in-EndLetters
unfolding length_of
returns-in-EndLetters c = record { length = rw (known-end_letters c.args.words.now c.requires (known-numbered c.args.words.now c.requires c.in-Ok.kind c.in-Ok.ensures.outcome ∙ ap kind_number c.in-EndLetters.is)) (omega (arith, c.letters_length-in-EndLetters.ensures.length)) }

pub returns-in-EndNumber : goal.returns-in-EndNumber
unfolding length_of
returns-in-EndNumber c = record { length = rw (known-end_number c.args.words.now c.requires (known-numbered c.args.words.now c.requires c.in-Ok.kind c.in-Ok.ensures.outcome ∙ ap kind_number c.in-EndNumber.is)) (omega (arith, c.digit_count-in-EndNumber.ensures.count)) }
