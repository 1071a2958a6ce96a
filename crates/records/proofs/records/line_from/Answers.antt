-- `records::records::line_from` meets its contract, a kind at a time (specs/RecordKindLaws.antt, specs/RecordsLaws.antt).
use Rattle.std.proofs.Common.{rules, ◌≡◌, ◌∙◌}
use Rattle.records.specs.declared.record_kind.RecordKind.TheVariants.{Def, Value, BeginHeader, BeginTrailer, Component, Message, Field, Group, Use, EndHeader, EndTrailer, EndLetters, EndNumber}
use Rattle.records.specs.Records.{field_from, use_from}
use Rattle.records.specs.RecordsLaws.{line_from-numbered, line_from-unknown}
use Rattle.records.proofs.records.line_from.Goals as goal

-- return Line::Unknown;
pub returns-in_default : goal.returns-in_default
returns-in_default c = line_from-unknown c.args.words.now c.in_default.field-0 c.in_default.ensures.outcome

-- pub fn line_from(words: &Record) -> Line
pub returns-in-Def : goal.returns-in-Def
returns-in-Def c = c.def_from.ensures ∙ line_from-numbered c.args.words.now Def c.in-Ok.kind c.in-Ok.ensures.outcome c.in-Def.is

pub returns-in-Value : goal.returns-in-Value
returns-in-Value c = c.value_from.ensures ∙ line_from-numbered c.args.words.now Value c.in-Ok.kind c.in-Ok.ensures.outcome c.in-Value.is

pub returns-in-BeginHeader : goal.returns-in-BeginHeader
returns-in-BeginHeader c = c.line_if_unused.ensures ∙ line_from-numbered c.args.words.now BeginHeader c.in-Ok.kind c.in-Ok.ensures.outcome c.in-BeginHeader.is

pub returns-in-BeginTrailer : goal.returns-in-BeginTrailer
returns-in-BeginTrailer c = c.line_if_unused-in-BeginTrailer.ensures ∙ line_from-numbered c.args.words.now BeginTrailer c.in-Ok.kind c.in-Ok.ensures.outcome c.in-BeginTrailer.is

pub returns-in-Component : goal.returns-in-Component
returns-in-Component c = c.line_if_unused-in-Component.ensures ∙ line_from-numbered c.args.words.now Component c.in-Ok.kind c.in-Ok.ensures.outcome c.in-Component.is

pub returns-in-Message : goal.returns-in-Message
returns-in-Message c = c.message_from.ensures ∙ line_from-numbered c.args.words.now Message c.in-Ok.kind c.in-Ok.ensures.outcome c.in-Message.is

pub returns-in-Field : goal.returns-in-Field
returns-in-Field c = let flagged : c.map_or.result ≡ field_from c.args.words.now = search rules in flagged ∙ line_from-numbered c.args.words.now Field c.in-Ok.kind c.in-Ok.ensures.outcome c.in-Field.is

pub returns-in-Group : goal.returns-in-Group
returns-in-Group c = c.group_from.ensures ∙ line_from-numbered c.args.words.now Group c.in-Ok.kind c.in-Ok.ensures.outcome c.in-Group.is

pub returns-in-Use : goal.returns-in-Use
returns-in-Use c = let flagged : c.map_or-in-Use.result ≡ use_from c.args.words.now = search rules in flagged ∙ line_from-numbered c.args.words.now Use c.in-Ok.kind c.in-Ok.ensures.outcome c.in-Use.is

pub returns-in-EndHeader : goal.returns-in-EndHeader
returns-in-EndHeader c = c.line_if_unused-in-EndHeader.ensures ∙ line_from-numbered c.args.words.now EndHeader c.in-Ok.kind c.in-Ok.ensures.outcome c.in-EndHeader.is

pub returns-in-EndTrailer : goal.returns-in-EndTrailer
returns-in-EndTrailer c = c.line_if_unused-in-EndTrailer.ensures ∙ line_from-numbered c.args.words.now EndTrailer c.in-Ok.kind c.in-Ok.ensures.outcome c.in-EndTrailer.is

pub returns-in-EndLetters : goal.returns-in-EndLetters
returns-in-EndLetters c = c.end_of_letters.ensures ∙ line_from-numbered c.args.words.now EndLetters c.in-Ok.kind c.in-Ok.ensures.outcome c.in-EndLetters.is

pub returns-in-EndNumber : goal.returns-in-EndNumber
returns-in-EndNumber c = c.end_of_number.ensures ∙ line_from-numbered c.args.words.now EndNumber c.in-Ok.kind c.in-Ok.ensures.outcome c.in-EndNumber.is
