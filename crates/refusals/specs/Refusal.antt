-- Document 01, 'When the gate says no': the number and the place of each refusal, a clause for each row of its table. Assumes nothing.
--
--   refusal_number refusal   column No.
--   refusal_place refusal    column Place; of a broken layout rule "rule × 4,294,967,296 + tag"
use Rattle.std.specs.Prelude.{ℕ, ◌+◌, ◌*◌}
use Rattle.refusals.specs.declared.refusal.Refusal.{Refusal}
use Rattle.refusals.specs.declared.refusal.Refusal.TheVariants.{TextTooLong, UnknownForm, NotAllowed, TooManyOpen, DefinedAgain, TypeNotDefined, ComponentNotDefined, TooDeep, OutOfNodes, MembersOver, RuleBroken, BadField, SpaceShort, NoSuchGroup}

abbrev pub refusal_number : Refusal → ℕ
refusal_number TextTooLong = 1
refusal_number (UnknownForm line) = 2
refusal_number (NotAllowed line) = 3
refusal_number (TooManyOpen line) = 4
refusal_number (DefinedAgain line) = 5
refusal_number TypeNotDefined = 6
refusal_number (ComponentNotDefined component) = 7
refusal_number (TooDeep name) = 8
refusal_number (OutOfNodes name) = 9
refusal_number MembersOver = 10
refusal_number (RuleBroken rule tag) = 11
refusal_number (BadField field) = 12
refusal_number (SpaceShort needed) = 13
refusal_number (NoSuchGroup tag) = 14

abbrev pub refusal_place : Refusal → ℕ
refusal_place TextTooLong = 0
refusal_place (UnknownForm line) = line
refusal_place (NotAllowed line) = line
refusal_place (TooManyOpen line) = line
refusal_place (DefinedAgain line) = line
refusal_place TypeNotDefined = 0
refusal_place (ComponentNotDefined component) = component
refusal_place (TooDeep name) = name
refusal_place (OutOfNodes name) = name
refusal_place MembersOver = 0
refusal_place (RuleBroken rule tag) = rule * 4294967296 + tag
refusal_place (BadField field) = field
refusal_place (SpaceShort needed) = needed
refusal_place (NoSuchGroup tag) = tag
