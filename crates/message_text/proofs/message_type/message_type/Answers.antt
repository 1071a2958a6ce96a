-- `message_text::message_type::message_type` meets its contract: the first row that the search finds is the type's (specs/MessageTypeLaws.antt).
use Rattle.std.proofs.Common.{sym}
use Rattle.message_text.specs.MessageTypeLaws.{type_place_of-find}
use Rattle.message_text.proofs.message_type.message_type.Goals as goal

pub returns-in-Some : goal.returns-in-Some
returns-in-Some c = record { outcome = sym (rw c.in-Some.is at (type_place_of-find _ _ c.as_chunks.ensures.front _ c.type_row.ensures)) }

pub returns-in-None : goal.returns-in-None
returns-in-None c = record { outcome = sym (rw c.in-None.is at (type_place_of-find _ _ c.as_chunks.ensures.front _ c.type_row.ensures)) }
