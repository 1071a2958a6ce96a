-- `dates::date::has_picture` meets its contract, by specs/DateLaws.antt.
use Rattle.std.proofs.Common.{◌∙◌}
use Rattle.dates.specs.DateLaws.{has_picture_zip}
use Rattle.dates.proofs.date.has_picture.Goals as goal

pub returns-then-value-picture : goal.returns-then-value-picture
returns-then-value-picture c = record { outcome = c.stand_for_each.ensures ∙ has_picture_zip _ _ c.if-value-picture.true }
