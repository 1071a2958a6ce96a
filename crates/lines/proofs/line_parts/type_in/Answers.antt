-- `lines::line_parts::type_in` meets its contract: the names that `split` gives are the pieces of the cut (specs/LinePartsLaws.antt).
use Rattle.std.proofs.Common.{rules, ◌≡◌, ◌∙◌, sym, eqb, arith, Some, ◌<◌, lt-ltb}
use borrow.Author.Tests.{tests}
use Rattle.std.proofs.lemmas.Iterator.Splits.{YieldsList-from_slice_split}
use Rattle.std.proofs.lemmas.Iterator.Search.{position_from_yields_List}
use Rattle.lines.specs.Lines.{cut, comma, is_same}
use Rattle.lines.specs.LineParts.{type_in}
use Rattle.lines.specs.LinePartsLaws.{type_in-position, type_in-few, word_of_count}
use Rattle.lines.proofs.line_parts.type_in.Goals as goal
use Rattle.lines.proofs.line_parts.type_in.Goals.{After-position}

-- what the search gives is what `type_in` gives
found : (c : After-position) → c.position.result ≡ type_in c.args.name.now 0 (cut comma c.args.names.now)
found c =
    position_from_yields_List (is_same c.args.name.now) _ _ _ c.position.ensures.ran
    (YieldsList-from_slice_split _ (λ byte. eqb byte 44) c.args.names.now c.split.ensures.rest c.split.ensures.done c.split.ensures.closure (λ x b q k. search (rules, tests)))
    (λ x b q k. search (rules, tests))
    ∙ type_in-position c.args.name.now c.args.names.now

pub returns-in_err-place : goal.returns-in_err-place
returns-in_err-place c = c.from_residual.ensures ∙ sym (sym (found (goal.at.returns-in_err-place c).After-position) ∙ c.in_err-place.was)

pub returns : goal.returns
returns c =
    let is : type_in c.args.name.now 0 (cut comma c.args.names.now) ≡ Some c.in_ok-place.place = sym (found (goal.at.returns c).After-position) ∙ c.in_ok-place.was in
    let fits : c.in_ok-place.place < 4294967296 = omega (arith, type_in-few c.args.name.now c.args.names.now c.in_ok-place.place is, c.requires) in
    c.ok.ensures.value ∙ word_of_count _ _ c.try_from.ensures ∙ rw (lt-ltb _ _ fits) (sym is)
