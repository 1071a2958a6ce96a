-- The law of a search that finds no place: the tag is none of the words. Assumes nothing.
use Rattle.std.specs.Prelude.{◌≡◌, ℕ, false, List, Option, None}
use Rattle.std.specs.Option.{is_some}
use Rattle.std.proofs.Common.{sym, ap, ◌∙◌}
use Rattle.ascending.specs.Sort.{is_in}
use Rattle.ascending.specs.Search.{rank_in}
use Rattle.layout_rules.specs.OpenBlocksLaws.{member-found}

pub member-missing : (words : List ℕ) (tag : ℕ) (found : Option ℕ) → found ≡ rank_in words tag → found ≡ None → is_in tag words ≡ false
member-missing words tag found is nowhere = sym (member-found words tag found is) ∙ ap is_some nowhere
