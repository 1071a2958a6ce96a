-- `layout_rules::layout_rules::are_among` meets its contract: `all` is the library's `list_all`.
use Rattle.std.proofs.Common.{rules, ◌≡◌, ◌∙◌, sym, ap, refl, ℕ, Bool, ◌&&◌, List, [], ◌∷◌}
use Rattle.std.proofs.lemmas.Iterator.{YieldsList-from_slice}
use Rattle.std.proofs.lemmas.Iterator.Search.{all_from_yields_List}
use Rattle.std.specs.List.{list_all}
use Rattle.ascii.specs.Bytes.{every}
use Rattle.layouts.specs.LayoutRules.{◌∈ᵇ◌}
use Rattle.layout_rules.proofs.layout_rules.are_among.Goals as goal

every-all : (test : ℕ → Bool) (value : List ℕ) → every test value ≡ list_all test value
every-all test [] = refl
every-all test (byte ∷ rest) = ap (λ (others : Bool). test byte && others) (every-all test rest)

pub returns : goal.returns
returns c =
    all_from_yields_List (λ tag. tag ∈ᵇ c.args.members.now) _ _ c.all.result c.all.ensures.ran (YieldsList-from_slice c.args.tags.now c.iter.ensures.rest) (λ x b q called. search rules)
    ∙ sym (every-all (λ tag. tag ∈ᵇ c.args.members.now) c.args.tags.now)
