-- The definitions of ArrangeTrace.antt and ArrangeGroups.antt, tried on a trace of eight words: tag 35, then group 453 twice. The first is required, its
-- delimiter is 448 and its required list 448, 447; the second is optional, and its delimiter is 10. Assumes nothing.
use Rattle.std.specs.Prelude.{◌≡◌, refl, ℕ, true, false, List, [], ◌∷◌}
use Rattle.ascending.specs.Sort.{inserted, sorted}
use Rattle.ascending.specs.Dedup.{deduped_after, deduped}
use Rattle.arrange_level.specs.ArrangeTrace.{Start, told, own_at}
use Rattle.arrange_level.specs.ArrangeGroups.{first_named, in_order}

abbrev trace : List ℕ
trace = 140 ∷ 3630 ∷ 1792 ∷ 1793 ∷ 1789 ∷ 1795 ∷ 3626 ∷ 43 ∷ []

abbrev first : Start
first = record { count_tag = 453; needed = true; first = 2 }

abbrev second : Start
second = record { count_tag = 453; needed = false; first = 7 }

top-told : own_at trace 0 ≡ record { members = 35 ∷ 453 ∷ 453 ∷ []; required = []; starts = first ∷ second ∷ []; delimiter = 0 }
unfolding told
top-told = refl

entry-told : own_at trace 2 ≡ record { members = 448 ∷ []; required = 448 ∷ 447 ∷ []; starts = []; delimiter = 448 }
unfolding told
entry-told = refl

second-told : own_at trace 7 ≡ record { members = []; required = []; starts = []; delimiter = 10 }
unfolding told
second-told = refl

-- "of equals the first stays"
first-stays : in_order (first ∷ second ∷ []) ≡ first ∷ []
unfolding first_named inserted sorted deduped_after deduped
first-stays = refl
