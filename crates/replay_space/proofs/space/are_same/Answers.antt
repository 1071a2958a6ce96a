-- `replay_space::space::are_same`: `==` of two slices says whether they are the same, since that of two words does.
use Rattle.std.proofs.lemmas.Slice.Eq.{slice_eq-Decides}
use Rattle.replay_space.proofs.space.are_same.Goals as goal

pub returns : goal.returns
returns g c = slice_eq-Decides g.met.W.Word.same _ _ _ c.eq.ensures
