-- Two options over a set are equal in at most one way. Assumes nothing.
--
--   code one other    what an equation between two options comes to
use Rattle.std.specs.Prelude.{◌≡◌, refl, Option, Some, None}
use Rattle.std.proofs.Common.{sym, ap, ◌∙◌, subst}
use mathlib.Core.Path.{subst_refl, path_j}
use mathlib.Core.HLevel.{Unit-prop}

module _ {A : Type 0} where
  code : Option A → Option A → Type 0
  code None None = Unit {0}
  code None (Some other) = ⊥
  code (Some one) None = ⊥
  code (Some one) (Some other) = one ≡ other

  encode_same : (one : Option A) → code one one
  unfolding code
  encode_same None = tt
  encode_same (Some one) = refl

  encode : (one other : Option A) → one ≡ other → code one other
  encode one other same = subst (code one) same (encode_same one)

  decode : (one other : Option A) → code one other → one ≡ other
  unfolding code
  decode None None same = refl
  decode None (Some other) same = absurd same
  decode (Some one) None same = absurd same
  decode (Some one) (Some other) same = ap {B = Option A} Some same

  decode-encode : (one other : Option A) (same : one ≡ other) → decode one other (encode one other same) ≡ same
  unfolding encode decode encode_same
  decode-encode one other same = path_j (λ other same. decode one other (encode one other same) ≡ same) (go one) same
    where
      go : (one : Option A) → decode one one (encode one one refl) ≡ refl
      go None = ap (decode None None) (subst_refl (code None) {x = None} (encode_same None))
      go (Some one) = ap (decode (Some one) (Some one)) (subst_refl (code (Some one)) {x = Some one} (encode_same (Some one)))

  code_prop : IsSet A → (one other : Option A) → IsProp (code one other)
  unfolding code
  code_prop set None None = Unit-prop
  code_prop set None (Some other) = λ u v. absurd u
  code_prop set (Some one) None = λ u v. absurd u
  code_prop set (Some one) (Some other) = set one other

  pub option-set : IsSet A → IsSet (Option A)
  option-set set one other same also =
      sym (decode-encode one other same)
      ∙ ap (decode one other) (code_prop set one other (encode one other same) (encode one other also))
      ∙ decode-encode one other also
