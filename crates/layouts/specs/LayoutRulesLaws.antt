-- Laws of `LayoutRules.antt`, in its order: ascending tags, membership, and how the count tags of a level are met among its members.
-- Assumes nothing.
--
--   met_among least members tags   whether tags are met, in their order, among members that ascend from `least` on
use Rattle.std.specs.Prelude.{◌≡◌, refl, ℕ, suc, ◌≤◌, ◌<◌, Bool, true, false, ◌&&◌, List, [], ◌∷◌, length, get_or, leb, ltb, if◌then◌else◌}
use Rattle.std.proofs.Common.{sym, ap₂, ◌∙◌, arith, le-leb, leb-true, lt-ltb, ltb-true, eq-eqb, ne_eqb}
use Rattle.std.proofs.lemmas.Bool.{false≢true}
use Rattle.std.proofs.Math.Decide.{ℕ_discrete}
use Rattle.ascii.specs.Notation.{◌≤ᵇ◌, ◌≡ᵇ◌}
use Rattle.ascii.specs.NotationLaws.{and_left, and_right, and_both}
use Rattle.ascending.specs.Sort.{is_in}
use Rattle.ascending.specs.Search.{is_strictly_above, is_strictly_ascending}
use Rattle.layouts.specs.LayoutRules.{is_ascending, ◌∈ᵇ◌, are_among}

-- two tests that hold in the same cases are equal
pub same_test : (a b : Bool) → (a ≡ true → b ≡ true) → (b ≡ true → a ≡ true) → a ≡ b
same_test true b to back = sym (to refl)
same_test false true to back = back refl
same_test false false to back = refl

-- ---- is_ascending

-- from `least` on: the first tag is at least that, each further one greater than the one before
unfoldable pub is_ascending_from : ℕ → List ℕ → Bool
is_ascending_from least [] = true
is_ascending_from least (tag ∷ rest) = least ≤ᵇ tag && is_ascending_from (suc tag) rest

ascending_above : (low : ℕ) (tags : List ℕ) → is_ascending_from (suc low) tags ≡ is_strictly_above low tags
unfolding is_ascending_from is_strictly_above
ascending_above low [] = refl
ascending_above low (tag ∷ rest) =
    ap₂ (λ (a b : Bool). a && b)
    (same_test (leb (suc low) tag) (ltb low tag) (λ holds. lt-ltb low tag (leb-true (suc low) tag holds)) (λ holds. le-leb (suc low) tag (ltb-true low tag holds)))
    (ascending_above tag rest)

pub ascending_all : (tags : List ℕ) → is_ascending_from 0 tags ≡ is_ascending tags
unfolding is_ascending_from is_strictly_ascending
ascending_all [] = refl
ascending_all (tag ∷ rest) = rw (le-leb 0 tag (omega arith)) (ascending_above tag rest)

pub ascending_lower : (lower least : ℕ) (tags : List ℕ) → lower ≤ least → is_ascending_from least tags ≡ true → is_ascending_from lower tags ≡ true
unfolding is_ascending_from
ascending_lower lower least [] below holds = refl
ascending_lower lower least (tag ∷ rest) below holds =
    and_both (leb lower tag) _ (le-leb lower tag (omega (arith, leb-true least tag (and_left (leb least tag) _ holds)))) (and_right (leb least tag) _ holds)

-- ---- _∈ᵇ_

pub member-first : (tag first : ℕ) (rest : List ℕ) → first ≡ tag → tag ∈ᵇ (first ∷ rest) ≡ true
unfolding is_in
member-first tag first rest same = rw (is_in, eq-eqb first tag same)

pub member-later : (tag first : ℕ) (rest : List ℕ) → (first ≡ tag → ⊥) → tag ∈ᵇ (first ∷ rest) ≡ tag ∈ᵇ rest
unfolding is_in
member-later tag first rest other = rw (is_in, ne_eqb first tag other)

pub member-more : (tag first : ℕ) (rest : List ℕ) → tag ∈ᵇ rest ≡ true → tag ∈ᵇ (first ∷ rest) ≡ true
member-more tag first rest holds = go (ℕ_discrete first tag)
  where
    go : Dec (first ≡ tag) → tag ∈ᵇ (first ∷ rest) ≡ true
    go (yes same) = member-first tag first rest same
    go (no other) = member-later tag first rest other ∙ holds

-- no tag below `least` is among members that ascend from there
pub member-least : (tag least : ℕ) (members : List ℕ) → is_ascending_from least members ≡ true → tag ∈ᵇ members ≡ true → least ≤ tag
unfolding is_ascending_from is_in
member-least tag least [] ascend holds = absurd (false≢true holds)
member-least tag least (first ∷ rest) ascend holds = go (member-least tag (suc first) rest (and_right (leb least first) _ ascend)) (ℕ_discrete first tag)
  where
    from : least ≤ first
    from = leb-true least first (and_left (leb least first) _ ascend)

    go : (tag ∈ᵇ rest ≡ true → suc first ≤ tag) → Dec (first ≡ tag) → least ≤ tag
    go later (yes same) = omega (arith, from)
    go later (no other) = omega (arith, from, later (sym (member-later tag first rest other) ∙ holds))

-- where a member is
pub record MemberAt (tag : ℕ) (members : List ℕ) : Type 0 where
  pub index : ℕ
  pub inside : index < length members
  pub found : get_or members index 0 ≡ tag

pub member-at : (tag : ℕ) (members : List ℕ) → tag ∈ᵇ members ≡ true → MemberAt tag members
unfolding is_in
member-at tag [] holds = absurd (false≢true holds)
member-at tag (first ∷ rest) holds = go (member-at tag rest) (ℕ_discrete first tag)
  where
    go : (tag ∈ᵇ rest ≡ true → MemberAt tag rest) → Dec (first ≡ tag) → MemberAt tag (first ∷ rest)
    go later (yes same) = record { index = 0; inside = omega arith; found = same }
    go later (no other) =
        let rest_at = later (sym (member-later tag first rest other) ∙ holds) in
        record { index = suc rest_at.index; inside = omega (arith, rest_at.inside); found = rest_at.found }

-- ---- are_among

pub among-more : (first : ℕ) (members tags : List ℕ) → are_among members tags ≡ true → are_among (first ∷ members) tags ≡ true
among-more first members [] hold = refl
among-more first members (tag ∷ tags) hold =
    and_both
    (tag ∈ᵇ (first ∷ members))
    (are_among (first ∷ members) tags)
    (member-more tag first members (and_left (tag ∈ᵇ members) (are_among members tags) hold))
    (among-more first members tags (and_right (tag ∈ᵇ members) (are_among members tags) hold))

-- tags that are greater than the first member are among the others
pub among-others : (first : ℕ) (members tags : List ℕ) → is_ascending_from (suc first) tags ≡ true → are_among (first ∷ members) tags ≡ true → are_among members tags ≡ true
unfolding is_ascending_from
among-others first members [] ascend hold = refl
among-others first members (tag ∷ tags) ascend hold =
    and_both
    (tag ∈ᵇ members)
    (are_among members tags)
    (sym (member-later tag first members (λ (same : first ≡ tag). omega (arith, above))) ∙ and_left (tag ∈ᵇ (first ∷ members)) (are_among (first ∷ members) tags) hold)
    (among-others
    first
    members
    tags
    (ascending_lower (suc first) (suc tag) tags (omega (arith, above)) (and_right (leb (suc first) tag) _ ascend))
    (and_right (tag ∈ᵇ (first ∷ members)) (are_among (first ∷ members) tags) hold))
  where
    above : suc first ≤ tag
    above = leb-true (suc first) tag (and_left (leb (suc first) tag) _ ascend)

-- ---- tags met among members

unfoldable pub met_among : ℕ → List ℕ → List ℕ → Bool
met_among least [] [] = true
met_among least [] (tag ∷ tags) = false
met_among least (member ∷ rest) [] = least ≤ᵇ member && met_among (suc member) rest []
met_among least (member ∷ rest) (tag ∷ tags) =
    least ≤ᵇ member && (if tag ≡ᵇ member then met_among (suc member) rest tags else met_among (suc member) rest (tag ∷ tags))

pub record Met (least : ℕ) (members tags : List ℕ) : Type 0 where
  pub members_ascend : is_ascending_from least members ≡ true
  pub tags_ascend : is_ascending_from least tags ≡ true
  pub among : are_among members tags ≡ true

module _ (least member : ℕ) (rest : List ℕ) where
  from_first : (tags : List ℕ) → least ≤ member → Met (suc member) rest tags → Met least (member ∷ rest) tags
  unfolding is_ascending_from
  from_first tags above met = record {
    members_ascend = and_both (leb least member) _ (le-leb least member above) met.members_ascend;
    tags_ascend = ascending_lower least (suc member) tags (omega arith) met.tags_ascend;
    among = among-more member rest tags met.among;
  }

  with_first : (tag : ℕ) (tags : List ℕ) → least ≤ member → tag ≡ member → Met (suc member) rest tags → Met least (member ∷ rest) (tag ∷ tags)
  unfolding is_ascending_from
  with_first tag tags above same met = record {
    members_ascend = and_both (leb least member) _ (le-leb least member above) met.members_ascend;
    tags_ascend =
        and_both
        (leb least tag)
        _
        (le-leb least tag (omega arith))
        (ascending_lower (suc tag) (suc member) tags (omega arith) met.tags_ascend);
    among =
        and_both
        (tag ∈ᵇ (member ∷ rest))
        (are_among (member ∷ rest) tags)
        (member-first tag member rest (sym same))
        (among-more member rest tags met.among);
  }

  -- what is left when the first member is passed
  past_first : (tags : List ℕ) → is_ascending_from (suc member) tags ≡ true → Met least (member ∷ rest) tags → Met (suc member) rest tags
  unfolding is_ascending_from
  past_first tags above met = record {
    members_ascend = and_right (leb least member) _ met.members_ascend;
    tags_ascend = above;
    among = among-others member rest tags above met.among;
  }

pub met_holds : (least : ℕ) (members tags : List ℕ) → met_among least members tags ≡ true → Met least members tags
unfolding met_among is_ascending_from
met_holds least [] [] holds = record { members_ascend = refl; tags_ascend = refl; among = refl }
met_holds least [] (tag ∷ tags) holds = absurd (false≢true holds)
met_holds least (member ∷ rest) [] holds =
    from_first
    least
    member
    rest
    []
    (leb-true least member (and_left (leb least member) _ holds))
    (met_holds (suc member) rest [] (and_right (leb least member) _ holds))
met_holds least (member ∷ rest) (tag ∷ tags) holds =
    go
    (leb-true least member (and_left (leb least member) _ holds))
    (and_right (leb least member) _ holds)
    (met_holds (suc member) rest tags)
    (met_holds (suc member) rest (tag ∷ tags))
    (ℕ_discrete tag member)
  where
    go : least ≤ member
        → (if tag ≡ᵇ member then met_among (suc member) rest tags else met_among (suc member) rest (tag ∷ tags)) ≡ true
        → (met_among (suc member) rest tags ≡ true → Met (suc member) rest tags)
        → (met_among (suc member) rest (tag ∷ tags) ≡ true → Met (suc member) rest (tag ∷ tags))
        → Dec (tag ≡ member)
        → Met least (member ∷ rest) (tag ∷ tags)
    go above found with_tag without (yes same) = with_first least member rest tag tags above same (with_tag (rw (eq-eqb tag member same) at found))
    go above found with_tag without (no other) = from_first least member rest (tag ∷ tags) above (without (rw (ne_eqb tag member other) at found))

pub holds-met : (least : ℕ) (members tags : List ℕ) → Met least members tags → met_among least members tags ≡ true
unfolding met_among is_ascending_from is_in
holds-met least [] [] met = refl
holds-met least [] (tag ∷ tags) met = met.among
holds-met least (member ∷ rest) [] met =
    and_both
    (leb least member)
    _
    (and_left (leb least member) _ met.members_ascend)
    (holds-met (suc member) rest [] (record { members_ascend = and_right (leb least member) _ met.members_ascend; tags_ascend = refl; among = refl }))
holds-met least (member ∷ rest) (tag ∷ tags) met =
    and_both
    (leb least member)
    _
    (and_left (leb least member) _ met.members_ascend)
    (go (holds-met (suc member) rest tags) (holds-met (suc member) rest (tag ∷ tags)) (ℕ_discrete tag member))
  where
    tags-above : tag ≡ member → is_ascending_from (suc member) tags ≡ true
    tags-above same = ascending_lower (suc member) (suc tag) tags (omega arith) (and_right (leb least tag) _ met.tags_ascend)

    later : (tag ≡ member → ⊥) → suc member ≤ tag
    later other =
        member-least
        tag
        (suc member)
        rest
        (and_right (leb least member) _ met.members_ascend)
        (sym (member-later tag member rest (λ same. other (sym same))) ∙ and_left (tag ∈ᵇ (member ∷ rest)) (are_among (member ∷ rest) tags) met.among)

    go : (Met (suc member) rest tags → met_among (suc member) rest tags ≡ true)
        → (Met (suc member) rest (tag ∷ tags) → met_among (suc member) rest (tag ∷ tags) ≡ true)
        → Dec (tag ≡ member)
        → (if tag ≡ᵇ member then met_among (suc member) rest tags else met_among (suc member) rest (tag ∷ tags)) ≡ true
    go with_tag without (yes same) =
        rw
        (eq-eqb tag member same)
        (with_tag
        (record {
          members_ascend = and_right (leb least member) _ met.members_ascend;
          tags_ascend = tags-above same;
          among = among-others member rest tags (tags-above same) (and_right (tag ∈ᵇ (member ∷ rest)) (are_among (member ∷ rest) tags) met.among);
        }))
    go with_tag without (no other) =
        rw
        (ne_eqb tag member other)
        (without
        (past_first
        least
        member
        rest
        (tag ∷ tags)
        (and_both (leb (suc member) tag) _ (le-leb (suc member) tag (later other)) (and_right (leb least tag) _ met.tags_ascend))
        met))

-- meeting the tags in one pass decides what a level must meet
pub met_among-level : (members tags : List ℕ) → met_among 0 members tags ≡ is_ascending members && is_ascending tags && are_among members tags
met_among-level members tags =
    same_test
    (met_among 0 members tags)
    (is_ascending_from 0 members && is_ascending_from 0 tags && are_among members tags)
    (λ holds. let met = met_holds 0 members tags holds in rw (met.members_ascend, met.tags_ascend, met.among))
    (λ hold. holds-met 0 members tags (record {
      members_ascend = and_left (is_ascending_from 0 members) _ (and_left (is_ascending_from 0 members && is_ascending_from 0 tags) _ hold);
      tags_ascend = and_right (is_ascending_from 0 members) (is_ascending_from 0 tags) (and_left (is_ascending_from 0 members && is_ascending_from 0 tags) _ hold);
      among = and_right (is_ascending_from 0 members && is_ascending_from 0 tags) _ hold;
    }))
    ∙ rw (ascending_all members, ascending_all tags)
