-- How much room the levels of a trace take while they are gathered: each word of the trace adds to one level only, so all levels together
-- have no more members, required tags or groups of their own than the trace has words that add them. Assumes nothing.
--
--   counted counts words          how many of the words count: `counts` is 1 for a word that does, else 0
--   weigh counts depth words      how many words count in the level around and in all levels that begin in it, where so many groups are open
--   weight_of counts trace start   the weight of the level that begins there, all levels below it included
--   weight_all counts trace starts their weights, added up
--   counts_member word             1 for a word that adds a member, counts_required for one that adds a required tag, counts_group for one that
--                                 enters a group
use Rattle.std.specs.Prelude.{◌≡◌, Bool, true, false, cond, ◌||◌, eqb, length, drop, if◌then◌else◌}
use Rattle.std.proofs.Math.Path.{refl}
use Rattle.std.proofs.Common.{sym, ap, ◌∙◌, length-append, drop-drop}
use Prim.Native.Nat.{ℕ, zero, suc, ◌+◌, ◌≤◌, ◌%◌}
use mathlib.Core.List.{List, [], ◌∷◌, ◌++◌, map}
use native.Mathlib.Omega.{arith}
use borrow.Author.Tests.{eqb-true, eq-eqb, ne_eqb}
use Rattle.ascii.specs.Notation.{◌≡ᵇ◌}
use Rattle.ascending.specs.Sort.{is_in}
use Rattle.ascending.specs.Search.{StrictlyAbove, StrictlyAscending}
use Rattle.ascending.specs.DedupLaws.{members_ascend, is_in-members}
use Rattle.expansion.specs.Trace.{tag_in, count_tag_in}
use Rattle.arrange_level.specs.ArrangeTrace.{Start, Own, nothing_own, own_member, own_required, start_of, own_group, own_left, told, own_at}
use Rattle.arrange_level.specs.ArrangeTraceLaws.{adds_member, adds_required, enters, leaves, step_of, told-member, told-required, told-group, told-left, passed-member, passed-required, passed-group, passed-left, told-ends}
use Rattle.arrange_level.specs.ArrangeGroups.{first_named, count_tags, tags_in_order, in_order}

module _ (counts : ℕ → ℕ) where
  unfoldable pub counted : List ℕ → ℕ
  counted [] = 0
  counted (word ∷ words) = counts word + counted words

  unfoldable pub weigh : ℕ → List ℕ → ℕ
  weigh depth [] = 0
  weigh zero (word ∷ words) =
      if word % 4 ≡ᵇ 2 then counts word + (weigh 0 words + weigh 1 words)
      else if word % 4 ≡ᵇ 3 then 0
      else counts word + weigh 0 words
  weigh (suc depth) (word ∷ words) =
      if word % 4 ≡ᵇ 2 then weigh (suc (suc depth)) words
      else if word % 4 ≡ᵇ 3 then weigh depth words
      else weigh (suc depth) words

  -- ---- no word counts twice

  -- the weights where 0 to `depth` groups are open
  unfoldable weigh_up_to : ℕ → List ℕ → ℕ
  weigh_up_to zero words = weigh 0 words
  weigh_up_to (suc depth) words = weigh_up_to depth words + weigh (suc depth) words

  up_to_none : (depth : ℕ) → weigh_up_to depth [] ≡ 0
  unfolding weigh_up_to weigh
  up_to_none zero = refl
  up_to_none (suc depth) = omega (arith, up_to_none depth)

  up_to_enters : (depth word : ℕ) (words : List ℕ) → word % 4 ≡ 2 → weigh_up_to depth (word ∷ words) ≡ counts word + weigh_up_to (suc depth) words
  unfolding weigh_up_to weigh
  up_to_enters zero word words step = rw step (omega arith)
  up_to_enters (suc depth) word words step =
      let here : weigh (suc depth) (word ∷ words) ≡ weigh (suc (suc depth)) words = rw step in
      omega (arith, up_to_enters depth word words step, here)

  up_to_leaves : (depth word : ℕ) (words : List ℕ) → word % 4 ≡ 3 → weigh_up_to (suc depth) (word ∷ words) ≡ weigh_up_to depth words
  unfolding weigh_up_to weigh
  up_to_leaves zero word words step = rw step (omega arith)
  up_to_leaves (suc depth) word words step =
      let here : weigh (suc (suc depth)) (word ∷ words) ≡ weigh (suc depth) words = rw step in
      omega (arith, up_to_leaves depth word words step, here)

  leaves_none : (word : ℕ) (words : List ℕ) → word % 4 ≡ 3 → weigh_up_to 0 (word ∷ words) ≡ 0
  unfolding weigh_up_to weigh
  leaves_none word words step = rw step

  up_to_adds : (depth word : ℕ) (words : List ℕ) → (word % 4 ≡ 2 → ⊥) → (word % 4 ≡ 3 → ⊥) → weigh_up_to depth (word ∷ words) ≡ counts word + weigh_up_to depth words
  unfolding weigh_up_to weigh
  up_to_adds zero word words no_group no-left = rw (ne_eqb (word % 4) 2 no_group, ne_eqb (word % 4) 3 no-left)
  up_to_adds (suc depth) word words no_group no-left =
      let here : weigh (suc depth) (word ∷ words) ≡ weigh (suc depth) words = rw (ne_eqb (word % 4) 2 no_group, ne_eqb (word % 4) 3 no-left) in
      omega (arith, up_to_adds depth word words no_group no-left, here)

  counted-more : (word : ℕ) (words : List ℕ) → counted (word ∷ words) ≡ counts word + counted words
  unfolding counted
  counted-more word words = refl

  up_to_all : (depth : ℕ) (words : List ℕ) → weigh_up_to depth words ≤ counted words
  up_to_all depth [] = omega (arith, up_to_none depth)
  up_to_all zero (word ∷ words) =
      elim (step_of word) [
        | adds_member step ↦
            omega (arith, up_to_adds 0 word words (λ other. omega (arith, step, other)) (λ other. omega (arith, step, other)), up_to_all 0 words, counted-more word words)
        | adds_required step ↦
            omega (arith, up_to_adds 0 word words (λ other. omega (arith, step, other)) (λ other. omega (arith, step, other)), up_to_all 0 words, counted-more word words)
        | enters step ↦ omega (arith, up_to_enters 0 word words step, up_to_all 1 words, counted-more word words)
        | leaves step ↦ omega (arith, leaves_none word words step)
      ]
  up_to_all (suc depth) (word ∷ words) =
      elim (step_of word) [
        | adds_member step ↦
            omega (
              arith,
              up_to_adds (suc depth) word words (λ other. omega (arith, step, other)) (λ other. omega (arith, step, other)),
              up_to_all (suc depth) words,
              counted-more word words,
            )
        | adds_required step ↦
            omega (
              arith,
              up_to_adds (suc depth) word words (λ other. omega (arith, step, other)) (λ other. omega (arith, step, other)),
              up_to_all (suc depth) words,
              counted-more word words,
            )
        | enters step ↦ omega (arith, up_to_enters (suc depth) word words step, up_to_all (suc (suc depth)) words, counted-more word words)
        | leaves step ↦ omega (arith, up_to_leaves depth word words step, up_to_all depth words, counted-more word words)
      ]

  top-up_to : (words : List ℕ) → weigh_up_to 0 words ≡ weigh 0 words
  unfolding weigh_up_to
  top-up_to words = refl

  pub weigh-all : (words : List ℕ) → weigh 0 words ≤ counted words
  weigh-all words = omega (arith, up_to_all 0 words, top-up_to words)

  -- ---- a step at a time

  weigh-none : (depth : ℕ) → weigh depth [] ≡ 0
  unfolding weigh
  weigh-none zero = refl
  weigh-none (suc depth) = refl

  weigh-adds : (word : ℕ) (words : List ℕ) → (word % 4 ≡ 2 → ⊥) → (word % 4 ≡ 3 → ⊥) → weigh 0 (word ∷ words) ≡ counts word + weigh 0 words
  unfolding weigh
  weigh-adds word words no_group no-left = rw (ne_eqb (word % 4) 2 no_group, ne_eqb (word % 4) 3 no-left)

  weigh-enters : (word : ℕ) (words : List ℕ) → word % 4 ≡ 2 → weigh 0 (word ∷ words) ≡ counts word + (weigh 0 words + weigh 1 words)
  unfolding weigh
  weigh-enters word words step = rw step

  weigh-leaves : (word : ℕ) (words : List ℕ) → word % 4 ≡ 3 → weigh 0 (word ∷ words) ≡ 0
  unfolding weigh
  weigh-leaves word words step = rw step

  weigh-passes : (depth word : ℕ) (words : List ℕ) → (word % 4 ≡ 2 → ⊥) → (word % 4 ≡ 3 → ⊥) → weigh (suc depth) (word ∷ words) ≡ weigh (suc depth) words
  unfolding weigh
  weigh-passes depth word words no_group no-left = rw (ne_eqb (word % 4) 2 no_group, ne_eqb (word % 4) 3 no-left)

  weigh-deeper : (depth word : ℕ) (words : List ℕ) → word % 4 ≡ 2 → weigh (suc depth) (word ∷ words) ≡ weigh (suc (suc depth)) words
  unfolding weigh
  weigh-deeper depth word words step = rw step

  weigh-back : (depth word : ℕ) (words : List ℕ) → word % 4 ≡ 3 → weigh (suc depth) (word ∷ words) ≡ weigh depth words
  unfolding weigh
  weigh-back depth word words step = rw step

  -- ---- the weight of levels

  module _ (trace : List ℕ) where
    abbrev pub weight_of : Start → ℕ
    weight_of start = weigh 0 (drop start.first trace)

    unfoldable pub weight_all : List Start → ℕ
    weight_all [] = 0
    weight_all (start ∷ rest) = weight_of start + weight_all rest

    pub weight_all-append : (these those : List Start) → weight_all (these ++ those) ≡ weight_all these + weight_all those
    unfolding weight_all
    weight_all-append [] those = omega arith
    weight_all-append (start ∷ rest) those = omega (arith, weight_all-append rest those)

    pub weight_all-first : (start : Start) (rest : List Start) → weight_all (start ∷ rest) ≡ weight_of start + weight_all rest
    unfolding weight_all
    weight_all-first start rest = refl

    pub weight_all-none : weight_all [] ≡ 0
    unfolding weight_all
    weight_all-none = refl

    -- what a level has of its own, `size` of it, and the weight of its groups is its weight, where each of its words counts as it adds
    module _ (size : Own → ℕ)
        (member : (word : ℕ) (own : Own) → word % 4 ≡ 0 → size (own_member word own) ≡ size own + counts word)
        (required : (word : ℕ) (own : Own) → word % 4 ≡ 1 → size (own_required word own) ≡ size own + counts word)
        (group : (word first : ℕ) (own : Own) → word % 4 ≡ 2 → size (own_group word first own) ≡ size own + counts word)
        (left : (word : ℕ) (own : Own) → size (own_left word own) ≡ size own)
      where
        weight_told : (place depth : ℕ) (words : List ℕ) (own : Own)
            → drop place trace ≡ words
            → size (told place depth words own) + weight_all (told place depth words own).starts ≡ size own + weight_all own.starts + weigh depth words
        weight_told place depth [] own here = rw (told-ends place depth own) (omega (arith, weigh-none depth))
        weight_told place zero (word ∷ words) own here =
            let behind : drop (place + 1) trace ≡ words = sym (drop-drop 1 place trace) ∙ ap (λ (list : List ℕ). drop 1 list) here in
            elim (step_of word) [
              | adds_member step ↦
                  rw (told-member place word words own step)
                  (omega (
                    arith,
                    weight_told (place + 1) 0 words (own_member word own) behind,
                    member word own step,
                    weigh-adds word words (λ other. omega (arith, step, other)) (λ other. omega (arith, step, other)),
                  ))
              | adds_required step ↦
                  rw (told-required place word words own step)
                  (omega (
                    arith,
                    weight_told (place + 1) 0 words (own_required word own) behind,
                    required word own step,
                    weigh-adds word words (λ other. omega (arith, step, other)) (λ other. omega (arith, step, other)),
                  ))
              | enters step ↦
                  rw (told-group place word words own step)
                  (omega (
                    arith,
                    weight_told (place + 1) 1 words (own_group word (place + 1) own) behind,
                    group word (place + 1) own step,
                    weight_all-append own.starts (start_of word (place + 1) ∷ []),
                    weight_all-first (start_of word (place + 1)) [],
                    weight_all-none,
                    ap (weigh 0) behind,
                    weigh-enters word words step,
                  ))
              | leaves step ↦ rw (told-left place word words own step) (omega (arith, left word own, weigh-leaves word words step))
            ]
        weight_told place (suc depth) (word ∷ words) own here =
            let behind : drop (place + 1) trace ≡ words = sym (drop-drop 1 place trace) ∙ ap (λ (list : List ℕ). drop 1 list) here in
            elim (step_of word) [
              | adds_member step ↦
                  rw (passed-member place word words own depth step)
                  (omega (
                    arith,
                    weight_told (place + 1) (suc depth) words own behind,
                    weigh-passes depth word words (λ other. omega (arith, step, other)) (λ other. omega (arith, step, other)),
                  ))
              | adds_required step ↦
                  rw (passed-required place word words own depth step)
                  (omega (
                    arith,
                    weight_told (place + 1) (suc depth) words own behind,
                    weigh-passes depth word words (λ other. omega (arith, step, other)) (λ other. omega (arith, step, other)),
                  ))
              | enters step ↦
                  rw (passed-group place word words own depth step)
                  (omega (arith, weight_told (place + 1) (suc (suc depth)) words own behind, weigh-deeper depth word words step))
              | leaves step ↦
                  rw (passed-left place word words own depth step)
                  (omega (arith, weight_told (place + 1) depth words own behind, weigh-back depth word words step))
            ]

        pub weight_own : (start : Start)
            → size nothing_own ≡ 0
            → size (own_at trace start.first) + weight_all (own_at trace start.first).starts ≡ weight_of start
        weight_own start none = omega (arith, weight_told start.first 0 (drop start.first trace) nothing_own refl, none, weight_all-none)

    -- ---- groups in order weigh no more

    unfoldable named : ℕ → List Start → ℕ
    named tag [] = 0
    named tag (start ∷ rest) = if start.count_tag ≡ᵇ tag then weight_of start else named tag rest

    unfoldable sum_named : List Start → List ℕ → ℕ
    sum_named starts [] = 0
    sum_named starts (tag ∷ tags) = named tag starts + sum_named starts tags

    -- count tags above that of the first group
    sum-above : (low : ℕ) (start : Start) (rest : List Start) (tags : List ℕ)
        → start.count_tag ≤ low
        → StrictlyAbove low tags
        → sum_named (start ∷ rest) tags ≡ sum_named rest tags
    unfolding named sum_named
    sum-above low start rest [] from above = refl
    sum-above low start rest (tag ∷ tags) from above =
        rw (ne_eqb start.count_tag tag (λ same. omega (arith, same, from, above.0)))
        (omega (arith, sum-above tag start rest tags (omega (arith, from, above.0)) above.1))

    sum_by : (test : Bool) (tag : ℕ) (start : Start) (rest : List Start) (tags : List ℕ)
        → eqb start.count_tag tag ≡ test
        → StrictlyAbove tag tags
        → sum_named (start ∷ rest) tags ≤ weight_of start + sum_named rest tags
        → cond test (weight_of start) (named tag rest) + sum_named (start ∷ rest) tags ≤ weight_of start + (named tag rest + sum_named rest tags)
    sum_by true tag start rest tags same above deeper =
        omega (arith, sum-above tag start rest tags (omega (arith, eqb-true start.count_tag tag same)) above)
    sum_by false tag start rest tags same above deeper = omega (arith, deeper)

    sum_step : (start : Start) (rest : List Start) (tags : List ℕ) → StrictlyAscending tags → sum_named (start ∷ rest) tags ≤ weight_of start + sum_named rest tags
    unfolding named sum_named
    sum_step start rest [] ascend = omega arith
    sum_step start rest (tag ∷ tags) ascend =
        sum_by (eqb start.count_tag tag) tag start rest tags refl ascend (sum_step start rest tags (strictly_rest tag tags ascend))
      where
        strictly_rest : (low : ℕ) (tags : List ℕ) → StrictlyAbove low tags → StrictlyAscending tags
        strictly_rest low [] above = tt
        strictly_rest low (tag ∷ tags) above = above.1

    sum-none : (tags : List ℕ) → sum_named [] tags ≡ 0
    unfolding named sum_named
    sum-none [] = refl
    sum-none (tag ∷ tags) = omega (arith, sum-none tags)

    sum-all : (starts : List Start) (tags : List ℕ) → StrictlyAscending tags → sum_named starts tags ≤ weight_all starts
    sum-all [] tags ascend = omega (arith, sum-none tags)
    sum-all (start ∷ rest) tags ascend = omega (arith, sum_step start rest tags ascend, sum-all rest tags ascend, weight_all-first start rest)

    -- the weight of the first group of a count tag that is there
    named_by : (test : Bool) (tag : ℕ) (start : Start) (rest : List Start)
        → (is_in tag (count_tags rest) ≡ true → weight_of (first_named tag rest) ≡ named tag rest)
        → test || is_in tag (count_tags rest) ≡ true
        → weight_of (cond test start (first_named tag rest)) ≡ cond test (weight_of start) (named tag rest)
    named_by true tag start rest deeper there = refl
    named_by false tag start rest deeper there = deeper there

    no_true : false ≡ true → ⊥
    no_true same = let zero_one : ◌≡◌ {A = ℕ} 0 1 = ap (λ (test : Bool). cond test 1 0) same in omega arith

    named-weight : (tag : ℕ) (starts : List Start) → is_in tag (count_tags starts) ≡ true → weight_of (first_named tag starts) ≡ named tag starts
    unfolding is_in first_named named
    named-weight tag [] there = absurd (no_true there)
    named-weight tag (start ∷ rest) there = named_by (eqb start.count_tag tag) tag start rest (λ still. named-weight tag rest still) there

    either-there : (test other : Bool) → other ≡ true → test || other ≡ true
    either-there true other there = refl
    either-there false other there = there

    sum-named : (starts : List Start) (tags : List ℕ)
        → ((tag : ℕ) → is_in tag tags ≡ true → is_in tag (count_tags starts) ≡ true)
        → weight_all (map (λ (tag : ℕ). first_named tag starts) tags) ≡ sum_named starts tags
    unfolding weight_all sum_named is_in
    sum-named starts [] all = refl
    sum-named starts (tag ∷ tags) all =
        let first : weight_of (first_named tag starts) ≡ named tag starts = named-weight tag starts (all tag (rw (eq-eqb tag tag refl))) in
        let more : weight_all (map (λ (each : ℕ). first_named each starts) tags) ≡ sum_named starts tags =
        sum-named starts tags (λ each there. all each (either-there (eqb tag each) (is_in each tags) there)) in
        omega (arith, first, more)

    pub weight_in_order : (starts : List Start) → weight_all (in_order starts) ≤ weight_all starts
    weight_in_order starts =
        omega (
          arith,
          sum-named starts (tags_in_order starts) (λ tag there. sym (is_in-members tag (count_tags starts)) ∙ there),
          sum-all starts (tags_in_order starts) (members_ascend (count_tags starts)),
        )

-- ---- members, required tags, groups

abbrev pub counts_member : ℕ → ℕ
counts_member word = if word % 4 ≡ᵇ 1 then 0 else if word % 4 ≡ᵇ 3 then 0 else 1

abbrev pub counts_required : ℕ → ℕ
counts_required word = if word % 4 ≡ᵇ 1 then 1 else 0

abbrev pub counts_group : ℕ → ℕ
counts_group word = if word % 4 ≡ᵇ 2 then 1 else 0

module _ (trace : List ℕ) (start : Start) where
  pub members-weight : length (own_at trace start.first).members + weight_all counts_member trace (own_at trace start.first).starts ≡ weight_of counts_member trace start
  members-weight =
      weight_own counts_member trace (λ own. length own.members)
      (λ word own step. rw step (length-append own.members (tag_in word ∷ [])))
      (λ word own step. rw step (omega arith))
      (λ word first own step. rw step (length-append own.members (count_tag_in word ∷ [])))
      (λ word own. refl)
      start
      refl

  pub required-weight : length (own_at trace start.first).required + weight_all counts_required trace (own_at trace start.first).starts ≡ weight_of counts_required trace start
  required-weight =
      weight_own counts_required trace (λ own. length own.required)
      (λ word own step. rw step (omega arith))
      (λ word own step. rw step (length-append own.required (tag_in word ∷ [])))
      (λ word first own step. rw step (omega arith))
      (λ word own. refl)
      start
      refl

  pub groups-weight : length (own_at trace start.first).starts + weight_all counts_group trace (own_at trace start.first).starts ≡ weight_of counts_group trace start
  groups-weight =
      weight_own counts_group trace (λ own. length own.starts)
      (λ word own step. rw step (omega arith))
      (λ word own step. rw step (omega arith))
      (λ word first own step. rw step (length-append own.starts (start_of word first ∷ [])))
      (λ word own. refl)
      start
      refl

-- no more words count than there are
counted-within : (counts : ℕ → ℕ) (words : List ℕ) → ((word : ℕ) → counts word ≤ 1) → counted counts words ≤ length words
unfolding counted
counted-within counts [] few = omega arith
counted-within counts (word ∷ words) few = omega (arith, few word, counted-within counts words few)

one_at_most : (test : Bool) (yes' no' : ℕ) → yes' ≤ 1 → no' ≤ 1 → cond test yes' no' ≤ 1
one_at_most true yes' no' first second = first
one_at_most false yes' no' first second = second

pub members-counted : (words : List ℕ) → counted counts_member words ≤ length words
members-counted words =
    counted-within counts_member words
    (λ word. one_at_most (eqb (word % 4) 1) 0 (cond (eqb (word % 4) 3) 0 1) (omega arith) (one_at_most (eqb (word % 4) 3) 0 1 (omega arith) (omega arith)))

pub required-counted : (words : List ℕ) → counted counts_required words ≤ length words
required-counted words = counted-within counts_required words (λ word. one_at_most (eqb (word % 4) 1) 1 0 (omega arith) (omega arith))

pub groups-counted : (words : List ℕ) → counted counts_group words ≤ length words
groups-counted words = counted-within counts_group words (λ word. one_at_most (eqb (word % 4) 2) 1 0 (omega arith) (omega arith))
