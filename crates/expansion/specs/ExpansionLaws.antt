-- Laws of `Expansion.antt`: the nodes, the limits, the first error. The rules of a layout are in `ExpansionRules.antt`. Assumes nothing.
--
--   Built limits transport dictionary layout nodes   a message whose build met no error and gave this layout and these nodes
--   First refusal work                               the first error noted is this refusal
use Rattle.std.proofs.Math.Path.{◌≡◌, refl}
use Rattle.std.proofs.Common.{sym, arith, ltb-true}
use Rattle.std.specs.Prelude.{ℕ, ◌≤◌, ◌<◌, Bool, true, false, cond, List, [], ◌∷◌, ◌++◌, ltb, Option, Some, None}
use Rattle.refusals.specs.declared.refusal.Refusal.{Refusal}
use Rattle.refusals.specs.declared.refusal.Refusal.TheVariants.{MembersOver}
use Rattle.lines.specs.LineParts.{message_type_of}
use Rattle.layouts.specs.Limits.{Limits}
use Rattle.layouts.specs.Layout.{Layout}
use Rattle.expansion.specs.Dictionary.{Body, Dictionary, FoundBody, Found, NotFound, count_tag_of, delimiter_of, message_of}
use Rattle.expansion.specs.Expansion.{Builder, Work, empty_level, nothing_spent, noted, with_node, push_member, push_required, add_member, add_required, finish, build, Expanded, answered, outcome_of, on_message, on_type, expand_of}
use Rattle.expansion.specs.ExpansionInduction.{Steps, keeps_build}

-- ---- what an expansion was built from

pub record Built (limits : Limits) (transport dictionary : Dictionary) (layout : Layout) (nodes : ℕ) : Type 0 where
  pub message : Body
  pub no_error : (build limits transport dictionary message).builder.errors ≡ []
  pub same_layout : layout ≡ finish (build limits transport dictionary message).level
  pub same_nodes : nodes ≡ (build limits transport dictionary message).builder.nodes

module _ (limits : Limits) (transport dictionary : Dictionary) (layout : Layout) (nodes : ℕ) where
  built-by : (errors : List Refusal) (message : Body)
      → (build limits transport dictionary message).builder.errors ≡ errors
      → answered errors (build limits transport dictionary message) ≡ Expanded layout nodes
      → Built limits transport dictionary layout nodes
  built-by [] message none given = record { message = message; no_error = none; same_layout = sym (cc given); same_nodes = sym (cc given) }
  built-by (first ∷ others) message some given = let never : ◌≡◌ {A = ℕ} 0 1 = cc in absurd (omega arith)

  built-message : (found : FoundBody) → on_message limits transport dictionary found ≡ Expanded layout nodes → Built limits transport dictionary layout nodes
  unfolding outcome_of
  built-message (Found message) given = built-by (build limits transport dictionary message).builder.errors message refl given
  built-message NotFound given = let never : ◌≡◌ {A = ℕ} 0 1 = cc in absurd (omega arith)

  built-type : (type : Option ℕ) → on_type limits transport dictionary type ≡ Expanded layout nodes → Built limits transport dictionary layout nodes
  built-type (Some letters) given = built-message (message_of dictionary letters) given
  built-type None given = let never : ◌≡◌ {A = ℕ} 0 1 = cc in absurd (omega arith)

  pub built : (type : List ℕ) → expand_of limits transport dictionary type ≡ Expanded layout nodes → Built limits transport dictionary layout nodes
  unfolding expand_of
  built type given = built-type (message_type_of type) given

-- ---- a member or an entry is added within the limit, or over it

add-by : (Keeps : Work → Type 0) (test : Bool) (m n : ℕ) (this that : Work)
    → ltb m n ≡ test
    → (m < n → Keeps this)
    → Keeps that
    → Keeps (cond test this that)
add-by Keeps true m n this that test within over = within (ltb-true m n test)
add-by Keeps false m n this that test within over = over

module _ (limits : Limits) (Keeps : Work → Type 0) (tag : ℕ) (work : Work) where
  pub keeps_add_member : (work.builder.members < limits.members → Keeps (push_member tag work))
      → Keeps (noted MembersOver (push_member tag work))
      → Keeps (add_member limits tag work)
  unfolding add_member
  keeps_add_member within over =
      add-by Keeps (ltb work.builder.members limits.members) work.builder.members limits.members
      (push_member tag work)
      (noted MembersOver (push_member tag work))
      refl
      within
      over

  pub keeps_add_required : (work.builder.required < limits.required → Keeps (push_required tag work))
      → Keeps (noted MembersOver (push_required tag work))
      → Keeps (add_required limits tag work)
  unfolding add_required
  keeps_add_required within over =
      add-by Keeps (ltb work.builder.required limits.required) work.builder.required limits.required
      (push_required tag work)
      (noted MembersOver (push_required tag work))
      refl
      within
      over

-- what is kept of the builder alone: a group's entry level has the same builder
module _ (limits : Limits) (Keeps : Builder → Type 0)
    (member : (tag : ℕ) (work : Work) → Keeps work.builder → Keeps (add_member limits tag work).builder)
    (needed : (tag : ℕ) (work : Work) → Keeps work.builder → Keeps (add_required limits tag work).builder)
    (error : (refusal : Refusal) (work : Work) → Keeps work.builder → Keeps (noted refusal work).builder)
    (node : (work : Work) → work.builder.nodes < limits.nodes → Keeps work.builder → Keeps (with_node work).builder)
  where
    builder-steps : Steps limits (Unit {0}) (λ index work. Keeps work.builder)
    builder-steps = record {
      member = λ index tag work kept. member tag work kept;
      needed = λ index tag work kept. needed tag work kept;
      error = λ index refusal work kept. error refusal work kept;
      node = λ index work room kept. node work room kept;
      inner = λ index group spent kept. tt;
      opens = λ index group spent kept.
          member (delimiter_of group) (record { builder = (add_member limits (count_tag_of group) spent).builder; level = empty_level })
          (member (count_tag_of group) spent kept);
      closes = λ index group required spent kept filled still. still;
    }

    pub builder-keeps : (transport dictionary : Dictionary) (message : Body) → Keeps nothing_spent → Keeps (build limits transport dictionary message).builder
    builder-keeps transport dictionary message = keeps_build limits (Unit {0}) (λ index work. Keeps work.builder) builder-steps transport dictionary message tt

-- ---- the nodes never pass the limit

module _ (limits : Limits) where
  abbrev NodesWithin : Builder → Type 0
  NodesWithin builder = builder.nodes ≤ limits.nodes

  pub build-nodes : (transport dictionary : Dictionary) (message : Body) → (build limits transport dictionary message).builder.nodes ≤ limits.nodes
  build-nodes transport dictionary message =
      builder-keeps limits NodesWithin
      (λ tag work kept. keeps_add_member limits (λ after. NodesWithin after.builder) tag work (λ within. kept) kept)
      (λ tag work kept. keeps_add_required limits (λ after. NodesWithin after.builder) tag work (λ within. kept) kept)
      (λ refusal work kept. kept)
      (λ work room kept. room)
      transport
      dictionary
      message
      (omega arith)

  pub expanded-nodes : (transport dictionary : Dictionary) (type : List ℕ) (layout : Layout) (nodes : ℕ)
      → expand_of limits transport dictionary type ≡ Expanded layout nodes
      → nodes ≤ limits.nodes
  expanded-nodes transport dictionary type layout nodes given =
      let from = built limits transport dictionary layout nodes type given in
      omega (arith, from.same_nodes, build-nodes transport dictionary from.message)

-- ---- where no error is noted, the members and the required entries that were added are within the limits

not-empty : (errors : List Refusal) (refusal : Refusal) → errors ++ (refusal ∷ []) ≡ [] → ⊥
not-empty [] refusal none = let never : ◌≡◌ {A = ℕ} 0 1 = cc in omega arith
not-empty (first ∷ others) refusal none = let never : ◌≡◌ {A = ℕ} 0 1 = cc in omega arith

module _ (limits : Limits) where
  abbrev AddedWithin : Builder → Type 0
  AddedWithin builder = builder.errors ≡ [] → (builder.members ≤ limits.members) × (builder.required ≤ limits.required)

  pub build-added : (transport dictionary : Dictionary) (message : Body) → AddedWithin (build limits transport dictionary message).builder
  build-added transport dictionary message =
      builder-keeps limits AddedWithin
      (λ tag work kept.
      keeps_add_member limits (λ after. AddedWithin after.builder) tag work
      (λ within none. (within, (kept none).1))
      (λ none. absurd (not-empty work.builder.errors MembersOver none)))
      (λ tag work kept.
      keeps_add_required limits (λ after. AddedWithin after.builder) tag work
      (λ within none. ((kept none).0, within))
      (λ none. absurd (not-empty work.builder.errors MembersOver none)))
      (λ refusal work kept none. absurd (not-empty work.builder.errors refusal none))
      (λ work room kept. kept)
      transport
      dictionary
      message
      (λ none. (omega arith, omega arith))
