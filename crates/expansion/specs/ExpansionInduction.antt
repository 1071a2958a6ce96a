-- What every step of an expansion keeps, the whole expansion keeps: the induction that laws of `Expansion.antt` rest on. `Keeps index work`
-- is what is kept; the index says what else it depends on, and may be another one in the level of an entry. Assumes nothing.
--
--   Steps limits Index Keeps   every step keeps it: a member, a required entry, an error noted, a node taken, and a group, from the opening
--                              of its entry level to the close
--   keeps-group, keeps-component, keeps-build   then it is kept by these
use Rattle.std.specs.Prelude.{◌≡◌, Bool, cond, ◌&&◌, ltb}
use Rattle.std.proofs.Math.Path.{refl}
use Prim.Native.Nat.{ℕ, zero, suc, ◌<◌}
use Rattle.std.proofs.Math.Bool.{true, false}
use mathlib.Core.List.{List, [], ◌∷◌}
use Rattle.std.proofs.Common.{ltb-true}
use Rattle.refusals.specs.declared.refusal.Refusal.{Refusal}
use Rattle.refusals.specs.declared.refusal.Refusal.TheVariants.{ComponentNotDefined, TooDeep, OutOfNodes}
use Rattle.ascending.specs.Sort.{is_in}
use Rattle.layouts.specs.Limits.{Limits}
use Rattle.expansion.specs.Dictionary.{FieldRef, ComponentRef, Body, GroupDefs, no_group_defs, group_def_and, GroupDef, Dictionary, FoundBody, Found, NotFound, fields_of, group_defs_of, uses_of, count_tag_of, delimiter_of, is_needed, entry_body, component_of}
use Rattle.expansion.specs.Expansion.{Work, Granted, Denied, on_granted, noted, ran_out, with_node, add_member, add_required, add_field, spend, open_entry, close_group, each_field, each_group, each_use, fill_body, unless_open, on_component, add_group, add_component, depths_left, add_envelope, build, nothing_spent, empty_level}

pub record Steps (limits : Limits) (Index : Type 0) (Keeps : Index → Work → Type 0) : Type 0 where
  pub member : (index : Index) (tag : ℕ) (work : Work) → Keeps index work → Keeps index (add_member limits tag work)
  pub needed : (index : Index) (tag : ℕ) (work : Work) → Keeps index work → Keeps index (add_required limits tag work)
  pub error : (index : Index) (refusal : Refusal) (work : Work) → Keeps index work → Keeps index (noted refusal work)
  pub node : (index : Index) (work : Work) → work.builder.nodes < limits.nodes → Keeps index work → Keeps index (with_node work)
  pub inner : (index : Index) (group : GroupDef) (spent : Work) → Keeps index spent → Index
  pub opens : (index : Index) (group : GroupDef) (spent : Work) (kept : Keeps index spent)
      → Keeps (inner index group spent kept) (open_entry limits (delimiter_of group) (add_member limits (count_tag_of group) spent))
  pub closes : (index : Index) (group : GroupDef) (required : Bool) (spent : Work) (kept : Keeps index spent) (filled : Work)
      → Keeps (inner index group spent kept) filled
      → Keeps index (close_group group required (add_member limits (count_tag_of group) spent) filled)

module _ (limits : Limits) (Index : Type 0) (Keeps : Index → Work → Type 0) (steps : Steps limits Index Keeps) where
  keeps_field : (index : Index) (tag : ℕ) (required : Bool) (work : Work) → Keeps index work → Keeps index (add_field limits tag required work)
  unfolding add_field
  keeps_field index tag true work kept = steps.needed index tag (add_member limits tag work) (steps.member index tag work kept)
  keeps_field index tag false work kept = steps.member index tag work kept

  pub keeps_fields : (index : Index) (collect : Bool) (fields : List FieldRef) (work : Work)
      → Keeps index work
      → Keeps index (each_field limits collect fields work)
  unfolding each_field
  keeps_fields index collect [] work kept = kept
  keeps_fields index collect (field ∷ fields) work kept =
      keeps_fields index collect fields
      (add_field limits field.tag (collect && field.required) work)
      (keeps_field index field.tag (collect && field.required) work kept)

  pub keeps_groups : (add : GroupDef → Work → Work)
      → ((index : Index) (group : GroupDef) (work : Work) → Keeps index work → Keeps index (add group work))
      → (index : Index) (groups : GroupDefs) (work : Work)
      → Keeps index work
      → Keeps index (each_group add groups work)
  unfolding each_group
  keeps_groups add one index no_group_defs work kept = kept
  keeps_groups add one index (group_def_and group groups) work kept = keeps_groups add one index groups (add group work) (one index group work kept)

  pub keeps_uses : (add : ComponentRef → Work → Work)
      → ((index : Index) (component : ComponentRef) (work : Work) → Keeps index work → Keeps index (add component work))
      → (index : Index) (uses : List ComponentRef) (work : Work)
      → Keeps index work
      → Keeps index (each_use add uses work)
  unfolding each_use
  keeps_uses add one index [] work kept = kept
  keeps_uses add one index (component ∷ uses) work kept = keeps_uses add one index uses (add component work) (one index component work kept)

  keeps_body : (groups : GroupDef → Work → Work) (uses : ComponentRef → Work → Work)
      → ((index : Index) (group : GroupDef) (work : Work) → Keeps index work → Keeps index (groups group work))
      → ((index : Index) (component : ComponentRef) (work : Work) → Keeps index work → Keeps index (uses component work))
      → (index : Index) (collect : Bool) (body : Body) (work : Work)
      → Keeps index work
      → Keeps index (fill_body limits groups uses collect body work)
  keeps_body groups uses group use' index collect body work kept =
      keeps_uses uses use' index (uses_of body)
      (each_group groups (group_defs_of body) (each_field limits collect (fields_of body) work))
      (keeps_groups groups group index (group_defs_of body)
      (each_field limits collect (fields_of body) work)
      (keeps_fields index collect (fields_of body) work kept))

  ran_out_by : (told : Bool) (index : Index) (name : ℕ) (further : Work → Work) (work : Work)
      → Keeps index work
      → Keeps index (on_granted further (cond told (Denied work) (Denied (noted (OutOfNodes name) work))))
  ran_out_by true index name further work kept = kept
  ran_out_by false index name further work kept = steps.error index (OutOfNodes name) work kept

  spend-by : (room : Bool) (index : Index) (name : ℕ) (further : Work → Work) (work : Work)
      → ltb work.builder.nodes limits.nodes ≡ room
      → Keeps index work
      → ((spent : Work) → Keeps index spent → Keeps index (further spent))
      → Keeps index
      (on_granted further
      (cond room (Granted (with_node work)) (cond (ran_out work.builder.errors) (Denied work) (Denied (noted (OutOfNodes name) work)))))
  spend-by true index name further work test kept going_on =
      going_on (with_node work) (steps.node index work (ltb-true work.builder.nodes limits.nodes test) kept)
  spend-by false index name further work test kept going_on = ran_out_by (ran_out work.builder.errors) index name further work kept

  keeps_spend : (index : Index) (name left : ℕ) (further : Work → Work) (work : Work)
      → Keeps index work
      → ((spent : Work) → Keeps index spent → Keeps index (further spent))
      → Keeps index (on_granted further (spend limits name left work))
  unfolding spend
  keeps_spend index name zero further work kept going_on = steps.error index (TooDeep name) work kept
  keeps_spend index name (suc left) further work kept going_on =
      spend-by (ltb work.builder.nodes limits.nodes) index name further work refl kept going_on

  keeps_unless_by : (test : Bool) (index : Index) (further : Work → Work) (work : Work)
      → Keeps index work
      → Keeps index (further work)
      → Keeps index (cond test work (further work))
  keeps_unless_by true index further work kept going_on = kept
  keeps_unless_by false index further work kept going_on = going_on

  keeps_component_by : (found : FoundBody) (index : Index) (name : ℕ) (path : List ℕ) (further : Body → Work → Work) (work : Work)
      → Keeps index work
      → ((body : Body) → Keeps index (further body work))
      → Keeps index (on_component name (λ body. unless_open name path (further body)) found work)
  keeps_component_by (Found body) index name path further work kept going_on =
      keeps_unless_by (is_in name path) index (further body) work kept (going_on body)
  keeps_component_by NotFound index name path further work kept going_on = steps.error index (ComponentNotDefined name) work kept

  module _ (dictionary : Dictionary) where
    mutual
      unfolding add_group add_component

      pub keeps_group : (left : ℕ) (path : List ℕ) (collect : Bool) (index : Index) (group : GroupDef) (work : Work)
          → Keeps index work
          → Keeps index (add_group limits dictionary left path collect group work)
      keeps_group zero path collect index group work kept = keeps_spend index (count_tag_of group) zero (λ spent. spent) work kept (λ spent still. still)
      keeps_group (suc left) path collect index group work kept =
          keeps_spend index (count_tag_of group) (suc left) _ work kept
          (λ spent still.
          steps.closes index group (is_needed group && collect) spent still _
          (keeps_body _ _
          (λ inside nested around was. keeps_group left path true inside nested around was)
          (λ inside component around was. keeps_component left path true inside component around was)
          (steps.inner index group spent still)
          true
          (entry_body group)
          _
          (steps.opens index group spent still)))

      pub keeps_component : (left : ℕ) (path : List ℕ) (collect : Bool) (index : Index) (component : ComponentRef) (work : Work)
          → Keeps index work
          → Keeps index (add_component limits dictionary left path collect component work)
      keeps_component zero path collect index component work kept = keeps_spend index component.name zero (λ spent. spent) work kept (λ spent still. still)
      keeps_component (suc left) path collect index component work kept =
          keeps_spend index component.name (suc left) _ work kept
          (λ spent still.
          keeps_component_by (component_of dictionary component.name) index component.name path _ spent still
          (λ body.
          keeps_body _ _
          (λ inside group around was. keeps_group left (component.name ∷ path) (collect && component.required) inside group around was)
          (λ inside nested around was. keeps_component left (component.name ∷ path) (collect && component.required) inside nested around was)
          index
          (collect && component.required)
          body
          spent
          still))

  pub keeps_envelope : (transport : Dictionary) (body : Body) (index : Index) (work : Work)
      → Keeps index work
      → Keeps index (add_envelope limits transport body work)
  keeps_envelope transport body index work kept =
      keeps_groups (add_group limits transport (depths_left limits) [] true)
      (λ inside group around. keeps_group transport (depths_left limits) [] true inside group around)
      index
      (group_defs_of body)
      (each_field limits true (fields_of body) work)
      (keeps_fields index true (fields_of body) work kept)

  pub keeps_build : (transport dictionary : Dictionary) (message : Body) (index : Index)
      → Keeps index (record { builder = nothing_spent; level = empty_level })
      → Keeps index (build limits transport dictionary message)
  unfolding build
  keeps_build transport dictionary message index kept =
      keeps_body
      (add_group limits dictionary (depths_left limits) [] true)
      (add_component limits dictionary (depths_left limits) [] true)
      (λ inside group around. keeps_group dictionary (depths_left limits) [] true inside group around)
      (λ inside component around. keeps_component dictionary (depths_left limits) [] true inside component around)
      index
      true
      message
      _
      (keeps_envelope transport transport.trailer index _ (keeps_envelope transport transport.header index _ kept))
