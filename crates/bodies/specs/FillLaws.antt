-- A body is filled line by line: what `fill_body` does with a body is what it does with the rest of it once its first line is added. And the
-- first error met stays the first, whatever is added behind it. Assumes nothing.
use Rattle.std.specs.Prelude.{◌≡◌, ℕ, Bool, ◌&&◌, List, [], ◌∷◌, ◌++◌, Result, Ok, Err}
use Rattle.std.proofs.Math.Path.{refl}
use Rattle.std.proofs.Common.{sym, ap, ◌∙◌}
use Rattle.refusals.specs.declared.refusal.Refusal.{Refusal}
use Rattle.layouts.specs.Limits.{Limits}
use Rattle.expansion.specs.declared.builder.Builder as Code
use Rattle.expansion.specs.Dictionary.{FieldRef, ComponentRef, Body, body_of, GroupDef, Dictionary, fields_of, group_defs_of, uses_of, empty_body, with_field, with_group, with_use, count_tag_of, delimiter_of}
use Rattle.bodies.specs.DictionaryPlaces.{OnlyUses}
use Rattle.expansion.specs.Expansion.{Work, empty_level, add_member, add_field, each_field, each_group, each_use, fill_body, add_group, add_component}
use Rattle.expansion.specs.ExpansionInduction.{Steps, keeps_fields, keeps_groups, keeps_uses, keeps_group, keeps_component}
use Rattle.expansion.specs.Trace.{First, with_level, work_of, Adds}
use Rattle.expansion.specs.TraceLaws.{first_member, first-required, stops_same}
use Rattle.expansion.specs.declared.builder.Stop.{Stop}

-- ---- the first line of a body

module _ (limits : Limits) (groups : GroupDef → Work → Work) (uses : ComponentRef → Work → Work) (collect : Bool) (work : Work) where
  pub fill_field : (field : FieldRef) (rest : Body)
      → fill_body limits groups uses collect (with_field field rest) work
      ≡ fill_body limits groups uses collect rest (add_field limits field.tag (collect && field.required) work)
  unfolding each_field
  fill_field field (body_of fields others components) = refl

  pub fill_group : (group : GroupDef) (rest : Body)
      → fields_of rest ≡ []
      → fill_body limits groups uses collect (with_group group rest) work ≡ fill_body limits groups uses collect rest (groups group work)
  unfolding each_field each_group
  fill_group group (body_of fields others components) none = rw none

  pub fill_use : (component : ComponentRef) (rest : Body)
      → OnlyUses rest
      → fill_body limits groups uses collect (with_use component rest) work ≡ fill_body limits groups uses collect rest (uses component work)
  unfolding each_field each_group each_use
  fill_use component (body_of fields others components) only = rw (only.0, only.1)

  pub fill_end : fill_body limits groups uses collect empty_body work ≡ work
  unfolding each_field each_group each_use
  fill_end = refl

-- ---- the first error stays

module _ (limits : Limits) (refusal : Refusal) where
  abbrev FirstIn : Unit {0} → Work → Type 0
  FirstIn index work = First refusal work.builder

  first-steps : Steps limits (Unit {0}) FirstIn
  first-steps = record {
    member = λ index tag work first. first_member limits refusal tag work first;
    needed = λ index tag work first. first-required limits refusal tag work first;
    error = λ index other work first. (first.0 ++ (other ∷ []), ap (λ (errors : List Refusal). errors ++ (other ∷ [])) first.1);
    node = λ index work room first. first;
    inner = λ index group spent first. tt;
    opens = λ index group spent first.
        first_member limits refusal (delimiter_of group) (record { builder = (add_member limits (count_tag_of group) spent).builder; level = empty_level })
        (first_member limits refusal (count_tag_of group) spent first);
    closes = λ index group required spent first filled still. still;
  }

  pub same_first_group : (dictionary : Dictionary) (left : ℕ) (path : List ℕ) (collect : Bool) (group : GroupDef) (work : Work)
      → First refusal work.builder
      → First refusal (add_group limits dictionary left path collect group work).builder
  same_first_group dictionary left path collect group work first = keeps_group limits (Unit {0}) FirstIn first-steps dictionary left path collect tt group work first

  pub first-component : (dictionary : Dictionary) (left : ℕ) (path : List ℕ) (collect : Bool) (component : ComponentRef) (work : Work)
      → First refusal work.builder
      → First refusal (add_component limits dictionary left path collect component work).builder
  first-component dictionary left path collect component work first =
      keeps_component limits (Unit {0}) FirstIn first-steps dictionary left path collect tt component work first

  -- what is left of a body is added
  pub first-fill : (dictionary : Dictionary) (left : ℕ) (path : List ℕ) (collects collect : Bool) (body : Body) (work : Work)
      → First refusal work.builder
      → First refusal
      (fill_body limits (add_group limits dictionary left path collects) (add_component limits dictionary left path collects) collect body work).builder
  first-fill dictionary left path collects collect body work first =
      keeps_uses limits (Unit {0}) FirstIn first-steps (add_component limits dictionary left path collects)
      (λ index component later met. first-component dictionary left path collects component later met)
      tt
      (uses_of body)
      (each_group (add_group limits dictionary left path collects) (group_defs_of body) (each_field limits collect (fields_of body) work))
      (keeps_groups limits (Unit {0}) FirstIn first-steps (add_group limits dictionary left path collects)
      (λ index group later met. same_first_group dictionary left path collects group later met)
      tt
      (group_defs_of body)
      (each_field limits collect (fields_of body) work)
      (keeps_fields limits (Unit {0}) FirstIn first-steps tt collect (fields_of body) work first))

-- ---- the same change, said otherwise

pub adds_same : (change other : Work → Work) (builder : Code.Builder) (before : List ℕ) (added : Result Code.Builder Stop) (trace : List ℕ)
    → ((work : Work) → change work ≡ other work)
    → Adds change builder before added trace
    → Adds other builder before added trace
unfolding Adds
adds_same change other builder before (Ok next) trace same adds = λ frame outer stands.
    let one = adds frame outer stands in
    let equal = same (work_of builder frame.level) in (
      one.0 ∙ ap (λ (work : Work). with_level work.level frame ∷ outer) equal,
      ap (λ (work : Work). work.builder) (sym equal) ∙ one.1,
    )
adds_same change other builder before (Err stop) trace same adds = λ frame outer stands.
    stops_same stop trace (change (work_of builder frame.level)).builder (other (work_of builder frame.level)).builder
    (ap (λ (work : Work). work.builder) (same (work_of builder frame.level)))
    (adds frame outer stands)
