-- The cycle of calls {add_body, add_component, add_group}: a group and a use each spend a node and go one depth down, and a body gives no node
-- back. So the calls fall on the depths left and the nodes left, both of which `spent-falls` says are fewer. The loop's invariant is `BodySoFar`,
-- and the laws are those of specs/ExpansionPromisesLaws.antt.
use Rattle.std.proofs.Common.{◌≡◌, refl, sym, ap, ◌∙◌, ◌&&◌, ◌-◌, length, arith}
use Rattle.std.proofs.lemmas.Result.{err_from_is_err_and}
use Rattle.dictionary.specs.DictionaryWords.{word_lines}
use Rattle.expansion.specs.SeenLaws.{seen_is}
use Rattle.expansion.specs.TraceLaws.{grows_then, grown_grows, done-grown, stopped_grows}
use Rattle.bodies.specs.DictionaryInWords.{dictionary_in}
use Rattle.bodies.specs.DictionaryLookups.{body_at, component-found, component-missing}
use Rattle.bodies.specs.ExpansionPromises.{group_at}
use Rattle.bodies.specs.ExpansionPromisesLaws.{body-inside, body-next, body-field, body-field_over, group-there, body-group, body-group_over, body-use, body-use_over, body-ends, spent-deep, spent-below, group-denied, group-entry_over, group-body_over, group-left_over, group-added, group-room, group-grown, component-denied, component-undefined, component-open, component-added, names-lent, spent-falls}
use Rattle.bodies.proofs.add_body.+add_body_add_component_add_group.Goals as goal
use Rattle.bodies.proofs.add_body.+add_body_add_component_add_group.Goals.{add_body-then-collect, add_body-else-collect, add_component-then-collect, add_component-else-collect, add_group-then-group, add_group-else-group}

-- match body_line(words, at) {
pub add_body-body_line-requires : goal.add_body-body_line-requires
add_body-body_line-requires t c = body-inside c.args.dictionary.words32 c.args.dictionary.accepted c.loop-tag.invariant

-- so_far = add_field(trace, so_far, tag, collect && required)?;
pub add_body-returns-in_err-so_far-in-Some-Field : goal.add_body-returns-in_err-so_far-in-Some-Field
add_body-returns-in_err-so_far-in-Some-Field t c =
    let needed : c.if-collect.add_field ≡ (c.args.collect && c.in-Some-Field.required) =
    elim c.if-collect.branch [ add_body-then-collect w ↦ rw (w.add_field-is, w.if-collect.true) refl | add_body-else-collect w ↦ rw (w.add_field-is, w.if-collect.false) refl ] in
    let p = err_from_is_err_and c.from_residual.result c.from_residual.ensures.1 in
    rw (p.1, p.2) (body-field_over c.args.dictionary.words32 c.args.dictionary.accepted c.loop-tag.invariant _ _ _ (rw c.in-Some-Field.field-0-is at c.in-Some-Field.ensures) needed _ _ c.in_err-so_far-in-Some-Field.ensures.change)

pub add_body-overflow_add-at : goal.add_body-overflow_add-at
add_body-overflow_add-at t c = record { fits = body-next c.args.dictionary.words32 c.args.dictionary.accepted c.loop-tag.invariant }

pub add_body-loop-tag-smaller-in-Some-Field : goal.add_body-loop-tag-smaller-in-Some-Field
add_body-loop-tag-smaller-in-Some-Field t c = omega (arith, body-inside c.args.dictionary.words32 c.args.dictionary.accepted c.loop-tag.invariant)

pub add_body-loop-tag-preserved-in-Some-Field : goal.add_body-loop-tag-preserved-in-Some-Field
add_body-loop-tag-preserved-in-Some-Field t c =
    let needed : c.if-collect.add_field ≡ (c.args.collect && c.in-Some-Field.required) =
    elim c.if-collect.branch [ add_body-then-collect w ↦ rw (w.add_field-is, w.if-collect.true) refl | add_body-else-collect w ↦ rw (w.add_field-is, w.if-collect.false) refl ] in
    body-field c.args.dictionary.words32 c.args.dictionary.accepted c.loop-tag.invariant _ _ _ (rw c.in-Some-Field.field-0-is at c.in-Some-Field.ensures) needed _ _ c.in_ok-so_far-in-Some-Field.ensures.change c.in_ok-so_far-in-Some-Field.ensures.grows c.add_field.auto.trace

-- first: at + 1,
pub add_body-overflow_add-group : goal.add_body-overflow_add-group
add_body-overflow_add-group t c = record { fits = body-next c.args.dictionary.words32 c.args.dictionary.accepted c.loop-tag.invariant }

pub add_body-add_group-requires : goal.add_body-add_group-requires
add_body-add_group-requires t c = (omega (arith, c.decreases, c.loop-tag.invariant.grown.spent), (record { deep = c.requires.0.deep; fits = c.loop-tag.invariant.grown.fits }, group-there c.args.dictionary.words32 c.args.dictionary.accepted c.loop-tag.invariant _ _ _ (rw c.in-Some-Group.field-0-is at c.in-Some-Group.ensures)))

pub add_body-returns-in_err-past-in-Some-Group : goal.add_body-returns-in_err-past-in-Some-Group
add_body-returns-in_err-past-in-Some-Group t c =
    let p = err_from_is_err_and c.from_residual-in_err-past-in-Some-Group.result c.from_residual-in_err-past-in-Some-Group.ensures.1 in
    rw (p.1, p.2) (body-group_over c.args.dictionary.words32 c.args.dictionary.accepted c.loop-tag.invariant _ _ _ (rw c.in-Some-Group.field-0-is at c.in-Some-Group.ensures) _ _ c.in_err-past-in-Some-Group.ensures)

pub add_body-loop-tag-preserved-in-Some-Group : goal.add_body-loop-tag-preserved-in-Some-Group
add_body-loop-tag-preserved-in-Some-Group t c = body-group c.args.dictionary.words32 c.args.dictionary.accepted c.loop-tag.invariant _ _ _ (rw c.in-Some-Group.field-0-is at c.in-Some-Group.ensures) _ _ _ c.in_ok-past-in-Some-Group.ensures c.add_group.auto.trace

-- so_far = add_component(
pub add_body-returns-in_err-so_far-in-Some-Use : goal.add_body-returns-in_err-so_far-in-Some-Use
add_body-returns-in_err-so_far-in-Some-Use t c =
    let p = err_from_is_err_and c.from_residual-in_err-so_far-in-Some-Use.result c.from_residual-in_err-so_far-in-Some-Use.ensures.1 in
    rw (p.1, p.2) (body-use_over c.args.dictionary.words32 c.args.dictionary.accepted c.loop-tag.invariant _ _ (rw c.in-Some-Use.field-0-is at c.in-Some-Use.ensures) _ _ c.in_err-so_far-in-Some-Use.ensures)

pub add_body-overflow_add-at-in-Some-Use : goal.add_body-overflow_add-at-in-Some-Use
add_body-overflow_add-at-in-Some-Use t c = record { fits = body-next c.args.dictionary.words32 c.args.dictionary.accepted c.loop-tag.invariant }

pub add_body-loop-tag-smaller : goal.add_body-loop-tag-smaller
add_body-loop-tag-smaller t c = omega (arith, body-inside c.args.dictionary.words32 c.args.dictionary.accepted c.loop-tag.invariant)

pub add_body-loop-tag-preserved : goal.add_body-loop-tag-preserved
add_body-loop-tag-preserved t c = body-use c.args.dictionary.words32 c.args.dictionary.accepted c.loop-tag.invariant _ _ (rw c.in-Some-Use.field-0-is at c.in-Some-Use.ensures) _ _ c.in_ok-so_far-in-Some-Use.ensures c.add_component.auto.trace

-- None => return Ok((at + 1, so_far)),
pub add_body-overflow_add-result : goal.add_body-overflow_add-result
add_body-overflow_add-result t c = record { fits = body-next c.args.dictionary.words32 c.args.dictionary.accepted c.loop-tag.invariant }

pub add_body-returns-in-None : goal.add_body-returns-in-None
add_body-returns-in-None t c = body-ends c.args.dictionary.words32 c.args.dictionary.accepted c.loop-tag.invariant _ refl c.in-None.ensures

-- let node = spend(builder, name, depth_left)?;
pub add_component-returns-in_err-node : goal.add_component-returns-in_err-node
add_component-returns-in_err-node t c =
    let p = err_from_is_err_and c.from_residual.result c.from_residual.ensures.1 in
    rw (p.1, p.2) (record { adds = component-denied _ _ _ _ _ _ _ (record { name = c.args.name; required = c.args.required }) _ c.in_err-node.ensures.change; grows = stopped_grows _ _ })

-- let Some(number) = component_of(words, name) else {
pub add_component-returns-in_default : goal.add_component-returns-in_default
add_component-returns-in_default t c = record {
  adds = component-undefined (dictionary_in c.args.dictionary.words.now) c.args.path.now c.args.collect (record { name = c.args.name; required = c.args.required }) c.args.depth_left (c.args.depth_left - 1) (spent-below _ _ _ _ c.in_ok-node.ensures.change) c.args.builder _ c.args.trace.now c.in_ok-node.ensures.change _ (component-missing c.args.dictionary.words.now c.args.dictionary.words32 c.args.dictionary.accepted c.args.name (sym c.in_default.ensures.found));
  grows = stopped_grows _ _;
}

pub add_component-returns-then-contains : goal.add_component-returns-then-contains
add_component-returns-then-contains t c = record {
  adds = component-open (dictionary_in c.args.dictionary.words.now) c.args.path.now c.args.collect (record { name = c.args.name; required = c.args.required }) c.args.depth_left (c.args.depth_left - 1) (spent-below _ _ _ _ c.in_ok-node.ensures.change) c.args.builder _ c.args.trace.now c.in_ok-node.ensures.change _ (component-found c.args.dictionary.words.now c.args.dictionary.words32 c.args.dictionary.accepted c.args.name _ (sym c.in-Some.ensures.found)).1 (sym (seen_is _ _) ∙ sym c.contains.ensures.value ∙ c.if-contains.true);
  grows = grown_grows _ _ (done-grown _ _ c.in_ok-node.ensures.grows);
}

pub add_component-open_component-open-requires : goal.add_component-open_component-open-requires
add_component-open_component-open-requires t c = omega (arith, spent-deep _ _ _ _ c.in_ok-node.ensures.change, c.requires.deep)

-- let below = depth_left - 1;
pub add_component-overflow_sub-below : goal.add_component-overflow_sub-below
add_component-overflow_sub-below t c = spent-deep _ _ _ _ c.in_ok-node.ensures.change

pub add_component-add_body-requires : goal.add_component-add_body-requires
add_component-add_body-requires t c = (
  omega (arith, c.decreases, (spent-falls _ _ _ _ c.in_ok-node.ensures.change (done-grown _ _ c.in_ok-node.ensures.grows).fits).0, (spent-falls _ _ _ _ c.in_ok-node.ensures.change (done-grown _ _ c.in_ok-node.ensures.grows).fits).1),
  (
    record {
      deep = omega (arith, spent-deep _ _ _ _ c.in_ok-node.ensures.change, c.requires.deep, ap length (names-lent _ c.args.path.now c.args.name c.open_component-open.result c.open_component-open.ensures.names));
      fits = (done-grown _ _ c.in_ok-node.ensures.grows).fits;
    },
    (component-found c.args.dictionary.words.now c.args.dictionary.words32 c.args.dictionary.accepted c.args.name _ (sym c.in-Some.ensures.found)).0.there,
  ),
)

pub add_component-returns-in_err-filled : goal.add_component-returns-in_err-filled
add_component-returns-in_err-filled t c =
    let needed : c.if-collect.collects ≡ (c.args.collect && c.args.required) =
    elim c.if-collect.branch [ add_component-then-collect w ↦ rw (w.collects-is, w.if-collect.true) refl | add_component-else-collect w ↦ rw (w.collects-is, w.if-collect.false) refl ] in
    let p = err_from_is_err_and c.from_residual-in_err-filled.result c.from_residual-in_err-filled.ensures.1 in
    rw (p.1, p.2) (record { adds = component-added (dictionary_in c.args.dictionary.words.now) c.args.path.now c.args.collect (record { name = c.args.name; required = c.args.required }) c.args.depth_left (c.args.depth_left - 1) (spent-below _ _ _ _ c.in_ok-node.ensures.change) c.args.builder _ c.args.trace.now c.in_ok-node.ensures.change _ (component-found c.args.dictionary.words.now c.args.dictionary.words32 c.args.dictionary.accepted c.args.name _ (sym c.in-Some.ensures.found)).1 _ _ _ _ (sym (seen_is _ _) ∙ sym c.contains.ensures.value ∙ c.if-contains.false) (names-lent _ c.args.path.now c.args.name c.open_component-open.result c.open_component-open.ensures.names) needed c.in_err-filled.ensures.adds; grows = stopped_grows _ _ })

pub add_component-returns : goal.add_component-returns
add_component-returns t c =
    let needed : c.if-collect.collects ≡ (c.args.collect && c.args.required) =
    elim c.if-collect.branch [ add_component-then-collect w ↦ rw (w.collects-is, w.if-collect.true) refl | add_component-else-collect w ↦ rw (w.collects-is, w.if-collect.false) refl ] in
    record {
      adds = component-added (dictionary_in c.args.dictionary.words.now) c.args.path.now c.args.collect (record { name = c.args.name; required = c.args.required }) c.args.depth_left (c.args.depth_left - 1) (spent-below _ _ _ _ c.in_ok-node.ensures.change) c.args.builder _ c.args.trace.now c.in_ok-node.ensures.change _ (component-found c.args.dictionary.words.now c.args.dictionary.words32 c.args.dictionary.accepted c.args.name _ (sym c.in-Some.ensures.found)).1 _ _ _ _ (sym (seen_is _ _) ∙ sym c.contains.ensures.value ∙ c.if-contains.false) (names-lent _ c.args.path.now c.args.name c.open_component-open.result c.open_component-open.ensures.names) needed c.in_ok-filled.ensures.adds;
      grows = grows_then _ _ _ (done-grown _ _ c.in_ok-node.ensures.grows) c.in_ok-filled.ensures.grows;
    }

-- let node = spend(builder, group.count, depth_left)?;
pub add_group-returns-in_err-node : goal.add_group-returns-in_err-node
add_group-returns-in_err-node t c =
    let p = err_from_is_err_and c.from_residual.result c.from_residual.ensures.1 in
    rw (p.1, p.2) (record { adds = group-denied _ _ _ _ _ _ _ (group_at c.args.dictionary.words.now c.args.group) _ c.in_err-node.ensures.change; grows = stopped_grows _ _; ends = tt })

pub add_group-enter_group-requires : goal.add_group-enter_group-requires
add_group-enter_group-requires t c = (done-grown _ _ c.in_ok-node.ensures.grows).fits

pub add_group-returns-in_err-entry : goal.add_group-returns-in_err-entry
add_group-returns-in_err-entry t c =
    let needed : c.if-group.required ≡ (c.args.group.required && c.args.collect) =
    elim c.if-group.branch [ add_group-then-group w ↦ rw (w.required-is, w.if-group.true) refl | add_group-else-group w ↦ rw (w.required-is, w.if-group.false) refl ] in
    let p = err_from_is_err_and c.from_residual-in_err-entry.result c.from_residual-in_err-entry.ensures.1 in
    rw (p.1, p.2) (record { adds = group-entry_over (dictionary_in c.args.dictionary.words.now) c.args.path.now c.args.collect c.args.group.count c.args.group.delimiter c.args.group.required (body_at (word_lines c.args.dictionary.words.now) c.args.group.first) c.args.depth_left (c.args.depth_left - 1) (spent-below _ _ _ _ c.in_ok-node.ensures.change) c.args.builder c.args.trace.now _ c.in_ok-node.ensures.change _ _ (rw needed at c.in_err-entry.ensures.change); grows = stopped_grows _ _; ends = tt })

-- let below = depth_left - 1;
pub add_group-overflow_sub-below : goal.add_group-overflow_sub-below
add_group-overflow_sub-below t c = spent-deep _ _ _ _ c.in_ok-node.ensures.change

pub add_group-add_body-requires : goal.add_group-add_body-requires
add_group-add_body-requires t c = (
  omega (arith, c.decreases, (spent-falls _ _ _ _ c.in_ok-node.ensures.change (done-grown _ _ c.in_ok-node.ensures.grows).fits).0, (spent-falls _ _ _ _ c.in_ok-node.ensures.change (done-grown _ _ c.in_ok-node.ensures.grows).fits).1, (done-grown _ _ c.in_ok-entry.ensures.grows).spent),
  (record { deep = omega (arith, c.requires.0.deep); fits = (done-grown _ _ c.in_ok-entry.ensures.grows).fits }, c.requires.1),
)

pub add_group-returns-in_err-past : goal.add_group-returns-in_err-past
add_group-returns-in_err-past t c =
    let needed : c.if-group.required ≡ (c.args.group.required && c.args.collect) =
    elim c.if-group.branch [ add_group-then-group w ↦ rw (w.required-is, w.if-group.true) refl | add_group-else-group w ↦ rw (w.required-is, w.if-group.false) refl ] in
    let p = err_from_is_err_and c.from_residual-in_err-past.result c.from_residual-in_err-past.ensures.1 in
    rw (p.1, p.2) (record { adds = group-body_over (dictionary_in c.args.dictionary.words.now) c.args.path.now c.args.collect c.args.group.count c.args.group.delimiter c.args.group.required (body_at (word_lines c.args.dictionary.words.now) c.args.group.first) c.args.depth_left (c.args.depth_left - 1) (spent-below _ _ _ _ c.in_ok-node.ensures.change) c.args.builder c.args.trace.now _ c.in_ok-node.ensures.change _ _ _ _ (rw needed at c.in_ok-entry.ensures.change) c.in_err-past.ensures.adds; grows = stopped_grows _ _; ends = tt })

pub add_group-leave_group-requires : goal.add_group-leave_group-requires
add_group-leave_group-requires t c = ((done-grown _ _ c.in_ok-past.ensures.grows).fits, group-room _ _ _ _ _ _ c.in_ok-node.ensures.change (done-grown _ _ c.in_ok-entry.ensures.grows) (done-grown _ _ c.in_ok-past.ensures.grows) c.requires.0.fits)

pub add_group-returns-in_err-last : goal.add_group-returns-in_err-last
add_group-returns-in_err-last t c =
    let p = err_from_is_err_and c.from_residual-in_err-last.result c.from_residual-in_err-last.ensures.1 in
    rw (p.1, p.2) (record { adds = group-left_over (dictionary_in c.args.dictionary.words.now) c.args.path.now c.args.collect c.args.group.count c.args.group.delimiter c.args.group.required (body_at (word_lines c.args.dictionary.words.now) c.args.group.first) c.args.depth_left (c.args.depth_left - 1) (spent-below _ _ _ _ c.in_ok-node.ensures.change) c.args.builder c.args.trace.now _ c.in_ok-node.ensures.change _ _ _ _ _ c.in_err-last.ensures.change; grows = stopped_grows _ _; ends = tt })

pub add_group-returns : goal.add_group-returns
add_group-returns t c =
    let needed : c.if-group.required ≡ (c.args.group.required && c.args.collect) =
    elim c.if-group.branch [ add_group-then-group w ↦ rw (w.required-is, w.if-group.true) refl | add_group-else-group w ↦ rw (w.required-is, w.if-group.false) refl ] in
    record {
      adds = group-added (dictionary_in c.args.dictionary.words.now) c.args.path.now c.args.collect c.args.group.count c.args.group.delimiter c.args.group.required (body_at (word_lines c.args.dictionary.words.now) c.args.group.first) c.args.depth_left (c.args.depth_left - 1) (spent-below _ _ _ _ c.in_ok-node.ensures.change) c.args.builder c.args.trace.now _ c.in_ok-node.ensures.change _ _ _ _ _ _ (rw needed at c.in_ok-entry.ensures.change) c.in_ok-past.ensures.adds c.in_ok-last.ensures.change;
      grows = grown_grows _ _ (group-grown _ _ _ _ _ _ c.in_ok-node.ensures.change (done-grown _ _ c.in_ok-entry.ensures.grows) (done-grown _ _ c.in_ok-past.ensures.grows) (done-grown _ _ c.in_ok-node.ensures.grows).fits _ _ _ _ c.in_ok-last.ensures.change);
      ends = c.in_ok-past.ensures.ends;
    }
