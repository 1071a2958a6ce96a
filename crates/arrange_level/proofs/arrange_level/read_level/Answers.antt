-- `arrange_level::arrange_level::read_level` meets its contract. The loop's invariant is `ReadSoFar`; the laws are those of specs/ArrangeLevelLaws.antt.
use mathlib.Core.Path.{refl}
use native.Mathlib.Omega.{arith}
use Rattle.arrange_level.specs.ArrangeLevelLaws.{read-member, read-required, read-group, read_left, read-ends, member-room, need_room, group-room, members-size, required-size, tags-size}
use Rattle.expansion.specs.StepsLaws.{step-told}
use Rattle.arrange_level.proofs.arrange_level.read_level.Goals as goal

pub offset_bounds-members-past : goal.offset_bounds-members-past
offset_bounds-members-past c = omega (arith, member-room c.args.trace.now c.args.first c.args.members.now c.args.member c.args.required.now c.args.need c.args.tags.now c.loop-place.members c.loop-place.required c.loop-place.tags c.loop-place.place c.loop-place.past c.loop-place.later c.loop-place.group c.loop-place.invariant c.loop-place-test.true c.requires (step-told _ _ _ c.from-step.ensures c.in-Member.is).0, members-size c.args.trace.now c.args.first c.args.members.now c.args.member c.args.required.now c.args.need c.args.tags.now c.loop-place.members c.loop-place.required c.loop-place.tags c.loop-place.place c.loop-place.past c.loop-place.later c.loop-place.group c.loop-place.invariant)

pub bounds-members-past : goal.bounds-members-past
bounds-members-past c = member-room c.args.trace.now c.args.first c.args.members.now c.args.member c.args.required.now c.args.need c.args.tags.now c.loop-place.members c.loop-place.required c.loop-place.tags c.loop-place.place c.loop-place.past c.loop-place.later c.loop-place.group c.loop-place.invariant c.loop-place-test.true c.requires (step-told _ _ _ c.from-step.ensures c.in-Member.is).0

-- past += 1;
pub overflow_add-past : goal.overflow_add-past
overflow_add-past c = omega (arith, member-room c.args.trace.now c.args.first c.args.members.now c.args.member c.args.required.now c.args.need c.args.tags.now c.loop-place.members c.loop-place.required c.loop-place.tags c.loop-place.place c.loop-place.past c.loop-place.later c.loop-place.group c.loop-place.invariant c.loop-place-test.true c.requires (step-told _ _ _ c.from-step.ensures c.in-Member.is).0, members-size c.args.trace.now c.args.first c.args.members.now c.args.member c.args.required.now c.args.need c.args.tags.now c.loop-place.members c.loop-place.required c.loop-place.tags c.loop-place.place c.loop-place.past c.loop-place.later c.loop-place.group c.loop-place.invariant)

pub loop-place-preserved-in-Member : goal.loop-place-preserved-in-Member
loop-place-preserved-in-Member c = read-member c.args.trace.now c.args.first c.args.members.now c.args.member c.args.required.now c.args.need c.args.tags.now c.loop-place.members c.loop-place.required c.loop-place.tags c.loop-place.place c.loop-place.past c.loop-place.later c.loop-place.group c.loop-place.invariant c.loop-place-test.true _ (step-told _ _ _ c.from-step.ensures c.in-Member.is).0 (step-told _ _ _ c.from-step.ensures c.in-Member.is).1

pub offset_bounds-required-later : goal.offset_bounds-required-later
offset_bounds-required-later c = omega (arith, need_room c.args.trace.now c.args.first c.args.members.now c.args.member c.args.required.now c.args.need c.args.tags.now c.loop-place.members c.loop-place.required c.loop-place.tags c.loop-place.place c.loop-place.past c.loop-place.later c.loop-place.group c.loop-place.invariant c.loop-place-test.true c.requires (step-told _ _ _ c.from-step.ensures c.in-Required.is).0, required-size c.args.trace.now c.args.first c.args.members.now c.args.member c.args.required.now c.args.need c.args.tags.now c.loop-place.members c.loop-place.required c.loop-place.tags c.loop-place.place c.loop-place.past c.loop-place.later c.loop-place.group c.loop-place.invariant)

pub bounds-required-later : goal.bounds-required-later
bounds-required-later c = need_room c.args.trace.now c.args.first c.args.members.now c.args.member c.args.required.now c.args.need c.args.tags.now c.loop-place.members c.loop-place.required c.loop-place.tags c.loop-place.place c.loop-place.past c.loop-place.later c.loop-place.group c.loop-place.invariant c.loop-place-test.true c.requires (step-told _ _ _ c.from-step.ensures c.in-Required.is).0

-- later += 1;
pub overflow_add-later : goal.overflow_add-later
overflow_add-later c = omega (arith, need_room c.args.trace.now c.args.first c.args.members.now c.args.member c.args.required.now c.args.need c.args.tags.now c.loop-place.members c.loop-place.required c.loop-place.tags c.loop-place.place c.loop-place.past c.loop-place.later c.loop-place.group c.loop-place.invariant c.loop-place-test.true c.requires (step-told _ _ _ c.from-step.ensures c.in-Required.is).0, required-size c.args.trace.now c.args.first c.args.members.now c.args.member c.args.required.now c.args.need c.args.tags.now c.loop-place.members c.loop-place.required c.loop-place.tags c.loop-place.place c.loop-place.past c.loop-place.later c.loop-place.group c.loop-place.invariant)

pub loop-place-preserved-in-Required : goal.loop-place-preserved-in-Required
loop-place-preserved-in-Required c = read-required c.args.trace.now c.args.first c.args.members.now c.args.member c.args.required.now c.args.need c.args.tags.now c.loop-place.members c.loop-place.required c.loop-place.tags c.loop-place.place c.loop-place.past c.loop-place.later c.loop-place.group c.loop-place.invariant c.loop-place-test.true _ (step-told _ _ _ c.from-step.ensures c.in-Required.is).0 (step-told _ _ _ c.from-step.ensures c.in-Required.is).1

-- members[past] = tag;
pub offset_bounds-members-past-in-Enter : goal.offset_bounds-members-past-in-Enter
offset_bounds-members-past-in-Enter c = omega (arith, group-room c.args.trace.now c.args.first c.args.members.now c.args.member c.args.required.now c.args.need c.args.tags.now c.loop-place.members c.loop-place.required c.loop-place.tags c.loop-place.place c.loop-place.past c.loop-place.later c.loop-place.group c.loop-place.invariant c.loop-place-test.true c.requires (step-told _ _ _ c.from-step.ensures c.in-Enter.is).0, members-size c.args.trace.now c.args.first c.args.members.now c.args.member c.args.required.now c.args.need c.args.tags.now c.loop-place.members c.loop-place.required c.loop-place.tags c.loop-place.place c.loop-place.past c.loop-place.later c.loop-place.group c.loop-place.invariant, tags-size c.args.trace.now c.args.first c.args.members.now c.args.member c.args.required.now c.args.need c.args.tags.now c.loop-place.members c.loop-place.required c.loop-place.tags c.loop-place.place c.loop-place.past c.loop-place.later c.loop-place.group c.loop-place.invariant)

pub bounds-members-past-in-Enter : goal.bounds-members-past-in-Enter
bounds-members-past-in-Enter c = (group-room c.args.trace.now c.args.first c.args.members.now c.args.member c.args.required.now c.args.need c.args.tags.now c.loop-place.members c.loop-place.required c.loop-place.tags c.loop-place.place c.loop-place.past c.loop-place.later c.loop-place.group c.loop-place.invariant c.loop-place-test.true c.requires (step-told _ _ _ c.from-step.ensures c.in-Enter.is).0).0

-- past += 1;
pub overflow_add-past-in-Enter : goal.overflow_add-past-in-Enter
overflow_add-past-in-Enter c = omega (arith, group-room c.args.trace.now c.args.first c.args.members.now c.args.member c.args.required.now c.args.need c.args.tags.now c.loop-place.members c.loop-place.required c.loop-place.tags c.loop-place.place c.loop-place.past c.loop-place.later c.loop-place.group c.loop-place.invariant c.loop-place-test.true c.requires (step-told _ _ _ c.from-step.ensures c.in-Enter.is).0, members-size c.args.trace.now c.args.first c.args.members.now c.args.member c.args.required.now c.args.need c.args.tags.now c.loop-place.members c.loop-place.required c.loop-place.tags c.loop-place.place c.loop-place.past c.loop-place.later c.loop-place.group c.loop-place.invariant, tags-size c.args.trace.now c.args.first c.args.members.now c.args.member c.args.required.now c.args.need c.args.tags.now c.loop-place.members c.loop-place.required c.loop-place.tags c.loop-place.place c.loop-place.past c.loop-place.later c.loop-place.group c.loop-place.invariant)

-- tags[group] = tag;
pub offset_bounds-tags-group : goal.offset_bounds-tags-group
offset_bounds-tags-group c = omega (arith, group-room c.args.trace.now c.args.first c.args.members.now c.args.member c.args.required.now c.args.need c.args.tags.now c.loop-place.members c.loop-place.required c.loop-place.tags c.loop-place.place c.loop-place.past c.loop-place.later c.loop-place.group c.loop-place.invariant c.loop-place-test.true c.requires (step-told _ _ _ c.from-step.ensures c.in-Enter.is).0, members-size c.args.trace.now c.args.first c.args.members.now c.args.member c.args.required.now c.args.need c.args.tags.now c.loop-place.members c.loop-place.required c.loop-place.tags c.loop-place.place c.loop-place.past c.loop-place.later c.loop-place.group c.loop-place.invariant, tags-size c.args.trace.now c.args.first c.args.members.now c.args.member c.args.required.now c.args.need c.args.tags.now c.loop-place.members c.loop-place.required c.loop-place.tags c.loop-place.place c.loop-place.past c.loop-place.later c.loop-place.group c.loop-place.invariant)

pub bounds-tags-group : goal.bounds-tags-group
bounds-tags-group c = (group-room c.args.trace.now c.args.first c.args.members.now c.args.member c.args.required.now c.args.need c.args.tags.now c.loop-place.members c.loop-place.required c.loop-place.tags c.loop-place.place c.loop-place.past c.loop-place.later c.loop-place.group c.loop-place.invariant c.loop-place-test.true c.requires (step-told _ _ _ c.from-step.ensures c.in-Enter.is).0).1

-- group += 1;
pub overflow_add-group : goal.overflow_add-group
overflow_add-group c = omega (arith, group-room c.args.trace.now c.args.first c.args.members.now c.args.member c.args.required.now c.args.need c.args.tags.now c.loop-place.members c.loop-place.required c.loop-place.tags c.loop-place.place c.loop-place.past c.loop-place.later c.loop-place.group c.loop-place.invariant c.loop-place-test.true c.requires (step-told _ _ _ c.from-step.ensures c.in-Enter.is).0, members-size c.args.trace.now c.args.first c.args.members.now c.args.member c.args.required.now c.args.need c.args.tags.now c.loop-place.members c.loop-place.required c.loop-place.tags c.loop-place.place c.loop-place.past c.loop-place.later c.loop-place.group c.loop-place.invariant, tags-size c.args.trace.now c.args.first c.args.members.now c.args.member c.args.required.now c.args.need c.args.tags.now c.loop-place.members c.loop-place.required c.loop-place.tags c.loop-place.place c.loop-place.past c.loop-place.later c.loop-place.group c.loop-place.invariant)

pub loop-place-preserved : goal.loop-place-preserved
loop-place-preserved c = read-group c.args.trace.now c.args.first c.args.members.now c.args.member c.args.required.now c.args.need c.args.tags.now c.loop-place.members c.loop-place.required c.loop-place.tags c.loop-place.place c.loop-place.past c.loop-place.later c.loop-place.group c.loop-place.invariant c.loop-place-test.true _ _ (step-told _ _ _ c.from-step.ensures c.in-Enter.is).0 (step-told _ _ _ c.from-step.ensures c.in-Enter.is).1.0 c.behind_group-place.ensures

pub returns-in-Leave : goal.returns-in-Leave
returns-in-Leave c = read_left c.args.trace.now c.args.first c.args.members.now c.args.member c.args.required.now c.args.need c.args.tags.now c.loop-place.members c.loop-place.required c.loop-place.tags c.loop-place.place c.loop-place.past c.loop-place.later c.loop-place.group c.loop-place.invariant c.loop-place-test.true _ (step-told _ _ _ c.from-step.ensures c.in-Leave.is).0 refl refl refl (step-told _ _ _ c.from-step.ensures c.in-Leave.is).1

pub returns : goal.returns
returns c = read-ends c.args.trace.now c.args.first c.args.members.now c.args.member c.args.required.now c.args.need c.args.tags.now c.loop-place.members c.loop-place.required c.loop-place.tags c.loop-place.place c.loop-place.past c.loop-place.later c.loop-place.group c.loop-place.invariant _ c.loop-place-test.false refl refl refl refl
