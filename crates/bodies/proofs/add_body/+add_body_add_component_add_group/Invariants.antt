-- The cycle of calls {add_body, add_component, add_group}: a group and a use each spend a node and go one depth down, and a body gives no node
-- back. So the calls fall on the depths left and the nodes left, both of which `spent-falls` says are fewer. The loop's invariant is `BodySoFar`, and the laws are those of specs/ExpansionPromisesLaws.antt.
use Prim.Native.Nat.{◌+◌, ◌-◌, ◌*◌}
use lib.ListN.{get_or}
use Rattle.bodies.specs.ExpansionPromises.{calls_left}
use Rattle.bodies.specs.ExpansionPromisesLaws.{BodySoFar}
use Rattle.bodies.proofs.add_body.+add_body_add_component_add_group.Given as goal

abbrev pub decreases-add_body : goal.decreases-add_body
decreases-add_body l = 2 * calls_left l.depth_left l.builder + 1

abbrev pub decreases-add_component : goal.decreases-add_component
decreases-add_component l = 2 * calls_left l.depth_left l.builder

abbrev pub decreases-add_group : goal.decreases-add_group
decreases-add_group l = 2 * calls_left l.depth_left l.builder

abbrev pub invariant-add_body-loop-tag : goal.invariant-add_body-loop-tag
invariant-add_body-loop-tag l = BodySoFar l.dictionary.words.now l.depth_left l.path l.collect l.place l.initial.so_far l.initial.trace l.at l.so_far l.trace

abbrev pub decreases-add_body-loop-tag : goal.decreases-add_body-loop-tag
decreases-add_body-loop-tag l = get_or l.dictionary.words.now 0 0 - l.at
