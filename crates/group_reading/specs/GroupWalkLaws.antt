-- Laws of `GroupWalk.antt`, by topic.
--
--   Progress    a walk does not go back, passes a field where there is one, and stays within the table
--   Fuel        any two bounds on the calls that are enough give the same
--   Equations   the clauses of the walk with no fuel in sight: what a proof of code cites
--   Loops       the two loops turn by turn: what is done, then the walk from here, is the whole
--   EventBound  a walk that passes N fields, N at least 1, has at most 5 * N - 2 events
pub mod Progress
pub mod Fuel
pub mod Equations
pub mod Loops
pub mod EventBound
