-- The promises of the crate `build`: what `build` and `expand` answer and leave in the memory that they are lent, and their laws.
pub mod BuildPromises
pub mod BuildPromisesLaws
