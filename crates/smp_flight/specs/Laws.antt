-- The laws of the definitions. They stand here, and not in proofs/, since definitions cite them: there are steps with the properties
-- of a step.
pub mod Entries
pub mod Nexts
pub mod CubeSplits
pub mod ByOrder
pub mod WholeOrders
pub mod Moved
pub mod MoveTotals
pub mod NextProperties
pub mod Sizes
pub mod Firsts
pub mod Reordered
pub mod Windowed
pub mod OneMove
