pub mod Residues
pub mod Reductions
pub mod Roots
pub mod Network
pub mod LaneRows
pub mod LaneReductions
pub mod LaneProducts
pub mod LanePairs
pub mod Layers
pub mod Transforms
pub mod Products
pub mod Rounding
pub mod RoundingLaws
pub mod HintSpelling
pub mod Sampling
pub mod Sampled
pub mod FourAtATime
pub mod LongerFronts
pub mod Masks
pub mod Challenges
pub mod Bits
pub mod Fields
pub mod Packing
pub mod Pieces
pub mod VectorBytes
pub mod EncodedParts
pub mod CounterStreams
pub mod Vectors
pub mod PlainTransforms
mod Names
mod WorkedArithmetic
mod WorkedBounds
mod WorkedBytes
mod WorkedEncodings
mod WorkedSamplers
pub mod Zetas
