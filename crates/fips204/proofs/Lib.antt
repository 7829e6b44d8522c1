mod Parts
mod Names
mod ParameterSets
mod Ranges
mod KeyGeneration
mod WholeKeys
mod MatrixBytes
mod SeedKeys
mod RejectionChecks
mod ChallengeProducts
mod KeptHints
mod Completeness
mod Signing
mod Attempts
mod Verification
mod PreHash
mod RefusedCalls
mod Writing
mod PreparedBytes
mod RefusalLaws
mod Framing
mod Hooks
mod Binding
mod OtherHints
mod LongerFronts
mod Worked
mod WorkedAttempts
mod WorkedRelations
-- what users may cite
pub mod Prepared
pub mod Spellings
