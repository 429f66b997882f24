-- Words of the code's own steps, which its private contracts use: nothing that a reader must believe rests on them.
pub mod AmongSteps
pub mod Catching
pub mod EachSteps
pub mod FileSteps
pub mod OpeningSteps
pub mod InTurn
pub mod Judged
pub mod JudgingSteps
pub mod PlaySteps
pub mod Ran
pub mod Ready
pub mod Targets
pub mod TogetherSteps
pub mod Ways
pub mod pass
