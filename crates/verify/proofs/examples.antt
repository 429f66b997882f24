-- Worked examples, for the eye: nothing stands on them.
mod PlainExamples
mod BranchExamples
mod ObjectExamples
