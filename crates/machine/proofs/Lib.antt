mod Flows
mod Outlook
mod Examples
mod ByType
mod Breadth
mod RunBreadth
mod Starting
mod ReadBack
mod Leading
mod Uses
mod Pushes
mod OperandTypes
mod NamedConstants
mod Stores
mod StackRoom
mod Below
mod SharedWords
mod Bounds
mod Types
mod Stacks
mod Addresses
mod Moves
pub mod Apart
mod Forms
mod OperandDemands
mod EffectLaws
mod Deciding
mod Writes
mod Raised
mod Chosen
pub mod Entries
pub mod Targets
