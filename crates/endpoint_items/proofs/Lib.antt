pub mod Growing
pub mod Usable
pub mod Opens
pub mod Following
pub mod Attaching
pub mod Attached
pub mod Arriving
pub mod Sound
pub mod Texts
pub mod Short
pub mod Room
pub mod Rows
pub mod Rules
pub mod Quiet
pub mod Spoken
pub mod Said
pub mod Speaking
pub mod Reading
pub mod Joining
pub mod Lying
pub mod AllRead
pub mod AttachedKeys
pub mod Empty
pub mod Writable
pub mod Exchange
pub mod Taken
mod Worked
mod WorkedEnds
mod WorkedRefusals
mod WorkedMessages
mod WorkedRules
