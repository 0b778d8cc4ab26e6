mod AppendedTexts
mod InternedName
mod EventFields
mod SplitAtByte
mod NumberTexts
mod RecordWords
mod Spelling
mod PutLine
mod LastLineFeed
pub mod PendingLine
pub mod NextLine
pub mod LinesSoFar
mod VersionOne
pub mod FirstLine
pub mod WholeText
pub mod FailedWrite
pub mod UniqueReading
mod AscendingLabels
pub mod LabelEntries
pub mod OwnText
