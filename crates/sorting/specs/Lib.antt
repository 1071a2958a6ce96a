-- Laws of sorted words (`Sort.antt` of ascending): what the library's `sort_unstable` ensures, words changed for each other, words that are
-- parted, and examples of the definitions of ascending. A definition's laws stand in the file of its name with `Laws`.
pub mod SortAnswer
pub mod Swap
pub mod SwapLaws
pub mod Partition
pub mod PartLaws
pub mod PartitionLaws
pub mod InsertedLaws
pub mod OrderCases
