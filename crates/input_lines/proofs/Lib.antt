pub mod KeyedLines
pub mod LentRest
pub mod DigitLines
pub mod SwitchLines
pub mod AllowanceNumbers
pub mod AllowanceLines
pub mod CaseStarts
