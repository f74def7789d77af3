pub mod Rows
pub mod Programs
pub mod Alone
pub mod Effects
pub mod Laws
pub mod Sums
pub mod Money
