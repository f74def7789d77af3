-- What the clauses of this crate cite.
pub mod Before
pub mod Credit
pub mod Customer
pub mod District
pub mod ExactKeys
pub mod History
pub mod Item
pub mod Key
pub mod KeyShelves
pub mod Order
pub mod Row
pub mod Warehouse
