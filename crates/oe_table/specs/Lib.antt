-- What the clauses of this crate cite.
pub mod Table
pub mod Shelf
pub mod ShelfLends
pub mod ShelvesLends
pub mod FrontVecLends
