-- What the clauses of this crate cite. The grammar stands in Grammar; Reading and Words read a line from its front, and
-- Texts are what is written.
pub mod Grammar
pub mod Reading
pub mod Rings
pub mod Words
pub mod Texts
