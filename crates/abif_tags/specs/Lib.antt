pub mod Table
pub mod Order
pub mod Report
pub mod Kind
pub mod Private
