pub mod Orders
pub mod Placing
pub mod Searching
pub mod Laws
pub mod Pinned
pub mod Edited
pub mod Turning
pub mod Editing
