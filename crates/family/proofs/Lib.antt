-- Laws of the children of a node.
pub mod Scanning
pub mod Comparing
