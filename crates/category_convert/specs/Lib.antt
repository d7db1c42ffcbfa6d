-- The definitions that the contracts of `category_convert` cite beside those of `category_borrowed`.
pub mod Serving
pub mod Result
