-- What the contracts of this crate say beyond `rules` and `words`.
pub mod Reading
