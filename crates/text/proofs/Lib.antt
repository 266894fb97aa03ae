-- What `render` and `render_means` rest on besides the laws of its modules, and the bench values.
pub mod Numbers
pub mod Rendering
pub mod MeanRendering
pub mod Notation
pub mod Bench
