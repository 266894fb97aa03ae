-- What the program holds on the way. Nothing here has to be believed: laws tie it to the definitions above this folder.
pub mod Cursors
pub mod Layouts
pub mod Optionals
pub mod Reader
pub mod Writer
