-- What the program holds on the way. Nothing here has to be believed: laws tie it to the definitions above this folder.
pub mod Along
pub mod Answers
pub mod Bed
pub mod Digits
pub mod LineFigures
pub mod Lines
pub mod Loss
pub mod MeanAlong
pub mod MeanLines
pub mod Profile
pub mod Reaches
pub mod Start
pub mod Water
pub mod StatusNumber
