pub mod Accepted
pub mod Left
pub mod WarningsFew
pub mod CountsFit
pub mod ReadingFits
pub mod PlaceLaws
