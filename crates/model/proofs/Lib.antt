-- Corner cases of the definitions, by document 01's parts. Each is a closed equation that antt works out.
pub mod CardMaps
pub mod Computed
pub mod TableCorners
pub mod LookupCorners
pub mod ReadingCorners
pub mod RepairCorners
pub mod SuccessionCorners
pub mod GapCorners
pub mod ReversalCorners
pub mod RefusalCorners
pub mod CallCorners
pub mod RenamedCorners
pub mod Corners
