pub mod Fronts
pub mod Padding
pub mod StableSort
pub mod LinesInOrder
pub mod Pieces
pub mod Saying
pub mod DumpTexts
