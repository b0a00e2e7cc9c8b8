pub mod HeadPieces
pub mod PagesOf
pub mod Refusals
