pub mod SquareWords
