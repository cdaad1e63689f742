pub mod HandfulMoves
