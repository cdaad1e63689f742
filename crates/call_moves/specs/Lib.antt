pub mod CallMoves
