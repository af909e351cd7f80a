pub mod Perft
