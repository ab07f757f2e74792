-- What the program prints for a line of its input. Read Hex, then Replay.
pub mod Hex
pub mod Replay
