pub mod SqlProgram
