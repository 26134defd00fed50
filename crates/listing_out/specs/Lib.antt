pub mod NoteTexts
pub mod NoteLines
pub mod StopLines
pub mod Summaries
