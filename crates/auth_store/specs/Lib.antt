pub mod ScriptLines
pub mod ScriptRun
pub mod ScriptCode
