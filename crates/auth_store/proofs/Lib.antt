pub mod ScriptLines
pub mod ScriptRuns
