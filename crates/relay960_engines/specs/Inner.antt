-- Definitions that only the code uses: no promise of an engine names them.
pub mod Sending
pub mod Taking
pub mod PlayCut
pub mod ScriptSteps
