pub mod Laws
pub mod RecordFile
pub mod Recorder
