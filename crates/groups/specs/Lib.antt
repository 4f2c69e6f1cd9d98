pub mod Format
pub mod Spelling
pub mod ByteByByte
pub mod RoundTrip
pub mod Writing
pub mod Codes
pub mod Examples
