-- Where requests end, and the bytes of responses.
pub mod Closing
pub mod Conversing
pub mod Framing
pub mod Heads
pub mod Responding
pub mod Taking
