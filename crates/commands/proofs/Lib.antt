mod Dispatch
mod Messages
