pub mod OtherEvents
pub mod SettingsStand
