mod StoredOver
mod Shifting
