mod Discovering
mod Showing
