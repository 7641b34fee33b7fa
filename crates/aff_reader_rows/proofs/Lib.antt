mod Halves
mod Requests
