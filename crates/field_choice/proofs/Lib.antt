mod Keys
mod Search
mod Choosing
