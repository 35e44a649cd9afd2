mod Packeted
mod Running
mod Fitted
mod Onward
mod Rounds
