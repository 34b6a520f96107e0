mod Answering
mod Ending
mod Fitting
mod Following
mod Replying
mod Staying
