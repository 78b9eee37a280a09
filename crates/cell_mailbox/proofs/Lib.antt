mod Calling
mod Finding
mod Linking
mod Making
mod Pacing
mod Trying
mod Turning
mod Walking
