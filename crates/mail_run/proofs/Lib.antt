mod Answered
mod Behind
mod Coming
mod Joined
mod Lines
mod Lists
mod Takers
mod Walking
