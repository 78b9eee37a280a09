mod Taken
mod Courses
