mod Pushing
mod Closing
