mod Calling
mod Checking
mod Forms
mod Joining
mod Walking
