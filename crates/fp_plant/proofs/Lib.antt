mod Noting
mod Turning
mod Dealing
mod Handing
mod Following
mod Beginning
mod Stepping
mod Ending
