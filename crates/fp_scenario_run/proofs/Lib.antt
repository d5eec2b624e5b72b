mod Alike
mod AlikeActs
mod AlikeCalls
mod Counted
mod Paired
mod Spelling
