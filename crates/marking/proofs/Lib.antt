mod Alike
mod Claims
