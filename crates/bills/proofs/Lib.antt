mod Digits
mod Sums
