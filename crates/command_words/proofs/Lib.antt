mod OptionValues
mod Alone
mod Understood
