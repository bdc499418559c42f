mod Phases
mod Texts
