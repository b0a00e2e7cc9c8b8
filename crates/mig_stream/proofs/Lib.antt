mod Fronts
mod Same
mod Texts
