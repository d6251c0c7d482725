mod Scans
mod WordCuts
mod LineCuts
mod Beginnings
mod HexBytes
