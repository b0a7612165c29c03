mod Beginnings
mod Cells
mod Totals
mod Sequences
mod Additions
mod Reports
mod Scratches
mod Steps
