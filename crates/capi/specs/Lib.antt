pub mod Told
pub mod Census
pub mod pictures
pub mod pieces_lent
pub mod degrees_lent
pub mod census_lent
