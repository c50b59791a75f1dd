pub mod Template
pub mod Scales
pub mod Before
pub mod After
pub mod Tables
pub mod Page
pub mod Laws
