pub mod Places
pub mod AllPlaces
pub mod ByPlace
