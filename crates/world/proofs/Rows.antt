pub mod PendingPlaces
pub mod MidRows
pub mod MidOffers
pub mod BackRows
