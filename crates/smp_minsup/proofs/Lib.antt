pub mod FewLeaves
pub mod Requests
pub mod Queues
pub mod Ranking
pub mod Parting
pub mod States
