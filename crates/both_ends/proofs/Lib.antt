-- The laws of both ends together: `Accepted` of the radio's messages at the endpoint.
pub mod Accepted
