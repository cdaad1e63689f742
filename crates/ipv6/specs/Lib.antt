pub mod Ipv6
pub mod FixedHeader
