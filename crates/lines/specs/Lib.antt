pub mod Unread
pub mod Reports
