pub mod Words
pub mod Numbers
pub mod Laying
pub mod Strings
