pub mod Laying
pub mod Parts
pub mod Tables
