-- Offers by the handful, in literal numbers and plain facts: `Saying` what each byte of the answers says, `Cutting` which bytes of the buffer each packet is,
-- `Judging` each answer exactly when, `Offering` an accepted handful as the run of the single offers, `Example` one computed, `Acts` demand 3 with handfuls.
pub mod Saying
pub mod Cutting
pub mod Judging
pub mod Offering
pub mod Example
pub mod Acts
